-- Each style has brackets enough: at every place, for every form.
use Prim.Native.Nat.{ℕ, ◌≤◌}
use native.Mathlib.Omega.{arith}
use Rattle.text.specs.Booleans.{choose}
use Rattle.table.specs.declared.Join.TheVariants.{Seq, Choice}
use Rattle.forms.specs.declared.Place.{Place}
use Rattle.forms.specs.declared.Place.TheVariants.{Alone, Prefixed, Operand, LeftOf, RightOf}
use Rattle.forms.specs.declared.Form.{Form}
use Rattle.forms.specs.declared.Form.TheVariants.{Plain, Range, Prefix, Postfix, Tag, Joined}
use Rattle.forms.specs.declared.Style.{Style}
use Rattle.forms.specs.declared.Style.TheVariants.{Full, Short}
use Rattle.forms.specs.Printing.{brackets}
use Rattle.forms.specs.Levels.{own}
use Rattle.promises.specs.Marked.{least}

-- how high a form stands at a place
abbrev pub height : Style → Place → Form → ℕ
height v w f = choose (brackets v w f) (λ u. 4) (λ u. own f)

pub enough : (v : Style) (w : Place) (f : Form) → least w ≤ height v w f
unfolding brackets
enough Full Alone Plain = omega arith
enough Full Alone Range = omega arith
enough Full Alone Prefix = omega arith
enough Full Alone Postfix = omega arith
enough Full Alone Tag = omega arith
enough Full Alone (Joined Seq) = omega arith
enough Full Alone (Joined Choice) = omega arith
enough Full Prefixed Plain = omega arith
enough Full Prefixed Range = omega arith
enough Full Prefixed Prefix = omega arith
enough Full Prefixed Postfix = omega arith
enough Full Prefixed Tag = omega arith
enough Full Prefixed (Joined Seq) = omega arith
enough Full Prefixed (Joined Choice) = omega arith
enough Full Operand Plain = omega arith
enough Full Operand Range = omega arith
enough Full Operand Prefix = omega arith
enough Full Operand Postfix = omega arith
enough Full Operand Tag = omega arith
enough Full Operand (Joined Seq) = omega arith
enough Full Operand (Joined Choice) = omega arith
enough Full (LeftOf Seq) Plain = omega arith
enough Full (LeftOf Seq) Range = omega arith
enough Full (LeftOf Seq) Prefix = omega arith
enough Full (LeftOf Seq) Postfix = omega arith
enough Full (LeftOf Seq) Tag = omega arith
enough Full (LeftOf Seq) (Joined Seq) = omega arith
enough Full (LeftOf Seq) (Joined Choice) = omega arith
enough Full (LeftOf Choice) Plain = omega arith
enough Full (LeftOf Choice) Range = omega arith
enough Full (LeftOf Choice) Prefix = omega arith
enough Full (LeftOf Choice) Postfix = omega arith
enough Full (LeftOf Choice) Tag = omega arith
enough Full (LeftOf Choice) (Joined Seq) = omega arith
enough Full (LeftOf Choice) (Joined Choice) = omega arith
enough Full (RightOf Seq) Plain = omega arith
enough Full (RightOf Seq) Range = omega arith
enough Full (RightOf Seq) Prefix = omega arith
enough Full (RightOf Seq) Postfix = omega arith
enough Full (RightOf Seq) Tag = omega arith
enough Full (RightOf Seq) (Joined Seq) = omega arith
enough Full (RightOf Seq) (Joined Choice) = omega arith
enough Full (RightOf Choice) Plain = omega arith
enough Full (RightOf Choice) Range = omega arith
enough Full (RightOf Choice) Prefix = omega arith
enough Full (RightOf Choice) Postfix = omega arith
enough Full (RightOf Choice) Tag = omega arith
enough Full (RightOf Choice) (Joined Seq) = omega arith
enough Full (RightOf Choice) (Joined Choice) = omega arith
enough Short Alone Plain = omega arith
enough Short Alone Range = omega arith
enough Short Alone Prefix = omega arith
enough Short Alone Postfix = omega arith
enough Short Alone Tag = omega arith
enough Short Alone (Joined Seq) = omega arith
enough Short Alone (Joined Choice) = omega arith
enough Short Prefixed Plain = omega arith
enough Short Prefixed Range = omega arith
enough Short Prefixed Prefix = omega arith
enough Short Prefixed Postfix = omega arith
enough Short Prefixed Tag = omega arith
enough Short Prefixed (Joined Seq) = omega arith
enough Short Prefixed (Joined Choice) = omega arith
enough Short Operand Plain = omega arith
enough Short Operand Range = omega arith
enough Short Operand Prefix = omega arith
enough Short Operand Postfix = omega arith
enough Short Operand Tag = omega arith
enough Short Operand (Joined Seq) = omega arith
enough Short Operand (Joined Choice) = omega arith
enough Short (LeftOf Seq) Plain = omega arith
enough Short (LeftOf Seq) Range = omega arith
enough Short (LeftOf Seq) Prefix = omega arith
enough Short (LeftOf Seq) Postfix = omega arith
enough Short (LeftOf Seq) Tag = omega arith
enough Short (LeftOf Seq) (Joined Seq) = omega arith
enough Short (LeftOf Seq) (Joined Choice) = omega arith
enough Short (LeftOf Choice) Plain = omega arith
enough Short (LeftOf Choice) Range = omega arith
enough Short (LeftOf Choice) Prefix = omega arith
enough Short (LeftOf Choice) Postfix = omega arith
enough Short (LeftOf Choice) Tag = omega arith
enough Short (LeftOf Choice) (Joined Seq) = omega arith
enough Short (LeftOf Choice) (Joined Choice) = omega arith
enough Short (RightOf Seq) Plain = omega arith
enough Short (RightOf Seq) Range = omega arith
enough Short (RightOf Seq) Prefix = omega arith
enough Short (RightOf Seq) Postfix = omega arith
enough Short (RightOf Seq) Tag = omega arith
enough Short (RightOf Seq) (Joined Seq) = omega arith
enough Short (RightOf Seq) (Joined Choice) = omega arith
enough Short (RightOf Choice) Plain = omega arith
enough Short (RightOf Choice) Range = omega arith
enough Short (RightOf Choice) Prefix = omega arith
enough Short (RightOf Choice) Postfix = omega arith
enough Short (RightOf Choice) Tag = omega arith
enough Short (RightOf Choice) (Joined Seq) = omega arith
enough Short (RightOf Choice) (Joined Choice) = omega arith
