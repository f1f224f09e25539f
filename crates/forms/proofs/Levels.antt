-- The brackets of the short text are those of the sentence, and those of the grammar's levels: at all 7 places, for all 7 forms.
use mathlib.Core.Path.{◌≡◌, refl, sym, ◌∙◌}
use lib.Dec.{ltb}
use Rattle.table.specs.declared.Join.TheVariants.{Seq, Choice}
use Rattle.forms.specs.declared.Style.TheVariants.{Short}
use Rattle.forms.specs.declared.Place.{Place}
use Rattle.forms.specs.declared.Place.TheVariants.{Alone, Prefixed, Operand, LeftOf, RightOf}
use Rattle.forms.specs.declared.Form.{Form}
use Rattle.forms.specs.declared.Form.TheVariants.{Plain, Range, Prefix, Postfix, Tag, Joined}
use Rattle.forms.specs.Printing.{brackets}
use Rattle.forms.specs.Levels.{sentence, own, asked}

both : (w : Place) (f : Form) → (brackets Short w f ≡ sentence w f) × (brackets Short w f ≡ ltb (own f) (asked w))
unfolding brackets sentence
both Alone Plain = (refl, refl)
both Alone Range = (refl, refl)
both Alone Prefix = (refl, refl)
both Alone Postfix = (refl, refl)
both Alone Tag = (refl, refl)
both Alone (Joined Seq) = (refl, refl)
both Alone (Joined Choice) = (refl, refl)
both Prefixed Plain = (refl, refl)
both Prefixed Range = (refl, refl)
both Prefixed Prefix = (refl, refl)
both Prefixed Postfix = (refl, refl)
both Prefixed Tag = (refl, refl)
both Prefixed (Joined Seq) = (refl, refl)
both Prefixed (Joined Choice) = (refl, refl)
both Operand Plain = (refl, refl)
both Operand Range = (refl, refl)
both Operand Prefix = (refl, refl)
both Operand Postfix = (refl, refl)
both Operand Tag = (refl, refl)
both Operand (Joined Seq) = (refl, refl)
both Operand (Joined Choice) = (refl, refl)
both (LeftOf Seq) Plain = (refl, refl)
both (LeftOf Seq) Range = (refl, refl)
both (LeftOf Seq) Prefix = (refl, refl)
both (LeftOf Seq) Postfix = (refl, refl)
both (LeftOf Seq) Tag = (refl, refl)
both (LeftOf Seq) (Joined Seq) = (refl, refl)
both (LeftOf Seq) (Joined Choice) = (refl, refl)
both (LeftOf Choice) Plain = (refl, refl)
both (LeftOf Choice) Range = (refl, refl)
both (LeftOf Choice) Prefix = (refl, refl)
both (LeftOf Choice) Postfix = (refl, refl)
both (LeftOf Choice) Tag = (refl, refl)
both (LeftOf Choice) (Joined Seq) = (refl, refl)
both (LeftOf Choice) (Joined Choice) = (refl, refl)
both (RightOf Seq) Plain = (refl, refl)
both (RightOf Seq) Range = (refl, refl)
both (RightOf Seq) Prefix = (refl, refl)
both (RightOf Seq) Postfix = (refl, refl)
both (RightOf Seq) Tag = (refl, refl)
both (RightOf Seq) (Joined Seq) = (refl, refl)
both (RightOf Seq) (Joined Choice) = (refl, refl)
both (RightOf Choice) Plain = (refl, refl)
both (RightOf Choice) Range = (refl, refl)
both (RightOf Choice) Prefix = (refl, refl)
both (RightOf Choice) Postfix = (refl, refl)
both (RightOf Choice) Tag = (refl, refl)
both (RightOf Choice) (Joined Seq) = (refl, refl)
both (RightOf Choice) (Joined Choice) = (refl, refl)

-- as the sentence lists them
pub short_sentence : (w : Place) (f : Form) → brackets Short w f ≡ sentence w f
short_sentence w f = (both w f).0

-- by the levels of the grammar
pub short_by_level : (w : Place) (f : Form) → brackets Short w f ≡ ltb (own f) (asked w)
short_by_level w f = (both w f).1

-- so these two are one rule
pub sentence_by_level : (w : Place) (f : Form) → sentence w f ≡ ltb (own f) (asked w)
sentence_by_level w f = sym (short_sentence w f) ∙ short_by_level w f
