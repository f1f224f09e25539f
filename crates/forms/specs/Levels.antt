-- The brackets of the short text, said twice more: as a sentence that lists them, and by the levels of the grammar.
use Rattle.std.specs.Prelude.{ℕ, Bool, true, false}
use Rattle.text.specs.Booleans.{and, or}
use Rattle.table.specs.declared.Join.TheVariants.{Seq, Choice}
use Rattle.forms.specs.declared.Place.{Place}
use Rattle.forms.specs.declared.Place.TheVariants.{Alone, Prefixed, Operand, LeftOf, RightOf}
use Rattle.forms.specs.declared.Form.{Form}
use Rattle.forms.specs.declared.Form.TheVariants.{Plain, Range, Prefix, Postfix, Tag, Joined}
use Rattle.forms.specs.Printing.{is_operand, is_prefix, under_seq, follows, is_choice}

-- ---- as a sentence

-- under a predicate or a tag
abbrev pub is_prefixed : Place → Bool
is_prefixed Alone = false
is_prefixed Prefixed = true
is_prefixed Operand = false
is_prefixed (LeftOf j) = false
is_prefixed (RightOf j) = false

-- Seq or Choice
abbrev pub is_joined : Form → Bool
is_joined Plain = false
is_joined Range = false
is_joined Prefix = false
is_joined Postfix = false
is_joined Tag = false
is_joined (Joined j) = true

abbrev pub is_tag : Form → Bool
is_tag Plain = false
is_tag Range = false
is_tag Prefix = false
is_tag Postfix = false
is_tag Tag = true
is_tag (Joined j) = false

abbrev pub is_choice_form : Form → Bool
is_choice_form Plain = false
is_choice_form Range = false
is_choice_form Prefix = false
is_choice_form Postfix = false
is_choice_form Tag = false
is_choice_form (Joined j) = is_choice j

-- a right child of the same operator
abbrev pub again : Place → Form → Bool
again w Plain = false
again w Range = false
again w Prefix = false
again w Postfix = false
again w Tag = false
again w (Joined j) = follows j w

-- around Seq, Choice, a predicate or a tag under a postfix; around Seq, Choice or a tag under a predicate or a tag;
-- around Choice under Seq; around a right child of the same operator
unfoldable pub sentence : Place → Form → Bool
sentence w f =
    or (and (is_operand w) (or (is_joined f) (or (is_prefix f) (is_tag f))))
    (or (and (is_prefixed w) (or (is_joined f) (is_tag f)))
    (or (and (under_seq w) (is_choice_form f)) (again w f)))

-- ---- by the levels of the grammar: 0 expression, 1 sequence, 2 term, 3 signed, 4 node

-- what a form is itself
abbrev pub own : Form → ℕ
own Plain = 4
own Range = 4
own Prefix = 3
own Postfix = 4
own Tag = 2
own (Joined Seq) = 1
own (Joined Choice) = 0

-- what a place asks for: brackets stand exactly if the form is below it
abbrev pub asked : Place → ℕ
asked Alone = 0
asked Prefixed = 3
asked Operand = 4
asked (LeftOf Seq) = 1
asked (LeftOf Choice) = 0
asked (RightOf Seq) = 2
asked (RightOf Choice) = 1
