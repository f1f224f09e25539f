-- Printing: the text of expressions and rules.
use Rattle.std.specs.Prelude.{ℕ, ◌-◌, Bool, true, false, not, List, [], ◌∷◌, ◌++◌, ltb, get_or, Option, Some, None}
use Rattle.text.specs.Booleans.{choose, and, or}
use Rattle.text.specs.Digits.{decimal}
use Rattle.literal.specs.Literals.{shown, literal}
use Rattle.table.specs.declared.Join.{Join}
use Rattle.table.specs.declared.Join.TheVariants.{Seq, Choice}
use Rattle.table.specs.declared.Unary.{Unary}
use Rattle.table.specs.declared.Unary.TheVariants.{PosPred, NegPred, Opt, Rep, RepOnce, RepExact, RepMin, RepMax, RepMinMax, Push}
use Rattle.table.specs.declared.Op.{Op}
use Rattle.table.specs.declared.Sort.{Sort}
use Rattle.table.specs.declared.Sort.TheVariants.{Str, Insens, Ident, PushLiteral}
use Rattle.table.specs.Tree.{Atom, text, range, peek_slice, Wrap, plain, node_tag, Tree, leaf, one, two, Rule}
use Rattle.table.specs.Regroup.{same_join}
use Rattle.forms.specs.declared.Style.{Style}
use Rattle.forms.specs.declared.Style.TheVariants.{Full, Short}
use Rattle.forms.specs.declared.Place.{Place}
use Rattle.forms.specs.declared.Place.TheVariants.{Alone, Prefixed, Operand, LeftOf, RightOf}
use Rattle.forms.specs.declared.Form.{Form}
use Rattle.forms.specs.declared.Form.TheVariants.{Plain, Range, Prefix, Postfix, Tag, Joined}
use Rattle.forms.specs.declared.Over.{Over}
use Rattle.forms.specs.declared.Over.TheVariants.{Before, Behind}

-- ---- brackets

-- under a postfix
abbrev pub is_operand : Place → Bool
is_operand Alone = false
is_operand Prefixed = false
is_operand Operand = true
is_operand (LeftOf j) = false
is_operand (RightOf j) = false

-- the right child of the operator j
abbrev pub follows : Join → Place → Bool
follows j Alone = false
follows j Prefixed = false
follows j Operand = false
follows j (LeftOf k) = false
follows j (RightOf k) = same_join j k

-- under a postfix, a predicate or a tag
abbrev pub is_under : Place → Bool
is_under Alone = false
is_under Prefixed = true
is_under Operand = true
is_under (LeftOf j) = false
is_under (RightOf j) = false

-- under Seq
abbrev pub under_seq : Place → Bool
under_seq Alone = false
under_seq Prefixed = false
under_seq Operand = false
under_seq (LeftOf Seq) = true
under_seq (LeftOf Choice) = false
under_seq (RightOf Seq) = true
under_seq (RightOf Choice) = false

-- a predicate
abbrev pub is_prefix : Form → Bool
is_prefix Plain = false
is_prefix Range = false
is_prefix Prefix = true
is_prefix Postfix = false
is_prefix Tag = false
is_prefix (Joined j) = false

abbrev pub is_choice : Join → Bool
is_choice Seq = false
is_choice Choice = true

abbrev pub is_full : Style → Bool
is_full Full = true
is_full Short = false

-- Full: always, but a right child of the same kind goes on its chain. Short: under a postfix, a predicate or a tag; a
-- right child of the same kind; Choice under Seq
abbrev pub join_brackets : Style → Place → Join → Bool
join_brackets Full w j = not (follows j w)
join_brackets Short w j = or (is_under w) (or (follows j w) (and (under_seq w) (is_choice j)))

-- Full: always. Short: under a postfix, a predicate or a tag
abbrev pub tag_brackets : Style → Place → Bool
tag_brackets Full w = true
tag_brackets Short w = is_under w

-- Range always in the full text, never in the short one; a predicate under a postfix in both. Levels says the short
-- text's twice more, as a sentence and by the grammar's levels
unfoldable pub brackets : Style → Place → Form → Bool
brackets style w Plain = false
brackets style w Range = is_full style
brackets style w Prefix = is_operand w
brackets style w Postfix = false
brackets style w Tag = tag_brackets style w
brackets style w (Joined j) = join_brackets style w j

abbrev pub opening : Bool → List ℕ
opening true = 40 ∷ []
opening false = []

abbrev pub closing : Bool → List ℕ
closing true = 41 ∷ []
closing false = []

-- a text in brackets, or without
unfoldable pub enclosed : Bool → List ℕ → List ℕ
enclosed b x = opening b ++ (x ++ closing b)

-- ---- leaves

-- ' c '
unfoldable pub character : ℕ → List ℕ
character c = 39 ∷ (shown 39 c ++ (39 ∷ []))

-- two's complement of 32 bits: from 2^31 on a number is negative
unfoldable pub signed : ℕ → List ℕ
signed n = choose (ltb n 0x8000_0000) (λ u. decimal n) (λ u. 45 ∷ decimal (0x1_0000_0000 - n))

abbrev pub end_text : Option ℕ → List ℕ
end_text None = []
end_text (Some n) = signed n

-- "s"; ^"s"; a name; PUSH_LITERAL("s")
unfoldable pub sort_text : Sort → List ℕ → List ℕ
sort_text Str b = literal 34 b
sort_text Insens b = 94 ∷ literal 34 b
sort_text Ident b = b
sort_text PushLiteral b = 80 ∷ 85 ∷ 83 ∷ 72 ∷ 95 ∷ 76 ∷ 73 ∷ 84 ∷ 69 ∷ 82 ∷ 65 ∷ 76 ∷ 40 ∷ (literal 34 b ++ (41 ∷ []))

-- 'x'..'y'
unfoldable pub range_text : ℕ → ℕ → List ℕ
range_text x y = character x ++ (46 ∷ 46 ∷ character y)

-- PEEK[x..y] and PEEK[x..]
unfoldable pub slice_text : ℕ → Option ℕ → List ℕ
slice_text x e = 80 ∷ 69 ∷ 69 ∷ 75 ∷ 91 ∷ (signed x ++ (46 ∷ 46 ∷ (end_text e ++ (93 ∷ []))))

abbrev pub atom_text : Atom → List ℕ
atom_text (text k b) = sort_text k b
atom_text (range x y) = range_text x y
atom_text (peek_slice x e) = slice_text x e

abbrev pub atom_form : Atom → Form
atom_form (text k b) = Plain
atom_form (range x y) = Range
atom_form (peek_slice x e) = Plain

-- ---- what stands over one child

abbrev pub unary_form : Unary → Form
unary_form PosPred = Prefix
unary_form NegPred = Prefix
unary_form Opt = Postfix
unary_form Rep = Postfix
unary_form RepOnce = Postfix
unary_form (RepExact n) = Postfix
unary_form (RepMin n) = Postfix
unary_form (RepMax n) = Postfix
unary_form (RepMinMax n m) = Postfix
unary_form Push = Plain

abbrev pub wrap_form : Wrap → Form
wrap_form (plain u) = unary_form u
wrap_form (node_tag b) = Tag

-- where the child of a form stands
abbrev pub under : Form → Place
under Plain = Alone
under Range = Alone
under Prefix = Prefixed
under Postfix = Operand
under Tag = Prefixed
under (Joined j) = Alone

-- behind a predicate or a tag, in brackets or not
abbrev pub bracketed : Bool → Over
bracketed b = Before Prefixed b b

-- how what stands over a child is written: PUSH( ) has no bracket in front, and its own behind the child
abbrev pub unary_over : Style → Place → Unary → Over
unary_over style w PosPred = bracketed (brackets style w Prefix)
unary_over style w NegPred = bracketed (brackets style w Prefix)
unary_over style w Opt = Behind Opt
unary_over style w Rep = Behind Rep
unary_over style w RepOnce = Behind RepOnce
unary_over style w (RepExact n) = Behind (RepExact n)
unary_over style w (RepMin n) = Behind (RepMin n)
unary_over style w (RepMax n) = Behind (RepMax n)
unary_over style w (RepMinMax n m) = Behind (RepMinMax n m)
unary_over style w Push = Before Alone false true

abbrev pub over_of : Style → Place → Op → Over
over_of style w (Op.Plain u) = unary_over style w u
over_of style w (Op.NodeTag p n) = bracketed (brackets style w Tag)

-- what stands before the child: & and !, PUSH(
abbrev pub unary_before : Unary → List ℕ
unary_before PosPred = 38 ∷ []
unary_before NegPred = 33 ∷ []
unary_before Opt = []
unary_before Rep = []
unary_before RepOnce = []
unary_before (RepExact n) = []
unary_before (RepMin n) = []
unary_before (RepMax n) = []
unary_before (RepMinMax n m) = []
unary_before Push = 80 ∷ 85 ∷ 83 ∷ 72 ∷ 40 ∷ []

-- what stands after the child: ? * + {n} {n,} {,n} {n, m}, and ) after PUSH(
abbrev pub unary_after : Unary → List ℕ
unary_after PosPred = []
unary_after NegPred = []
unary_after Opt = 63 ∷ []
unary_after Rep = 42 ∷ []
unary_after RepOnce = 43 ∷ []
unary_after (RepExact n) = 123 ∷ (decimal n ++ (125 ∷ []))
unary_after (RepMin n) = 123 ∷ (decimal n ++ (44 ∷ 125 ∷ []))
unary_after (RepMax n) = 123 ∷ 44 ∷ (decimal n ++ (125 ∷ []))
unary_after (RepMinMax n m) = 123 ∷ (decimal n ++ (44 ∷ 32 ∷ (decimal m ++ (125 ∷ []))))
unary_after Push = 41 ∷ []

-- #t and " = " before what is tagged
unfoldable pub tag_text : List ℕ → List ℕ
tag_text b = 35 ∷ (b ++ (32 ∷ 61 ∷ 32 ∷ []))

abbrev pub before : Wrap → List ℕ
before (plain u) = unary_before u
before (node_tag b) = tag_text b

abbrev pub after : Wrap → List ℕ
after (plain u) = unary_after u
after (node_tag b) = []

-- ---- expressions

-- ~ and |
abbrev pub join_byte : Join → ℕ
join_byte Seq = 126
join_byte Choice = 124

-- with a space on each side
abbrev pub separator : Join → List ℕ
separator j = 32 ∷ join_byte j ∷ 32 ∷ []

-- the text of an expression that stands at a place
unfoldable pub printed : {P : Type 0} → Style → Place → Tree P → List ℕ
printed style w (leaf s a) = enclosed (brackets style w (atom_form a)) (atom_text a)
printed style w (one s o t) = enclosed (brackets style w (wrap_form o)) (before o ++ (printed style (under (wrap_form o)) t ++ after o))
printed style w (two s j a b) = enclosed (brackets style w (Joined j)) (printed style (LeftOf j) a ++ (separator j ++ printed style (RightOf j) b))

-- ---- rules

-- none, _ @ $ !, numbered from 0 on
abbrev pub marks : List (List ℕ)
marks = [] ∷ (95 ∷ []) ∷ (64 ∷ []) ∷ (36 ∷ []) ∷ (33 ∷ []) ∷ []

unfoldable pub mark_text : ℕ → List ℕ
mark_text m = get_or marks m []

-- name = mark{ expr }, and LF
unfoldable pub printed_rule : {P : Type 0} → Style → Rule P → List ℕ
printed_rule style r =
    r.name ++ (32 ∷ 61 ∷ 32 ∷ (mark_text r.mark ++ (123 ∷ 32 ∷ (printed style Alone r.tree ++ (32 ∷ 125 ∷ 10 ∷ [])))))

unfoldable pub printed_rules : {P : Type 0} → Style → List (Rule P) → List ℕ
printed_rules style [] = []
printed_rules style (r ∷ rs) = printed_rule style r ++ printed_rules style rs
