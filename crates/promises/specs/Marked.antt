-- Marked trees: how deep their brackets are, the levels of the grammar, brackets enough, how many there are, and what is read back.
use Rattle.std.specs.Prelude.{ℕ, ◌+◌, ◌≤◌, max, Bool, false, not, List, [], ◌∷◌, Option, Some, None}
use Rattle.text.specs.Booleans.{choose, and}
use Rattle.table.specs.declared.Join.{Join}
use Rattle.table.specs.declared.Join.TheVariants.{Seq, Choice}
use Rattle.table.specs.declared.Unary.{Unary}
use Rattle.table.specs.declared.Unary.TheVariants.{PosPred, NegPred, Opt, Rep, RepOnce, RepExact, RepMin, RepMax, RepMinMax, Push}
use Rattle.table.specs.declared.Sort.{Sort}
use Rattle.table.specs.declared.Sort.TheVariants.{Str, Insens, Ident, PushLiteral}
use Rattle.table.specs.Tree.{Atom, text, range, peek_slice, Wrap, plain, node_tag, Tree, leaf, one, two, Nowhere, Rule}
use Rattle.table.specs.Regroup.{same_join}
use Rattle.forms.specs.declared.Place.{Place}
use Rattle.forms.specs.declared.Place.TheVariants.{Alone, Prefixed, Operand, LeftOf, RightOf}
use Rattle.forms.specs.declared.Form.{Form}
use Rattle.forms.specs.declared.Form.TheVariants.{Joined}
use Rattle.forms.specs.Printing.{atom_form, wrap_form, under}
use Rattle.forms.specs.Levels.{own}
use Rattle.promises.specs.Open.{one?}

-- ---- how many brackets are open at once in what a marked tree prints, those of PUSH and PUSH_LITERAL too

-- those of a leaf: only PUSH_LITERAL has its own
abbrev pub sort_depth : Sort → ℕ
sort_depth Str = 0
sort_depth Insens = 0
sort_depth Ident = 0
sort_depth PushLiteral = 1

abbrev pub atom_depth : Atom → ℕ
atom_depth (text k b) = sort_depth k
atom_depth (range x y) = 0
atom_depth (peek_slice x e) = 0

-- those of an operator: only PUSH has its own
abbrev pub unary_depth : Unary → ℕ
unary_depth PosPred = 0
unary_depth NegPred = 0
unary_depth Opt = 0
unary_depth Rep = 0
unary_depth RepOnce = 0
unary_depth (RepExact n) = 0
unary_depth (RepMin n) = 0
unary_depth (RepMax n) = 0
unary_depth (RepMinMax n m) = 0
unary_depth Push = 1

abbrev pub wrap_depth : Wrap → ℕ
wrap_depth (plain u) = unary_depth u
wrap_depth (node_tag b) = 0

-- those of a tree, the marked ones too, and of rules
unfoldable pub depth : Tree Bool → ℕ
depth (leaf b a) = one? b + atom_depth a
depth (one b o t) = one? b + (wrap_depth o + depth t)
depth (two b j x y) = one? b + max (depth x) (depth y)

unfoldable pub depths : List (Rule Bool) → ℕ
depths [] = 0
depths (r ∷ rs) = max (depth r.tree) (depths rs)

-- ---- the five levels of the grammar (printer/specs/Levels), and brackets enough

-- the level that a place asks for if a right child may go on its chain
abbrev pub least : Place → ℕ
least Alone = 0
least Prefixed = 3
least Operand = 4
least (LeftOf Seq) = 1
least (LeftOf Choice) = 0
least (RightOf Seq) = 1
least (RightOf Choice) = 0

abbrev pub form_of : {P : Type 0} → Tree P → Form
form_of (leaf p a) = atom_form a
form_of (one p o t) = wrap_form o
form_of (two p j a b) = Joined j

unfoldable pub opens : Tree Bool → ℕ
opens (leaf b a) = one? b + atom_depth a
opens (one b o t) = one? b + (wrap_depth o + opens t)
opens (two b j x y) = one? b + (opens x + opens y)

-- the level at which a marked tree stands: in brackets it is a node
abbrev pub stands : Tree Bool → ℕ
stands (leaf b a) = choose b (λ u. 4) (λ u. own (atom_form a))
stands (one b o t) = choose b (λ u. 4) (λ u. own (wrap_form o))
stands (two b j x y) = choose b (λ u. 4) (λ u. own (Joined j))

-- enough brackets: each child stands at least at its place's level, but a right child may go on its chain
unfoldable pub Fits : Tree Bool → Type 0
Fits (leaf b a) = Unit {0}
Fits (one b o t) = (least (under (wrap_form o)) ≤ stands t) × Fits t
Fits (two b j x y) = (least (LeftOf j) ≤ stands x) × (least (RightOf j) ≤ stands y) × Fits x × Fits y

-- ---- what is read back

-- behind the chain of j so far, if there is one
abbrev pub put : Join → Option (Tree Nowhere) → Tree Nowhere → Tree Nowhere
put j None t = t
put j (Some a) t = two tt j a t

-- an operator without brackets that goes on a chain of j
abbrev pub goes_on : Join → Tree Bool → Bool
goes_on j (leaf b a) = false
goes_on j (one b o t) = false
goes_on j (two b k x y) = and (not b) (same_join j k)

-- all chains grouped left, as far as no brackets part them
unfoldable pub back : Join → Option (Tree Nowhere) → Tree Bool → Tree Nowhere
back j c (leaf b a) = put j c (leaf tt a)
back j c (one b o t) = put j c (one tt o (back Seq None t))
back j c (two b k x y) = choose (and (not b) (same_join j k)) (λ u. back j (Some (back j c x)) y) (λ u. put j c (back k (Some (back k None x)) y))

abbrev pub whole : Tree Bool → Tree Nowhere
whole m = back Seq None m

unfoldable pub FitRules : List (Rule Bool) → Type 0
FitRules [] = Unit {0}
FitRules (r ∷ rs) = Fits r.tree × FitRules rs
