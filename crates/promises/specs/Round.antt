-- The way back: what the premises of printing and reading back say.
use Rattle.std.specs.Prelude.{ℕ, ◌*◌, ◌≤◌, ◌≡◌, Bool, true, false, not, List, [], ◌∷◌, map, leb, length, take, Ok}
use Rattle.text.specs.Booleans.{and, or}
use Rattle.text.specs.Limits.{max_nodes, max_rules, max_text, max_open}
use Rattle.table.specs.declared.Unary.{Unary}
use Rattle.table.specs.declared.Unary.TheVariants.{PosPred, NegPred, Opt, Rep, RepOnce, RepExact, RepMin, RepMax, RepMinMax, Push}
use Rattle.table.specs.declared.Sort.TheVariants.{Str, Insens, Ident, PushLiteral}
use Rattle.table.specs.Tree.{Span, Atom, text, range, peek_slice, Wrap, plain, node_tag, Tree, leaf, one, two, Rule, Nowhere, rule_by, aside_rule, counts, rules_stored, Same}
use Rattle.table.specs.Record.{node_size, rule_size, rules_in, rules_of}
use Rattle.table.specs.Flat.{nodes_of, records_of}
use Rattle.table.specs.Check.{tables, fine_rules}
use Rattle.table.specs.declared.TableError.{TableError}
use Rattle.forms.specs.declared.Style.{Style}
use Rattle.forms.specs.declared.Style.TheVariants.{Full, Short}
use Rattle.forms.specs.Printing.{printed_rules}
use Rattle.printer.specs.Answers.{table_text}
use Rattle.promises.specs.Open.{most_open}
use Rattle.reader.specs.Read.{room_by, read_of, Leaves}
use Rattle.reader.specs.Lines.{line_in}
use Rattle.build.specs.Rules as Built
use Rattle.table.specs.Regroup.{regroup, untagged}
use Rattle.structure.specs.Counts.{is_zero, counted_rules}
use Rattle.structure.specs.declared.Edition.{Edition}
use Rattle.structure.specs.declared.Edition.TheVariants.{First, Second}
use Rattle.structure.specs.declared.Level.{Level}
use Rattle.structure.specs.declared.Level.TheVariants.{Tagged, Plain}

-- ---- numbers

-- every operation of a tree passes a test, and every one of rules
unfoldable pub wraps_pass : {P : Type 0} → (Wrap → Bool) → Tree P → Bool
wraps_pass f (leaf s a) = true
wraps_pass f (one s o t) = and (f o) (wraps_pass f t)
wraps_pass f (two s j a b) = and (wraps_pass f a) (wraps_pass f b)

unfoldable pub rules_pass : {P : Type 0} → (Wrap → Bool) → List (Rule P) → Bool
rules_pass f [] = true
rules_pass f (r ∷ rs) = and (wraps_pass f r.tree) (rules_pass f rs)

-- no zero exact count or zero maximum
abbrev pub unary_nonzero : Unary → Bool
unary_nonzero PosPred = true
unary_nonzero NegPred = true
unary_nonzero Opt = true
unary_nonzero Rep = true
unary_nonzero RepOnce = true
unary_nonzero (RepExact n) = not (is_zero n)
unary_nonzero (RepMin n) = true
unary_nonzero (RepMax n) = not (is_zero n)
unary_nonzero (RepMinMax n m) = not (is_zero m)
unary_nonzero Push = true

abbrev pub wrap_nonzero : Wrap → Bool
wrap_nonzero (plain u) = unary_nonzero u
wrap_nonzero (node_tag b) = true

abbrev pub nonzero_rules : {P : Type 0} → List (Rule P) → Bool
nonzero_rules us = rules_pass wrap_nonzero us

-- no minimum above its maximum
abbrev pub unary_ordered : Unary → Bool
unary_ordered PosPred = true
unary_ordered NegPred = true
unary_ordered Opt = true
unary_ordered Rep = true
unary_ordered RepOnce = true
unary_ordered (RepExact n) = true
unary_ordered (RepMin n) = true
unary_ordered (RepMax n) = true
unary_ordered (RepMinMax n m) = leb n m
unary_ordered Push = true

abbrev pub wrap_ordered : Wrap → Bool
wrap_ordered (plain u) = unary_ordered u
wrap_ordered (node_tag b) = true

abbrev pub ordered_rules : {P : Type 0} → List (Rule P) → Bool
ordered_rules us = rules_pass wrap_ordered us

-- what an edition asks of rules that are to come back: the second, that no minimum is above its maximum
abbrev pub Ordered : {P : Type 0} → Edition → List (Rule P) → Type 0
Ordered First us = Unit {0}
Ordered Second us = ordered_rules us ≡ true

-- ---- PUSH_LITERAL, which plain refuses

abbrev pub is_pushing : Atom → Bool
is_pushing (text Str b) = false
is_pushing (text Insens b) = false
is_pushing (text Ident b) = false
is_pushing (text PushLiteral b) = true
is_pushing (range x y) = false
is_pushing (peek_slice x e) = false

-- some leaf of a tree is one, and some leaf of rules
unfoldable pub pushing : {P : Type 0} → Tree P → Bool
pushing (leaf s a) = is_pushing a
pushing (one s o t) = pushing t
pushing (two s j a b) = or (pushing a) (pushing b)

unfoldable pub holds_push_literal : {P : Type 0} → List (Rule P) → Bool
holds_push_literal [] = false
holds_push_literal (r ∷ rs) = or (pushing r.tree) (holds_push_literal rs)

-- ---- what comes back

-- the full text's rules are regrouped once, the short text's are the same; plain then drops their tags
abbrev pub read_back : Style → Tree Nowhere → Tree Nowhere
read_back Full e = regroup e
read_back Short e = e

abbrev pub sight : Level → Tree Nowhere → Tree Nowhere
sight Tagged t = t
sight Plain t = untagged t

abbrev pub seen : Style → Level → List (Rule Nowhere) → List (Rule Nowhere)
seen style level us = map (rule_by (λ t. sight level (read_back style t))) us

-- tables that the printer accepts, holding a rule, no zero exact count or maximum, whose printed text is within the
-- reader's limits
pub record Printable (style : Style) (ns rs st : List ℕ) : Type 0 where
  pub good : tables ns rs st ≡ Ok tt
  pub some : 1 ≤ rules_in rs
  pub nonzeros : nonzero_rules (rules_of ns rs st) ≡ true
  pub short : length (table_text style ns rs st) ≤ max_text
  pub shallow : most_open (table_text style ns rs st) ≤ max_open

-- the rules that the used parts of three buffers stand for: so many nodes, rules and store bytes are used
abbrev pub rules_left : ℕ → ℕ → ℕ → List ℕ → List ℕ → List ℕ → List (Rule Span)
rules_left n r b ns rs st = rules_of (take (node_size * n) ns) (take (rule_size * r) rs) (take b st)

-- a text is read as these rules, spans aside: with any room only room can be missing, and where it is read, the used parts
-- of the buffers stand for these rules; the limits leave room, and so does a store as long as the text
pub record ReadAs {P : Type 0} (edition : Edition) (level : Level) (s : List ℕ) (us : List (Rule P)) : Type 0 where
  pub rules : Same (Built.rules_read level s) us
  pub answer : (n r b : ℕ) → read_of edition level s n r b ≡ room_by (length us) (counts us) (length (rules_stored us)) n r b
  pub tables : (n r b x y z : ℕ) → read_of edition level s n r b ≡ Ok (x, y, z) → (ns rs st ns' rs' st' : List ℕ) → Leaves level s (Ok (x, y, z)) ns rs st ns' rs' st' → Same (rules_left x y z ns' rs' st') us
  pub few_nodes : counts us ≤ max_nodes
  pub few_rules : length us ≤ max_rules
  pub short : length (rules_stored us) ≤ length s

-- rules that come back from their text: fine, each number in its bounds, one at least and no more than the limits, and their text within
-- the reader's limits
pub record Sayable (style : Style) (us : List (Rule Nowhere)) : Type 0 where
  pub fine : fine_rules us ≡ true
  pub counted : counted_rules us ≡ true
  pub some : 1 ≤ length us
  pub few_nodes : counts us ≤ max_nodes
  pub few_rules : length us ≤ max_rules
  pub short : length (printed_rules style us) ≤ max_text
  pub shallow : most_open (printed_rules style us) ≤ max_open

-- the rules that a text is read as, spans aside
abbrev pub read_rules : Level → List ℕ → List (Rule Nowhere)
read_rules level s = map aside_rule (Built.rules_read level s)

-- and the text of their tables
abbrev pub printed_text : Style → Level → List ℕ → List ℕ
printed_text style level s = table_text style (nodes_of (line_in s) (Built.rules_read level s)) (records_of (Built.rules_read level s)) (rules_stored (Built.rules_read level s))
