-- The short text of tables: it is read as the very same rules, has the fewest brackets, and needs every pair.
use Rattle.std.specs.Prelude.{Ok}
use Prim.Native.Nat.{ℕ, ◌≤◌}
use mathlib.Core.Path.{◌≡◌, refl, sym, ap, ◌∙◌}
use mathlib.Core.Bool.{Bool, true, false}
use mathlib.Core.List.{List, [], ◌∷◌, map}
use native.Mathlib.Omega.{arith}
use lib.ListN.{length}
use Rattle.text.specs.Limits.{max_nodes, max_rules, max_text, max_open}
use Rattle.token.specs.Table.{toks}
use Rattle.table.specs.Tree.{Rule, Nowhere, rule_by, aside_rule, Same}
use Rattle.table.specs.Record as Record
use Rattle.table.specs.Regroup.{regroup, untagged, regroup_rules, untagged_rules}
use Rattle.table.specs.Check.{fine_rules}
use Rattle.forms.specs.declared.Style.TheVariants.{Full, Short}
use Rattle.printer.specs.Answers.{table_text}
use Rattle.printer.specs.Bounds.{Narrow}
use Rattle.structure.specs.declared.Edition.{Edition}
use Rattle.structure.specs.declared.Level.{Level}
use Rattle.structure.specs.declared.Level.TheVariants.{Tagged, Plain}
use Rattle.build.specs.Rules.{rules_read}
use Rattle.reader.specs.Read.{read_of}
use Rattle.promises.specs.Pieces.{spelled, rules_pieces}
use Rattle.promises.specs.Pairs.{Pair, cut}
use Rattle.promises.specs.Styled.{marked_rules}
use Rattle.promises.specs.Open.{most_open}
use Rattle.structure.specs.Counts.{counted_rules}
use Rattle.promises.specs.Round.{Ordered, holds_push_literal, seen, Printable, ReadAs, read_rules, printed_text}
use Rattle.promises.specs.Fewest.{opens_to, opens_in, needs}
use Rattle.promises.proofs.Laid.{tokened}
use Rattle.promises.proofs.Lays.{held_rules}
use Rattle.promises.proofs.Spelled.{spelled_printed}
use Rattle.promises.proofs.Styles.{marked_rules_fine, marked_rules_counted}
use Rattle.promises.proofs.Counts.{counted_stand, count_rules, opens_all, needs_marked}
use Rattle.promises.proofs.Fewest.{fewest}
use Rattle.promises.proofs.Bared.{BaredRules, bared_fewer, bared_rules}
use Rattle.promises.proofs.Pairs.{unpaired, every_pair}
use Rattle.promises.proofs.Cuts.{pair_cut, cut_shorter}
use Rattle.promises.proofs.Readings.{asides_nowhere, read_same}
use Rattle.promises.proofs.Round.{printed_ones, is_fine, is_counted, is_text_lem, tagged, plain}
use Rattle.promises.proofs.Again.{again_tagged}

same_rules : (us : List (Rule Nowhere)) → seen Short Tagged us ≡ us
same_rules [] = refl
same_rules (r ∷ us) = ap (λ (z : List (Rule Nowhere)). r ∷ z) (same_rules us)

plain_twice : (us : List (Rule Nowhere)) → seen Full Plain us ≡ untagged_rules (regroup_rules us)
plain_twice [] = refl
plain_twice (r ∷ us) = ap (λ (z : List (Rule Nowhere)). rule_by (λ t. untagged (regroup t)) r ∷ z) (plain_twice us)

-- ---- texts of marked rules

opens_marked : (ms : List (Rule Bool)) → fine_rules ms ≡ true → counted_rules ms ≡ true → opens_in (spelled (rules_pieces ms)) ≡ opens_all ms
unfolding opens_to
opens_marked ms f c =
    let s = spelled (rules_pieces ms) in
    omega (arith, counted_stand s (rules_pieces ms) 0 (length (toks s)) (tokened s (rules_pieces ms) refl (held_rules ms f c 0)).stands, count_rules ms f)

-- ---- tables

module _ (ns rs st : List ℕ) (w : Narrow ns) (p : Printable Short ns rs st) where
  abbrev ones : List (Rule Nowhere)
  ones = printed_ones Short ns rs st w p

  abbrev marks : List (Rule Bool)
  marks = marked_rules Short ones

  marks_fine : fine_rules marks ≡ true
  marks_fine = marked_rules_fine Short ones ∙ is_fine Short ns rs st w p

  marks_counted : counted_rules marks ≡ true
  marks_counted = marked_rules_counted Short ones ∙ is_counted Short ns rs st w p

  -- the tagged reader returns the very same rules, spans aside
  pub short_tagged : (edition : Edition) → Ordered edition (Record.rules_of ns rs st) → ReadAs edition Tagged (table_text Short ns rs st) (Record.rules_of ns rs st)
  short_tagged edition o = read_same (seen Short Tagged ones) (Record.rules_of ns rs st) (asides_nowhere (seen Short Tagged ones) ∙ same_rules ones) (tagged Short ns rs st w p edition o)

  -- the plain reader returns them with every tag removed
  pub short_plain : (edition : Edition) → Ordered edition (Record.rules_of ns rs st) → holds_push_literal (Record.rules_of ns rs st) ≡ false → ReadAs edition Plain (table_text Short ns rs st) (untagged_rules ones)
  short_plain edition o h = plain Short ns rs st w p edition o h

  -- its pieces
  short_pieces : spelled (rules_pieces marks) ≡ table_text Short ns rs st
  short_pieces = spelled_printed Short ones ∙ is_text_lem Short ns rs st w p

  -- the short text has the brackets that are needed
  pub short_opens : opens_in (table_text Short ns rs st) ≡ needs ones
  short_opens = ap opens_in (sym short_pieces) ∙ opens_marked marks marks_fine marks_counted ∙ needs_marked ones

  -- every text that is read as these rules, at either level, has at least as many
  pub short_fewest : (level : Level) (x : List ℕ) → Same (rules_read level x) (Record.rules_of ns rs st) → opens_in (table_text Short ns rs st) ≤ opens_in x
  short_fewest level x e = omega (arith, short_opens, fewest level x ones e)

  -- with one mark fewer other rules are read
  needed : (level : Level) (ms : List (Rule Bool)) → BaredRules marks ms → map aside_rule (rules_read level (spelled (rules_pieces ms))) ≡ ones → ⊥
  needed level ms b e =
      let g = bared_rules b in
      let k = opens_marked ms (g.0 ∙ marks_fine) (g.1 ∙ marks_counted) in
      omega (arith, fewest level (spelled (rules_pieces ms)) ones e, bared_fewer b, needs_marked ones)

  -- no pair of brackets but those of PUSH and PUSH_LITERAL can be taken away and the same rules still be read
  pub pair_needed : (level : Level) (i j : ℕ) → Pair (table_text Short ns rs st) i j → Same (rules_read level (cut (table_text Short ns rs st) i j)) (Record.rules_of ns rs st) → ⊥
  pair_needed level i j q e =
      let (k, f) = pair_cut (table_text Short ns rs st) (rules_pieces marks) (sym short_pieces) (held_rules marks marks_fine marks_counted 0) i j q in
      let z : unpaired k false (rules_pieces marks) ≡ rules_pieces marks → ⊥ =
      λ h. omega (arith, cut_shorter (table_text Short ns rs st) i j q, ap length (sym f ∙ ap spelled h ∙ short_pieces)) in
      let (ms, b, g) = every_pair marks k z in
      needed level ms b (ap (λ (x : List ℕ). map aside_rule (rules_read level x)) (ap spelled (sym g) ∙ f) ∙ e)

-- ---- demand 3 as it was, of the full text

module _ (ns rs st : List ℕ) (w : Narrow ns) (p : Printable Full ns rs st) (edition : Edition) (o : Ordered edition (Record.rules_of ns rs st)) where
  pub full_tagged : ReadAs edition Tagged (table_text Full ns rs st) (regroup_rules (printed_ones Full ns rs st w p))
  full_tagged = tagged Full ns rs st w p edition o

  pub full_plain : holds_push_literal (Record.rules_of ns rs st) ≡ false → ReadAs edition Plain (table_text Full ns rs st) (untagged_rules (regroup_rules (printed_ones Full ns rs st w p)))
  full_plain h = rw (plain_twice (printed_ones Full ns rs st w p)) at (plain Full ns rs st w p edition o h)

-- ---- a text that was read

-- at either level: the tagged reader reads its short text as the very same rules
pub short_again : (edition : Edition) (level : Level) (s : List ℕ) (n r b : ℕ) {x y z : ℕ} → read_of edition level s n r b ≡ Ok (x, y, z) → n ≤ max_nodes → r ≤ max_rules → 1 ≤ y
    → length (printed_text Short level s) ≤ max_text → most_open (printed_text Short level s) ≤ max_open → (o : Edition) → Ordered o (rules_read level s) → ReadAs o Tagged (printed_text Short level s) (read_rules level s)
short_again edition level s n r b e h l some short shallow o q = rw (same_rules (read_rules level s)) at (again_tagged edition level s n r b e h l Short some short shallow o q)
