-- The reader answers 9 on a printed text exactly if more of its brackets are open at once than the limit.
-- Too deep, its rules are refused (Sinks); else they are read, and values or room refuse for other reasons.
use Rattle.std.specs.Prelude.{Option, Some, None, ℕ, Result, Ok, Err}
use Prim.Native.Nat.{ℕ, ◌≤◌}
use mathlib.Core.Path.{◌≡◌, refl, sym, ◌∙◌}
use mathlib.Core.Bool.{true}
use mathlib.Core.Logic.{inl, inr}
use mathlib.Core.List.{List}
use native.Mathlib.Omega.{arith}
use lib.Dec.{leb}
use lib.ListN.{length, length-map}
use borrow.Author.Tests.{le-leb}
use Rattle.text.specs.Limits.{max_open, max_text}
use Rattle.text.specs.Utf8.{first_bad}
use Rattle.text.proofs.Booleans.{choose_by}
use Rattle.token.specs.Lists.{tokens_of}
use Rattle.token.specs.Table.{toks}
use Rattle.table.specs.Tree.{Span, Rule}
use Rattle.table.specs.Record.{rules_in, rules_of}
use Rattle.table.specs.Check.{fine_rules, tables, Valid}
use Rattle.table.specs.declared.TableError.{TableError}
use Rattle.table.proofs.Rules.{rules_many}
use Rattle.table.proofs.Tables.{tables_valid, valid_fine}
use Rattle.forms.specs.declared.Style.{Style}
use Rattle.forms.specs.Printing.{printed_rules}
use Rattle.printer.specs.Bounds.{Narrow}
use Rattle.printer.specs.Answers.{table_text}
use Rattle.structure.specs.declared.Edition.{Edition}
use Rattle.structure.specs.declared.Level.{Level}
use Rattle.structure.specs.declared.Refusal.{Refusal}
use Rattle.structure.specs.declared.Why.{Why}
use Rattle.structure.specs.declared.Why.TheVariants.{TooDeep}
use Rattle.structure.specs.Structure.{rules, unruled, grammar}
use Rattle.structure.specs.Values.{faults}
use Rattle.structure.proofs.Reasons.{OfValues, faults_why}
use Rattle.reader.specs.Read.{room_by, faulty, judged_of, listed_of, read_of}
use Rattle.promises.specs.Open.{most_open, Limited}
use Rattle.promises.specs.Styled.{marked_rule, marked_rules}
use Rattle.promises.specs.Marked.{depths}
use Rattle.structure.specs.Counts.{counted_rules}
use Rattle.promises.specs.Round.{nonzero_rules}
use Rattle.promises.proofs.Narrow.{tables_counted}
use Rattle.promises.proofs.Rules.{reads}
use Rattle.promises.proofs.Sinks.{grammar_deep}
use Rattle.promises.proofs.Utf8.{rules_utf8}
use Rattle.promises.proofs.Text.{printed_lexed, printed_stands, printed_deep}
use Rattle.promises.proofs.Styles.{rules_fit, marked_rules_fine, marked_rules_counted}

-- ---- past structure nothing is refused as too deep

abbrev NotDeep : Result (ℕ × ℕ × ℕ) Refusal → Type 0
NotDeep (Ok (n, r, b)) = Unit {0}
NotDeep (Err r) = r.why ≡ TooDeep → ⊥

by_values : (edition : Edition) (w : Why) → OfValues edition w → w ≡ TooDeep → ⊥
by_values edition w (inl a) q = let z : ◌≡◌ {A = ℕ} 0 1 = cc in omega arith
by_values edition w (inr (inl a)) q = let z : ◌≡◌ {A = ℕ} 0 1 = cc in omega arith
by_values edition w (inr (inr (inl a))) q = let z : ◌≡◌ {A = ℕ} 0 1 = cc in omega arith
by_values edition w (inr (inr (inr (inl a)))) q = let z : ◌≡◌ {A = ℕ} 0 1 = cc in omega arith
by_values edition w (inr (inr (inr (inr (inl a))))) q = let z : ◌≡◌ {A = ℕ} 0 1 = cc in omega arith
by_values edition w (inr (inr (inr (inr (inr (o, a)))))) q = let z : ◌≡◌ {A = ℕ} 0 1 = cc in omega arith

by_fault : (edition : Edition) (f : Option Refusal) (g : Unit {0} → Result (ℕ × ℕ × ℕ) Refusal) → ((r : Refusal) → f ≡ Some r → OfValues edition r.why) → NotDeep (g tt) → NotDeep (faulty f g)
by_fault edition None g h x = x
by_fault edition (Some r) g h x = by_values edition r.why (h r refl)

by_room : (k c z n r b : ℕ) → NotDeep (room_by k c z n r b)
unfolding room_by
by_room k c z n r b =
    choose_by NotDeep (leb k r) _ _
    (λ e. choose_by NotDeep (leb c n) _ _
    (λ e. choose_by NotDeep (leb z b) _ _ (λ e. tt) (λ e q. let z : ◌≡◌ {A = ℕ} 0 1 = cc in omega arith)) (λ e q. let z : ◌≡◌ {A = ℕ} 0 1 = cc in omega arith))
    (λ e q. let z : ◌≡◌ {A = ℕ} 0 1 = cc in omega arith)

module _ (edition : Edition) (level : Level) (s : List ℕ) (n r b : ℕ) where
  judged_rules : (us : List (Rule Span)) → grammar level s ≡ rules us → NotDeep (judged_of edition level s n r b)
  unfolding judged_of
  judged_rules us e = rw e (by_fault edition (faults edition level s) _ (faults_why edition level s) (by_room _ _ _ n r b))

  judged_unruled : (x : Refusal) → grammar level s ≡ unruled x → judged_of edition level s n r b ≡ Err x
  unfolding judged_of
  judged_unruled x e = rw e

  -- a text of legal length whose bytes and tokens are good
  past_tokens : length s ≤ max_text → first_bad s ≡ None → (tokens_of s).fault ≡ None → read_of edition level s n r b ≡ judged_of edition level s n r b
  unfolding read_of listed_of
  past_tokens h e₁ e₂ = rw (le-leb (length s) max_text h, e₁, e₂)

-- ---- printed rules

module _ {P : Type 0} (v : Style) (us : List (Rule P)) (f : fine_rules us ≡ true) (c : counted_rules us ≡ true) (e : 1 ≤ length us) (l : length (printed_rules v us) ≤ max_text) (edition : Edition) (level : Level) where
  printed_judged : (n r b : ℕ) → read_of edition level (printed_rules v us) n r b ≡ judged_of edition level (printed_rules v us) n r b
  printed_judged n r b = past_tokens edition level (printed_rules v us) n r b l (rules_utf8 v us f) (printed_lexed v us f c)

  printed_limited : Limited edition level (printed_rules v us)
  printed_limited =
      let s = printed_rules v us in
      let ms = marked_rules v us in
      let fit = rules_fit v us in
      let fine = marked_rules_fine v us ∙ f in
      let counted = marked_rules_counted v us ∙ c in
      let stand = printed_stands v us f c in
      let most = printed_deep v us f c in
      record {
        deep = λ h n r b.
            let d = grammar_deep level s ms (length (toks s)) fit fine counted (omega arith) stand refl in
            (d.at, d.first, printed_judged n r b ∙ judged_unruled edition level s n r b _ d.refuses);
        only = λ n r b p q.
            let read : most_open s ≤ max_open → ⊥ =
            λ h.
            let g = reads level s ms (length (toks s)) fit fine counted (omega arith) (omega (arith, length-map us (marked_rule v))) stand refl in
            (rw (sym (printed_judged n r b) ∙ q) at (judged_rules edition level s n r b g.found g.goes)) refl in
            omega (arith, read);
      }

-- ---- tables that the printer accepts, without a zero exact count or maximum

module _ (v : Style) (ns rs st : List ℕ) (g : tables ns rs st ≡ Ok tt) (w : Narrow ns) (z : nonzero_rules (rules_of ns rs st) ≡ true) where
  valid : Valid ns rs st
  valid = tables_valid ns rs st g

  is_counted : counted_rules (rules_of ns rs st) ≡ true
  is_counted = tables_counted ns rs st w valid z

  -- as many brackets are open at once in their text as its marks say
  pub table_most_lem : most_open (table_text v ns rs st) ≡ depths (marked_rules v (rules_of ns rs st))
  unfolding table_text
  table_most_lem = printed_deep v (rules_of ns rs st) (valid_fine valid) is_counted

  -- the reader answers 9 exactly if these are above the limit
  pub deep_exactly : 1 ≤ rules_in rs → length (table_text v ns rs st) ≤ max_text → (edition : Edition) (level : Level) → Limited edition level (table_text v ns rs st)
  unfolding table_text
  deep_exactly e l edition level = let m = rules_many ns rs st in printed_limited v (rules_of ns rs st) (valid_fine valid) is_counted (omega arith) l edition level
