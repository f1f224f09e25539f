-- What was read prints. The tables of a reading that succeeded are good, so the printer gives their text, or 23 where it is longer than the output.
use Rattle.std.specs.Prelude.{ℕ, Option, Some, None, Result, Ok, Err}
use Prim.Native.Nat.{ℕ, ◌≤◌, ◌<◌}
use mathlib.Core.Path.{◌≡◌, refl, sym, ap, ◌∙◌}
use mathlib.Core.Bool.{Bool, true, false}
use mathlib.Core.Logic.{◌⊎◌, inl, inr}
use mathlib.Core.List.{List}
use native.Mathlib.Omega.{arith}
use lib.Dec.{leb}
use lib.ListN.{length}
use borrow.Author.Tests.{le-leb, lt-leb}
use Rattle.text.specs.Booleans.{choose}
use Rattle.text.specs.Limits.{max_nodes, max_rules, max_store}
use Rattle.text.specs.Splice.{fronted}
use Rattle.text.proofs.Booleans.{split}
use Rattle.table.specs.Tree.{rules_stored}
use Rattle.table.specs.Flat.{records_of}
use Rattle.table.specs.Names.{rule_named}
use Rattle.structure.specs.declared.Edition.TheVariants.{First}
use Rattle.structure.specs.declared.Level.TheVariants.{Tagged}
use Rattle.build.specs.Rules.{rules_read}
use Rattle.structure.specs.declared.Refusal.{Refusal}
use Rattle.reader.specs.Read as Read
use Rattle.reader.proofs.Good.{read_good}
use Rattle.reader.proofs.Reasons.{first_numbers}
use Rattle.forms.specs.declared.Style.{Style}
use Rattle.printer.specs.Answers as Printer
use Rattle.matcher.specs.Sought.{found_by, found_of}
use Rattle.show.specs.declared.Answer.{Answer}
use Rattle.show.specs.declared.Layout.TheVariants as Layout
use Rattle.show.specs.declared.Shown.TheVariants.{Text}
use Rattle.show.specs.Desk.{reading, printing, printed, answer_of, shown_by, desk_of, left_by, desk_in, printed_text, Tellable, LineWritten}
use Rattle.show.specs.Layout.{layout_by, layout_in, layout_of}
use Rattle.show.proofs.Fronts.{by_read, by_refused}

-- what is printed of a text for an output of m bytes
abbrev Put : List ℕ → ℕ → Answer
Put t m = choose (leb (length t) m) (λ u. Answer.Printed (length t)) (λ u. Answer.Refused 23 0)

by_room : (b : Bool) (k : ℕ)
    → printed (choose {A = Printer.Numbered} b (λ u. record { number = 0; place = 0; used = k }) (λ u. record { number = 23; place = 0; used = 0 }))
    ≡ choose b (λ u. Answer.Printed k) (λ u. Answer.Refused 23 0)
unfolding printed
by_room true k = refl
by_room false k = refl

module _ (style : Style) (s : List ℕ) where
  put_by : {x y z : ℕ} (m : ℕ) → Read.read_of First Tagged s 2048 max_rules max_store ≡ Ok (x, y, z) → answer_of style s m ≡ Put (printed_text style s) m
  unfolding answer_of reading Read.reported printing Printer.reported printed_text
  put_by m e =
      by_read _ Answer.Refused e ∙ rw (read_good First Tagged s 2048 max_rules max_store e (omega arith) (omega arith)) (by_room (leb (length (printed_text style s)) m) (length (printed_text style s)))

  answer_by_lem : (a : Result (ℕ × ℕ × ℕ) Refusal) (m : ℕ) → Read.read_of First Tagged s 2048 max_rules max_store ≡ a → {n p : ℕ} → answer_of style s m ≡ Answer.Refused n p → Tellable n
  unfolding answer_of reading Read.reported
  answer_by_lem (Ok (x, y, z)) m e q =
      split (leb (length (printed_text style s)) m) _ _ (λ b w. let z : ◌≡◌ {A = ℕ} 0 1 = cc in absurd (omega arith)) (λ b w. inr (cc)) (sym (put_by m e) ∙ q)
  answer_by_lem (Err r) m e {n} q =
      let w = sym (by_refused _ Answer.Refused e) ∙ q in
      let z : Read.number_of r.why ≡ n = cc in
      let l = first_numbers Tagged s 2048 max_rules max_store r e in
      inl (omega arith, omega arith)

  read_by : (a : Result (ℕ × ℕ × ℕ) Refusal) → Read.read_of First Tagged s 2048 max_rules max_store ≡ a → (reading s).number ≡ 0 → (m : ℕ) → answer_of style s m ≡ Put (printed_text style s) m
  unfolding reading Read.reported Read.numbered
  read_by (Ok (x, y, z)) e h m = put_by m e
  read_by (Err r) e h m =
      let w : Read.number_of r.why ≡ 0 = ap (λ (x : Result (ℕ × ℕ × ℕ) Refusal). (Read.numbered x).number) (sym e) ∙ h in
      let l = first_numbers Tagged s 2048 max_rules max_store r e in
      absurd (omega arith)

  module _ (h : (reading s).number ≡ 0) (m : ℕ) where
    -- a text that is read is printed where its text fits
    pub desk_prints : length (printed_text style s) ≤ m → answer_of style s m ≡ Answer.Printed (length (printed_text style s))
    desk_prints l = read_by (Read.read_of First Tagged s 2048 max_rules max_store) refl h m ∙ rw (le-leb (length (printed_text style s)) m l)

    -- and else it is 23
    pub desk_over : m < length (printed_text style s) → answer_of style s m ≡ Answer.Refused 23 0
    desk_over l = read_by (Read.read_of First Tagged s 2048 max_rules max_store) refl h m ∙ rw (lt-leb (length (printed_text style s)) m l)

  -- the desk answers no 20, 21 and 22
  pub desk_told : (m : ℕ) {n p : ℕ} → answer_of style s m ≡ Answer.Refused n p → Tellable n
  desk_told m e = answer_by_lem (Read.read_of First Tagged s 2048 max_rules max_store) m refl e

  writes_by : (a : Answer) (o : List ℕ) → answer_of style s (length o) ≡ a
      → ((n : ℕ) × (desk_of style s (length o) ≡ Text n) × (desk_in style s o ≡ fronted (printed_text style s) o)) ⊎ LineWritten style s o
  unfolding desk_of desk_in shown_by left_by
  writes_by (Answer.Printed n) o e = inl (n, rw e, rw e)
  writes_by (Answer.Refused n p) o e = inr (record { number = n; place = p; told = desk_told (length o) e; answer = rw e; left = rw e })

  -- what it writes: the text, or the line of a refusal that is none of them
  pub desk_writes : (o : List ℕ) → ((n : ℕ) × (desk_of style s (length o) ≡ Text n) × (desk_in style s o ≡ fronted (printed_text style s) o)) ⊎ LineWritten style s o
  desk_writes o = writes_by (answer_of style s (length o)) o refl

-- ---- a layout

module _ (s name : List ℕ) (n r b : ℕ) (h : n ≤ max_nodes) (l : r ≤ max_rules) {k p : ℕ} where
  found_none : (x y z : ℕ) (f : Option ℕ) → layout_by x y z (found_by f) ≡ Layout.Refused k p → ⊥
  unfolding layout_by
  found_none x y z (Some j) e = let z : ◌≡◌ {A = ℕ} 0 1 = cc in omega arith
  found_none x y z None e = let z : ◌≡◌ {A = ℕ} 0 1 = cc in omega arith

  layout_by_lem : (a : Result (ℕ × ℕ × ℕ) Refusal) → Read.read_of First Tagged s n r b ≡ a → layout_of s name n r b ≡ Layout.Refused k p → (1 ≤ k) × (k ≤ 13)
  unfolding layout_of layout_in found_of Read.reported
  layout_by_lem (Ok (x, y, z)) e q =
      let us = rules_read Tagged s in
      absurd (found_none _ _ _ (rule_named (records_of us) (rules_stored us) name) (rw (read_good First Tagged s n r b e h l) at (sym (by_read _ Layout.Refused e) ∙ q)))
  layout_by_lem (Err x) e q =
      let w = sym (by_refused _ Layout.Refused e) ∙ q in
      let z : Read.number_of x.why ≡ k = cc in
      let l = first_numbers Tagged s n r b x e in
      (omega arith, omega arith)

  -- a layout is refused by the reader alone: no layout that is read has false tables
  pub layout_told : layout_of s name n r b ≡ Layout.Refused k p → (1 ≤ k) × (k ≤ 13)
  layout_told e = layout_by_lem (Read.read_of First Tagged s n r b) refl e
