-- The promises leave no choice: a program that meets them gives what the definitions give, and the definitions are such a program.
use Rattle.std.specs.Prelude.{ℕ, Result}
use Prim.Native.Nat.{ℕ}
use mathlib.Core.Path.{◌≡◌, refl, ap, ◌∙◌}
use mathlib.Core.List.{List, []}
use contract.Lifetimes.{Lfts}
use Rattle.std.specs.Borrow.{Bor, MutBor}
use Rattle.structure.specs.declared.Edition.{Edition}
use Rattle.structure.specs.declared.Level.{Level}
use Rattle.forms.specs.declared.Style.{Style}
use Rattle.structure.specs.declared.Refusal.{Refusal}
use Rattle.reader.specs.Read.{reported, left_in}
use Rattle.printer.specs.Answers.{print_in}
use Rattle.printer.proofs.Answers.{print_reported}
use Rattle.reader.specs.Lines.{line_in}
use Rattle.build.specs.Rules.{rules_read}
use Rattle.promises.specs.Programs.{Tables, tables_of, Program, Lent, LentMut, Meets, defined}

pub defined_meets : Meets defined
unfolding reported
defined_meets = record {
  reads = λ edition level text lent κs. (refl, (refl, (refl, (refl, refl))));
  prints = λ style lent out κs. (refl, (print_reported style _ _ _ _, refl));
}

-- references to lists, and lifetimes: any would do
abbrev lend : List ℕ → Bor (List ℕ)
lend x = record { ref_ptr = (0, 0); now = x }

abbrev lend_all : Tables → Lent
lend_all t = record { nodes = lend t.nodes; rules = lend t.rules; store = lend t.store }

abbrev lend_mut : List ℕ → MutBor (List ℕ)
lend_mut x = record { ref_ptr = (0, 0); ghost_name = 0; now = x }

abbrev lend_all_mut : Tables → LentMut
lend_all_mut t = record { nodes = lend_mut t.nodes; rules = lend_mut t.rules; store = lend_mut t.store }

abbrev lifetimes : Lfts 4
lifetimes = ([], ([], ([], ([], tt))))

module _ (p : Program) (m : Meets p) where
  pub read_as : (edition : Edition) (level : Level) (s : List ℕ) (t : Tables) → p.read edition level s t ≡ defined.read edition level s t
  read_as edition level s t =
      let h = m.reads edition level (lend s) (lend_all_mut t) lifetimes in
      let us = tables_of (line_in s) (rules_read level s) in
      let e = h.0 in
      let n = h.1.1.0 ∙ ap (λ (r : Result (ℕ × ℕ × ℕ) Refusal). left_in r us.nodes t.nodes) e in
      let r = h.1.1.1.0 ∙ ap (λ (r : Result (ℕ × ℕ × ℕ) Refusal). left_in r us.rules t.rules) e in
      let b = h.1.1.1.1 ∙ ap (λ (r : Result (ℕ × ℕ × ℕ) Refusal). left_in r us.store t.store) e in
      (λ i. record { answer = e i; left = record { nodes = n i; rules = r i; store = b i } })

  pub print_as : (style : Style) (t : Tables) (o : List ℕ) → p.print style t o ≡ defined.print style t o
  print_as style t o =
      let h = m.prints style (lend_all t) (lend_mut o) lifetimes in
      let e = h.0 in
      let x = h.1.1 ∙ ap (print_in style t.nodes t.rules t.store o) e in
      (λ i. record { answer = e i; output = x i })
