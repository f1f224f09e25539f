-- Demand 3 of a pass: its answer is the definition's, and the theorems of `promises` say what that is for printable tables whose numbers
-- are of 32 bits.
use Rattle.std.specs.Prelude.{ℕ, Result, Ok, Err}
use Prim.Native.Nat.{ℕ, ◌≤◌}
use mathlib.Core.Path.{◌≡◌, sym, ap, ◌∙◌}
use mathlib.Core.Bool.{true, false}
use mathlib.Core.List.{List}
use native.Mathlib.Omega.{arith}
use lib.ListN.{length}
use borrow.Author.Tests.{le-leb}
use Rattle.table.specs.Record.{rules_of}
use Rattle.forms.specs.declared.Style.{Style}
use Rattle.structure.specs.declared.Edition.{Edition}
use Rattle.structure.specs.declared.Level.{Level}
use Rattle.structure.specs.declared.Level.TheVariants.{Tagged, Plain}
use Rattle.structure.specs.declared.Why.TheVariants.{NotPlain}
use Rattle.printer.specs.Answers.{table_text, room_of, print_of}
use Rattle.printer.specs.Bounds.{Narrow}
use Rattle.structure.specs.declared.Refusal.{Refusal}
use Rattle.reader.specs.Read.{room_for_nodes, room_for_rules, refused_by, read_of, left_in}
use Rattle.promises.specs.Round.{Ordered, Printable, ReadAs}
use Rattle.promises.proofs.Styles.{marked_asides}
use Rattle.promises.proofs.Round.{tagged, plain, plain_refused}
use Rattle.pass.specs.declared.Passed.{Passed}
use Rattle.pass.specs.Pass.{back_by, pass_of, new_in, Passes, barred, rules_back, pushes_at, Demand}

-- only a reading is passed on as one
back_read : (m : ℕ) (a : Result (ℕ × ℕ × ℕ) Refusal) {k n r b : ℕ} → back_by m a ≡ Passed.Read k n r b → a ≡ Ok (n, r, b)
back_read m (Ok (x, y, z)) e = cc
back_read m (Err f) e = let z : ◌≡◌ {A = ℕ} 0 1 = cc in absurd (omega arith)

module _ (style : Style) (ns rs st : List ℕ) (w : Narrow ns) (p : Printable style ns rs st) (edition : Edition) (q : Ordered edition (rules_of ns rs st)) where
  reads_back : (level : Level) → barred level (rules_of ns rs st) ≡ false → ReadAs edition level (table_text style ns rs st) (rules_back style level ns rs st)
  reads_back Tagged h = tagged style ns rs st w p edition q
  reads_back Plain h = plain style ns rs st w p edition q h

  refuses : (level : Level) → barred level (rules_of ns rs st) ≡ true → (n r b : ℕ)
      → read_of edition level (table_text style ns rs st) n r b ≡ refused_by NotPlain (pushes_at style ns rs st)
  refuses Tagged h n r b = let z : ◌≡◌ {A = ℕ} 0 1 = cc in absurd (omega arith)
  refuses Plain h n r b = rw (marked_asides style (rules_of ns rs st)) at (plain_refused style ns rs st w p edition q h n r b)

  -- what has room is printed, and the reader decides
  printed : (level : Level) (m n r b : ℕ) → length (table_text style ns rs st) ≤ m
      → pass_of style edition level ns rs st m n r b ≡ back_by (length (table_text style ns rs st)) (read_of edition level (table_text style ns rs st) n r b)
  unfolding pass_of print_of room_of
  printed level m n r b l = rw (p.good, le-leb (length (table_text style ns rs st)) m l)

-- demand 3, of any call that meets the promises on its answer and its buffers
pub demand : (style : Style) (edition : Edition) (level : Level) (ns rs st o ns₀ rs₀ st₀ : List ℕ) {a : Passed} {o' ns' rs' st' : List ℕ} → Narrow ns
    → Passes style edition level ns rs st o ns₀ rs₀ st₀ a o' ns' rs' st' → Demand style edition level ns rs st o ns₀ rs₀ st₀ a ns' rs' st'
unfolding new_in left_in
demand style edition level ns rs st o ns₀ rs₀ st₀ {a} {o'} {ns'} {rs'} {st'} w m p d l =
    let t = table_text style ns rs st in
    let n = room_for_nodes ns₀ in
    let r = room_for_rules rs₀ in
    let b = length st₀ in
    let e : a ≡ back_by (length t) (read_of edition level t n r b) = m.answer ∙ printed style ns rs st w p edition d level (length o) n r b l in
    record {
      text = reads_back style ns rs st w p edition d level;
      answer = λ h. e ∙ ap (back_by (length t)) ((reads_back style ns rs st w p edition d level h).answer n r b);
      tables = λ h k x y z q. (reads_back style ns rs st w p edition d level h).tables n r b x y z (back_read (length t) _ (sym e ∙ q)) ns₀ rs₀ st₀ ns' rs' st'
          (record { nodes = rw q at m.nodes; rules = rw q at m.rules; store = rw q at m.store });
      refused = λ h. e ∙ ap (back_by (length t)) (refuses style ns rs st w p edition d level h n r b);
    }
