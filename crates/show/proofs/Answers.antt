-- What the desk answers: the refusal of the reading; else the printer was lent the tables of the text's rules (`fronts`), and its case
-- decides both the answer and what is left in the output (`in_is`).
use Rattle.std.specs.Prelude.{ℕ, Result, Ok, Err}
use Prim.Native.Nat.{ℕ, ◌*◌}
use mathlib.Core.Path.{◌≡◌, refl, sym, ap, ◌∙◌}
use mathlib.Core.List.{List}
use lib.ListN.{length, take, replicate, length-replicate}
use Rattle.table.specs.Tree.{rules_stored}
use Rattle.table.specs.Record.{node_size, rule_size}
use Rattle.table.specs.Flat.{nodes_of, records_of}
use Rattle.structure.specs.declared.Edition.TheVariants.{First}
use Rattle.structure.specs.declared.Level.TheVariants.{Tagged}
use Rattle.structure.specs.declared.Refusal.{Refusal}
use Rattle.build.specs.Rules.{rules_read}
use Rattle.reader.specs.Read as Read
use Rattle.reader.specs.Lines.{line_in}
use Rattle.printer.specs.declared.PrintError.{PrintError}
use Rattle.printer.specs.Answers as Printer
use Rattle.forms.specs.declared.Style.{Style}
use Rattle.show.specs.declared.Answer.{Answer}
use Rattle.show.specs.Desk.{reading, printing, printed_text, printed, answer_of, answer_in}
use Rattle.show.proofs.Fronts.{Promised, fronts, by_read, by_refused}

-- the buffers that the desk lends
pub zeros : (n : ℕ) → length (replicate {A = ℕ} n 0) ≡ n
zeros n = length-replicate {A = ℕ} n 0

-- an answer for an output o, and o' left in it
abbrev pub Answers : Style → List ℕ → List ℕ → Answer → List ℕ → Type 0
Answers style s o x o' = (x ≡ answer_of style s (length o)) × (o' ≡ answer_in style s o x)

-- what `print` promises of its answer and of the output afterwards
abbrev pub Prints : Style → (ns rs st o : List ℕ) → Result ℕ PrintError → List ℕ → Type 0
Prints style ns rs st o w o' =
    (w ≡ Printer.print_of style ns rs st (length o)) × ((Printer.numbered w ≡ Printer.reported style ns rs st (length o)) × (o' ≡ Printer.print_in style ns rs st o w))

-- the printer writes where the answer is a text, and only there
in_is : (style : Style) (s o : List ℕ) (w : Result ℕ PrintError)
    → Printer.print_in style (nodes_of (line_in s) (rules_read Tagged s)) (records_of (rules_read Tagged s)) (rules_stored (rules_read Tagged s)) o w ≡ answer_in style s o (printed (Printer.numbered w))
unfolding Printer.numbered Printer.print_in printed answer_in printed_text
in_is style s o (Ok n) = refl
in_is style s o (Err PrintError.Shape) = refl
in_is style s o (Err (PrintError.Node i)) = refl
in_is style s o (Err (PrintError.Rule k)) = refl
in_is style s o (Err PrintError.NoRoom) = refl

module _ (s ns rs st : List ℕ) (a : Result (ℕ × ℕ × ℕ) Refusal) (ns' rs' st' : List ℕ) (p : Promised s ns rs st a ns' rs' st')
    (h₁ : length ns ≡ node_size * 2048) (h₂ : length rs ≡ rule_size * 1024) (h₃ : length st ≡ 65536) (style : Style) (o : List ℕ) where
  -- the room that the desk asks for
  asked : Read.read_of First Tagged s 2048 1024 65536 ≡ a
  asked = sym (p.0 ∙ rw (h₁, h₂, h₃))

  pub read_refused : {r : Refusal} {n : ℕ} → a ≡ Err r → n ≡ Read.number_of r.why → Answers style s o (Answer.Refused n r.place) o
  unfolding answer_of answer_in reading Read.reported
  read_refused q e = (rw e (sym (by_refused _ Answer.Refused (asked ∙ q))), refl)

  pub print_answers : {x y z : ℕ} {w : Result ℕ PrintError} {t : Answer} {o' : List ℕ} → a ≡ Ok (x, y, z)
      → Prints style (take (node_size * x) ns') (take (rule_size * y) rs') (take z st') o w o' → t ≡ printed (Printer.numbered w) → Answers style s o t o'
  unfolding answer_of reading Read.reported printing
  print_answers {w = w} q v e =
      let b = fronts s ns rs st a ns' rs' st' p q in (
        e ∙ ap printed (v.1.0 ∙ rw (b.nodes.1, b.rules.1, b.store.1)) ∙ sym (by_read _ Answer.Refused (asked ∙ q)),
        v.1.1 ∙ rw (b.nodes.1, b.rules.1, b.store.1, e) (in_is style s o w),
      )
