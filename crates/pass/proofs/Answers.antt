-- What a pass answers and leaves, from what the printer and the reader promise. The printer's answer decides the case; where it
-- printed, the front of the text's buffer is the text of the tables (`front_text`), which the reader was lent.
use Rattle.std.specs.Prelude.{ℕ, Result, Ok, Err}
use Prim.Native.Nat.{ℕ, ◌≤◌}
use mathlib.Core.Path.{◌≡◌, refl, sym, ap, ◌∙◌}
use mathlib.Core.List.{List}
use native.Mathlib.Omega.{arith}
use lib.Dec.{leb}
use lib.ListN.{length, take, drop}
use lib.Seq.{take_at}
use Rattle.text.specs.Splice.{fronted}
use Rattle.text.proofs.Booleans.{split}
use Rattle.table.specs.Tree.{rules_stored}
use Rattle.table.specs.Flat.{nodes_of, records_of}
use Rattle.table.specs.Check.{tables}
use Rattle.table.specs.declared.TableError.{TableError}
use Rattle.forms.specs.declared.Style.{Style}
use Rattle.structure.specs.declared.Edition.{Edition}
use Rattle.structure.specs.declared.Level.{Level}
use Rattle.printer.specs.declared.PrintError.{PrintError}
use Rattle.printer.specs.Answers.{table_text, answer_by, room_of, print_of, print_in}
use Rattle.printer.proofs.Answers.{print_fits, print_length}
use Rattle.structure.specs.declared.Refusal.{Refusal}
use Rattle.reader.specs.Read.{room_for_nodes, room_for_rules, read_of, left_in}
use Rattle.reader.specs.Lines.{line_in}
use Rattle.build.specs.Rules.{rules_read}
use Rattle.pass.specs.declared.Passed.{Passed}
use Rattle.pass.specs.Pass.{back_by, pass_by, pass_of, text_in, new_in, numbered, reported, Passes}

-- ---- the printed text

module _ (style : Style) (ns rs st : List ℕ) {k : ℕ} where
  room_used : (x : List ℕ) (n : ℕ) → room_of x n ≡ Ok k → k ≡ length x
  unfolding room_of
  room_used x n = split (leb (length x) n) _ _ (λ e q. cc) (λ e q. let z : ◌≡◌ {A = ℕ} 0 1 = cc in absurd (omega arith))

  check_used : (c : Result (Unit {0}) TableError) (n : ℕ) → answer_by c (λ u. room_of (table_text style ns rs st) n) ≡ Ok k → k ≡ length (table_text style ns rs st)
  check_used (Ok _) n e = room_used (table_text style ns rs st) n e
  check_used (Err TableError.Shape) n e = let z : ◌≡◌ {A = ℕ} 0 1 = cc in absurd (omega arith)
  check_used (Err (TableError.Node i)) n e = let z : ◌≡◌ {A = ℕ} 0 1 = cc in absurd (omega arith)
  check_used (Err (TableError.Rule i)) n e = let z : ◌≡◌ {A = ℕ} 0 1 = cc in absurd (omega arith)

  -- as many bytes are used as the text has
  pub print_used : (n : ℕ) → print_of style ns rs st n ≡ Ok k → k ≡ length (table_text style ns rs st)
  unfolding print_of
  print_used n e = check_used (tables ns rs st) n e

module _ (style : Style) (ns rs st o : List ℕ) {printed : Result ℕ PrintError} {o' : List ℕ} (e : printed ≡ print_of style ns rs st (length o)) (h : o' ≡ print_in style ns rs st o printed) where
  -- the text's buffer is as the printer leaves it
  text_left : o' ≡ text_in style ns rs st o
  unfolding text_in
  text_left = rw (← e) h

  module _ {k : ℕ} (u : printed ≡ Ok k) where
    -- the printed text is inside the buffer
    pub text_fits : k ≤ length o'
    text_fits = omega (arith, print_used style ns rs st (length o) (sym e ∙ u), print_fits style ns rs st (length o) k (sym e ∙ u), ap length h, print_length style ns rs st o printed e)

    -- it is the buffer's front
    front_text : take k o' ≡ table_text style ns rs st
    unfolding print_in fronted
    front_text =
        let t = table_text style ns rs st in
        ap (take k) (h ∙ ap (print_in style ns rs st o) u) ∙ take_at t (drop (length t) o) k (sym (print_used style ns rs st (length o) (sym e ∙ u)))

-- ---- the answer

-- a new table goes by what the reader says
back_left : (k : ℕ) (q : Result (ℕ × ℕ × ℕ) Refusal) (x o : List ℕ) → left_in q x o ≡ new_in (back_by k q) x o
unfolding left_in new_in
back_left k (Ok (n, r, b)) x o = refl
back_left k (Err f) x o = refl

module _ (style : Style) (edition : Edition) (level : Level) (ns rs st o ns₀ rs₀ st₀ : List ℕ) {printed : Result ℕ PrintError} {o' : List ℕ} (e : printed ≡ print_of style ns rs st (length o)) (h : o' ≡ print_in style ns rs st o printed) where
  answered : {p : Result ℕ PrintError} {a : Passed} {r : Result (ℕ × ℕ × ℕ) Refusal} → printed ≡ p → a ≡ pass_by p r → r ≡ read_of edition level (table_text style ns rs st) (room_for_nodes ns₀) (room_for_rules rs₀) (length st₀)
      → a ≡ pass_of style edition level ns rs st (length o) (room_for_nodes ns₀) (room_for_rules rs₀) (length st₀)
  unfolding pass_of
  answered {p} {a} {r} u v w = v ∙ ap (λ x. pass_by x r) (sym u ∙ e) ∙ ap (pass_by (print_of style ns rs st (length o))) w

  -- nothing was printed
  pub unprinted : (p : Result ℕ PrintError) (a : Passed) → printed ≡ p → ((r : Result (ℕ × ℕ × ℕ) Refusal) → a ≡ pass_by p r) → ((x y : List ℕ) → y ≡ new_in a x y) → Passes style edition level ns rs st o ns₀ rs₀ st₀ a o' ns₀ rs₀ st₀
  unfolding reported
  unprinted p a u v w =
      let f = answered u (v (read_of edition level (table_text style ns rs st) (room_for_nodes ns₀) (room_for_rules rs₀) (length st₀))) refl in
      record { answer = f; report = ap numbered f; text = text_left style ns rs st o e h; nodes = w _ ns₀; rules = w _ rs₀; store = w _ st₀ }

  -- the text was read, or refused
  pub passed : {k : ℕ} {r : Result (ℕ × ℕ × ℕ) Refusal} (q : Result (ℕ × ℕ × ℕ) Refusal) {ns' rs' st' : List ℕ} → printed ≡ Ok k → r ≡ read_of edition level (take k o') (room_for_nodes ns₀) (room_for_rules rs₀) (length st₀)
      → ns' ≡ left_in r (nodes_of (line_in (take k o')) (rules_read level (take k o'))) ns₀ → rs' ≡ left_in r (records_of (rules_read level (take k o'))) rs₀ → st' ≡ left_in r (rules_stored (rules_read level (take k o'))) st₀
      → r ≡ q → Passes style edition level ns rs st o ns₀ rs₀ st₀ (back_by k q) o' ns' rs' st'
  unfolding reported
  passed {k} {r} q u f n m b w =
      let t = front_text style ns rs st o e h u in
      let g : back_by k q ≡ pass_of style edition level ns rs st (length o) (room_for_nodes ns₀) (room_for_rules rs₀) (length st₀) =
      answered u (ap (back_by k) (sym w)) (f ∙ ap (λ x. read_of edition level x (room_for_nodes ns₀) (room_for_rules rs₀) (length st₀)) t) in
      record {
        answer = g;
        report = ap numbered g;
        text = text_left style ns rs st o e h;
        nodes = n ∙ ap (λ x. left_in r (nodes_of (line_in x) (rules_read level x)) ns₀) t ∙ ap (λ x. left_in x (nodes_of (line_in (table_text style ns rs st)) (rules_read level (table_text style ns rs st))) ns₀) w ∙ back_left k q _ ns₀;
        rules = m ∙ ap (λ x. left_in r (records_of (rules_read level x)) rs₀) t ∙ ap (λ x. left_in x (records_of (rules_read level (table_text style ns rs st))) rs₀) w ∙ back_left k q _ rs₀;
        store = b ∙ ap (λ x. left_in r (rules_stored (rules_read level x)) st₀) t ∙ ap (λ x. left_in x (rules_stored (rules_read level (table_text style ns rs st))) st₀) w ∙ back_left k q _ st₀;
      }
