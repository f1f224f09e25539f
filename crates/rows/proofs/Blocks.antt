-- A block of camera lines: the lines of their records are the answers' lines; and an input in blocks is answered as a whole.
use Rattle.std.specs.Prelude.{ℕ, Result, Ok, Err}
use Prim.Native.Nat.{ℕ, zero, suc, ◌+◌, ◌*◌, ◌/◌, ◌≤◌, ◌<◌}
use mathlib.Core.Path.{◌≡◌, refl, sym, ap, subst, ◌∙◌}
use mathlib.Core.Bool.{Bool, true, false}
use mathlib.Core.List.{List, [], ◌∷◌, ◌++◌, append_assoc}
use native.Mathlib.Omega.{arith}
use lib.Dec.{eqb}
use lib.ListN.{length, take, drop, get_or, replicate, length-replicate, length-take}
use lib.Seq.{split_at, take-suc, drop-cons, drop-length}
use borrow.Author.Tests.{eq-eqb, ne_eqb, eqb-true, le-leb, lt-leb}
use Rattle.text.specs.Booleans.{choose}
use Rattle.text.specs.Splice.{Wrote, fronted}
use Rattle.text.proofs.Splices.{wrote_front}
use Rattle.table.specs.Record.{root_at}
use Rattle.replies.specs.declared.Answer.{Answer}
use Rattle.replies.specs.declared.RunError.{RunError}
use Rattle.replies.specs.declared.Row.{Row}
use Rattle.links.specs.Program.{program}
use Rattle.matcher.specs.Answers.{line_of}
use Rattle.replies.specs.Replies.{numbered}
use Rattle.links.specs.Ready.{ready_of}
use Rattle.matcher.specs.Lines.{lines, past, rows, row_size, lines_by, ran_over, lines_of, recorded, records_by, records_of}
use Rattle.matcher.proofs.Blocks.{after_lines, past_inside, behind_lf}
use Rattle.rows.specs.declared.Block.{Block}
use Rattle.rows.specs.Rows.{row_line, row_refused, longest_line, row_from, record_lines, records_refused}
use Rattle.rows.specs.Block.{answer_lines, refused_lines, most_lines, block_room, ran_block, refused_block, block_by, block_of, left_in, block_in, Inside, whole_size}

-- ---- records of lines

-- the lines that were run, and the place of the next one
abbrev ran : Result (ℕ × ℕ) RunError → ℕ × ℕ
ran (Ok z) = z
ran (Err e) = (0, 0)

module _ (f : List ℕ → Answer) where
  lines_are : (ls : List (List ℕ)) (z : List ℕ) → record_lines (length ls) (rows f ls ++ z) ≡ answer_lines f ls
  unfolding record_lines rows answer_lines row_from
  lines_are [] z = refl
  lines_are (l ∷ ls) z = ap (λ x. row_line (numbered (f l)) ++ x) (lines_are ls z)

  refused_are : (ls : List (List ℕ)) (z : List ℕ) → records_refused (length ls) (rows f ls ++ z) ≡ refused_lines f ls
  unfolding records_refused rows refused_lines row_from
  refused_are [] z = refl
  refused_are (l ∷ ls) z = ap (λ x. row_refused (numbered (f l)) + x) (refused_are ls z)

-- ---- a block

-- a call that ran was ready
ran_ready : (x : Result (Unit {0}) RunError) (y : Unit {0} → Result (ℕ × ℕ) RunError) {k p : ℕ} → Ok (k, p) ≡ lines_by x y → x ≡ Ok tt
ran_ready (Ok _) y e = refl
ran_ready (Err RunError.FalseTables) y e = let z : ◌≡◌ {A = ℕ} 0 1 = cc in absurd (omega arith)
ran_ready (Err (RunError.Unfit i)) y e = let z : ◌≡◌ {A = ℕ} 0 1 = cc in absurd (omega arith)
ran_ready (Err RunError.NoRule) y e = let z : ◌≡◌ {A = ℕ} 0 1 = cc in absurd (omega arith)

false_ready : (x : Result (Unit {0}) RunError) (y : Unit {0} → Result (ℕ × ℕ) RunError) → ((u : Unit {0}) → (k : ℕ) × (p : ℕ) × (y u ≡ Ok (k, p))) → Err RunError.FalseTables ≡ lines_by x y → x ≡ Err RunError.FalseTables
false_ready (Ok _) y h e = let (k, p, g) = h tt in let z : ◌≡◌ {A = ℕ} 0 1 = cc in absurd (omega arith)
false_ready (Err RunError.FalseTables) y h e = refl
false_ready (Err (RunError.Unfit i)) y h e = let z : ◌≡◌ {A = ℕ} 0 1 = cc in absurd (omega arith)
false_ready (Err RunError.NoRule) y h e = let z : ◌≡◌ {A = ℕ} 0 1 = cc in absurd (omega arith)

unfit_ready : (x : Result (Unit {0}) RunError) (y : Unit {0} → Result (ℕ × ℕ) RunError) {i : ℕ} → ((u : Unit {0}) → (k : ℕ) × (p : ℕ) × (y u ≡ Ok (k, p))) → Err (RunError.Unfit i) ≡ lines_by x y → x ≡ Err (RunError.Unfit i)
unfit_ready (Ok _) y h e = let (k, p, g) = h tt in let z : ◌≡◌ {A = ℕ} 0 1 = cc in absurd (omega arith)
unfit_ready (Err RunError.FalseTables) y h e = let z : ◌≡◌ {A = ℕ} 0 1 = cc in absurd (omega arith)
unfit_ready (Err (RunError.Unfit i)) y h e = cc
unfit_ready (Err RunError.NoRule) y h e = let z : ◌≡◌ {A = ℕ} 0 1 = cc in absurd (omega arith)

none_ready : (x : Result (Unit {0}) RunError) (y : Unit {0} → Result (ℕ × ℕ) RunError) → ((u : Unit {0}) → (k : ℕ) × (p : ℕ) × (y u ≡ Ok (k, p))) → Err RunError.NoRule ≡ lines_by x y → x ≡ Err RunError.NoRule
none_ready (Ok _) y h e = let (k, p, g) = h tt in let z : ◌≡◌ {A = ℕ} 0 1 = cc in absurd (omega arith)
none_ready (Err RunError.FalseTables) y h e = let z : ◌≡◌ {A = ℕ} 0 1 = cc in absurd (omega arith)
none_ready (Err (RunError.Unfit i)) y h e = let z : ◌≡◌ {A = ℕ} 0 1 = cc in absurd (omega arith)
none_ready (Err RunError.NoRule) y h e = refl

ran_over_lem : (text : List ℕ) (room : ℕ) → (k : ℕ) × (p : ℕ) × (ran_over text room ≡ Ok (k, p))
unfolding ran_over
ran_over_lem text room = (length (take (room / row_size) (lines text)), past (room / row_size) text, refl)

-- the block's answer and output
abbrev pub Answers : List ℕ → List ℕ → List ℕ → ℕ → List ℕ → ℕ → List ℕ → Block → List ℕ → Type 0
Answers ns rs st start text allowance o r o' =
    (r ≡ block_of ns rs st start text allowance (length o)) × ((o' ≡ block_in ns rs st start text allowance o) × Inside r (length o) (length text))

refused_inside : (w : Row) (m n : ℕ) {r : Block} → r ≡ refused_block w → Inside r m n
unfolding refused_block
refused_inside w m n e = rw e tt

module _ (ns rs st : List ℕ) (start : ℕ) (text : List ℕ) (allowance : ℕ) (o : List ℕ) where
  pub no_room : length o < block_room → Answers ns rs st start text allowance o Block.NoRoom o
  unfolding block_of block_in
  no_room h = (rw (lt-leb block_room (length o) h), (rw (lt-leb block_room (length o) h), tt))

  module _ (h : block_room ≤ length o) {x : Result (ℕ × ℕ) RunError} (e : x ≡ lines_of ns rs st start text (length (replicate {A = ℕ} 5120 0))) where
    by_ready : {z : Result (Unit {0}) RunError} {r : Block} {o' : List ℕ} → ready_of ns rs st start ≡ z
        → r ≡ block_by z (λ u. ran_block (line_of (program ns rs st) st (root_at rs start) allowance) text)
        → o' ≡ left_in z (λ u. fronted (answer_lines (line_of (program ns rs st) st (root_at rs start) allowance) (take most_lines (lines text))) o) o
        → Inside r (length o) (length text)
        → Answers ns rs st start text allowance o r o'
    unfolding block_of block_in
    by_ready q a b i = (a ∙ sym (rw (le-leb block_room (length o) h, q)), (b ∙ sym (rw (le-leb block_room (length o) h, q)), i))

    told : {z : Result (ℕ × ℕ) RunError} → x ≡ z → z ≡ lines_by (ready_of ns rs st start) (λ u. ran_over text (length (replicate {A = ℕ} 5120 0)))
    unfolding lines_of
    told q = sym q ∙ e

    pub block_false : {r : Block} → x ≡ Err RunError.FalseTables → r ≡ refused_block (numbered Answer.FalseTables) → Answers ns rs st start text allowance o r o
    block_false q a = by_ready (false_ready _ _ (λ u. ran_over_lem text _) (told q)) a refl (refused_inside _ (length o) (length text) a)

    pub block_unfit : {i : ℕ} {r : Block} → x ≡ Err (RunError.Unfit i) → r ≡ refused_block (numbered (Answer.Unfit i)) → Answers ns rs st start text allowance o r o
    block_unfit q a = by_ready (unfit_ready _ _ (λ u. ran_over_lem text _) (told q)) a refl (refused_inside _ (length o) (length text) a)

    pub block_none : {r : Block} → x ≡ Err RunError.NoRule → r ≡ refused_block (numbered Answer.NoRule) → Answers ns rs st start text allowance o r o
    block_none q a = by_ready (none_ready _ _ (λ u. ran_over_lem text _) (told q)) a refl (refused_inside _ (length o) (length text) a)

    module _ {k p : ℕ} (q : x ≡ Ok (k, p)) where
      ready : ready_of ns rs st start ≡ Ok tt
      ready = ran_ready _ _ (told q)

      room_is : length (replicate {A = ℕ} 5120 0) / row_size ≡ most_lines
      room_is = ap (λ n. n / row_size) (length-replicate {A = ℕ} 5120 0)

      counts : (k ≡ length (take most_lines (lines text))) × (p ≡ past most_lines text)
      unfolding ran_over
      counts =
          let z : ◌≡◌ {A = Result (ℕ × ℕ) RunError} (Ok (k, p)) (Ok (length (take most_lines (lines text)), past most_lines text)) =
          told q ∙ ap (λ y. lines_by y (λ u. ran_over text (length (replicate {A = ℕ} 5120 0)))) ready
          ∙ ap {B = Result (ℕ × ℕ) RunError} (λ m. Ok (length (take m (lines text)), past m text)) room_is in
          (ap (λ r. (ran r).0) z, ap (λ r. (ran r).1) z)

      pub block_few : k ≤ most_lines
      block_few = omega (arith, counts.0, length-take most_lines (lines text))

      module _ {rec : List ℕ} (d : rec ≡ records_of ns rs st start text allowance (replicate 5120 0)) where
        abbrev answer : List ℕ → Answer
        answer = line_of (program ns rs st) st (root_at rs start) allowance

        records_are : rec ≡ rows answer (take most_lines (lines text)) ++ drop (length (rows answer (take most_lines (lines text)))) (replicate 5120 0)
        unfolding records_of recorded fronted
        records_are =
            d ∙ ap (λ y. records_by y (λ u. recorded answer text (replicate 5120 0)) (replicate 5120 0)) ready
            ∙ ap (λ m. rows answer (take m (lines text)) ++ drop (length (rows answer (take m (lines text)))) (replicate 5120 0)) room_is

        shown_are : record_lines k rec ≡ answer_lines answer (take most_lines (lines text))
        shown_are =
            ap (λ n. record_lines n rec) counts.0 ∙ ap (record_lines (length (take most_lines (lines text)))) records_are
            ∙ lines_are answer (take most_lines (lines text)) _

        counted_are : records_refused k rec ≡ refused_lines answer (take most_lines (lines text))
        counted_are =
            ap (λ n. records_refused n rec) counts.0 ∙ ap (records_refused (length (take most_lines (lines text)))) records_are
            ∙ refused_are answer (take most_lines (lines text)) _

        pub block_ran : {o' : List ℕ} {n c : ℕ} → Wrote o 0 (record_lines k rec) o' n → c ≡ records_refused k rec → n ≤ longest_line * k
            → Answers ns rs st start text allowance o (Block.Lines n p c) o'
        unfolding ran_block
        block_ran {o'} {n} {c} w y g =
            let v = wrote_front w (omega (arith, w.next, block_few)) in
            let a : n ≡ length (answer_lines answer (take most_lines (lines text))) = v.1 ∙ ap length shown_are in
            let b : c ≡ refused_lines answer (take most_lines (lines text)) = y ∙ counted_are in
            let s : p ≡ past most_lines text = counts.1 in
            by_ready ready (cc) (v.0 ∙ ap (λ x. fronted x o) shown_are) (omega (arith, block_few), omega (arith, past_inside most_lines text))

-- ---- whole lines

whole_byte : (x : ℕ) (xs : List ℕ) → whole_size xs ≡ 0 → whole_size (x ∷ xs) ≡ choose (eqb x 10) (λ u. 1) (λ u. 0)
unfolding whole_size
whole_byte x xs e = rw e

whole_more : (x : ℕ) (xs : List ℕ) {k : ℕ} → whole_size xs ≡ suc k → whole_size (x ∷ xs) ≡ suc (suc k)
unfolding whole_size
whole_more x xs e = rw e

pub whole_end : (t : List ℕ) → whole_size (drop (length t) t) ≡ 0
unfolding whole_size
whole_end t = ap whole_size (drop-length t)

-- behind a place there is no LF, and the byte before it is one, or is none
whole_here : (t : List ℕ) (i : ℕ) → i < length t → whole_size (drop (suc i) t) ≡ 0 → whole_size (drop i t) ≡ choose (eqb (get_or t i 0) 10) (λ u. 1) (λ u. 0)
whole_here t i h e = ap whole_size (drop-cons t i 0 h) ∙ whole_byte (get_or t i 0) (drop (suc i) t) e

pub whole_none : (t : List ℕ) (i : ℕ) → i < length t → (get_or t i 0 ≡ 10 → ⊥) → whole_size (drop (suc i) t) ≡ 0 → whole_size (drop i t) ≡ 0
whole_none t i h n e = whole_here t i h e ∙ rw (ne_eqb (get_or t i 0) 10 n)

whole_up : (t : List ℕ) (i : ℕ) {k : ℕ} → whole_size (drop i t) ≡ suc k → whole_size t ≡ i + suc k
unfolding whole_size
whole_up t zero e = e ∙ omega arith
whole_up [] (suc i) e = absurd (omega arith)
whole_up (x ∷ xs) (suc i) {k} e =
    let z : whole_size xs ≡ suc (i + k) = whole_up xs i e ∙ omega arith in
    whole_more x xs z ∙ omega arith

pub whole_lf : (t : List ℕ) (i : ℕ) → i < length t → get_or t i 0 ≡ 10 → whole_size (drop (suc i) t) ≡ 0 → whole_size t ≡ suc i
whole_lf t i h b e = whole_up t i {k = 0} (whole_here t i h e ∙ rw (eq-eqb (get_or t i 0) 10 b)) ∙ omega arith

-- the last byte of whole lines is an LF
last_lf : (t : List ℕ) (k : ℕ) → whole_size t ≡ suc k → (k < length t) × (get_or t k 0 ≡ 10)
unfolding whole_size
last_lf [] k e = absurd (omega arith)
last_lf (x ∷ xs) k e = by (whole_size xs) refl (last_lf xs)
  where
    first : (b : Bool) → eqb x 10 ≡ b → choose b (λ u. 1) (λ u. 0) ≡ suc k → (k < suc (length xs)) × (get_or (x ∷ xs) k 0 ≡ 10)
    first true p q = let z : k ≡ 0 = omega arith in (omega arith, ap (λ j. get_or (x ∷ xs) j 0) z ∙ eqb-true x 10 p)
    first false p q = absurd (omega arith)

    by : (n : ℕ) → whole_size xs ≡ n → ((j : ℕ) → whole_size xs ≡ suc j → (j < length xs) × (get_or xs j 0 ≡ 10)) → (k < suc (length xs)) × (get_or (x ∷ xs) k 0 ≡ 10)
    by zero p f = first (eqb x 10) refl (sym (whole_byte x xs p) ∙ e)
    by (suc n) p f =
        let z : k ≡ suc n = omega (arith, whole_more x xs p, e) in
        let (h, g) = f n p in
        (omega arith, ap (λ j. get_or (x ∷ xs) j 0) z ∙ g)

abbrev Turn : List ℕ → List ℕ → ℕ → Type 0
Turn a b n = lines (a ++ b) ≡ lines (take n a) ++ lines (drop n a ++ b)

turn_none : (a b : List ℕ) → Turn a b 0
unfolding lines
turn_none a b = refl

turn_lf : (a b : List ℕ) (k : ℕ) → k < length a → get_or a k 0 ≡ 10 → Turn a b (suc k)
turn_lf a b k h e =
    let s : a ≡ take k a ++ (10 ∷ drop (suc k) a) = split_at a k 0 h ∙ ap (λ x. take k a ++ (x ∷ drop (suc k) a)) e in
    let t : take (suc k) a ≡ take k a ++ (10 ∷ []) = take-suc a k 0 h ∙ ap (λ x. take k a ++ (x ∷ [])) e in
    ap (λ x. lines (x ++ b)) s ∙ ap lines (append_assoc (take k a) (10 ∷ drop (suc k) a) b) ∙ behind_lf (take k a) (drop (suc k) a ++ b)
    ∙ sym (ap (λ x. lines x ++ lines (drop (suc k) a ++ b)) t)

-- whatever comes behind a text, its whole lines are the first lines, and the rest of it begins the others
pub whole_first : (a b : List ℕ) → lines (a ++ b) ≡ lines (take (whole_size a) a) ++ lines (drop (whole_size a) a ++ b)
whole_first a b = by (whole_size a) refl
  where
    by : (n : ℕ) → whole_size a ≡ n → Turn a b (whole_size a)
    by zero p = rw p (turn_none a b)
    by (suc k) p = let (h, e) = last_lf a k p in rw p (turn_lf a b k h e)

-- ---- where the answers and the next line are

pub size_inside : (m n : ℕ) {x : Block} {size next refused : ℕ} → x ≡ Block.Lines size next refused → Inside x m n → size ≤ m
size_inside m n e h = (subst (λ (y : Block). Inside y m n) e h).0

pub next_inside : (m n : ℕ) {x : Block} {size next refused : ℕ} → x ≡ Block.Lines size next refused → Inside x m n → next ≤ n
next_inside m n e h = (subst (λ (y : Block). Inside y m n) e h).1

whole_le : (t : List ℕ) → whole_size t ≤ length t
whole_le t = by (whole_size t) refl
  where
    by : (n : ℕ) → whole_size t ≡ n → whole_size t ≤ length t
    by zero p = omega arith
    by (suc k) p = omega (arith, (last_lf t k p).0)

pub whole_inside : (t : List ℕ) {n : ℕ} → n ≡ whole_size t → n ≤ length t
whole_inside t e = omega (arith, whole_le t)

-- ---- an input in blocks

module _ (f : List ℕ → Answer) where
  answers_append : (ls ms : List (List ℕ)) → answer_lines f (ls ++ ms) ≡ answer_lines f ls ++ answer_lines f ms
  unfolding answer_lines
  answers_append [] ms = refl
  answers_append (l ∷ ls) ms =
      ap (λ x. row_line (numbered (f l)) ++ x) (answers_append ls ms) ∙ sym (append_assoc (row_line (numbered (f l))) (answer_lines f ls) (answer_lines f ms))

  -- the answers to the first m lines, and then to those behind them
  pub answers_after : (m : ℕ) (t : List ℕ) → answer_lines f (lines t) ≡ answer_lines f (take m (lines t)) ++ answer_lines f (lines (drop (past m t) t))
  answers_after m t = ap (answer_lines f) (after_lines m t) ∙ answers_append (take m (lines t)) (lines (drop (past m t) t))

  -- the answers to the whole lines that have come, and then to their rest with what comes
  pub answers_first : (a b : List ℕ) → answer_lines f (lines (a ++ b)) ≡ answer_lines f (lines (take (whole_size a) a)) ++ answer_lines f (lines (drop (whole_size a) a ++ b))
  answers_first a b = ap (answer_lines f) (whole_first a b) ∙ answers_append (lines (take (whole_size a) a)) (lines (drop (whole_size a) a ++ b))
