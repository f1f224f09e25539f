-- A camera line's answer as a line: `LENGTH STEPS`, `none STEPS`, or the refusal's.
use Rattle.std.specs.Prelude.{ℕ, zero, suc, ◌+◌, ◌<◌, List, [], ◌∷◌, ◌++◌, leb, eqb, length, drop, get_or, Option, Some, None}
use Rattle.text.specs.Booleans.{choose}
use Rattle.text.specs.Digits.{decimal}
use Rattle.text.specs.Splice.{fronted}
use Rattle.replies.specs.declared.Row.{Row}
use Rattle.matcher.specs.Lines.{row_size}
use Rattle.rows.specs.Line.{refusal_line}

-- the matched length in decimal, or `none`
unfoldable pub length_word : ℕ → ℕ → List ℕ
length_word m l = choose (eqb m 0) (λ u. 110 ∷ 111 ∷ 110 ∷ 101 ∷ []) (λ u. decimal l)

-- it and the steps in decimal, a blank between them, and LF
unfoldable pub run_line : ℕ → ℕ → ℕ → List ℕ
run_line m l n = length_word m l ++ ((32 ∷ []) ++ (decimal n ++ (10 ∷ [])))

-- the line of an answer's five numbers
unfoldable pub row_line : Row → List ℕ
row_line r = choose (eqb r.number 0) (λ u. run_line r.matched r.length r.steps) (λ u. refusal_line r.number r.place)

-- 1 for a refusal
unfoldable pub row_refused : Row → ℕ
row_refused r = choose (eqb r.number 0) (λ u. 0) (λ u. 1)

-- what writing the line to the front of an output of m bytes answers
unfoldable pub row_put : Row → ℕ → Option ℕ
row_put r m = choose (leb (length (row_line r)) m) (λ u. Some (length (row_line r))) (λ u. None)

-- and what it leaves there
unfoldable pub row_in : Row → List ℕ → Option ℕ → List ℕ
row_in r o (Some k) = fronted (row_line r) o
row_in r o None = o

-- numbers of 64 bits, and the bytes that their line has at most: `refused `, ` at `, LF and twice twenty digits
pub record Small (r : Row) : Type 0 where
  pub number : r.number < 18446744073709551616
  pub place : r.place < 18446744073709551616
  pub length : r.length < 18446744073709551616
  pub steps : r.steps < 18446744073709551616

abbrev pub longest_line : ℕ
longest_line = 53

-- ---- records one after another, five numbers each

unfoldable pub row_from : List ℕ → Row
row_from rs = record { number = get_or rs 0 0; place = get_or rs 1 0; matched = get_or rs 2 0; length = get_or rs 3 0; steps = get_or rs 4 0 }

-- the lines of the first k
unfoldable pub record_lines : ℕ → List ℕ → List ℕ
record_lines zero rs = []
record_lines (suc k) rs = row_line (row_from rs) ++ record_lines k (drop row_size rs)

-- how many of them are refusals
unfoldable pub records_refused : ℕ → List ℕ → ℕ
records_refused zero rs = 0
records_refused (suc k) rs = row_refused (row_from rs) + records_refused k (drop row_size rs)
