-- Laws of answers' lines: what a line needs at most, and the lines of records one behind the other.
use Prim.Native.Nat.{ℕ, zero, suc, ◌+◌, ◌*◌, ◌/◌, ◌≤◌, ◌<◌}
use mathlib.Core.Path.{◌≡◌, refl, sym, ap, ◌∙◌}
use mathlib.Core.Bool.{Bool, true, false}
use mathlib.Core.List.{List, [], ◌∷◌, ◌++◌, append_assoc, append-nil}
use mathlib.Core.Logic.{⊎_elim}
use native.Mathlib.Omega.{arith}
use native.Mathlib.Numerals.{add-one}
use lib.Dec.{eqb}
use lib.ListN.{length, drop, get_or, length-append}
use lib.Seq.{drop-drop, get_or-drop}
use Rattle.text.specs.Booleans.{choose}
use Rattle.text.specs.Digits.{decimal}
use Rattle.text.specs.Splice.{Room, Wrote}
use Rattle.text.proofs.Tests.{lt_or_ge}
use Rattle.text.proofs.Decimals.{decimal_one, decimal_more}
use Rattle.text.proofs.Splices.{wrote_then, wrote_none, wrote_length}
use Rattle.replies.specs.declared.Row.{Row}
use Rattle.matcher.specs.Lines.{row_size}
use Rattle.rows.specs.Line.{refusal_line}
use Rattle.rows.specs.Rows.{length_word, run_line, row_line, row_refused, Small, longest_line, row_from, record_lines, records_refused}

run_size : (m l n : ℕ) → length (run_line m l n) ≡ length (length_word m l) + (1 + (length (decimal n) + 1))
unfolding run_line
run_size m l n =
    omega (arith, length-append (length_word m l) (32 ∷ (decimal n ++ (10 ∷ []))), length-append (decimal n) (10 ∷ []))

-- ---- a line's bytes at most

few_one : (n : ℕ) → n < 10 → length (decimal n) ≤ 1
few_one n h = rw (decimal_one n h) (omega arith)

few_more : (b k : ℕ) → ((n : ℕ) → n < b → length (decimal n) ≤ k) → (n : ℕ) → n < 10 * b → length (decimal n) ≤ suc k
few_more b k f n h =
    ⊎_elim (λ l. omega (arith, few_one n l)) (λ m. rw (decimal_more n m, length-append) (omega (arith, f (n / 10) (omega arith)))) (lt_or_ge n 10)

abbrev tens : ℕ → ℕ
tens zero = 10
tens (suc k) = 10 * tens k

few : (k n : ℕ) → n < tens k → length (decimal n) ≤ suc k
few zero n h = few_one n h
few (suc k) n h = few_more (tens k) (suc k) (few k) n h

twenty : (n : ℕ) → n < 18446744073709551616 → length (decimal n) ≤ 20
twenty n h = few 19 n (omega arith)

either_fits : (b : Bool) (x y : List ℕ) (k : ℕ) → length x ≤ k → length y ≤ k → length (choose b (λ u. x) (λ u. y)) ≤ k
either_fits true x y k h g = h
either_fits false x y k h g = g

word_fits : (m l : ℕ) → l < 18446744073709551616 → length (length_word m l) ≤ 20
unfolding length_word
word_fits m l h = either_fits (eqb m 0) (110 ∷ 111 ∷ 110 ∷ 101 ∷ []) (decimal l) 20 (omega arith) (twenty l h)

run_fits : (m l n : ℕ) → l < 18446744073709551616 → n < 18446744073709551616 → length (run_line m l n) ≤ longest_line
run_fits m l n h g = omega (arith, run_size m l n, word_fits m l h, twenty n g)

refusal_short : (n p : ℕ) → n < 18446744073709551616 → p < 18446744073709551616 → length (refusal_line n p) ≤ longest_line
unfolding refusal_line
refusal_short n p h g =
    omega (arith, length-append (decimal n) (32 ∷ 97 ∷ 116 ∷ 32 ∷ (decimal p ++ (10 ∷ []))), length-append (decimal p) (10 ∷ []), twenty n h, twenty p g)

row_fits : (r : Row) → Small r → length (row_line r) ≤ longest_line
unfolding row_line
row_fits r s =
    either_fits (eqb r.number 0) (run_line r.matched r.length r.steps) (refusal_line r.number r.place) longest_line
    (run_fits r.matched r.length r.steps s.length s.steps) (refusal_short r.number r.place s.number s.place)

refused_most : (r : Row) → row_refused r ≤ 1
unfolding row_refused
refused_most r = by (eqb r.number 0)
  where
    by : (b : Bool) → choose b (λ u. 0) (λ u. 1) ≤ 1
    by true = omega arith
    by false = omega arith

-- ---- one record more

behind : (i : ℕ) (rs : List ℕ) → drop (row_size * i) (drop row_size rs) ≡ drop (row_size * suc i) rs
behind i rs = let e : row_size + row_size * i ≡ row_size * suc i = omega arith in drop-drop (row_size * i) row_size rs ∙ ap (λ k. drop k rs) e

lines_more : (i : ℕ) (rs : List ℕ) → record_lines (suc i) rs ≡ record_lines i rs ++ row_line (row_from (drop (row_size * i) rs))
unfolding record_lines
lines_more zero rs = append-nil (row_line (row_from rs))
lines_more (suc i) rs =
    ap (λ x. row_line (row_from rs) ++ x) (lines_more i (drop row_size rs))
    ∙ ap (λ x. row_line (row_from rs) ++ (record_lines i (drop row_size rs) ++ row_line (row_from x))) (behind i rs)
    ∙ sym (append_assoc (row_line (row_from rs)) (record_lines i (drop row_size rs)) (row_line (row_from (drop (row_size * suc i) rs))))

refused_more : (i : ℕ) (rs : List ℕ) → records_refused (suc i) rs ≡ records_refused i rs + row_refused (row_from (drop (row_size * i) rs))
unfolding records_refused
refused_more zero rs = omega arith
refused_more (suc i) rs = omega (arith, refused_more i (drop row_size rs), ap (λ x. row_refused (row_from x)) (behind i rs))

-- i of k records are put, into an output that was o₀
pub record Putting (rs : List ℕ) (k : ℕ) (o₀ o : List ℕ) (i at c : ℕ) : Type 0 where
  pub some : i ≤ k
  pub wrote : Wrote o₀ 0 (record_lines i rs) o at
  pub low : at ≤ longest_line * i
  pub count : c ≡ records_refused i rs
  pub few : c ≤ i

pub putting_none : (rs : List ℕ) (k : ℕ) (o : List ℕ) → Putting rs k o o 0 0 0
unfolding record_lines records_refused
putting_none rs k o = record { some = omega arith; wrote = wrote_none o 0; low = omega arith; count = refl; few = omega arith }

module _ {rs : List ℕ} {k : ℕ} {o₀ o : List ℕ} {i at c : ℕ} (p : Putting rs k o₀ o i at c) where
  pub putting_room : i < k → longest_line * k ≤ length o₀ → {r : Row} → Small r → Room o at (row_line r)
  putting_room h g {r} s = record { fits = omega (arith, p.low, row_fits r s, wrote_length p.wrote) }

  pub putting_more : i < k → {r : Row} {o' : List ℕ} {at' d : ℕ} → r ≡ row_from (drop (row_size * i) rs) → Small r → Wrote o at (row_line r) o' at' → d ≡ row_refused r → Putting rs k o₀ o' (i + 1) at' (c + d)
  putting_more h {r} {o'} {at'} {d} e s w g =
      let z : i + 1 ≡ suc i = add-one i in
      let l : record_lines i rs ++ row_line r ≡ record_lines (i + 1) rs = ap (λ x. record_lines i rs ++ row_line x) e ∙ sym (ap (λ j. record_lines j rs) z ∙ lines_more i rs) in
      let n : records_refused (i + 1) rs ≡ records_refused i rs + row_refused r = ap (λ j. records_refused j rs) z ∙ refused_more i rs ∙ ap (λ x. records_refused i rs + row_refused x) (sym e) in
      record {
        some = omega arith;
        wrote = rw (← l) (wrote_then p.wrote w);
        low = omega (arith, p.low, row_fits r s, w.next);
        count = omega (arith, p.count, n);
        few = omega (arith, p.few, refused_most r);
      }

  -- all of them
  pub put_all : k ≤ i → Wrote o₀ 0 (record_lines k rs) o at × ((c ≡ records_refused k rs) × (at ≤ longest_line * k))
  put_all h =
      let z : i ≡ k = omega (arith, p.some) in
      (rw z at p.wrote, (p.count ∙ ap (λ j. records_refused j rs) z, omega (arith, p.low)))

pub refused_one : (r : Row) {d : ℕ} → d ≡ row_refused r → d ≤ 1
refused_one r e = omega (arith, refused_most r)

-- a record's numbers by their places
pub record_at : (rs : List ℕ) (i : ℕ) → record { number = get_or rs (row_size * i) 0; place = get_or rs (row_size * i + 1) 0; matched = get_or rs (row_size * i + 2) 0; length = get_or rs (row_size * i + 3) 0; steps = get_or rs (row_size * i + 4) 0 } ≡ row_from (drop (row_size * i) rs)
unfolding row_from
record_at rs i =
    let z : row_size * i + 0 ≡ row_size * i = omega arith in
    rw (get_or-drop (row_size * i) rs 0 0, get_or-drop (row_size * i) rs 1 0, get_or-drop (row_size * i) rs 2 0, get_or-drop (row_size * i) rs 3 0, get_or-drop (row_size * i) rs 4 0, z)
