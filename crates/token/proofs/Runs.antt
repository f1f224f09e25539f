-- Laws of runs of bytes: what a loop's turn does to what is left of a text.
use Prim.Native.Nat.{ℕ, zero, suc, ◌+◌, ◌-◌, ◌≤◌, ◌<◌, max}
use mathlib.Core.Path.{◌≡◌, refl, ap, sym, ◌∙◌}
use mathlib.Core.Bool.{Bool, true, false, true≢false}
use mathlib.Core.Logic.{⊎_elim}
use mathlib.Core.List.{List, [], ◌∷◌}
use native.Mathlib.Nat.{add-zero}
use native.Mathlib.Omega.{arith}
use lib.Dec.{eqb}
use lib.ListN.{length, get_or, take, drop, length-take}
use Rattle.std.proofs.lemmas.List.{get_or-take, get_or-drop}
use lib.Seq.{drop-drop}
use Rattle.text.proofs.Tests.{at_byte, at_end, lt_or_ge}
use borrow.Author.Tests.{eq-eqb, ne_eqb}
use Rattle.text.specs.Booleans.{next_is}
use Rattle.text.proofs.Booleans.{choose_by}
use Rattle.token.specs.Blanks.{run, first, in_line, line, Plain}

go : (p : List ℕ → Bool) (x : ℕ) (xs : List ℕ) → p (x ∷ xs) ≡ true → run p (x ∷ xs) ≡ suc (run p xs)
unfolding run
go p x xs h = rw h

stays : (p : List ℕ → Bool) (x : ℕ) (xs : List ℕ) → p (x ∷ xs) ≡ false → run p (x ∷ xs) ≡ 0
unfolding run
stays p x xs h = rw h

module _ (p : List ℕ → Bool) (s : List ℕ) (i : ℕ) where
  pub run_step : i < length s → p (drop i s) ≡ true → i + run p (drop i s) ≡ (i + 1) + run p (drop (i + 1) s)
  run_step h t =
      let e : drop i s ≡ get_or s i 0 ∷ drop (i + 1) s = at_byte s i h in
      let g : run p (get_or s i 0 ∷ drop (i + 1) s) ≡ suc (run p (drop (i + 1) s)) = go p _ _ (rw e at t) in
      rw (e, g) (omega arith)

  pub run_stop : i < length s → p (drop i s) ≡ false → i + run p (drop i s) ≡ i
  run_stop h t =
      let e : drop i s ≡ get_or s i 0 ∷ drop (i + 1) s = at_byte s i h in
      let g : run p (get_or s i 0 ∷ drop (i + 1) s) ≡ 0 = stays p _ _ (rw e at t) in
      rw (e, g) (add-zero i)

  pub run_over : length s ≤ i → i + run p (drop i s) ≡ i
  unfolding run
  run_over h = rw (at_end s i h) (add-zero i)

-- where a loop that went past each place from `at` on ends: behind the text, or where it began
pub run_rest : (p : List ℕ → Bool) (s : List ℕ) (at i : ℕ) → (at ≤ length s → i ≤ length s) → length s ≤ i → i + run p (drop i s) ≡ at + run p (drop at s)
    → max at (length s) ≡ at + run p (drop at s)
run_rest p s at i below over e =
    let o = run_over p s i over in
    ⊎_elim (λ l. omega (arith, run_over p s at (omega arith))) (λ l. omega arith) (lt_or_ge (length s) at)

-- a byte above CR is neither LF nor CR
pub over : (b n : ℕ) → n ≤ 13 → 13 < b → eqb b n ≡ false
over b n l h = ne_eqb b n (λ e. omega arith)

-- bytes above CR belong to the line
pub line_plain : (n : ℕ) (s : List ℕ) (i : ℕ) → i + n ≤ length s → Plain n s i → i + line (drop i s) ≡ (i + n) + line (drop (i + n) s)
line_plain zero s i h p = rw (add-zero i) refl
line_plain (suc n) s i h p =
    let b = get_or s (i + n) 0 in
    let e : (i + n) + 1 ≡ i + suc n = omega arith in
    let l : i + n < length s = omega arith in
    let a : 13 < b = p.above n (omega arith) in
    let t : in_line (drop (i + n) s) ≡ true = rw (at_byte s (i + n) l, over b 10 (omega arith) a, over b 13 (omega arith) a) refl in
    line_plain n s i (omega arith) (record { above = λ k g. p.above k (omega arith) })
    ∙ run_step in_line s (i + n) l t
    ∙ ap (λ (j : ℕ). j + line (drop j s)) e

-- a test of the first byte at a place
module _ (s : List ℕ) (i : ℕ) (h : i < length s) where
  pub first_at_lem : (f : ℕ → Bool) (b : Bool) → f (get_or s i 0) ≡ b → first f (drop i s) ≡ b
  first_at_lem f b e = ap (first f) (at_byte s i h) ∙ e

  pub next_at : (b : ℕ) → get_or s i 0 ≡ b → next_is b (drop i s) ≡ true
  next_at b e = ap (next_is b) (at_byte s i h) ∙ eq-eqb (get_or s i 0) b e

  pub next_other : (b : ℕ) → (get_or s i 0 ≡ b → ⊥) → next_is b (drop i s) ≡ false
  next_other b e = ap (next_is b) (at_byte s i h) ∙ ne_eqb (get_or s i 0) b e

pub run_in : (p : List ℕ → Bool) (xs : List ℕ) → run p xs ≤ length xs
unfolding run
run_in p [] = omega arith
run_in p (x ∷ xs) =
    let k : run p xs ≤ length xs = run_in p xs in
    choose_by (λ (n : ℕ). n ≤ suc (length xs)) (p (x ∷ xs)) (λ u. suc (run p xs)) (λ u. 0) (λ e. omega arith) (λ e. omega arith)

-- a run whose first byte passes is not empty
pub run_some : (p : List ℕ → Bool) (x : ℕ) (xs : List ℕ) → p (x ∷ xs) ≡ true → 0 < run p (x ∷ xs)
run_some p x xs e = rw (go p x xs e) (omega arith)

pub drop_next : (s : List ℕ) (i : ℕ) → drop 1 (drop (i + 1) s) ≡ drop (i + 2) s
drop_next s i =
    let e : (i + 1) + 1 ≡ i + 2 = omega arith in
    drop-drop 1 (i + 1) s ∙ ap (λ (n : ℕ). drop n s) e

-- what is known of a window of 16 bytes of which k were looked at: b says whether all of these are above CR
pub record Looked (s : List ℕ) (at k : ℕ) (b : Bool) : Type 0 where
  pub inside : k ≤ 16
  pub yes : b ≡ true → Plain k s at
  pub no : b ≡ false → Plain 16 s at → ⊥

pub looked_none : (s : List ℕ) (at : ℕ) → Looked s at 0 true
looked_none s at = record { inside = omega arith; yes = λ e. record { above = λ k l. absurd (omega arith) }; no = λ e p. true≢false e }

-- the window at a place, and a byte of it
abbrev window : List ℕ → ℕ → List ℕ
window s at = take (at + 16 - at) (drop at s)

window_in : (s : List ℕ) (at k : ℕ) → k < length (window s at) → k < 16
window_in s at k l = omega (arith, length-take (at + 16 - at) (drop at s))

window_at : (s : List ℕ) (at k : ℕ) → k < length (window s at) → get_or (window s at) k 0 ≡ get_or s (at + k) 0
window_at s at k l =
    let h : k < 16 = window_in s at k l in
    get_or-take (at + 16 - at) (drop at s) k 0 (omega arith) ∙ get_or-drop at s k 0

pub looked_low : (s : List ℕ) (at k : ℕ) (b : Bool) → Looked s at k b → k < length (take (at + 16 - at) (drop at s)) → get_or (take (at + 16 - at) (drop at s)) k 0 ≤ 13 → Looked s at (k + 1) false
looked_low s at k b w l h =
    let i : k < 16 = window_in s at k l in
    let e : get_or (window s at) k 0 ≡ get_or s (at + k) 0 = window_at s at k l in
    record { inside = omega arith; yes = λ e. absurd (true≢false (sym e)); no = λ n p. omega (arith, p.above k i, h, e) }

pub looked_high : (s : List ℕ) (at k : ℕ) (b : Bool) → Looked s at k b → k < length (take (at + 16 - at) (drop at s)) → 13 < get_or (take (at + 16 - at) (drop at s)) k 0 → Looked s at (k + 1) b
looked_high s at k b w l h =
    let i : k < 16 = window_in s at k l in
    let h' : 13 < get_or s (at + k) 0 = rw (window_at s at k l) at h in
    record {
      inside = omega arith;
      yes = λ e. record {
        above = λ j m. ⊎_elim (λ n. (w.yes e).above j n) (λ n. let z : j ≡ k = omega arith in rw z h') (lt_or_ge j k);
      };
      no = w.no;
    }
