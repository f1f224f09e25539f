-- Laws of the buffers. Each loop's invariant says that the whole comes to what is left to do, done to the buffer as it stands.
use Prim.Native.Nat.{ℕ, zero, suc, min, ◌+◌, ◌-◌, ◌*◌, ◌/◌, ◌≤◌, ◌<◌}
use mathlib.Core.Path.{◌≡◌, refl, sym, ap, ◌∙◌}
use mathlib.Core.Bool.{Bool, true, false, not}
use mathlib.Core.List.{List, [], ◌∷◌, ◌++◌, append-nil, append_assoc}
use native.Mathlib.Numerals.{add-one}
use native.Mathlib.Nat.{add-zero}
use native.Mathlib.Omega.{arith}
use lib.Dec.{leb, ltb, eqb}
use lib.ListN.{length, take, drop, set, get_or, length-set, length-take, length-drop}
use mathlib.Core.Logic.{⊎_elim}
use Rattle.std.proofs.lemmas.Bool.{cases_lt}
use Rattle.std.proofs.lemmas.List.{take-take}
use lib.Seq.{take-suc-set, sets, sets-eq}
use Rattle.std.proofs.lemmas.Slice.{put_mid-paste}
use borrow.Rule.Slice.PartMut.{put_mid}
use borrow.Author.Tests.{lt-ltb, le-ltb, le-leb, lt-leb, leb-true, leb-false}
use Rattle.text.proofs.Booleans.{choose_true, choose_false, choose_by}
use Rattle.vectors.specs.Vectors.{find_of, word_of, hex_value, number_from, one_if}
use Rattle.vectors.specs.Buffers.{Filled, filled, put, unhexed, appended, times, repeated, pieces_from, between, parts_from, more_of, kept_if, numbers_from}
use Rattle.vectors.proofs.Vectors.{step, end}

-- ---- putting a list

pub put_full : (o : List ℕ) (k : ℕ) (xs : List ℕ) → length o ≤ k → put o k xs ≡ filled k o
unfolding put
put_full o k [] h = refl
put_full o k (x ∷ xs) h = rw (le-leb (length o) k h)

pub put_on : (o : List ℕ) (k x : ℕ) (xs : List ℕ) → k < length o → put o k (x ∷ xs) ≡ put (set o k x) (k + 1) xs
unfolding put
put_on o k x xs h = rw (lt-leb (length o) k h)

-- ---- unhex

abbrev pub UnhexInv : List ℕ → List ℕ → List ℕ → ℕ → Type 0
UnhexInv s o₀ o k = put o₀ 0 (unhexed s) ≡ put o k (unhexed (drop (2 * k) s))

unhexed_on : (s : List ℕ) (i : ℕ) → i + 1 < length s → unhexed (drop i s) ≡ (hex_value (get_or s i 0) * 16 + hex_value (get_or s (i + 1) 0)) ∷ unhexed (drop (i + 1 + 1) s)
unfolding unhexed
unhexed_on s i h = ap unhexed (step s i (omega arith) ∙ ap (λ (l : List ℕ). get_or s i 0 ∷ l) (step s (i + 1) h))

unhexed_short : (l : List ℕ) → length l ≤ 1 → unhexed l ≡ []
unfolding unhexed
unhexed_short [] h = refl
unhexed_short (x ∷ []) h = refl
unhexed_short (x ∷ y ∷ l) h = absurd (omega arith)

module _ (s o₀ o : List ℕ) (k : ℕ) (v : UnhexInv s o₀ o k) where
  pub unhex_more : (x y : ℕ) → 2 * k + 1 < length s → k < length o → x ≡ hex_value (get_or s (2 * k) 0) → y ≡ hex_value (get_or s (2 * k + 1) 0) → UnhexInv s o₀ (set o k (x * 16 + y)) (k + 1)
  unhex_more x y h l e f =
      let i : 2 * k + 1 + 1 ≡ 2 * (k + 1) = omega arith in
      v ∙ ap (put o k) (unhexed_on s (2 * k) h) ∙ put_on o k _ _ l ∙ rw (e, f, i)

  pub unhex_done : (n : ℕ) → n ≡ k → n ≡ min (length o) (length s / 2) → filled n o ≡ put o₀ 0 (unhexed s)
  unfolding put
  unhex_done n e m =
      rw e
      (⊎_elim
      (λ (h : k < length o). sym (v ∙ ap (put o k) (unhexed_short (drop (2 * k) s) (simp length-drop (omega arith)))))
      (λ h. sym (v ∙ put_full o k _ h))
      (cases_lt k (length o)))

-- ---- append

-- that is n of its elements, one after another
put_sets : (o : List ℕ) (k n : ℕ) (xs : List ℕ) → k ≤ length o → n ≡ min (length xs) (length o - k) → put o k xs ≡ filled (k + n) (sets o k (take n xs))
unfolding put
put_sets o k n [] h e = let z : n ≡ 0 = omega arith in rw (z, add-zero)
put_sets o k n (x ∷ xs) h e =
    choose_by (λ (f : Filled). f ≡ filled (k + n) (sets o k (take n (x ∷ xs)))) (leb (length o) k) _ _
    (λ t. let l = leb-true (length o) k t in let z : n ≡ 0 = omega arith in rw (z, add-zero))
    (λ t.
    let l = leb-false (length o) k t in
    let z : n ≡ suc (n - 1) = omega arith in
    let m : n - 1 ≡ min (length xs) (length (set o k x) - (k + 1)) = simp length-set (omega arith) in
    let j : k + 1 + (n - 1) ≡ k + n = omega arith in
    let q : sets (set o k x) (k + 1) (take (n - 1) xs) ≡ sets o k (take n (x ∷ xs)) = rw add-one (ap (λ (i : ℕ). sets o k (take i (x ∷ xs))) (sym z)) in
    put_sets (set o k x) (k + 1) (n - 1) xs (simp length-set (omega arith)) m ∙ ap (λ (i : ℕ). filled i (sets (set o k x) (k + 1) (take (n - 1) xs))) j ∙ ap (filled (k + n)) q)

pub appended_past : (o : List ℕ) (from : ℕ) (x : List ℕ) → length o < from → filled 0 o ≡ appended o from x
unfolding appended
appended_past o from x h = rw (lt-ltb (length o) from h)

pub appended_is : (o : List ℕ) (from n : ℕ) (x y : List ℕ) → from ≤ length o → n ≡ min (length x) (length o - from) → y ≡ take n x → filled (from + n) (put_mid from (from + n - from) o y) ≡ appended o from x
unfolding appended
appended_is o from n x y h e f =
    let k : n ≡ from + n - from = omega arith in
    let l : n ≡ length (take n x) = simp length-take (omega arith) in
    let e₂ = sets-eq (take n x) o from (omega arith) in
    let t = take-take n n x (omega arith) in
    rw (le-ltb (length o) from h)
    (ap (filled (from + n)) (put_mid-paste from (from + n - from) o y (take n x) n f k l ∙ ap (λ (z : List ℕ). take from o ++ z ++ drop (from + n) o) t
    ∙ ap (λ (j : ℕ). take from o ++ take n x ++ drop (from + j) o) l ∙ sym e₂)
    ∙ sym (put_sets o from n x h e))

-- ---- repeat

put_nothing : (o : List ℕ) (k : ℕ) (xs : List ℕ) → length xs ≡ 0 → put o k xs ≡ filled k o
unfolding put
put_nothing o k [] e = refl
put_nothing o k (x ∷ xs) e = absurd (omega arith)

-- a piece that isn't put changes nothing, however often
times_stays : (n : ℕ) (x o : List ℕ) (k : ℕ) → k ≤ length o → put o k x ≡ filled k o → times n x (filled k o) ≡ filled k o
unfolding times appended
times_stays zero x o k h e = refl
times_stays (suc n) x o k h e =
    let q : appended o k x ≡ filled k o = rw (le-ltb (length o) k h) e in
    ap (times n x) q ∙ times_stays n x o k h e

abbrev pub RepeatInv : ℕ → List ℕ → List ℕ → ℕ → List ℕ → ℕ → ℕ → Type 0
RepeatInv n x o₀ from o k i = repeated n x o₀ from ≡ times (n - i) x (filled k o)

-- within a turn what is left of it is the piece from a byte on
abbrev pub FewInv : ℕ → List ℕ → List ℕ → ℕ → List ℕ → ℕ → ℕ → ℕ → Type 0
FewInv n x o₀ from o k i j = repeated n x o₀ from ≡ times (n - (i + 1)) x (put o k (drop j x))

pub repeat_past : (n : ℕ) (x o : List ℕ) (from : ℕ) → length o < from → filled 0 o ≡ repeated n x o from
unfolding repeated
repeat_past n x o from h = rw (lt-ltb (length o) from h)

pub repeat_start : (n : ℕ) (x o : List ℕ) (from : ℕ) → from ≤ length o → RepeatInv n x o from o from 0
unfolding repeated
repeat_start n x o from h =
    let z : n ≡ n - 0 = omega arith in
    rw (le-ltb (length o) from h) (ap (λ (m : ℕ). times m x (filled from o)) z)

module _ (n : ℕ) (x o₀ : List ℕ) (from : ℕ) (o : List ℕ) (k i : ℕ) (v : RepeatInv n x o₀ from o k i) where
  pub repeat_more : (o' : List ℕ) (k' : ℕ) → i < n → filled k' o' ≡ appended o k x → RepeatInv n x o₀ from o' k' (i + 1)
  unfolding times
  repeat_more o' k' h e =
      let z : n - i ≡ suc (n - (i + 1)) = omega arith in
      v ∙ ap (λ (m : ℕ). times m x (filled k o)) z ∙ ap (times (n - (i + 1)) x) (sym e)

  pub repeat_done : n ≤ i → filled k o ≡ repeated n x o₀ from
  unfolding times
  repeat_done h = let z : n - i ≡ 0 = omega arith in sym (v ∙ ap (λ (m : ℕ). times m x (filled k o)) z)

  pub repeat_full : k ≤ length o → length o ≤ k → filled k o ≡ repeated n x o₀ from
  repeat_full h l = sym (v ∙ times_stays (n - i) x o k h (put_full o k x l))

  pub few_start : i < n → k ≤ length o → FewInv n x o₀ from o k i 0
  unfolding times appended
  few_start h l =
      let z : n - i ≡ suc (n - (i + 1)) = omega arith in
      let q : appended o k x ≡ put o k x = rw (le-ltb (length o) k l) in
      v ∙ ap (λ (m : ℕ). times m x (filled k o)) z ∙ ap (times (n - (i + 1)) x) q

pub repeat_nothing : (n : ℕ) (x o : List ℕ) (from : ℕ) → from ≤ length o → length x ≡ 0 → filled from o ≡ repeated n x o from
unfolding repeated
repeat_nothing n x o from h e = rw (le-ltb (length o) from h) (sym (times_stays n x o from h (put_nothing o from x e)))

module _ (n : ℕ) (x o₀ : List ℕ) (from : ℕ) (o : List ℕ) (k i j : ℕ) (v : FewInv n x o₀ from o k i j) where
  pub few_more : j < length x → k < length o → FewInv n x o₀ from (set o k (get_or x j 0)) (k + 1) i (j + 1)
  few_more h l = v ∙ ap (λ (xs : List ℕ). times (n - (i + 1)) x (put o k xs)) (step x j h) ∙ ap (times (n - (i + 1)) x) (put_on o k _ _ l)

  pub few_full : k ≤ length o → length o ≤ k → filled k o ≡ repeated n x o₀ from
  few_full h l = sym (v ∙ ap (times (n - (i + 1)) x) (put_full o k _ l) ∙ times_stays (n - (i + 1)) x o k h (put_full o k x l))

  pub few_end : length x ≤ j → RepeatInv n x o₀ from o k (i + 1)
  unfolding put
  few_end h = v ∙ ap (λ (xs : List ℕ). times (n - (i + 1)) x (put o k xs)) (end x j h)

-- ---- numbers

abbrev pub NumbersInv : List ℕ → List ℕ → ℕ → List ℕ → ℕ → ℕ → Type 0
NumbersInv s o₀ v o k i = numbers_from 0 o₀ 0 s ≡ numbers_from v o k (drop i s)

module _ (s o₀ : List ℕ) (v : ℕ) (o : List ℕ) (k i : ℕ) (w : NumbersInv s o₀ v o k i) where
  pub numbers_more : (m k' u : ℕ) (comma : Bool) → i < length s → k < length o → m ≡ more_of v (get_or s i 0) → eqb (get_or s i 0) 44 ≡ comma → k' ≡ k + one_if comma
      → u ≡ kept_if m (not comma) → NumbersInv s o₀ u (set o k m) k' (i + 1)
  unfolding numbers_from
  numbers_more m k' u comma h l e c f g = w ∙ ap (numbers_from v o k) (step s i h) ∙ rw (lt-leb (length o) k l, g, f, e, c)

  pub numbers_full : length o ≤ k → filled k o ≡ numbers_from 0 o₀ 0 s
  unfolding numbers_from
  numbers_full h = sym (w ∙ by (drop i s))
    where
      by : (xs : List ℕ) → numbers_from v o k xs ≡ filled k o
      by [] = refl
      by (x ∷ xs) = rw (le-leb (length o) k h)

  pub numbers_end : length s ≤ i → filled k o ≡ numbers_from 0 o₀ 0 s
  unfolding numbers_from
  numbers_end h = sym (w ∙ ap (numbers_from v o k) (end s i h))

-- ---- pieces: what is put into a buffer from its front on, and then taken from there

none_taken : (n : ℕ) → take {A = ℕ} n [] ≡ []
none_taken zero = refl
none_taken (suc n) = refl

put_taken : (o : List ℕ) (k : ℕ) (xs : List ℕ) → k ≤ length o → take (put o k xs).used (put o k xs).held ≡ take k o ++ take (length o - k) xs
unfolding put
put_taken o k [] h = sym (ap (λ (l : List ℕ). take k o ++ l) (none_taken (length o - k)) ∙ append-nil (take k o))
put_taken o k (x ∷ xs) h =
    choose_by (λ (f : Filled). take f.used f.held ≡ take k o ++ take (length o - k) (x ∷ xs)) (leb (length o) k) _ _
    (λ e.
    let l = leb-true (length o) k e in
    let z : length o - k ≡ 0 = omega arith in
    sym (ap (λ (n : ℕ). take k o ++ take n (x ∷ xs)) z ∙ append-nil (take k o)))
    (λ e.
    let l = leb-false (length o) k e in
    let z : length o - k ≡ suc (length o - (k + 1)) = omega arith in
    let n : length (set o k x) - (k + 1) ≡ length o - (k + 1) = ap (λ (m : ℕ). m - (k + 1)) (length-set o k x) in
    let t : take (k + 1) (set o k x) ≡ take k o ++ (x ∷ []) = rw add-one (take-suc-set o k x l) in
    put_taken (set o k x) (k + 1) xs (simp length-set (omega arith))
    ∙ ap (λ (m : ℕ). take (k + 1) (set o k x) ++ take m xs) n
    ∙ ap (λ (l : List ℕ). l ++ take (length o - (k + 1)) xs) t
    ∙ append_assoc (take k o) (x ∷ []) (take (length o - (k + 1)) xs)
    ∙ ap (λ (m : ℕ). take k o ++ take m (x ∷ xs)) (sym z))

-- what was put into a buffer of n elements, from its front on
put_front : (o o' : List ℕ) (m n : ℕ) (x : List ℕ) → length o ≡ n → filled m o' ≡ put o 0 x → take m o' ≡ take n x
put_front o o' m n x l e =
    let z : length o - 0 ≡ n = omega arith in
    ap (λ (f : Filled). take f.used f.held) e ∙ put_taken o 0 x (omega arith) ∙ ap (λ (k : ℕ). take k x) z

abbrev pub PiecesInv : List ℕ → ℕ → List ℕ → List ℕ → ℕ → ℕ → Type 0
PiecesInv line at o₀ o k turns = pieces_from 9 line at (filled 0 o₀) ≡ pieces_from (9 - turns) line (at + 2 * turns) (filled k o)

pub pieces_start : (line : List ℕ) (at : ℕ) (o : List ℕ) → PiecesInv line at o o 0 0
pieces_start line at o = let z : at ≡ at + 2 * 0 = omega arith in ap (λ (a : ℕ). pieces_from 9 line a (filled 0 o)) z

module _ (line : List ℕ) (at : ℕ) (o₀ o : List ℕ) (k turns : ℕ) (v : PiecesInv line at o₀ o k turns) where
  pub pieces_more : (w₁ w₂ p p' o' : List ℕ) (n m k' : ℕ) → turns < 9 → length p ≡ 4096 → w₁ ≡ word_of line (at + 2 * turns) → w₂ ≡ word_of line (at + 2 * turns + 1)
      → n ≡ number_from 0 w₁ → filled m p' ≡ put p 0 (unhexed w₂) → filled k' o' ≡ repeated n (take m p') o k → PiecesInv line at o₀ o' k' (turns + 1)
  unfolding pieces_from
  pieces_more w₁ w₂ p p' o' n m k' h l e₁ e₂ f g r =
      let z : 9 - turns ≡ suc (9 - (turns + 1)) = omega arith in
      let a : at + 2 * turns + 2 ≡ at + 2 * (turns + 1) = omega arith in
      let t = put_front p p' m 4096 (unhexed w₂) l g in
      let q : filled k' o' ≡ repeated (number_from 0 (word_of line (at + 2 * turns))) (take 4096 (unhexed (word_of line (at + 2 * turns + 1)))) o k = cc in
      v ∙ ap (λ (j : ℕ). pieces_from j line (at + 2 * turns) (filled k o)) z
      ∙ ap (pieces_from (9 - (turns + 1)) line (at + 2 * turns + 2)) (sym q)
      ∙ ap (λ (j : ℕ). pieces_from (9 - (turns + 1)) line j (filled k' o')) a

  pub pieces_done : 9 ≤ turns → filled k o ≡ pieces_from 9 line at (filled 0 o₀)
  unfolding pieces_from
  pieces_done h = let z : 9 - turns ≡ 0 = omega arith in sym (v ∙ ap (λ (j : ℕ). pieces_from j line (at + 2 * turns) (filled k o)) z)

-- ---- parts: n is enough for the places that are left

abbrev pub PartsInv : List ℕ → List ℕ → ℕ → List ℕ → ℕ → Type 0
PartsInv s o₀ at o k = (n : ℕ) × (length s ≤ at + n) × (parts_from (length s) s 0 (filled 0 o₀) ≡ parts_from n s at (filled k o))

pub parts_start : (s o : List ℕ) → PartsInv s o 0 o 0
parts_start s o = (length s, omega arith, refl)

-- a search from the end on
find_behind : (s : List ℕ) (at b : ℕ) (wanted : Bool) → length s ≤ at → length s ≤ find_of s at b wanted
unfolding find_of
find_behind s at b wanted h = choose_by (λ (r : ℕ). length s ≤ r) (ltb (length s) at) _ _ (λ e. omega arith) (λ e. omega arith)

module _ (s o₀ : List ℕ) (at : ℕ) (o : List ℕ) (k : ℕ) where
  pub parts_colon : PartsInv s o₀ at o k → length s ≤ find_of s at 58 true → filled k o ≡ parts_from (length s) s 0 (filled 0 o₀)
  unfolding parts_from
  parts_colon (zero, l, e) h = sym e
  parts_colon (suc n, l, e) h = sym (e ∙ choose_true (leb (length s) (find_of s at 58 true)) _ _ (le-leb (length s) (find_of s at 58 true) h))

  pub parts_done : PartsInv s o₀ at o k → length s ≤ at → filled k o ≡ parts_from (length s) s 0 (filled 0 o₀)
  parts_done v h = parts_colon v (find_behind s at 58 true h)

  pub parts_stop : (colon : ℕ) → PartsInv s o₀ at o k → colon ≡ find_of s at 58 true → length s ≤ colon → filled k o ≡ parts_from (length s) s 0 (filled 0 o₀)
  parts_stop colon v e h = parts_colon v (rw e at h)

  module _ (colon comma n m k' : ℕ) (p p' o' : List ℕ) (c : colon ≡ find_of s at 58 true) (inside : colon < length s) (after : at ≤ colon)
      (d : comma ≡ find_of s (colon + 1) 44 true) (behind : colon + 1 ≤ comma) (l : length p ≡ 1024) (f : n ≡ number_from 0 (between s at colon))
      (g : filled m p' ≡ put p 0 (unhexed (between s (colon + 1) comma))) (r : filled k' o' ≡ repeated n (take m p') o k) where
    pub parts_more : PartsInv s o₀ at o k → PartsInv s o₀ (comma + 1) o' k'
    unfolding parts_from
    parts_more (zero, b, e) = absurd (omega arith)
    parts_more (suc j, b, e) =
        let t = put_front p p' m 1024 (unhexed (between s (colon + 1) comma)) l g in
        let q : filled k' o' ≡ repeated (number_from 0 (between s at colon)) (take 1024 (unhexed (between s (colon + 1) comma))) o k = cc in
        let i : leb (length s) (find_of s at 58 true) ≡ false = ap (leb (length s)) (sym c) ∙ lt-leb (length s) colon inside in
        (j, omega arith, e ∙ choose_false (leb (length s) (find_of s at 58 true)) _ _ i ∙ rw (← c, ← d) (ap (parts_from j s (comma + 1)) (sym q)))
