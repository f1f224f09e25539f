-- Laws of going through a list piece by piece, and of writing what the pieces give.
use Rattle.std.specs.Prelude.{ℕ, Option, Some, None}
use Prim.Native.Nat.{ℕ, zero, suc, ◌+◌, ◌≤◌, ◌<◌}
use mathlib.Core.Path.{◌≡◌, refl, sym, ap, ◌∙◌}
use mathlib.Core.List.{List, [], ◌∷◌, ◌++◌}
use native.Mathlib.Nat.{add_assoc, zero-add}
use native.Mathlib.Omega.{arith}
use lib.ListN.{length, get_or, drop, length-append}
use lib.Seq.{drop-drop, sets}
use Rattle.text.specs.Scans.{Piece, spelled, later, sought}
use Rattle.text.specs.Splice.{Room, Wrote, spent}
use Rattle.text.proofs.Tests.{at_byte, at_end}
use Rattle.text.proofs.Splices.{sets_append, wrote_length, spent_append}

pub later_zero : (r : Option ℕ) → later 0 r ≡ r
later_zero None = refl
later_zero (Some n) = ap Some (zero-add n)

pub later_later : (a b : ℕ) (r : Option ℕ) → later a (later b r) ≡ later (a + b) r
later_later a b None = refl
later_later a b (Some n) = simp add_assoc

later_suc : (k : ℕ) (r : Option ℕ) → later 1 (later k r) ≡ later (suc k) r
later_suc k r = later_later 1 k r ∙ ap (λ (n : ℕ). later n r) (omega arith)

module _ (p : List ℕ → Option ℕ) where
  pub sought_pending : (k : ℕ) (xs : List ℕ) → sought p k xs ≡ later k (sought p 0 (drop k xs))
  unfolding sought
  sought_pending zero [] = refl
  sought_pending (suc k) [] = refl
  sought_pending zero (x ∷ xs) = sym (later_zero (sought p 0 (x ∷ xs)))
  sought_pending (suc k) (x ∷ xs) = ap (later 1) (sought_pending k xs) ∙ later_suc k (sought p 0 (drop k xs))

  pub past_head : (x : ℕ) (xs : List ℕ) (n : ℕ) → p (x ∷ xs) ≡ Some n → sought p 0 (x ∷ xs) ≡ later 1 (sought p n xs)
  unfolding sought
  past_head x xs n h = rw h

  stop_head : (x : ℕ) (xs : List ℕ) → p (x ∷ xs) ≡ None → sought p 0 (x ∷ xs) ≡ Some 0
  unfolding sought
  stop_head x xs h = rw h

  pub sought_past : (s : List ℕ) (i n : ℕ) → i < length s → p (drop i s) ≡ Some n
      → later i (sought p 0 (drop i s)) ≡ later (i + (n + 1)) (sought p 0 (drop (i + (n + 1)) s))
  sought_past s i n h e =
      let b : drop i s ≡ get_or s i 0 ∷ drop (i + 1) s = at_byte s i h in
      let q : sought p 0 (drop i s) ≡ later 1 (later n (sought p 0 (drop n (drop (i + 1) s)))) =
      rw b (past_head _ _ n (rw b at e) ∙ ap (later 1) (sought_pending n (drop (i + 1) s))) in
      let k : (i + 1) + n ≡ i + (n + 1) = omega arith in
      let l : i + (1 + n) ≡ i + (n + 1) = omega arith in
      ap (later i) (q ∙ later_later 1 n (sought p 0 (drop n (drop (i + 1) s)))) ∙ later_later i (1 + n) (sought p 0 (drop n (drop (i + 1) s))) ∙ rw (drop-drop, k, l)

  pub sought_stop : (s : List ℕ) (i : ℕ) → i < length s → p (drop i s) ≡ None → later i (sought p 0 (drop i s)) ≡ Some i
  sought_stop s i h e =
      let b : drop i s ≡ get_or s i 0 ∷ drop (i + 1) s = at_byte s i h in
      let q : sought p 0 (drop i s) ≡ Some 0 = rw b (stop_head _ _ (rw b at e)) in
      let z : i + 0 ≡ i = omega arith in
      ap (later i) q ∙ ap Some z

  pub sought_end : (s : List ℕ) (i : ℕ) → length s ≤ i → later i (sought p 0 (drop i s)) ≡ None
  unfolding sought
  sought_end s i h = rw (at_end s i h)

module _ (p : List ℕ → Piece) where
  pub spelled_pending : (k : ℕ) (xs : List ℕ) → spelled p k xs ≡ spelled p 0 (drop k xs)
  unfolding spelled
  spelled_pending zero [] = refl
  spelled_pending (suc k) [] = refl
  spelled_pending zero (x ∷ xs) = refl
  spelled_pending (suc k) (x ∷ xs) = spelled_pending k xs

  pub head_step : (x : ℕ) (xs : List ℕ) → spelled p 0 (x ∷ xs) ≡ (p (x ∷ xs)).gives ++ spelled p 0 (drop (p (x ∷ xs)).more xs)
  unfolding spelled
  head_step x xs = ap (λ (l : List ℕ). (p (x ∷ xs)).gives ++ l) (spelled_pending (p (x ∷ xs)).more xs)

  pub spelled_step : (s : List ℕ) (i n : ℕ) (g : List ℕ) → i < length s → (p (drop i s)).gives ≡ g → (p (drop i s)).more ≡ n
      → spelled p 0 (drop i s) ≡ g ++ spelled p 0 (drop (i + (n + 1)) s)
  spelled_step s i n g h e f =
      let b : drop i s ≡ get_or s i 0 ∷ drop (i + 1) s = at_byte s i h in
      let k : (i + 1) + n ≡ i + (n + 1) = omega arith in
      let q : spelled p 0 (drop i s) ≡ (p (drop i s)).gives ++ spelled p 0 (drop (p (drop i s)).more (drop (i + 1) s)) =
      rw b (head_step (get_or s i 0) (drop (i + 1) s)) in
      q ∙ rw (e, f, drop-drop, k)

  pub spelled_end : (s : List ℕ) (i : ℕ) → length s ≤ i → spelled p 0 (drop i s) ≡ []
  unfolding spelled
  spelled_end s i h = rw (at_end s i h)

-- what is left to be written comes to the same as all
pub record Same (o₀ : List ℕ) (at₀ : ℕ) (t₀ o : List ℕ) (at : ℕ) (t : List ℕ) : Type 0 where
  pub now : sets o at t ≡ sets o₀ at₀ t₀
  pub next : at + length t ≡ at₀ + length t₀
  pub long : length o ≡ length o₀

pub same_start : (o : List ℕ) (at : ℕ) (t : List ℕ) → Same o at t o at t
same_start o at t = record { now = refl; next = refl; long = refl }

pub same_step : {o₀ t₀ o x t o' : List ℕ} (y : List ℕ) {at₀ at at' : ℕ} → Same o₀ at₀ t₀ o at t → t ≡ x ++ y → Wrote o at x o' at' → Same o₀ at₀ t₀ o' at' y
same_step {o₀} {t₀} {o} {x} {t} {o'} y {at₀} {at} {at'} s e w = record {
  now = rw (w.now, w.next) (sym (sets_append o at x y) ∙ ap (sets o at) (sym e) ∙ s.now);
  next = omega (arith, w.next, s.next, ap length e, length-append x y);
  long = wrote_length w ∙ s.long;
}

pub same_room : {o₀ t₀ o x t : List ℕ} (y : List ℕ) {at₀ at : ℕ} → Same o₀ at₀ t₀ o at t → t ≡ x ++ y → Room o₀ at₀ t₀ → Room o at x
same_room {o₀} {t₀} {o} {x} {t} y s e r = record { fits = omega (arith, s.next, s.long, r.fits, ap length e, length-append x y) }

pub same_end : {o₀ t₀ o t : List ℕ} {at₀ at : ℕ} → Same o₀ at₀ t₀ o at t → t ≡ [] → Wrote o₀ at₀ t₀ o at
same_end {o₀} {t₀} {o} {t} {at₀} {at} s e = record { now = rw e at s.now; next = omega (arith, s.next, ap length e) }

pub spent_step : (left : ℕ) (t x y : List ℕ) → t ≡ x ++ y → spent (spent left x) y ≡ spent left t
spent_step left t x y e = spent_append left x y ∙ ap (spent left) (sym e)
