-- Laws of the definitions: each goes through a list from its front, so what is left from an index on is its element there, and what is
-- left behind it.
use Prim.Native.Nat.{ℕ, zero, suc, ◌+◌, ◌*◌, ◌≤◌, ◌<◌}
use mathlib.Core.Path.{◌≡◌, refl, sym, ap, ◌∙◌}
use mathlib.Core.Bool.{Bool, true, false, cond, beq}
use mathlib.Core.List.{List, [], ◌∷◌}
use native.Mathlib.Numerals.{add-one}
use native.Mathlib.Omega.{arith}
use lib.Dec.{eqb}
use lib.ListN.{length, drop, get_or}
use native.Mathlib.Nat.{zero-add}
use Rattle.std.specs.List.{count_by, fold}
use Rattle.std.proofs.lemmas.Bool.{cases_lt}
use mathlib.Core.Logic.{⊎_elim}
use Rattle.std.proofs.lemmas.List.Recursion.{is_count_by}
use lib.Seq.{drop-cons}
use borrow.Author.Tests.{lt-ltb, le-ltb, le-leb, lt-leb}
use Rattle.text.proofs.Booleans.{choose_true, choose_false}
use Rattle.vectors.specs.declared.Part.{Part}
use Rattle.vectors.specs.Vectors.{before, find_of, field_of, past_fields, part_of, word_of, hex_value, number_from, one_if, alone, mixed_of, sum_from}

-- an element and what is left behind it; nothing past the end
pub step : (s : List ℕ) (i : ℕ) → i < length s → drop i s ≡ get_or s i 0 ∷ drop (i + 1) s
step s i h = rw (add-one, drop-cons s i 0)

pub end : (s : List ℕ) (i : ℕ) → length s ≤ i → drop i s ≡ []
end [] zero h = refl
end [] (suc i) h = refl
end (x ∷ s) zero h = absurd (omega arith)
end (x ∷ s) (suc i) h = end s i (omega arith)

-- ---- a search

-- the first from the start on is the first from i on
abbrev pub FindInv : List ℕ → ℕ → ℕ → Bool → ℕ → Type 0
FindInv s at b wanted i = find_of s at b wanted ≡ i + before b wanted (drop i s)

module _ (s : List ℕ) (at b : ℕ) (wanted : Bool) where
  pub find_past : length s < at → find_of s at b wanted ≡ length s
  unfolding find_of
  find_past h = rw (lt-ltb (length s) at h)

  pub find_start : at ≤ length s → FindInv s at b wanted at
  unfolding find_of
  find_start h = rw (le-ltb (length s) at h)

  pub find_here : (i : ℕ) → i < length s → beq (eqb (get_or s i 0) b) wanted ≡ true → FindInv s at b wanted i → i ≡ find_of s at b wanted
  unfolding before
  find_here i h e v =
      let z : before b wanted (drop i s) ≡ 0 = ap (before b wanted) (step s i h) ∙ choose_true (beq (eqb (get_or s i 0) b) wanted) _ _ e in
      omega arith

  pub find_on : (i : ℕ) → i < length s → beq (eqb (get_or s i 0) b) wanted ≡ false → FindInv s at b wanted i → FindInv s at b wanted (i + 1)
  unfolding before
  find_on i h e v =
      let z : before b wanted (drop i s) ≡ suc (before b wanted (drop (i + 1) s)) = ap (before b wanted) (step s i h) ∙ choose_false (beq (eqb (get_or s i 0) b) wanted) _ _ e in
      omega arith

  -- none was met up to the end
  pub find_none : (i : ℕ) → (at ≤ length s → i ≤ length s) → (at ≤ length s → FindInv s at b wanted i) → length s ≤ i → length s ≡ find_of s at b wanted
  unfolding before
  find_none i l v h =
      ⊎_elim (λ k. sym (find_past k))
      (λ k.
      let e = v k in
      let z : before b wanted (drop i s) ≡ 0 = ap (before b wanted) (end s i h) in
      omega (arith, l k))
      (cases_lt (length s) at)

-- ---- fields

pub field_is : (s : List ℕ) (at a z : ℕ) → a ≡ find_of s at 32 false → z ≡ find_of s a 32 true → ◌≡◌ {A = Part} (record { start = a; end = z }) (field_of s at)
unfolding field_of
field_is s at a z e f =
    let g = f ∙ ap (λ (k : ℕ). find_of s k 32 true) e in
    (λ i. record { start = e i; end = g i })

pub past_none : (s : List ℕ) → 0 ≡ past_fields s 0
unfolding past_fields
past_none s = refl

pub past_more : (s : List ℕ) (at i : ℕ) (p : Part) → p ≡ field_of s at → at ≡ past_fields s i → p.end ≡ past_fields s (i + 1)
unfolding past_fields
past_more s at i p e f = rw add-one (ap (λ (q : Part). q.end) e ∙ ap (λ (k : ℕ). (field_of s k).end) f)

pub word_is : (s : List ℕ) (k at i : ℕ) (p : Part) → i ≡ k → p ≡ field_of s at → at ≡ past_fields s i → part_of s p ≡ word_of s k
unfolding word_of
word_is s k at i p z e f = ap (part_of s) (e ∙ ap (field_of s) (f ∙ ap (past_fields s) z))

-- ---- numbers, counts and sums

pub number_full : (v : ℕ) (xs : List ℕ) → 1000000000000000000 ≤ v → number_from v xs ≡ v
unfolding number_from
number_full v [] h = refl
number_full v (x ∷ xs) h = rw (le-leb 1000000000000000000 v h)

module _ (s : List ℕ) (i : ℕ) where
  pub number_more : (v d : ℕ) → i < length s → v < 1000000000000000000 → d ≡ hex_value (get_or s i 0) → number_from 0 s ≡ number_from v (drop i s)
      → number_from 0 s ≡ number_from (v * 10 + d) (drop (i + 1) s)
  unfolding number_from
  number_more v d h l e w = w ∙ ap (number_from v) (step s i h) ∙ rw (lt-leb 1000000000000000000 v l, e)

  pub number_end : (v : ℕ) → length s ≤ i → number_from v (drop i s) ≡ v
  unfolding number_from
  number_end v h = ap (number_from v) (end s i h)

-- ---- counts and sums

one_more : (b : Bool) (n : ℕ) → one_if b + n ≡ cond b (1 + n) n
one_more true n = refl
one_more false n = zero-add n

pub alone_counts : (v : ℕ) (xs : List ℕ) → count_by (λ x. eqb x v) xs ≡ alone v xs
unfolding alone
alone_counts v xs = sym (is_count_by (alone v) (λ x. eqb x v) refl (λ x ys. one_more (eqb x v) (alone v ys)) xs)

pub sum_folds : (z : ℕ) (xs : List ℕ) → fold mixed_of z xs ≡ sum_from z xs
unfolding sum_from
sum_folds z [] = refl
sum_folds z (x ∷ xs) = sum_folds (mixed_of z x) xs
