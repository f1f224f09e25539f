-- The paths of the walk over values.
use Rattle.std.specs.Prelude.{ℕ, Option, Some, None, Result, Ok, Err}
use Prim.Native.Nat.{ℕ, zero, suc, ◌+◌, ◌-◌, ◌≤◌, ◌<◌}
use mathlib.Core.Path.{◌≡◌, refl, sym, ap, ◌∙◌}
use mathlib.Core.Bool.{Bool, true, false}
use mathlib.Core.Logic.{◌⊎◌, inl, inr}
use mathlib.Core.List.{List}
use native.Mathlib.Omega.{arith}
use native.Mathlib.Nat.{zero-add}
use lib.Dec.{ltb, eqb}
use lib.ListN.{length, take, drop}
use borrow.Author.Tests.{eq-eqb, ne_eqb, ltb-true, ltb-false, le-ltb, lt-ltb}
use Rattle.text.specs.Booleans.{choose, and, or}
use Rattle.text.specs.Digits.{decimal_of}
use Rattle.text.specs.Scans.{later}
use Rattle.text.specs.declared.DecimalError.{DecimalError}
use Rattle.text.proofs.Booleans.{and_true, and_both, and_first, and_second, choose_false, choose_true, or_first, or_neither, or_second}
use Rattle.literal.specs.Escapes.{escape_look, bad_escape}
use Rattle.token.proofs.Bounds.{stop_at}
use Rattle.token.specs.Table.{toks, kind, start, end, is, between, word}
use Rattle.token.proofs.Table.{part_is, word_is}
use Rattle.structure.specs.declared.Edition.{Edition}
use Rattle.structure.specs.declared.Edition.TheVariants.{First, Second}
use Rattle.structure.specs.declared.Level.{Level}
use Rattle.structure.specs.declared.Why.TheVariants.{Zero}
use Rattle.structure.specs.declared.Refusal.{Refusal}
use Rattle.structure.specs.Refusals.{because}
use Rattle.structure.specs.Values.{value_of, number, integer_of, opening, literal_bytes, over_most, exceeds, exceeds_in, above_fault, repeat_fault, peek_fault, literal_fault, word_fault, number_fault, fault_at, or_fault, faults_from, faults}
use Rattle.structure.proofs.Steps.{is_kind, sees, misses, another}
use Rattle.structure.proofs.Sizes.{part_short}

-- ---- numbers

pub number_is : (s : List ℕ) (i a z limit : ℕ) (r : Result ℕ DecimalError) → a ≡ start s i → z ≡ end s i → r ≡ decimal_of limit (take (z - a) (drop a s)) → r ≡ decimal_of limit (word s i)
number_is s i a z limit r e f g = g ∙ ap (decimal_of limit) (part_is s a z ∙ word_is s i a z e f)

module _ (s : List ℕ) (i x : ℕ) (e : x ≡ kind s i) (a z : ℕ) (f : a ≡ start s i) (g : z ≡ end s i) (r : Result ℕ DecimalError) where
  pub integer_negative : x ≡ 21 → r ≡ decimal_of 2147483648 (take (z - (a + 1)) (drop (a + 1) s)) → r ≡ integer_of s i
  integer_negative q h =
      let y : a + 1 ≡ start s i + 1 = omega arith in
      let w : z ≡ end s i - 0 = omega arith in
      h ∙ ap (decimal_of 2147483648) (part_is s (a + 1) z ∙ ap (λ (n : ℕ). between s n z) y ∙ ap (between s (start s i + 1)) w) ∙ sym (choose_true (is s i 21) _ _ (sees s i x 21 e q))

  pub integer_positive : (x ≡ 21 → ⊥) → r ≡ decimal_of 2147483647 (take (z - a) (drop a s)) → r ≡ integer_of s i
  integer_positive q h = number_is s i a z 2147483647 r f g h ∙ sym (choose_false (is s i 21) _ _ (misses s i x 21 e q))

module _ (s : List ℕ) (i : ℕ) (d r : Result ℕ DecimalError) (e : d ≡ r) where
  pub peek_fits : (n : ℕ) → d ≡ Ok n → None ≡ peek_fault s i r
  peek_fits n q = sym (ap (peek_fault s i) (sym e ∙ q))

module _ (edition : Edition) (s : List ℕ) (i : ℕ) (d r : Result ℕ DecimalError) (e : d ≡ r) where
  some_count : (n : ℕ) → (n ≡ 0 → ⊥) → above_fault edition s i n ≡ repeat_fault edition s i (Ok n)
  some_count zero h = absurd (h refl)
  some_count (suc n) h = refl

  zero_count : (n : ℕ) → n ≡ 0 → repeat_fault edition s i (Ok n) ≡ choose (is s (i + 1) 3) (λ u. Some (because Zero (start s i))) (λ u. None)
  zero_count n h = ap (λ (k : ℕ). repeat_fault edition s i (Ok k)) h

  module _ (n : ℕ) (q : d ≡ Ok n) where
    pub repeat_some : (n ≡ 0 → ⊥) → (f : Option Refusal) → f ≡ above_fault edition s i n → f ≡ repeat_fault edition s i r
    repeat_some h f g = g ∙ some_count n h ∙ sym (ap (repeat_fault edition s i) (sym e ∙ q))

    module _ (h : n ≡ 0) (x : ℕ) (f : x ≡ kind s (i + 1)) where
      pub repeat_zero : x ≡ 3 → (y : Refusal) → y ≡ because Zero (start s i) → Some y ≡ repeat_fault edition s i r
      repeat_zero g y z = ap Some z ∙ sym (ap (repeat_fault edition s i) (sym e ∙ q) ∙ zero_count n h ∙ choose_true (is s (i + 1) 3) _ _ (sees s (i + 1) x 3 f g))

      pub repeat_least : (x ≡ 3 → ⊥) → None ≡ repeat_fault edition s i r
      repeat_least g = sym (ap (repeat_fault edition s i) (sym e ∙ q) ∙ zero_count n h ∙ choose_false (is s (i + 1) 3) _ _ (misses s (i + 1) x 3 f g))

-- ---- a count and the maximum behind it

-- 0 is above none
none_above : (d : Result ℕ DecimalError) → over_most 0 d ≡ false
none_above (Ok m) = and_second (ltb 0 m) (ltb m 0) (le-ltb m 0 (omega arith))
none_above (Err DecimalError.Over) = refl
none_above (Err DecimalError.NotDigits) = refl

pub zero_least : (edition : Edition) (s : List ℕ) (i : ℕ) → exceeds_in edition s i 0 ≡ false
zero_least First s i = refl
zero_least Second s i = and_second (is s (i + 1) 15) _ (and_second (is s (i + 2) 20) _ (none_above (decimal_of 4294967295 (word s (i + 2)))))

-- nor is a count that `}` follows
pub alone : (edition : Edition) (s : List ℕ) (i n : ℕ) → is s (i + 1) 3 ≡ true → exceeds_in edition s i n ≡ false
alone First s i n e = refl
alone Second s i n e = and_first (is s (i + 1) 15) _ (another s (i + 1) (kind s (i + 1)) 3 15 refl (is_kind s (i + 1) 3 e) (λ q. omega arith))

-- by the values: what a count exceeds isn't 0, and is less
over_above : (n : ℕ) (d : Result ℕ DecimalError) → over_most n d ≡ true → (1 ≤ value_of d) × (value_of d < n)
over_above n (Ok m) e = let (a, b) = and_true (ltb 0 m) (ltb m n) e in (omega (arith, ltb-true 0 m a), ltb-true m n b)
over_above n (Err DecimalError.Over) e = let z : ◌≡◌ {A = ℕ} 0 1 = cc in absurd (omega arith)
over_above n (Err DecimalError.NotDigits) e = let z : ◌≡◌ {A = ℕ} 0 1 = cc in absurd (omega arith)

over_not : (n : ℕ) (d : Result ℕ DecimalError) → over_most n d ≡ false → 1 ≤ value_of d → n ≤ value_of d
over_not n (Ok m) e l = ltb-false m n (sym (ap (λ (t : Bool). and t (ltb m n)) (lt-ltb 0 m (omega arith))) ∙ e)
over_not n (Err DecimalError.Over) e l = absurd (omega arith)
over_not n (Err DecimalError.NotDigits) e l = absurd (omega arith)

pub exceeds_above : (edition : Edition) (s : List ℕ) (i n : ℕ) → exceeds_in edition s i n ≡ true
    → (edition ≡ Second) × (and (is s (i + 1) 15) (is s (i + 2) 20) ≡ true) × (1 ≤ number s (i + 2)) × (number s (i + 2) < n)
unfolding number
exceeds_above First s i n e = let z : ◌≡◌ {A = ℕ} 0 1 = cc in absurd (omega arith)
exceeds_above Second s i n e =
    let (a, b) = and_true (is s (i + 1) 15) _ e in
    let (c, d) = and_true (is s (i + 2) 20) _ b in
    let (l, k) = over_above n (decimal_of 4294967295 (word s (i + 2))) d in
    (refl, and_both (is s (i + 1) 15) (is s (i + 2) 20) a c, l, k)

pub exceeds_not : (edition : Edition) (s : List ℕ) (i n : ℕ) → and (is s (i + 1) 15) (is s (i + 2) 20) ≡ true → exceeds_in edition s i n ≡ false → edition ≡ Second → 1 ≤ number s (i + 2)
    → n ≤ number s (i + 2)
unfolding number
exceeds_not First s i n t e q l = let z : ◌≡◌ {A = ℕ} 0 1 = cc in absurd (omega arith)
exceeds_not Second s i n t e q l =
    let (a, b) = and_true (is s (i + 1) 15) (is s (i + 2) 20) t in
    let o = over_most n (decimal_of 4294967295 (word s (i + 2))) in
    over_not n (decimal_of 4294967295 (word s (i + 2))) (sym (ap (λ (x : Bool). and x (and (is s (i + 2) 20) o)) a ∙ ap (λ (x : Bool). and x o) b) ∙ e) l

module _ (s : List ℕ) (i n x : ℕ) (e : x ≡ kind s (i + 1)) where
  pub no_comma : (x ≡ 15 → ⊥) → false ≡ exceeds s i n
  no_comma h = sym (and_first (is s (i + 1) 15) _ (misses s (i + 1) x 15 e h))

  module _ (h : x ≡ 15) (y : ℕ) (f : y ≡ kind s (i + 2)) where
    pub no_number : (y ≡ 20 → ⊥) → false ≡ exceeds s i n
    no_number g = sym (and_second (is s (i + 1) 15) _ (and_first (is s (i + 2) 20) _ (misses s (i + 2) y 20 f g)))

    module _ (g : y ≡ 20) (d : Result ℕ DecimalError) (q : d ≡ decimal_of 4294967295 (word s (i + 2))) where
      pub most_is : (b : Bool) (z : Result ℕ DecimalError) → d ≡ z → b ≡ over_most n z → b ≡ exceeds s i n
      most_is b z w v =
          v ∙ ap (over_most n) (sym w ∙ q)
          ∙ sym (ap (λ (t : Bool). and t (and (is s (i + 2) 20) (over_most n (decimal_of 4294967295 (word s (i + 2)))))) (sees s (i + 1) x 15 e h)
          ∙ ap (λ (t : Bool). and t (over_most n (decimal_of 4294967295 (word s (i + 2))))) (sees s (i + 2) y 20 f g))

pub most_some : (n m : ℕ) → (m ≡ 0 → ⊥) → ltb m n ≡ over_most n (Ok m)
most_some n m h = sym (ap (λ (t : Bool). and t (ltb m n)) (lt-ltb 0 m (omega arith)))

-- ---- by what stands before

module _ (edition : Edition) (s : List ℕ) (before i : ℕ) (r : Option Refusal) where
  pub number_after_bracket : before ≡ 4 → r ≡ peek_fault s i (integer_of s i) → r ≡ number_fault edition s before i
  number_after_bracket q h = h ∙ sym (choose_true (or (eqb before 4) (eqb before 22)) _ _ (or_first (eqb before 4) (eqb before 22) (eq-eqb before 4 q)))

  pub number_after_dots : before ≡ 22 → r ≡ peek_fault s i (integer_of s i) → r ≡ number_fault edition s before i
  number_after_dots q h = h ∙ sym (choose_true (or (eqb before 4) (eqb before 22)) _ _ (or_second (eqb before 4) (eqb before 22) (eq-eqb before 22 q)))

  pub number_in_slice : (before ≡ 4) ⊎ (before ≡ 22) → r ≡ peek_fault s i (integer_of s i) → r ≡ number_fault edition s before i
  number_in_slice (inl q) h = number_after_bracket q h
  number_in_slice (inr q) h = number_after_dots q h

  pub number_repeats : (before ≡ 4 → ⊥) → (before ≡ 22 → ⊥) → r ≡ repeat_fault edition s i (decimal_of 4294967295 (word s i)) → r ≡ number_fault edition s before i
  number_repeats q p h = h ∙ sym (choose_false (or (eqb before 4) (eqb before 22)) _ _ (or_neither (eqb before 4) (eqb before 22) (ne_eqb before 4 q) (ne_eqb before 22 p)))

-- ---- literals

-- a bad escape stands inside
bad_in : (xs : List ℕ) (k : ℕ) → bad_escape xs ≡ Some k → k < length xs
unfolding bad_escape
bad_in xs k e =
    let (n, f, g, h) = stop_at escape_look xs 0 k (ap (later 0) e ∙ ap Some (zero-add k)) in
    omega arith

module _ (s : List ℕ) (i n a z : ℕ) (e : n ≡ opening s i) (f : a ≡ start s i + n) (g : z ≡ end s i - 1) (r : Option ℕ) (h : r ≡ bad_escape (between s a z)) where
  pub literal_low : (k : ℕ) → r ≡ Some k → k < length s
  literal_low k q = let m = bad_in (between s a z) k (sym h ∙ q) in let l = part_short s a z in omega arith

-- ---- a token's value

module _ (edition : Edition) (level : Level) (s : List ℕ) (before i x : ℕ) (e : x ≡ kind s i) (r : Option Refusal) where
  pub value_word : x ≡ 18 → r ≡ word_fault level s i → r ≡ fault_at edition level s before i
  unfolding fault_at
  value_word q h = h ∙ sym (choose_true (is s i 18) _ _ (sees s i x 18 e q))

  pub value_number : x ≡ 20 → r ≡ number_fault edition s before i → r ≡ fault_at edition level s before i
  unfolding fault_at
  value_number q h = h ∙ sym (choose_false (is s i 18) _ _ (another s i x 20 18 e q (λ m. omega arith)) ∙ choose_true (is s i 20) _ _ (sees s i x 20 e q))

  pub value_minus : x ≡ 21 → r ≡ peek_fault s i (integer_of s i) → r ≡ fault_at edition level s before i
  unfolding fault_at
  value_minus q h =
      h ∙ sym (choose_false (is s i 18) _ _ (another s i x 21 18 e q (λ m. omega arith)) ∙ choose_false (is s i 20) _ _ (another s i x 21 20 e q (λ m. omega arith)) ∙ choose_true (is s i 21) _ _ (sees s i x 21 e q))

  literal_by : is s i 18 ≡ false → is s i 20 ≡ false → is s i 21 ≡ false → or (is s i 23) (or (is s i 24) (is s i 25)) ≡ true → r ≡ literal_fault s i (bad_escape (literal_bytes s i)) → r ≡ fault_at edition level s before i
  unfolding fault_at
  literal_by a b c d h =
      h ∙ sym (choose_false (is s i 18) _ _ a ∙ choose_false (is s i 20) _ _ b ∙ choose_false (is s i 21) _ _ c ∙ choose_true (or (is s i 23) (or (is s i 24) (is s i 25))) _ _ d)

  pub value_string : x ≡ 23 → r ≡ literal_fault s i (bad_escape (literal_bytes s i)) → r ≡ fault_at edition level s before i
  value_string q h =
      literal_by (another s i x 23 18 e q (λ m. omega arith)) (another s i x 23 20 e q (λ m. omega arith)) (another s i x 23 21 e q (λ m. omega arith)) (or_first (is s i 23) (or (is s i 24) (is s i 25)) (sees s i x 23 e q)) h

  pub value_insens : x ≡ 24 → r ≡ literal_fault s i (bad_escape (literal_bytes s i)) → r ≡ fault_at edition level s before i
  value_insens q h =
      literal_by (another s i x 24 18 e q (λ m. omega arith)) (another s i x 24 20 e q (λ m. omega arith)) (another s i x 24 21 e q (λ m. omega arith))
      (or_second (is s i 23) (or (is s i 24) (is s i 25)) (or_first (is s i 24) (is s i 25) (sees s i x 24 e q))) h

  pub value_character : x ≡ 25 → r ≡ literal_fault s i (bad_escape (literal_bytes s i)) → r ≡ fault_at edition level s before i
  value_character q h =
      literal_by (another s i x 25 18 e q (λ m. omega arith)) (another s i x 25 20 e q (λ m. omega arith)) (another s i x 25 21 e q (λ m. omega arith))
      (or_second (is s i 23) (or (is s i 24) (is s i 25)) (or_second (is s i 24) (is s i 25) (sees s i x 25 e q))) h

  -- a string or a character
  pub value_quoted : (x ≡ 23) ⊎ (x ≡ 25) → r ≡ literal_fault s i (bad_escape (literal_bytes s i)) → r ≡ fault_at edition level s before i
  value_quoted (inl q) h = value_string q h
  value_quoted (inr q) h = value_character q h

  pub value_none : (x ≡ 18 → ⊥) → (x ≡ 20 → ⊥) → (x ≡ 21 → ⊥) → (x ≡ 23 → ⊥) → (x ≡ 24 → ⊥) → (x ≡ 25 → ⊥) → None ≡ fault_at edition level s before i
  unfolding fault_at
  value_none a b c d f g =
      sym (choose_false (is s i 18) _ _ (misses s i x 18 e a) ∙ choose_false (is s i 20) _ _ (misses s i x 20 e b) ∙ choose_false (is s i 21) _ _ (misses s i x 21 e c)
      ∙ choose_false (or (is s i 23) (or (is s i 24) (is s i 25))) _ _
      (or_neither (is s i 23) (or (is s i 24) (is s i 25)) (misses s i x 23 e d) (or_neither (is s i 24) (is s i 25) (misses s i x 24 e f) (misses s i x 25 e g))))

-- ---- all tokens

module _ (edition : Edition) (level : Level) (s : List ℕ) where
  pub record FaultInv (before i : ℕ) : Type 0 where
    pub within : i ≤ length (toks s)
    pub same : faults edition level s ≡ faults_from edition level s before i (length (toks s) - i)

  pub faults_start : FaultInv 0 0
  unfolding faults
  faults_start = record { within = omega arith; same = let z : length (toks s) ≡ length (toks s) - 0 = omega arith in ap (faults_from edition level s 0 0) z }

  one-fault : (before i k : ℕ) → faults_from edition level s before i (suc k) ≡ or_fault (fault_at edition level s before i) (λ u. faults_from edition level s (kind s i) (i + 1) k)
  unfolding faults_from
  one-fault before i k = refl

  module _ (before i : ℕ) (h : i < length (toks s)) (v : FaultInv before i) (y : Option Refusal) (e : y ≡ fault_at edition level s before i) where
    first : faults edition level s ≡ or_fault y (λ u. faults_from edition level s (kind s i) (i + 1) (length (toks s) - (i + 1)))
    first =
        let z : length (toks s) - i ≡ suc (length (toks s) - (i + 1)) = omega arith in
        v.same ∙ ap (faults_from edition level s before i) z ∙ one-fault before i (length (toks s) - (i + 1)) ∙ ap (λ (f : Option Refusal). or_fault f (λ u. faults_from edition level s (kind s i) (i + 1) (length (toks s) - (i + 1)))) (sym e)

    pub faults_more : y ≡ None → (k : ℕ) → k ≡ kind s i → FaultInv k (i + 1)
    faults_more q k f = record {
      within = omega arith;
      same =
          first ∙ ap (λ (f : Option Refusal). or_fault f (λ u. faults_from edition level s (kind s i) (i + 1) (length (toks s) - (i + 1)))) q
          ∙ ap (λ (j : ℕ). faults_from edition level s j (i + 1) (length (toks s) - (i + 1))) (sym f);
    }

    pub faults_stop : (x : Option Refusal) → ((f : Unit {0} → Option Refusal) → or_fault x f ≡ x) → y ≡ x → x ≡ faults edition level s
    faults_stop x g q = sym (first ∙ ap (λ (f : Option Refusal). or_fault f (λ u. faults_from edition level s (kind s i) (i + 1) (length (toks s) - (i + 1)))) q ∙ g _)

  pub faults_none : (before i : ℕ) → length (toks s) ≤ i → FaultInv before i → None ≡ faults edition level s
  unfolding faults_from
  faults_none before i h v = let z : length (toks s) - i ≡ 0 = omega arith in sym (v.same ∙ ap (faults_from edition level s before i) z)
