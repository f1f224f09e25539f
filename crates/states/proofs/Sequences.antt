-- The first sequence of UTF-8, byte by byte, whatever is made of it.
use Rattle.std.specs.Prelude.{ℕ, Option, Some, None}
use Prim.Native.Nat.{ℕ, zero, suc, ◌+◌, ◌-◌, ◌*◌, ◌≤◌, ◌<◌}
use mathlib.Core.Path.{◌≡◌, refl, ap, ◌∙◌}
use mathlib.Core.Bool.{Bool, true, false}
use mathlib.Core.List.{List, [], ◌∷◌}
use native.Mathlib.Omega.{arith}
use lib.Dec.{leb}
use lib.ListN.{drop}
use borrow.Author.Tests.{lt-ltb, le-ltb, le-leb, lt-leb}
use Rattle.text.specs.Booleans.{choose, within}
use Rattle.text.specs.Utf8.{char_of, lead_of, gathered, judged, scalar}
use Rattle.text.proofs.Tests.{lt_or_ge, within_low, within_high, within_is, within_yes}
use Rattle.text.proofs.Decodes.{scalar_low, scalar_high}
use Rattle.token.specs.Blanks.{first}
use mathlib.Core.Logic.{◌⊎◌, inl, inr}
use Rattle.states.specs.declared.Tail.{Tail}
use Rattle.states.specs.declared.Tail.TheVariants.{T1, T2, T3, TE0, TED, TF0, TF4}
use Rattle.states.specs.Machine.{tail_ok, tail_left}

abbrev In : ℕ → Type 0
In y = within 0x80 0xbf y ≡ true

good_is : (low m v : ℕ) → low ≤ v → scalar v ≡ true → judged low m (Some v) ≡ Some (v, m)
unfolding judged
good_is low m v h e = rw (le-leb low v h, e)

bad_low : (low m v : ℕ) → v < low → judged low m (Some v) ≡ None
unfolding judged
bad_low low m v h = rw (lt-leb low v h)

both_broken : (b : Bool) → choose {A = Option (ℕ × ℕ)} b (λ u. None) (λ u. None) ≡ None
both_broken true = refl
both_broken false = refl

bad_scalar : (low m v : ℕ) → scalar v ≡ false → judged low m (Some v) ≡ None
unfolding judged
bad_scalar low m v e = rw e (both_broken (leb low v))

surrogate : (v : ℕ) → 0xd800 ≤ v → v < 0xe000 → scalar v ≡ false
unfolding scalar
surrogate v h g = rw (le-ltb v 0xd800 h) (within_low 0xe000 0x10ffff v g)

too_large : (v : ℕ) → 0x10ffff < v → scalar v ≡ false
unfolding scalar
too_large v h = rw (le-ltb v 0xd800 (omega arith)) (within_high 0xe000 0x10ffff v h)

no_bool : {A : Type 0} (b : Bool) → b ≡ true → b ≡ false → A
no_bool b e f = let o : ◌≡◌ {A = ℕ} 0 1 = cc in absurd (omega arith)

lead_one : (x : ℕ) → 0xc0 ≤ x → x < 0xe0 → lead_of x ≡ Some (x - 0xc0, 1, 0x80)
unfolding lead_of
lead_one x h g = rw (le-ltb x 0x80 (omega arith), le-ltb x 0xc0 h, lt-ltb x 0xe0 g)

lead_two : (x : ℕ) → 0xe0 ≤ x → x < 0xf0 → lead_of x ≡ Some (x - 0xe0, 2, 0x800)
unfolding lead_of
lead_two x h g = rw (le-ltb x 0x80 (omega arith), le-ltb x 0xc0 (omega arith), le-ltb x 0xe0 h, lt-ltb x 0xf0 g)

lead_three : (x : ℕ) → 0xf0 ≤ x → x < 0xf8 → lead_of x ≡ Some (x - 0xf0, 3, 0x10000)
unfolding lead_of
lead_three x h g = rw (le-ltb x 0x80 (omega arith), le-ltb x 0xc0 (omega arith), le-ltb x 0xe0 (omega arith), le-ltb x 0xf0 h, lt-ltb x 0xf8 g)

lead_stray : (x : ℕ) → 0x80 ≤ x → (x < 0xc0) ⊎ (0xf8 ≤ x) → lead_of x ≡ None
unfolding lead_of
lead_stray x h (inl g) = rw (le-ltb x 0x80 h, lt-ltb x 0xc0 g)
lead_stray x h (inr g) = rw (le-ltb x 0x80 h, le-ltb x 0xc0 (omega arith), le-ltb x 0xe0 (omega arith), le-ltb x 0xf0 (omega arith), le-ltb x 0xf8 g)

out_low : (lo hi y : ℕ) → within lo hi y ≡ false → y ≤ hi → (y < lo) ⊎ (lo ≤ y) → y < lo
out_low lo hi y e k (inl h) = h
out_low lo hi y e k (inr h) = no_bool (within lo hi y) (within_yes lo hi y h k) e

out_high : (lo hi y : ℕ) → within lo hi y ≡ false → lo ≤ y → (hi < y) ⊎ (y ≤ hi) → hi < y
out_high lo hi y e k (inl h) = h
out_high lo hi y e k (inr h) = no_bool (within lo hi y) (within_yes lo hi y k h) e

-- E: what is made of the sequence that x begins; bad: of none; K j rest: of one, where j bytes after its first were seen and rest is left
module _ {R : Type 0} (E : Option (ℕ × ℕ) → R) (bad : R) (broken : E None ≡ bad) (K : ℕ → List ℕ → R) where
  -- k bytes more
  unfoldable pub tails_of : ℕ → ℕ → List ℕ → R
  tails_of zero j rest = K j rest
  tails_of (suc k) j rest = choose (first (within 0x80 0xbf) rest) (λ u. tails_of k (suc j) (drop 1 rest)) (λ u. bad)

  abbrev pub more_of : Tail → List ℕ → R
  more_of t rest = choose (first (tail_ok t) rest) (λ u. tails_of (tail_left t) 1 (drop 1 rest)) (λ u. bad)

  module _ (low m : ℕ) where
    abbrev AllGood : ℕ → ℕ → Type 0
    AllGood zero v = judged low m (Some v) ≡ Some (v, m)
    AllGood (suc k) v = (y : ℕ) → In y → AllGood k (v * 64 + (y - 0x80))

    abbrev AllBad : ℕ → ℕ → Type 0
    AllBad zero v = judged low m (Some v) ≡ None
    AllBad (suc k) v = (y : ℕ) → In y → AllBad k (v * 64 + (y - 0x80))

    abbrev Ends : ℕ → ℕ → List ℕ → Type 0
    Ends k j rest = (c : ℕ) → E (Some (c, m)) ≡ K (j + k) (drop k rest)

    nothing : E (judged low m None) ≡ bad
    unfolding judged
    nothing = broken

    ends_next : (k j y : ℕ) (ys : List ℕ) → Ends (suc k) j (y ∷ ys) → Ends k (suc j) ys
    ends_next k j y ys w c =
        let z : j + suc k ≡ suc j + k = omega arith in
        rw z at (w c)

    good_by : (b : Bool) (r : Option ℕ) (t : R) → (b ≡ true → E (judged low m r) ≡ t) → E (judged low m (choose b (λ u. r) (λ u. None))) ≡ choose b (λ u. t) (λ u. bad)
    good_by true r t h = h refl
    good_by false r t h = nothing

    good_tails : (k v j : ℕ) (rest : List ℕ) → AllGood k v → Ends k j rest → E (judged low m (gathered k v rest)) ≡ tails_of k j rest
    unfolding gathered tails_of
    good_tails zero v j rest g w =
        let z : j + 0 ≡ j = omega arith in
        ap E g ∙ w v ∙ rw z
    good_tails (suc k) v j [] g w = nothing
    good_tails (suc k) v j (y ∷ ys) g w =
        good_by (within 0x80 0xbf y) (gathered k (v * 64 + (y - 0x80)) ys) (tails_of k (suc j) ys) (λ e. good_tails k (v * 64 + (y - 0x80)) (suc j) ys (g y e) (ends_next k j y ys w))

    bad_by : (b : Bool) (r : Option ℕ) → (b ≡ true → E (judged low m r) ≡ bad) → E (judged low m (choose b (λ u. r) (λ u. None))) ≡ bad
    bad_by true r h = h refl
    bad_by false r h = nothing

    bad_tails : (k v : ℕ) (rest : List ℕ) → AllBad k v → E (judged low m (gathered k v rest)) ≡ bad
    unfolding gathered
    bad_tails zero v rest g = ap E g ∙ broken
    bad_tails (suc k) v [] g = nothing
    bad_tails (suc k) v (y ∷ ys) g = bad_by (within 0x80 0xbf y) (gathered k (v * 64 + (y - 0x80)) ys) (λ e. bad_tails k (v * 64 + (y - 0x80)) ys (g y e))

    -- the second byte has a test of its own
    module _ (f : ℕ → Bool) (k v : ℕ) (into : (y : ℕ) → f y ≡ true → In y) (good : (y : ℕ) → f y ≡ true → AllGood k (v * 64 + (y - 0x80))) (wrong : (y : ℕ) → f y ≡ false → In y → AllBad k (v * 64 + (y - 0x80))) where
      second_by : (y : ℕ) (ys : List ℕ) (b c : Bool) → f y ≡ b → within 0x80 0xbf y ≡ c → Ends (suc k) 0 (y ∷ ys)
          → E (judged low m (choose c (λ u. gathered k (v * 64 + (y - 0x80)) ys) (λ u. None))) ≡ choose b (λ u. tails_of k 1 ys) (λ u. bad)
      second_by y ys true true e h w = good_tails k (v * 64 + (y - 0x80)) 1 ys (good y e) (ends_next k 0 y ys w)
      second_by y ys true false e h w = no_bool (within 0x80 0xbf y) (into y e) h
      second_by y ys false true e h w = bad_tails k (v * 64 + (y - 0x80)) ys (wrong y e h)
      second_by y ys false false e h w = nothing

      second : (rest : List ℕ) → Ends (suc k) 0 rest → E (judged low m (gathered (suc k) v rest)) ≡ choose (first f rest) (λ u. tails_of k 1 (drop 1 rest)) (λ u. bad)
      unfolding gathered
      second [] w = nothing
      second (y ∷ ys) w = second_by y ys (f y) (within 0x80 0xbf y) refl refl w

  never : (k : ℕ) (rest : List ℕ) → choose (first (λ y. false) rest) (λ u. tails_of k 1 (drop 1 rest)) (λ u. bad) ≡ bad
  never k [] = refl
  never k (y ∷ ys) = refl

  module _ (x : ℕ) (rest : List ℕ) (is : (c i : ℕ) → E (Some (c, suc i)) ≡ K i (drop i rest)) where
    raw_stray : lead_of x ≡ None → E (char_of (x ∷ rest)) ≡ bad
    unfolding char_of
    raw_stray e = rw e broken

    module _ (f : ℕ → Bool) (into : (y : ℕ) → f y ≡ true → In y) where
      raw_one : lead_of x ≡ Some (x - 0xc0, 1, 0x80)
          → ((y : ℕ) → f y ≡ true → AllGood 0x80 2 0 ((x - 0xc0) * 64 + (y - 0x80)))
          → ((y : ℕ) → f y ≡ false → In y → AllBad 0x80 2 0 ((x - 0xc0) * 64 + (y - 0x80)))
          → E (char_of (x ∷ rest)) ≡ choose (first f rest) (λ u. tails_of 0 1 (drop 1 rest)) (λ u. bad)
      unfolding char_of
      raw_one l g b = rw l (second 0x80 2 f 0 (x - 0xc0) into g b rest (λ c. is c 1))

      raw_two : lead_of x ≡ Some (x - 0xe0, 2, 0x800)
          → ((y : ℕ) → f y ≡ true → AllGood 0x800 3 1 ((x - 0xe0) * 64 + (y - 0x80)))
          → ((y : ℕ) → f y ≡ false → In y → AllBad 0x800 3 1 ((x - 0xe0) * 64 + (y - 0x80)))
          → E (char_of (x ∷ rest)) ≡ choose (first f rest) (λ u. tails_of 1 1 (drop 1 rest)) (λ u. bad)
      unfolding char_of
      raw_two l g b = rw l (second 0x800 3 f 1 (x - 0xe0) into g b rest (λ c. is c 2))

      raw_three : lead_of x ≡ Some (x - 0xf0, 3, 0x10000)
          → ((y : ℕ) → f y ≡ true → AllGood 0x10000 4 2 ((x - 0xf0) * 64 + (y - 0x80)))
          → ((y : ℕ) → f y ≡ false → In y → AllBad 0x10000 4 2 ((x - 0xf0) * 64 + (y - 0x80)))
          → E (char_of (x ∷ rest)) ≡ choose (first f rest) (λ u. tails_of 2 1 (drop 1 rest)) (λ u. bad)
      unfolding char_of
      raw_three l g b = rw l (second 0x10000 4 f 2 (x - 0xf0) into g b rest (λ c. is c 3))

    lead_c0 : 0xc0 ≤ x → x < 0xc2 → E (char_of (x ∷ rest)) ≡ bad
    lead_c0 h g =
        raw_one (λ y. false) (λ y e. no_bool false e refl) (lead_one x h (omega arith)) (λ y e. no_bool false e refl)
        (λ y e i.
        let w = within_is 0x80 0xbf y i in
        bad_low 0x80 2 ((x - 0xc0) * 64 + (y - 0x80)) (omega arith))
        ∙ never 0 rest

    pub lead_t1 : 0xc2 ≤ x → x < 0xe0 → E (char_of (x ∷ rest)) ≡ more_of T1 rest
    lead_t1 h g =
        raw_one (within 0x80 0xbf) (λ y e. e) (lead_one x (omega arith) g)
        (λ y e.
        let w = within_is 0x80 0xbf y e in
        good_is 0x80 2 ((x - 0xc0) * 64 + (y - 0x80)) (omega arith) (scalar_low ((x - 0xc0) * 64 + (y - 0x80)) (omega arith)))
        (λ y e i. no_bool (within 0x80 0xbf y) i e)

    pub lead_e0 : x ≡ 0xe0 → E (char_of (x ∷ rest)) ≡ more_of TE0 rest
    lead_e0 q =
        raw_two (within 0xa0 0xbf) (λ y e. let w = within_is 0xa0 0xbf y e in within_yes 0x80 0xbf y (omega arith) (omega arith)) (lead_two x (omega arith) (omega arith))
        (λ y e z i.
        let w = within_is 0xa0 0xbf y e in
        let u = within_is 0x80 0xbf z i in
        good_is 0x800 3 (((x - 0xe0) * 64 + (y - 0x80)) * 64 + (z - 0x80)) (omega arith) (scalar_low (((x - 0xe0) * 64 + (y - 0x80)) * 64 + (z - 0x80)) (omega arith)))
        (λ y e i z j.
        let w = within_is 0x80 0xbf y i in
        let u = within_is 0x80 0xbf z j in
        let l : y < 0xa0 = out_low 0xa0 0xbf y e w.high (lt_or_ge y 0xa0) in
        bad_low 0x800 3 (((x - 0xe0) * 64 + (y - 0x80)) * 64 + (z - 0x80)) (omega arith))

    pub lead_ed : x ≡ 0xed → E (char_of (x ∷ rest)) ≡ more_of TED rest
    lead_ed q =
        raw_two (within 0x80 0x9f) (λ y e. let w = within_is 0x80 0x9f y e in within_yes 0x80 0xbf y (omega arith) (omega arith)) (lead_two x (omega arith) (omega arith))
        (λ y e z i.
        let w = within_is 0x80 0x9f y e in
        let u = within_is 0x80 0xbf z i in
        good_is 0x800 3 (((x - 0xe0) * 64 + (y - 0x80)) * 64 + (z - 0x80)) (omega arith) (scalar_low (((x - 0xe0) * 64 + (y - 0x80)) * 64 + (z - 0x80)) (omega arith)))
        (λ y e i z j.
        let w = within_is 0x80 0xbf y i in
        let u = within_is 0x80 0xbf z j in
        let l : 0x9f < y = out_high 0x80 0x9f y e w.low (lt_or_ge 0x9f y) in
        bad_scalar 0x800 3 (((x - 0xe0) * 64 + (y - 0x80)) * 64 + (z - 0x80)) (surrogate (((x - 0xe0) * 64 + (y - 0x80)) * 64 + (z - 0x80)) (omega arith) (omega arith)))

    three_scalar : (y z : ℕ) → In y → In z → 0xe0 < x → x < 0xf0 → (x ≡ 0xed → ⊥) → (x < 0xed) ⊎ (0xed ≤ x) → scalar (((x - 0xe0) * 64 + (y - 0x80)) * 64 + (z - 0x80)) ≡ true
    three_scalar y z i j h g n (inl l) =
        let w = within_is 0x80 0xbf y i in
        let u = within_is 0x80 0xbf z j in
        scalar_low (((x - 0xe0) * 64 + (y - 0x80)) * 64 + (z - 0x80)) (omega arith)
    three_scalar y z i j h g n (inr l) =
        let w = within_is 0x80 0xbf y i in
        let u = within_is 0x80 0xbf z j in
        let k : 0xee ≤ x = omega arith in
        scalar_high (((x - 0xe0) * 64 + (y - 0x80)) * 64 + (z - 0x80)) (omega arith) (omega arith)

    pub lead_t2 : 0xe0 < x → x < 0xf0 → (x ≡ 0xed → ⊥) → E (char_of (x ∷ rest)) ≡ more_of T2 rest
    lead_t2 h g n =
        raw_two (within 0x80 0xbf) (λ y e. e) (lead_two x (omega arith) g)
        (λ y e z i.
        let w = within_is 0x80 0xbf y e in
        let u = within_is 0x80 0xbf z i in
        good_is 0x800 3 (((x - 0xe0) * 64 + (y - 0x80)) * 64 + (z - 0x80)) (omega arith) (three_scalar y z e i h g n (lt_or_ge x 0xed)))
        (λ y e i. no_bool (within 0x80 0xbf y) i e)

    pub lead_f0 : x ≡ 0xf0 → E (char_of (x ∷ rest)) ≡ more_of TF0 rest
    lead_f0 q =
        raw_three (within 0x90 0xbf) (λ y e. let w = within_is 0x90 0xbf y e in within_yes 0x80 0xbf y (omega arith) (omega arith)) (lead_three x (omega arith) (omega arith))
        (λ y e z i t j.
        let w = within_is 0x90 0xbf y e in
        let u = within_is 0x80 0xbf z i in
        let v = within_is 0x80 0xbf t j in
        good_is 0x10000 4 ((((x - 0xf0) * 64 + (y - 0x80)) * 64 + (z - 0x80)) * 64 + (t - 0x80)) (omega arith)
        (scalar_high ((((x - 0xf0) * 64 + (y - 0x80)) * 64 + (z - 0x80)) * 64 + (t - 0x80)) (omega arith) (omega arith)))
        (λ y e i z j t k.
        let w = within_is 0x80 0xbf y i in
        let u = within_is 0x80 0xbf z j in
        let v = within_is 0x80 0xbf t k in
        let l : y < 0x90 = out_low 0x90 0xbf y e w.high (lt_or_ge y 0x90) in
        bad_low 0x10000 4 ((((x - 0xf0) * 64 + (y - 0x80)) * 64 + (z - 0x80)) * 64 + (t - 0x80)) (omega arith))

    pub lead_t3 : 0xf0 < x → x < 0xf4 → E (char_of (x ∷ rest)) ≡ more_of T3 rest
    lead_t3 h g =
        raw_three (within 0x80 0xbf) (λ y e. e) (lead_three x (omega arith) (omega arith))
        (λ y e z i t j.
        let w = within_is 0x80 0xbf y e in
        let u = within_is 0x80 0xbf z i in
        let v = within_is 0x80 0xbf t j in
        good_is 0x10000 4 ((((x - 0xf0) * 64 + (y - 0x80)) * 64 + (z - 0x80)) * 64 + (t - 0x80)) (omega arith)
        (scalar_high ((((x - 0xf0) * 64 + (y - 0x80)) * 64 + (z - 0x80)) * 64 + (t - 0x80)) (omega arith) (omega arith)))
        (λ y e i. no_bool (within 0x80 0xbf y) i e)

    pub lead_f4 : x ≡ 0xf4 → E (char_of (x ∷ rest)) ≡ more_of TF4 rest
    lead_f4 q =
        raw_three (within 0x80 0x8f) (λ y e. let w = within_is 0x80 0x8f y e in within_yes 0x80 0xbf y (omega arith) (omega arith)) (lead_three x (omega arith) (omega arith))
        (λ y e z i t j.
        let w = within_is 0x80 0x8f y e in
        let u = within_is 0x80 0xbf z i in
        let v = within_is 0x80 0xbf t j in
        good_is 0x10000 4 ((((x - 0xf0) * 64 + (y - 0x80)) * 64 + (z - 0x80)) * 64 + (t - 0x80)) (omega arith)
        (scalar_high ((((x - 0xf0) * 64 + (y - 0x80)) * 64 + (z - 0x80)) * 64 + (t - 0x80)) (omega arith) (omega arith)))
        (λ y e i z j t k.
        let w = within_is 0x80 0xbf y i in
        let u = within_is 0x80 0xbf z j in
        let v = within_is 0x80 0xbf t k in
        let l : 0x8f < y = out_high 0x80 0x8f y e w.low (lt_or_ge 0x8f y) in
        bad_scalar 0x10000 4 ((((x - 0xf0) * 64 + (y - 0x80)) * 64 + (z - 0x80)) * 64 + (t - 0x80)) (too_large ((((x - 0xf0) * 64 + (y - 0x80)) * 64 + (z - 0x80)) * 64 + (t - 0x80)) (omega arith)))

    pub lead_f5 : 0xf4 < x → (x < 0xf8) ⊎ (0xf8 ≤ x) → E (char_of (x ∷ rest)) ≡ bad
    lead_f5 h (inl g) =
        raw_three (λ y. false) (λ y e. no_bool false e refl) (lead_three x (omega arith) g) (λ y e. no_bool false e refl)
        (λ y e i z j t k.
        let w = within_is 0x80 0xbf y i in
        let u = within_is 0x80 0xbf z j in
        let v = within_is 0x80 0xbf t k in
        bad_scalar 0x10000 4 ((((x - 0xf0) * 64 + (y - 0x80)) * 64 + (z - 0x80)) * 64 + (t - 0x80)) (too_large ((((x - 0xf0) * 64 + (y - 0x80)) * 64 + (z - 0x80)) * 64 + (t - 0x80)) (omega arith)))
        ∙ never 2 rest
    lead_f5 h (inr g) = raw_stray (lead_stray x (omega arith) (inr g))

    pub lead_80 : 0x80 ≤ x → x < 0xc2 → (x < 0xc0) ⊎ (0xc0 ≤ x) → E (char_of (x ∷ rest)) ≡ bad
    lead_80 h g (inl l) = raw_stray (lead_stray x h (inl l))
    lead_80 h g (inr l) = lead_c0 l g
