-- What the tokens of numbers, characters and postfixes are worth, as the code finds it.
use Rattle.std.specs.Prelude.{ℕ, Option, Some, None, Result}
use Prim.Native.Nat.{ℕ, ◌+◌, ◌-◌, ◌<◌}
use mathlib.Core.Path.{◌≡◌, refl, sym, ap, ◌∙◌, subst}
use mathlib.Core.Bool.{Bool, true, false}
use mathlib.Core.List.{List}
use mathlib.Core.Logic.{◌⊎◌, inl, inr}
use native.Mathlib.Omega.{arith}
use lib.ListN.{length, take, drop}
use borrow.Author.Tests.{eqb-true, ne_eqb}
use Rattle.text.specs.Booleans.{choose}
use Rattle.text.specs.Digits.{decimal_of}
use Rattle.text.specs.declared.DecimalError.{DecimalError}
use Rattle.text.proofs.Booleans.{choose_false, choose_true, or_first, or_second, or_neither}
use Rattle.literal.specs.Escapes.{escape_of}
use Rattle.text.specs.Limits.{max_text}
use Rattle.token.proofs.Table.{sizes}
use Rattle.token.specs.Table.{toks, kind, start, end, is, between, word, Lent}
use Rattle.table.specs.declared.Unary.TheVariants.{Opt, Rep, RepOnce, RepExact, RepMin, RepMax, RepMinMax}
use Rattle.structure.specs.Values.{value_of, negated, number, is_integer, integer_of, integer, opening, literal_bytes, char_by, character}
use Rattle.structure.specs.Structure.{want, Postfix, post, not_post, from_number, from_comma, postfix_at}
use Rattle.structure.proofs.Steps as Steps
use Rattle.structure.proofs.Steps.{sees, misses, want_true, want_false}
use Rattle.build.specs.Build.{Accepted, suffix_of}
use Rattle.table.specs.declared.Unary.{Unary}

-- a token that has a kind is one of few
pub seen_low : (s ts : List ℕ) (i x : ℕ) → Lent s ts → x ≡ kind s i → 0 < x → i < max_text
seen_low s ts i x l e h =
    let inside = Steps.inside_is s i x h (sees s i x x e refl) in
    let few = (sizes s ts l).1 in
    omega arith

-- ---- numbers

pub number_is : (s : List ℕ) (i : ℕ) (d : Result ℕ DecimalError) (r : ℕ) → d ≡ decimal_of 4294967295 (word s i) → r ≡ value_of d → r ≡ number s i
unfolding number
number_is s i d r q₁ q₂ = q₂ ∙ ap value_of q₁

module _ (s : List ℕ) (i x : ℕ) (e : x ≡ kind s i) where
  pub integer_here : (x ≡ 20) ⊎ (x ≡ 21) → true ≡ is_integer s i
  integer_here (inl h) = sym (or_first (is s i 20) (is s i 21) (sees s i x 20 e h))
  integer_here (inr h) = sym (or_second (is s i 20) (is s i 21) (sees s i x 21 e h))

  pub integer_gone : (x ≡ 20 → ⊥) → (x ≡ 21 → ⊥) → false ≡ is_integer s i
  integer_gone h g = sym (or_neither (is s i 20) (is s i 21) (misses s i x 20 e h) (misses s i x 21 e g))

  module _ (d : Result ℕ DecimalError) (w : ℕ) (q₁ : d ≡ integer_of s i) (q₂ : w ≡ value_of d) where
    pub integer_negative : x ≡ 21 → (r : ℕ) → r ≡ negated w → r ≡ integer s i
    unfolding integer
    integer_negative h r q₃ = q₃ ∙ ap negated (q₂ ∙ ap value_of q₁) ∙ sym (choose_true (is s i 21) _ _ (sees s i x 21 e h))

    pub integer_positive : (x ≡ 21 → ⊥) → w ≡ integer s i
    unfolding integer
    integer_positive h = q₂ ∙ ap value_of q₁ ∙ sym (choose_false (is s i 21) _ _ (misses s i x 21 e h))

-- ---- a character

module _ (s : List ℕ) (i a z : ℕ) (v : is s i 25 ≡ true) (e₁ : a ≡ start s i) (e₂ : z ≡ end s i) where
  not_insens : opening s i ≡ 1
  unfolding is
  not_insens = let k = eqb-true (kind s i) 25 v in rw (ne_eqb (kind s i) 24 (λ h. absurd (omega arith)))

  pub inside_is : between s (a + 1) (z - 1) ≡ literal_bytes s i
  inside_is =
      let p : a + 1 ≡ start s i + opening s i = let o = not_insens in omega arith in
      let q : z - 1 ≡ end s i - 1 = omega arith in
      ap (λ (j : ℕ). between s j (z - 1)) p ∙ ap (between s (start s i + opening s i)) q

  pub character_is : (r : ℕ) → r ≡ char_by (escape_of (take (z - 1 - (a + 1)) (drop (a + 1) s))) (take (z - 1 - (a + 1)) (drop (a + 1) s)) → r ≡ character s i
  unfolding character between
  character_is r q = q ∙ ap (λ (xs : List ℕ). char_by (escape_of xs) xs) inside_is

-- ---- postfixes

-- what is wanted is there
want_sound : (s : List ℕ) (i k : ℕ) (f : ℕ → Postfix) → 0 < k → Accepted (want not_post s i k f) → (is s i k ≡ true) × (i < length (toks s)) × Accepted (f (i + 1))
want_sound s i k f h g = go (is s i k) refl
  where
    go : (b : Bool) → is s i k ≡ b → (is s i k ≡ true) × (i < length (toks s)) × Accepted (f (i + 1))
    go true e = (e, Steps.inside_is s i k h e, subst Accepted (want_true not_post s i k f e) g)
    go false e = absurd (g.good _ (want_false not_post s i k f e))

module _ (s : List ℕ) (i n x : ℕ) (en : n ≡ number s i) (e : x ≡ kind s (i + 1)) where
  pub exact : x ≡ 3 → Some (RepExact n, i + 2) ≡ suffix_of (from_number s i)
  unfolding from_number suffix_of
  exact h = ap (λ (k : ℕ). Some (RepExact k, i + 2)) en ∙ sym (rw (sees s (i + 1) x 3 e h))

  module _ (h : x ≡ 3 → ⊥) (g : Accepted (from_number s i)) where
    comma : (is s (i + 1) 15 ≡ true) × (i + 1 < length (toks s)) × Accepted (choose (is s (i + 1 + 1) 3) (λ u. post (RepMin (number s i)) (i + 1 + 1 + 1))
        (λ u. want not_post s (i + 1 + 1) 20 (λ k. want not_post s k 3 (λ m. post (RepMinMax (number s i) (number s (i + 1 + 1))) m))))
    unfolding from_number
    comma = want_sound s (i + 1) 15 _ (omega arith) (subst Accepted (choose_false (is s (i + 1) 3) _ _ (misses s (i + 1) x 3 e h)) g)

    module _ (y : ℕ) (f : y ≡ kind s (i + 1 + 1)) where
      pub least : y ≡ 3 → Some (RepMin n, i + 1 + 1 + 1) ≡ suffix_of (from_number s i)
      unfolding from_number suffix_of want
      least k = ap (λ (j : ℕ). Some (RepMin j, i + 1 + 1 + 1)) en ∙ sym (rw (misses s (i + 1) x 3 e h, comma.0, sees s (i + 1 + 1) y 3 f k))

      module _ (k : y ≡ 3 → ⊥) where
        second : (is s (i + 1 + 1) 20 ≡ true) × (i + 1 + 1 < length (toks s))
            × Accepted (want not_post s (i + 1 + 1 + 1) 3 (λ m. post (RepMinMax (number s i) (number s (i + 1 + 1))) m))
        second = want_sound s (i + 1 + 1) 20 _ (omega arith) (subst Accepted (choose_false (is s (i + 1 + 1) 3) _ _ (misses s (i + 1 + 1) y 3 f k)) comma.2)

        close : (is s (i + 1 + 1 + 1) 3 ≡ true) × (i + 1 + 1 + 1 < length (toks s)) × Accepted (post (RepMinMax (number s i) (number s (i + 1 + 1))) (i + 1 + 1 + 1 + 1))
        close = want_sound s (i + 1 + 1 + 1) 3 _ (omega arith) second.2

        pub close_in : i + 1 + 1 + 1 < length (toks s)
        close_in = close.1

        pub both : (m : ℕ) → m ≡ number s (i + 1 + 1) → Some (RepMinMax n m, i + 1 + 1 + 1 + 1) ≡ suffix_of (from_number s i)
        unfolding from_number suffix_of want
        both m em =
            ap (λ (l : ℕ). Some (RepMinMax l m, i + 1 + 1 + 1 + 1)) en
            ∙ ap (λ (l : ℕ). Some (RepMinMax (number s i) l, i + 1 + 1 + 1 + 1)) em
            ∙ sym (rw (misses s (i + 1) x 3 e h, comma.0, misses s (i + 1 + 1) y 3 f k, second.0, close.0))

module _ (s : List ℕ) (i : ℕ) (g : Accepted (from_comma s i)) where
  most_comma : (is s i 15 ≡ true) × (i < length (toks s)) × Accepted (want not_post s (i + 1) 20 (λ k. want not_post s k 3 (λ n. post (RepMax (number s (i + 1))) n)))
  unfolding from_comma
  most_comma = want_sound s i 15 _ (omega arith) g

  most_number : (is s (i + 1) 20 ≡ true) × (i + 1 < length (toks s)) × Accepted (want not_post s (i + 1 + 1) 3 (λ n. post (RepMax (number s (i + 1))) n))
  most_number = want_sound s (i + 1) 20 _ (omega arith) most_comma.2

  most_close : (is s (i + 1 + 1) 3 ≡ true) × (i + 1 + 1 < length (toks s)) × Accepted (post (RepMax (number s (i + 1))) (i + 1 + 1 + 1))
  most_close = want_sound s (i + 1 + 1) 3 _ (omega arith) most_number.2

  pub most_in : i + 1 + 1 < length (toks s)
  most_in = most_close.1

  pub most_is : (n : ℕ) → n ≡ number s (i + 1) → Some (RepMax n, i + 1 + 1 + 1) ≡ suffix_of (from_comma s i)
  unfolding from_comma suffix_of want
  most_is n en = ap (λ (l : ℕ). Some (RepMax l, i + 1 + 1 + 1)) en ∙ sym (rw (most_comma.0, most_number.0, most_close.0))

module _ (s : List ℕ) (i x : ℕ) (e : x ≡ kind s i) where
  pub suffix_opt : x ≡ 12 → Some (Opt, i + 1) ≡ suffix_of (postfix_at s i)
  unfolding postfix_at suffix_of
  suffix_opt h = sym (rw (sees s i x 12 e h))

  module _ (h₁ : x ≡ 12 → ⊥) where
    pub suffix_rep : x ≡ 13 → Some (Rep, i + 1) ≡ suffix_of (postfix_at s i)
    unfolding postfix_at suffix_of
    suffix_rep h = sym (rw (misses s i x 12 e h₁, sees s i x 13 e h))

    module _ (h₂ : x ≡ 13 → ⊥) where
      pub suffix_once : x ≡ 14 → Some (RepOnce, i + 1) ≡ suffix_of (postfix_at s i)
      unfolding postfix_at suffix_of
      suffix_once h = sym (rw (misses s i x 12 e h₁, misses s i x 13 e h₂, sees s i x 14 e h))

      module _ (h₃ : x ≡ 14 → ⊥) where
        pub suffix_none : (x ≡ 2 → ⊥) → None ≡ suffix_of (postfix_at s i)
        unfolding postfix_at suffix_of
        suffix_none h = sym (rw (misses s i x 12 e h₁, misses s i x 13 e h₂, misses s i x 14 e h₃, misses s i x 2 e h))

        module _ (h : x ≡ 2) (y : ℕ) (f : y ≡ kind s (i + 1)) where
          number_next : y ≡ 20 → postfix_at s i ≡ from_number s (i + 1)
          unfolding postfix_at
          number_next g = rw (misses s i x 12 e h₁, misses s i x 13 e h₂, misses s i x 14 e h₃, sees s i x 2 e h, sees s (i + 1) y 20 f g)

          comma_next : (y ≡ 20 → ⊥) → postfix_at s i ≡ from_comma s (i + 1)
          unfolding postfix_at
          comma_next g = rw (misses s i x 12 e h₁, misses s i x 13 e h₂, misses s i x 14 e h₃, sees s i x 2 e h, misses s (i + 1) y 20 f g)

          pub sound_number : y ≡ 20 → Accepted (postfix_at s i) → Accepted (from_number s (i + 1))
          sound_number g v = subst Accepted (number_next g) v

          pub sound_comma : (y ≡ 20 → ⊥) → Accepted (postfix_at s i) → Accepted (from_comma s (i + 1))
          sound_comma g v = subst Accepted (comma_next g) v

          pub suffix_number : (r : Option (Unary × ℕ)) → y ≡ 20 → r ≡ suffix_of (from_number s (i + 1)) → r ≡ suffix_of (postfix_at s i)
          suffix_number r g q = q ∙ sym (ap suffix_of (number_next g))

          pub suffix_comma : (r : Option (Unary × ℕ)) → (y ≡ 20 → ⊥) → r ≡ suffix_of (from_comma s (i + 1)) → r ≡ suffix_of (postfix_at s i)
          suffix_comma r g q = q ∙ sym (ap suffix_of (comma_next g))
