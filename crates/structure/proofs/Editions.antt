-- The editions side by side: the first never gives 15, and another differs from it by 15 alone. The faults of a token agree or the one is 15 (`Adds`),
-- and so do those of all tokens. Where 15 is given, the fault of the first edition, if it has one, is that of a later token.
use Rattle.std.specs.Prelude.{Option, Some, None, ℕ, Result, Ok, Err}
use Prim.Native.Nat.{ℕ, zero, suc, ◌+◌, ◌<◌}
use mathlib.Core.Path.{◌≡◌, refl, sym, ap, subst, ◌∙◌}
use mathlib.Core.Logic.{◌⊎◌, inl, inr, ⊎_elim}
use mathlib.Core.List.{List, [], ◌∷◌}
use native.Mathlib.Omega.{arith}
use lib.Dec.{eqb}
use lib.ListN.{length}
use Rattle.text.specs.Booleans.{or}
use Rattle.text.specs.Digits.{decimal_of}
use Rattle.text.specs.declared.DecimalError.{DecimalError}
use Rattle.text.proofs.Tests.{lt_or_ge}
use Rattle.text.proofs.Booleans.{choose_by}
use Rattle.token.specs.Table.{toks, kind, start, is, word}
use Rattle.structure.specs.declared.Edition.{Edition}
use Rattle.structure.specs.declared.Edition.TheVariants.{First, Second}
use Rattle.structure.specs.declared.Level.{Level}
use Rattle.structure.specs.declared.Why.TheVariants.{Over, Zero, PeekRange, NotScalar, NotPlain, Above}
use Rattle.table.specs.Tree.{Span, Rule}
use Rattle.structure.specs.declared.Refusal.{Refusal}
use Rattle.structure.specs.declared.Why.{Why}
use Rattle.structure.specs.Refusals.{because, fault_by}
use Rattle.structure.specs.Held.{Value, exact, least, lower, most, peeked, single, bytes, pushes, value_at, Right, Wrong, FirstWrong}
use Rattle.structure.specs.Values.{exceeds_in, repeat_fault, number_fault, fault_at, or_fault, faults_from, faults}
use Rattle.structure.proofs.Judged.{choose_both, right_not_wrong}
use Rattle.structure.proofs.Reasons.{OfValues, faults_why}

-- a fault is another one, or 15
abbrev Adds : Option Refusal → Option Refusal → Type 0
Adds f g = (f ≡ g) ⊎ ((p : ℕ) × (f ≡ fault_by Above p))

or_adds : (f g : Option Refusal) (x y : Unit {0} → Option Refusal) → Adds f g → Adds (x tt) (y tt) → Adds (or_fault f x) (or_fault g y)
or_adds f None x y (inl e) h = rw e h
or_adds f (Some r) x y (inl e) h = rw e (inl refl)
or_adds f g x y (inr (p, e)) h = rw e (inr (p, refl))

module _ (edition : Edition) (level : Level) (s : List ℕ) where
  repeat_adds : (i : ℕ) (d : Result ℕ DecimalError) → Adds (repeat_fault edition s i d) (repeat_fault First s i d)
  repeat_adds i (Err DecimalError.NotDigits) = inl refl
  repeat_adds i (Err DecimalError.Over) = inl refl
  repeat_adds i (Ok zero) = inl refl
  repeat_adds i (Ok (suc n)) = choose_by (λ (f : Option Refusal). Adds f None) (exceeds_in edition s i (suc n)) _ _ (λ e. inr (start s i, refl)) (λ e. inl refl)

  number_adds : (before i : ℕ) → Adds (number_fault edition s before i) (number_fault First s before i)
  number_adds before i = choose_both Adds (or (eqb before 4) (eqb before 22)) _ _ _ _ (λ e. inl refl) (λ e. repeat_adds i (decimal_of 4294967295 (word s i)))

  token_adds : (before i : ℕ) → Adds (fault_at edition level s before i) (fault_at First level s before i)
  unfolding fault_at
  token_adds before i =
      choose_both Adds (is s i 18) _ _ _ _ (λ e. inl refl) (λ e. choose_both Adds (is s i 20) _ _ _ _ (λ e. number_adds before i) (λ e. inl refl))

  tokens_add : (n before i : ℕ) → Adds (faults_from edition level s before i n) (faults_from First level s before i n)
  unfolding faults_from
  tokens_add zero before i = inl refl
  tokens_add (suc n) before i = or_adds (fault_at edition level s before i) (fault_at First level s before i) _ _ (token_adds before i) (tokens_add n (kind s i) (i + 1))

  -- where no 15 is given, the faults are those of the first edition
  pub second_adds : ((p : ℕ) → faults edition level s ≡ fault_by Above p → ⊥) → faults edition level s ≡ faults First level s
  unfolding faults
  second_adds h = ⊎_elim (λ e. e) (λ a. absurd (h a.0 a.1)) (tokens_add (length (toks s)) 0 0)

-- the first edition gives none
pub first_never : (level : Level) (s : List ℕ) (p : ℕ) → faults First level s ≡ fault_by Above p → ⊥
first_never level s p e = no_above (faults_why First level s (because Above p) e)
  where
    no_above : OfValues First Above → ⊥
    no_above (inl q) = let z : ◌≡◌ {A = ℕ} 0 1 = cc in omega arith
    no_above (inr (inl q)) = let z : ◌≡◌ {A = ℕ} 0 1 = cc in omega arith
    no_above (inr (inr (inl q))) = let z : ◌≡◌ {A = ℕ} 0 1 = cc in omega arith
    no_above (inr (inr (inr (inl q)))) = let z : ◌≡◌ {A = ℕ} 0 1 = cc in omega arith
    no_above (inr (inr (inr (inr (inl q))))) = let z : ◌≡◌ {A = ℕ} 0 1 = cc in omega arith
    no_above (inr (inr (inr (inr (inr (q, r)))))) = let z : ◌≡◌ {A = ℕ} 0 1 = cc in omega arith

-- ---- where 15 is given

-- two refusals of different reasons are not one
other : {A : Type 0} (w : Why) {p q : ℕ} → because Above p ≡ because w q → (Above ≡ w → ⊥) → A
other w e h = absurd (h (ap (λ (r : Refusal). r.why) e))

-- of two numbers, the one is below the other if it is neither equal nor above
order : (i j : ℕ) → (i ≡ j → ⊥) → (j < i → ⊥) → i < j
order i j e l = ⊎_elim (λ h. h) (λ g. ⊎_elim (λ h. absurd (l h)) (λ k. absurd (e (omega arith))) (lt_or_ge j i)) (lt_or_ge i j)

-- what is right by the second edition is right by the first
weaker : (level : Level) (s : List ℕ) (i : ℕ) (v : Value) → Right Second level s i v → Right First level s i v
weaker level s i (exact n) h = h
weaker level s i (least n) h = h
weaker level s i (lower n m) (c, h) = (c, λ e l. h refl l)
weaker level s i (most n) h = h
weaker level s i (peeked n) h = h
weaker level s i (single c) h = h
weaker level s i (bytes b) h = h
weaker level s i pushes h = h

-- a value that is refused by 15 is right by the first edition
above_right : (level : Level) (s : List ℕ) (i p : ℕ) (v : Value) → Wrong Second level s i v (because Above p) → Right First level s i v
above_right level s i p (lower n m) (inr (c, e, l, k, q)) = (c, λ f. let z : ◌≡◌ {A = ℕ} 0 1 = cc in absurd (omega arith))
above_right level s i p (lower n m) (inl (f, q)) = other Over q (λ e. let z : ◌≡◌ {A = ℕ} 0 1 = cc in omega arith)
above_right level s i p (exact n) (inl (f, q)) = other Over q (λ e. let z : ◌≡◌ {A = ℕ} 0 1 = cc in omega arith)
above_right level s i p (exact n) (inr (f, q)) = other Zero q (λ e. let z : ◌≡◌ {A = ℕ} 0 1 = cc in omega arith)
above_right level s i p (least n) (f, q) = other Over q (λ e. let z : ◌≡◌ {A = ℕ} 0 1 = cc in omega arith)
above_right level s i p (most n) (inl (f, q)) = other Over q (λ e. let z : ◌≡◌ {A = ℕ} 0 1 = cc in omega arith)
above_right level s i p (most n) (inr (f, q)) = other Zero q (λ e. let z : ◌≡◌ {A = ℕ} 0 1 = cc in omega arith)
above_right level s i p (peeked n) (f, g, q) = other PeekRange q (λ e. let z : ◌≡◌ {A = ℕ} 0 1 = cc in omega arith)
above_right level s i p (single c) (k, f, q) = other NotScalar q (λ e. let z : ◌≡◌ {A = ℕ} 0 1 = cc in omega arith)
above_right level s i p (bytes b) (k, f, q) = other NotScalar q (λ e. let z : ◌≡◌ {A = ℕ} 0 1 = cc in omega arith)
above_right level s i p pushes (f, q) = other NotPlain q (λ e. let z : ◌≡◌ {A = ℕ} 0 1 = cc in omega arith)

-- the fault that the first edition finds then, if any, is that of a later token
pub second_sooner : (level : Level) (s : List ℕ) (us : List (Rule Span)) (p : ℕ) (r : Refusal) (x : FirstWrong Second level s us (because Above p)) (y : FirstWrong First level s us r) → x.at < y.at
second_sooner level s us p r x y = order x.at y.at (λ e. here e) (λ l. before l)
  where
    right : Right First level s x.at x.value
    right = above_right level s x.at p x.value x.wrong

    before : y.at < x.at → ⊥
    before l = right_not_wrong First level s y.at y.value r (weaker level s y.at y.value (x.sooner y.at l y.value y.token)) y.wrong

    here : x.at ≡ y.at → ⊥
    here e =
        let f : x.value ∷ [] ≡ y.value ∷ [] = sym x.token ∙ ap (value_at s) e ∙ y.token in
        let g : x.value ≡ y.value = cc in
        right_not_wrong First level s y.at y.value r (subst (λ (v : Value). Right First level s y.at v) g (subst (λ (i : ℕ). Right First level s i x.value) e right)) y.wrong
