-- What the refusals of values mean for trees. A token's fault and its value are told by the same neighbours, so that a sound token's value is right and
-- a faulty one's is wrong (`judged`); the values of trees are those of tokens (Held).
use Rattle.std.specs.Prelude.{ℕ, Option, Some, None, Result, Ok, Err}
use Prim.Native.Nat.{ℕ, zero, suc, ◌+◌, ◌≤◌, ◌<◌}
use mathlib.Core.Path.{◌≡◌, refl, sym, ap, ◌∙◌, subst}
use mathlib.Core.Bool.{Bool, true, false, true≢false}
use mathlib.Core.Logic.{◌⊎◌, inl, inr, ⊎_elim}
use mathlib.Core.List.Memᴰ
use mathlib.Core.List.{List, [], ◌∷◌, ◌++◌, append_assoc, append-nil, Memᴰ}
use native.Mathlib.Omega.{arith}
use lib.Dec.{eqb}
use lib.ListN.{length}
use borrow.Author.Tests.{eqb-true}
use Rattle.text.specs.Booleans.{choose, and, or}
use Rattle.text.specs.Digits.{decimal_of}
use Rattle.text.specs.declared.DecimalError.{DecimalError}
use Rattle.text.proofs.Booleans.{or_first, or_second, or_neither, or_false, or_by, choose_by, choose_cong, choose_false, choose_true}
use Rattle.text.proofs.Tests.{lt_or_ge}
use Rattle.literal.specs.Escapes.{bad_escape}
use Rattle.token.specs.Table.{toks, kind, start, is, word}
use Rattle.token.specs.Tokens.{push_literal}
use Rattle.table.specs.Tree.{Span, Rule}
use Rattle.structure.specs.declared.Edition.{Edition}
use Rattle.structure.specs.declared.Level.{Level}
use Rattle.structure.specs.declared.Level.TheVariants.{Tagged, Plain}
use Rattle.structure.specs.declared.Refusal.{Refusal}
use Rattle.structure.specs.declared.Why.TheVariants.{Over, Zero, NotScalar, Above}
use Rattle.structure.specs.Refusals.{because}
use Rattle.structure.specs.Tokens.{spells}
use Rattle.structure.specs.Values.{value_of, number, negated, is_integer, integer_of, integer, opening, literal_bytes, string, character, exceeds_in, above_fault, repeat_fault, peek_fault, literal_fault, word_fault, number_fault, fault_at, or_fault, faults_from, faults}
use Rattle.structure.specs.Held.{Value, exact, least, most, lower, peeked, single, bytes, pushes, kind_before, minimum_value, repeat_value, number_value, value_by, value_at, values_to, rules_values, Counts, TooMany, NoTimes, NoCharacter, Right, Wrong, RightTo, FirstWrong}
use Rattle.structure.specs.Structure.{rules, grammar}
use Rattle.structure.proofs.Steps.{is_kind}
use Rattle.structure.proofs.Faults.{alone, exceeds_above, exceeds_not}
use Rattle.structure.proofs.Held.{at_most_one, before_next, values_next, grammar_values}
use Rattle.structure.proofs.Numerals.{number_digits, integer_digits}

-- what holds of both branches of two choices by one test
pub choose_both : {A B : Type 0} (P : A → B → Type 0) (b : Bool) (f g : Unit {0} → A) (h k : Unit {0} → B) → (b ≡ true → P (f tt) (h tt)) → (b ≡ false → P (g tt) (k tt)) → P (choose b f g) (choose b h k)
choose_both P true f g h k y n = y refl
choose_both P false f g h k y n = n refl

module _ (edition : Edition) (level : Level) (s : List ℕ) (i : ℕ) where
  -- a sound token's value is right, and a faulty token has a value that is wrong
  abbrev Judged : Option Refusal → List Value → Type 0
  Judged None vs = (v : Value) → vs ≡ v ∷ [] → Right edition level s i v
  Judged (Some r) vs = (v : Value) × (vs ≡ v ∷ []) × Wrong edition level s i v r

  is_right : (w : Value) → Right edition level s i w → Judged None (w ∷ [])
  is_right w h v e = let z : w ≡ v = cc in subst (λ (x : Value). Right edition level s i x) z h

  has_none : Judged None []
  has_none v e = let z : ◌≡◌ {A = ℕ} 0 1 = cc in absurd (omega arith)

  -- ---- PEEK numbers

  integer_is : (m : ℕ) → integer_of s i ≡ Ok m → integer s i ≡ choose (is s i 21) (λ u. negated m) (λ u. m)
  unfolding integer
  integer_is m e = choose_cong (is s i 21) _ _ _ _ (λ v. ap (λ (d : Result ℕ DecimalError). negated (value_of d)) e) (λ v. ap value_of e)

  peek_judged : is_integer s i ≡ true → (d : Result ℕ DecimalError) → integer_of s i ≡ d → Judged (peek_fault s i d) (peeked (integer s i) ∷ [])
  peek_judged o (Ok m) e = is_right (peeked (integer s i)) (inr (m, e, integer_is m e))
  peek_judged o (Err DecimalError.Over) e = (peeked (integer s i), refl, (o, e, refl))
  peek_judged o (Err DecimalError.NotDigits) e = absurd (integer_digits s i o e)

  -- ---- counts

  count_is : (n : ℕ) → decimal_of 4294967295 (word s i) ≡ Ok n → (number s i ≡ n) × Counts s i (number s i)
  unfolding number
  count_is n e =
      let z : value_of (decimal_of 4294967295 (word s i)) ≡ n = ap value_of e in
      (z, e ∙ ap Ok (sym z))

  -- a comma and a number behind it
  abbrev paired : Bool
  paired = and (is s (i + 1) 15) (is s (i + 2) 20)

  minimum_judged : (n : ℕ) → Counts s i (number s i) → number s i ≡ n → Judged (above_fault edition s i n) (minimum_value s i ∷ [])
  minimum_judged n c z =
      let P : Value → Type 0 = λ v. Wrong edition level s i v (because Above (start s i)) in
      let R : Value → Type 0 = Right edition level s i in
      choose_by (λ (f : Option Refusal). Judged f (minimum_value s i ∷ [])) (exceeds_in edition s i n) _ _
      (λ x.
      let (q, t, l, k) = exceeds_above edition s i n x in
      (minimum_value s i, refl, choose_by P paired _ _ (λ a. inr (c, q, l, omega arith, refl)) (λ a. absurd (true≢false (sym t ∙ a)))))
      (λ x. is_right (minimum_value s i) (choose_by R paired _ _ (λ a. (c, λ q l. let k = exceeds_not edition s i n a x q l in omega arith)) (λ a. c)))

  repeat_judged : (b : ℕ) → is s i 20 ≡ true → (d : Result ℕ DecimalError) → decimal_of 4294967295 (word s i) ≡ d → Judged (repeat_fault edition s i d) (repeat_value s b i ∷ [])
  repeat_judged b o (Err DecimalError.NotDigits) e = absurd (number_digits s i 4294967295 o e)
  repeat_judged b o (Err DecimalError.Over) e =
      let P : Value → Type 0 = λ v. Wrong edition level s i v (because Over (start s i)) in (
        repeat_value s b i,
        refl,
        choose_by P (is s (i + 1) 3) _ _ (λ c. choose_by P (eqb b 15) _ _ (λ a. inl (e, refl)) (λ a. inl (e, refl))) (λ c. choose_by P paired _ _ (λ a. inl (e, refl)) (λ a. (e, refl))),
      )
  repeat_judged b o (Ok zero) e =
      let P : Value → Type 0 = λ v. Wrong edition level s i v (because Zero (start s i)) in
      let R : Value → Type 0 = Right edition level s i in
      let (z, c) = count_is 0 e in
      choose_both (λ (f : Option Refusal) (v : Value). Judged f (v ∷ [])) (is s (i + 1) 3) _ _ _ _
      (λ a. (choose (eqb b 15) (λ u. most (number s i)) (λ u. exact (number s i)), refl, choose_by P (eqb b 15) _ _ (λ a. inr (e, refl)) (λ a. inr (e, refl))))
      (λ a. is_right (minimum_value s i) (choose_by R paired _ _ (λ a. (c, λ q l. omega arith)) (λ a. c)))
  repeat_judged b o (Ok (suc n)) e =
      let (z, c) = count_is (suc n) e in
      let R : Value → Type 0 = Right edition level s i in
      let w = choose (eqb b 15) (λ u. most (number s i)) (λ u. exact (number s i)) in
      choose_by (λ (v : Value). Judged (above_fault edition s i (suc n)) (v ∷ [])) (is s (i + 1) 3) _ _
      (λ a.
      subst (λ (f : Option Refusal). Judged f (w ∷ [])) (sym (choose_false (exceeds_in edition s i (suc n)) (λ u. Some (because Above (start s i))) (λ u. None) (alone edition s i (suc n) a)))
      (is_right w (choose_by R (eqb b 15) _ _ (λ a. (c, omega arith)) (λ a. (c, omega arith)))))
      (λ a. minimum_judged (suc n) c z)

  number_judged : (b : ℕ) → is s i 20 ≡ true → Judged (number_fault edition s b i) (number_value s b i ∷ [])
  number_judged b o =
      choose_both (λ (f : Option Refusal) (v : Value). Judged f (v ∷ [])) (or (eqb b 4) (eqb b 22)) _ _ _ _ (λ a. peek_judged (or_first (is s i 20) (is s i 21) o) (integer_of s i) refl)
      (λ a. repeat_judged b o (decimal_of 4294967295 (word s i)) refl)

  -- ---- literals and words

  literal_judged : (w : Value) → (bad_escape (literal_bytes s i) ≡ None → Right edition level s i w) → ((r : Refusal) → NoCharacter s i r → Wrong edition level s i w r) → (c : Option ℕ) → bad_escape (literal_bytes s i) ≡ c
      → Judged (literal_fault s i c) (w ∷ [])
  literal_judged w f g None e = is_right w (f e)
  literal_judged w f g (Some k) e = (w, refl, g (because NotScalar (start s i + opening s i + k)) (k, e, refl))

  word_judged : (l : Level) → level ≡ l → Judged (word_fault l s i) (choose (spells push_literal s i) (λ u. pushes ∷ []) (λ u. []))
  word_judged Tagged e = choose_by (Judged None) (spells push_literal s i) _ _ (λ a. is_right pushes e) (λ a. has_none)
  word_judged Plain e = choose_both Judged (spells push_literal s i) _ _ _ _ (λ a. (pushes, refl, (e, refl))) (λ a. has_none)

  -- ---- a token

  -- what stands in the last branch of `fault_at`
  abbrev literal_part : Option Refusal
  literal_part = choose (or (is s i 23) (or (is s i 24) (is s i 25))) (λ u. literal_fault s i (bad_escape (literal_bytes s i))) (λ u. None)

  literal_here : or (is s i 23) (or (is s i 24) (is s i 25)) ≡ true → (w : Value) → (bad_escape (literal_bytes s i) ≡ None → Right edition level s i w) → ((r : Refusal) → NoCharacter s i r → Wrong edition level s i w r)
      → Judged literal_part (w ∷ [])
  literal_here o w f g = rw (choose_true (or (is s i 23) (or (is s i 24) (is s i 25))) (λ u. literal_fault s i (bad_escape (literal_bytes s i))) (λ u. None) o) (literal_judged w f g (bad_escape (literal_bytes s i)) refl)

  literal_none : or (is s i 23) (or (is s i 24) (is s i 25)) ≡ false → (vs : List Value) → Judged None vs → Judged literal_part vs
  literal_none o vs h = rw (choose_false (or (is s i 23) (or (is s i 24) (is s i 25))) (λ u. literal_fault s i (bad_escape (literal_bytes s i))) (λ u. None) o) h

  judged : Judged (fault_at edition level s (kind_before s i) i) (value_at s i)
  unfolding fault_at value_by is
  judged =
      let k = kind s i in
      choose_both Judged (eqb k 18) _ _ _ _ (λ a. word_judged level refl)
      (λ a. choose_both Judged (eqb k 20) _ _ _ _ (λ b. number_judged (kind_before s i) b)
      (λ b. choose_both Judged (eqb k 21) _ _ _ _ (λ c. peek_judged (or_second (is s i 20) (is s i 21) c) (integer_of s i) refl)
      (λ c. choose_by (Judged literal_part) (eqb k 22) _ _
      (λ d.
      let q : kind s i ≡ 22 = eqb-true (kind s i) 22 d in
      literal_none (ap (λ (x : ℕ). or (eqb x 23) (or (eqb x 24) (eqb x 25))) q) _
      (choose_by (Judged None) (eqb (kind_before s i) 4) _ _ (λ f. is_right (peeked 0) (inl (d, refl))) (λ f. has_none)))
      (λ d. choose_by (Judged literal_part) (or (eqb k 23) (eqb k 24)) _ _
      (λ f. literal_here (or_by (is s i 23) (is s i 24) f (λ g. or_first (is s i 23) _ g) (λ g. or_second (is s i 23) _ (or_first (is s i 24) (is s i 25) g))) (bytes (string s i)) (λ e. e) (λ r h. h))
      (λ f. choose_by (Judged literal_part) (eqb k 25) _ _ (λ g. literal_here (or_second (is s i 23) _ (or_second (is s i 24) (is s i 25) g)) (single (character s i)) (λ e. e) (λ r h. h))
      (λ g.
      let (x, y) = or_false (is s i 23) (is s i 24) f in
      literal_none (or_neither (is s i 23) _ x (or_neither (is s i 24) (is s i 25) y g)) [] has_none))))))

  positive_not : (n : ℕ) {r : Refusal} → Counts s i n → 1 ≤ n → TooMany s i r ⊎ NoTimes s i r → ⊥
  positive_not n e h (inl (f, q)) = let z : ◌≡◌ {A = ℕ} 0 1 = cc in omega arith
  positive_not n e h (inr (f, q)) = let z : n ≡ 0 = cc in omega arith

  -- no value is both
  pub right_not_wrong : (v : Value) (r : Refusal) → Right edition level s i v → Wrong edition level s i v r → ⊥
  right_not_wrong (exact n) r (e, h) w = positive_not n e h w
  right_not_wrong (least n) r e (f, q) = let z : ◌≡◌ {A = ℕ} 0 1 = cc in omega arith
  right_not_wrong (lower n m) r (e, h) (inl (f, q)) = let z : ◌≡◌ {A = ℕ} 0 1 = cc in omega arith
  right_not_wrong (lower n m) r (e, h) (inr (f, g, l, k, q)) = omega (arith, h g l)
  right_not_wrong (most n) r (e, h) w = positive_not n e h w
  right_not_wrong (peeked n) r (inl (d, z)) (o, f, q) =
      let k = is_kind s i 22 d in
      or_by (is s i 20) (is s i 21) o (λ a. omega (arith, is_kind s i 20 a)) (λ a. omega (arith, is_kind s i 21 a))
  right_not_wrong (peeked n) r (inr (m, e, z)) (o, f, q) = let y : ◌≡◌ {A = ℕ} 0 1 = cc in omega arith
  right_not_wrong (single c) r e (k, f, q) = let z : ◌≡◌ {A = ℕ} 0 1 = cc in omega arith
  right_not_wrong (bytes b) r e (k, f, q) = let z : ◌≡◌ {A = ℕ} 0 1 = cc in omega arith
  right_not_wrong pushes r e (f, q) = let z : ◌≡◌ {A = ℕ} 0 1 = cc in omega arith

-- ---- a text

module _ (edition : Edition) (level : Level) (s : List ℕ) where
  abbrev fault_of : ℕ → Option Refusal
  fault_of i = fault_at edition level s (kind_before s i) i

  -- the first fault among n tokens from an index on
  abbrev First : ℕ → ℕ → Option Refusal → Type 0
  First i n None = (j : ℕ) → i ≤ j → j < i + n → fault_of j ≡ None
  First i n (Some r) = (j : ℕ) × (i ≤ j) × (j < i + n) × (fault_of j ≡ Some r) × ((k : ℕ) → i ≤ k → k < j → fault_of k ≡ None)

  -- this token, or one behind it
  here_or : {P : Type 0} (i j : ℕ) → i ≤ j → (i ≡ j → P) → (i + 1 ≤ j → P) → P
  here_or i j h f g = ⊎_elim (λ l. g (omega arith)) (λ m. f (omega arith)) (lt_or_ge i j)

  first_by : (i n : ℕ) (f : Option Refusal) → fault_of i ≡ f → (g : Option Refusal) → First (i + 1) n g → First i (suc n) (or_fault f (λ u. g))
  first_by i n (Some r) e g h = (i, omega arith, omega arith, e, λ k a b. absurd (omega arith))
  first_by i n None e None h = λ j a b. here_or i j a (λ q. ap fault_of (sym q) ∙ e) (λ l. h j l (omega arith))
  first_by i n None e (Some r) h =
      let (j, a, b, f, g) = h in
      (j, omega arith, omega arith, f, λ k c d. here_or i k c (λ q. ap fault_of (sym q) ∙ e) (λ l. g k l d))

  first_is : (n i b : ℕ) → kind_before s i ≡ b → First i n (faults_from edition level s b i n)
  unfolding faults_from
  first_is zero i b e = λ j a c. absurd (omega arith)
  first_is (suc n) i b e =
      first_by i n (fault_at edition level s b i) (ap (λ (x : ℕ). fault_at edition level s x i) e) (faults_from edition level s (kind s i) (i + 1) n) (first_is n (i + 1) (kind s i) (before_next s i))

  first_fault_lem : (f : Option Refusal) → faults edition level s ≡ f → First 0 (length (toks s)) f
  unfolding faults
  first_fault_lem f e = subst (λ (x : Option Refusal). First 0 (length (toks s)) x) e (first_is (length (toks s)) 0 0 refl)

  right_at : (i : ℕ) → fault_of i ≡ None → (v : Value) → value_at s i ≡ v ∷ [] → Right edition level s i v
  right_at i e = subst (λ (f : Option Refusal). Judged edition level s i f (value_at s i)) e (judged edition level s i)

  -- where no fault is found, every token's value is what its bytes say, and allowed
  pub sound_right : faults edition level s ≡ None → RightTo edition level s (length (toks s))
  sound_right e i h v q = right_at i (first_fault_lem None e i (omega arith) (omega arith)) v q

  -- and where every value is, none is found
  pub right_sound : RightTo edition level s (length (toks s)) → faults edition level s ≡ None
  right_sound h = go (faults edition level s) refl
    where
      go : (f : Option Refusal) → faults edition level s ≡ f → f ≡ None
      go None e = refl
      go (Some r) e =
          let (i, a, b, f, g) = first_fault_lem (Some r) e in
          let (v, q, w) = subst (λ (f : Option Refusal). Judged edition level s i f (value_at s i)) f (judged edition level s i) in
          absurd (right_not_wrong edition level s i v r (h i (omega arith) v q) w)

  token_of_lem : (n : ℕ) (v : Value) → Memᴰ v (values_to s n) → (i : ℕ) × (i < n) × (value_at s i ≡ v ∷ [])
  unfolding values_to
  token_of_lem zero v m = absurd (Memᴰ.not-nil m)
  token_of_lem (suc n) v m =
      ⊎_elim (λ l. let (i, h, e) = token_of_lem n v l in (i, omega arith, e))
      (λ l. ⊎_elim (λ e. absurd (Memᴰ.not-nil (rw e at l))) (λ a. let (w, e) = a in let z : v ≡ w = Memᴰ.eq_of_singleton (rw e at l) in (n, omega arith, e ∙ ap (λ (x : Value). x ∷ []) (sym z))) (at_most_one s n))
      (Memᴰ.append_cases (values_to s n) m)

  -- so every value of the trees is what the bytes of a token say, and allowed
  pub each_right : (us : List (Rule Span)) → grammar level s ≡ rules us → faults edition level s ≡ None → (v : Value) → Memᴰ v (rules_values us) → (i : ℕ) × (value_at s i ≡ v ∷ []) × Right edition level s i v
  each_right us g e v m =
      let (i, h, q) = token_of_lem (length (toks s)) v (rw (grammar_values level s us g) at m) in
      (i, q, sound_right e i h v q)

  values_split : (i n : ℕ) → i ≤ n → (vs : List Value) × (values_to s n ≡ values_to s i ++ vs)
  unfolding values_to
  values_split i zero h =
      let z : zero ≡ i = omega arith in
      ([], ap (values_to s) z ∙ sym (append-nil (values_to s i)))
  values_split i (suc n) h =
      here_or i (suc n) h (λ q. ([], ap (values_to s) (sym q) ∙ sym (append-nil (values_to s i))))
      (λ l.
      let (vs, e) = values_split i n (omega arith) in
      (vs ++ value_at s n, ap (λ (x : List Value). x ++ value_at s n) e ∙ append_assoc (values_to s i) vs (value_at s n)))

  -- where a fault is given, it is that of the first value of the trees that is wrong
  pub first_wrong : (us : List (Rule Span)) (r : Refusal) → grammar level s ≡ rules us → faults edition level s ≡ Some r → FirstWrong edition level s us r
  first_wrong us r g e =
      let (i, a, b, f, h) = first_fault_lem (Some r) e in
      let (v, q, w) = subst (λ (f : Option Refusal). Judged edition level s i f (value_at s i)) f (judged edition level s i) in
      let (vs, z) = values_split (i + 1) (length (toks s)) (omega arith) in
      record {
        at = i;
        value = v;
        behind = vs;
        held =
            grammar_values level s us g ∙ z ∙ ap (λ (x : List Value). x ++ vs) (values_next s i ∙ ap (λ (x : List Value). values_to s i ++ x) q)
            ∙ append_assoc (values_to s i) (v ∷ []) vs;
        token = q;
        wrong = w;
        sooner = λ j l. right_at j (h j (omega arith) l);
      }
