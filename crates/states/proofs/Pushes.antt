-- Words that begin as PUSH_LITERAL does.
use Prim.Native.Nat.{ℕ, zero, suc, ◌+◌, ◌-◌, ◌≤◌, ◌<◌}
use mathlib.Core.Path.{◌≡◌, refl, sym, ap, ◌∙◌}
use mathlib.Core.Bool.{Bool, true, false, not}
use mathlib.Core.List.{List, [], ◌∷◌}
use native.Mathlib.Nat.{add-zero}
use native.Mathlib.Omega.{arith}
use lib.Dec.{ltb, eqb}
use lib.ListN.{length, drop, get_or, drop_of_length-le}
use lib.Seq.{drop-cons}
use borrow.Author.Tests.{eqb-true, eqb-false, ne_eqb, eq-eqb, ltb-true, ltb-false, lt-ltb, not-true}
use Rattle.text.specs.Booleans.{and, or, all}
use Rattle.text.specs.Classes.{class_of}
use Rattle.text.specs.Words.{in_word, begins, push}
use Rattle.text.proofs.Tests.{lt_or_ge}
use Rattle.text.proofs.Booleans.{and_left, and_one, and_right, and_second, choose_by, or_false, or_second, or_true}
use Rattle.token.specs.Blanks.{run, first, words}
use Rattle.token.specs.Tokens.{push_literal}
use Rattle.token.specs.Lists.{Tokens}
use Rattle.token.specs.declared.Token.TheVariants.{Found, NoToken}
use mathlib.Core.Logic.{◌⊎◌, inl, inr}
use Rattle.states.specs.declared.State.TheVariants.{Push}
use Rattle.states.specs.Machine.{Out, push_row, last, end_row}
use Rattle.states.proofs.From.{ended, from_end, ended_next, none}
use Rattle.states.proofs.Left.{push_ok, pushed, with_rest}
use Rattle.states.proofs.Rows.{run_go, run_none, run_stop}
use Rattle.states.proofs.Words.{push_beyond, again_law, word_row_lem}

all_at : (f : ℕ → Bool) (xs : List ℕ) (n : ℕ) → all f xs ≡ true → n < length xs → f (get_or xs n 0) ≡ true
unfolding all
all_at f [] n e h = absurd (omega arith)
all_at f (x ∷ xs) zero e h = and_left (f x) (all f xs) e
all_at f (x ∷ xs) (suc n) e h = all_at f xs n (and_right (f x) (all f xs) e) (omega arith)

letters : all in_word push_literal ≡ true
unfolding all class_of
letters = refl

same_push : (n : ℕ) → n < 4 → get_or push_literal n 0 ≡ get_or push n 0
same_push zero h = refl
same_push (suc zero) h = refl
same_push (suc (suc zero)) h = refl
same_push (suc (suc (suc zero))) h = refl
same_push (suc (suc (suc (suc n)))) h = absurd (omega arith)

module _ (p : List ℕ) (n : ℕ) where
  begins_go : (x : ℕ) (rest : List ℕ) → n < length p → x ≡ get_or p n 0 → begins (drop n p) (x ∷ rest) ≡ begins (drop (suc n) p) rest
  unfolding begins
  begins_go x rest h e = rw (drop-cons p n 0 h, eq-eqb x (get_or p n 0) e)

  begins_no : (x : ℕ) (rest : List ℕ) → n < length p → eqb x (get_or p n 0) ≡ false → begins (drop n p) (x ∷ rest) ≡ false
  unfolding begins
  begins_no x rest h e = rw (drop-cons p n 0 h, e)

  begins_over : (xs : List ℕ) → length p ≤ n → begins (drop n p) xs ≡ true
  unfolding begins
  begins_over xs h = rw (drop_of_length-le p h)

  begins_end : n < length p → begins (drop n p) [] ≡ false
  unfolding begins
  begins_end h = rw (drop-cons p n 0 h)

push_front : (n x : ℕ) (rest : List ℕ) → x ≡ get_or push_literal n 0 → (n < 4) ⊎ (4 ≤ n) → begins (drop n push) (x ∷ rest) ≡ begins (drop (suc n) push) rest
push_front n x rest e (inl h) = begins_go push n x rest h (e ∙ same_push n h)
push_front n x rest e (inr h) = begins_over push n (x ∷ rest) h ∙ sym (begins_over push (suc n) rest (omega arith))

push_on : (n x : ℕ) (rest : List ℕ) → n < 12 → x ≡ get_or push_literal n 0 → pushed n (x ∷ rest) ≡ pushed (suc n) rest
push_on n x rest h e =
    let w : words (x ∷ rest) ≡ suc (words rest) = run_go (first in_word) x rest (rw e (all_at in_word push_literal n letters h)) in
    let z : n + suc (words rest) ≡ suc n + words rest = omega arith in
    rw (w, z, push_front n x rest e (lt_or_ge n 4), begins_go push_literal n x rest h e)

push_word : (n x : ℕ) (rest : List ℕ) → n < 4 → eqb x (get_or push_literal n 0) ≡ false → pushed n (x ∷ rest) ≡ Found 18 0 (n + words (x ∷ rest))
push_word n x rest h e = rw (begins_no push n x rest h (rw (← same_push n h) e))

-- PUSH or PUSH_LITERAL, and no word byte
whole_by : (n : ℕ) (xs : List ℕ) (p q : Bool) → eqb n 4 ≡ p → eqb n 12 ≡ q → or p q ≡ true → words xs ≡ 0 → pushed n xs ≡ Found 18 0 (n + words xs)
whole_by n xs true q e f g w =
    let h : n ≡ 4 = eqb-true n 4 e in
    let z : n + 0 ≡ 4 = omega arith in
    let l : length push ≤ n = omega arith in
    rw (w, z, begins_over push n xs l)
whole_by n xs false true e f g w =
    let h : n ≡ 12 = eqb-true n 12 f in
    let z : n + 0 ≡ 12 = omega arith in
    let l : length push ≤ n = omega arith in
    let k : length push_literal ≤ n = omega arith in
    rw (w, z, begins_over push n xs l, begins_over push_literal n xs k)
whole_by n xs false false e f g w = let z : ◌≡◌ {A = ℕ} 0 1 = cc in absurd (omega arith)

-- no word
push_none : (n : ℕ) (xs : List ℕ) → 4 ≤ n → eqb (n + words xs) 4 ≡ false → and (eqb (n + words xs) 12) (begins (drop n push_literal) xs) ≡ false → pushed n xs ≡ NoToken 0
push_none n xs h e f = rw (begins_over push n xs h, e, f)

none_word : (n x : ℕ) (rest : List ℕ) → 4 ≤ n → (n < 12) ⊎ (12 ≤ n) → and (ltb n 12) (eqb x (get_or push_literal n 0)) ≡ false → in_word x ≡ true → pushed n (x ∷ rest) ≡ NoToken 0
none_word n x rest h (inl l) e f =
    let w : words (x ∷ rest) ≡ suc (words rest) = run_go (first in_word) x rest f in
    let k : eqb x (get_or push_literal n 0) ≡ false = rw (lt-ltb n 12 l) at e in
    push_none n (x ∷ rest) h (ne_eqb (n + words (x ∷ rest)) 4 (λ q. omega arith)) (rw (begins_no push_literal n x rest l k) (and_second (eqb (n + words (x ∷ rest)) 12) false refl))
none_word n x rest h (inr l) e f =
    let w : words (x ∷ rest) ≡ suc (words rest) = run_go (first in_word) x rest f in
    push_none n (x ∷ rest) h (ne_eqb (n + words (x ∷ rest)) 4 (λ q. omega arith)) (rw (ne_eqb (n + words (x ∷ rest)) 12 (λ q. omega arith)))

none_other : (n : ℕ) (xs : List ℕ) → 4 ≤ n → or (eqb n 4) (eqb n 12) ≡ false → words xs ≡ 0 → pushed n xs ≡ NoToken 0
none_other n xs h e w =
    let z : n + 0 ≡ n = omega arith in
    let y : n + words xs ≡ n = ap (λ (k : ℕ). n + k) w ∙ z in
    push_none n xs h (ap (λ (k : ℕ). eqb k 4) y ∙ (or_false (eqb n 4) (eqb n 12) e).0) (rw (ap (λ (k : ℕ). eqb k 12) y ∙ (or_false (eqb n 4) (eqb n 12) e).1))

none_by : (n x : ℕ) (rest : List ℕ) (p : Bool) → 4 ≤ n → and (ltb n 12) (eqb x (get_or push_literal n 0)) ≡ false → and (or (eqb n 4) (eqb n 12)) (not p) ≡ false → in_word x ≡ p → pushed n (x ∷ rest) ≡ NoToken 0
none_by n x rest true h e f g = none_word n x rest h (lt_or_ge n 12) e g
none_by n x rest false h e f g = none_other n (x ∷ rest) h (sym (and_one (or (eqb n 4) (eqb n 12))) ∙ f) (run_none (first in_word) x rest g)

pub push_row_lem : (a n x : ℕ) (rest : List ℕ) → ended a n (x ∷ rest) (pushed n (x ∷ rest)) ≡ with_rest (push_row a n x) rest
unfolding push_row
push_row_lem a n x rest =
    let P : Out → Type 0 = λ o. ended a n (x ∷ rest) (pushed n (x ∷ rest)) ≡ with_rest o rest in
    choose_by P (and (ltb n 12) (eqb x (get_or push_literal n 0))) _ _
    (λ e.
    let h : n < 12 = ltb-true n 12 (and_left (ltb n 12) (eqb x (get_or push_literal n 0)) e) in
    let q : x ≡ get_or push_literal n 0 = eqb-true x (get_or push_literal n 0) (and_right (ltb n 12) (eqb x (get_or push_literal n 0)) e) in
    ap (ended a n (x ∷ rest)) (push_on n x rest h q) ∙ ended_next a n x rest (pushed (suc n) rest) (push_beyond n (suc n) (words rest) (push_ok (suc n) rest) (omega arith)))
    (λ e. choose_by P (ltb n 4) _ _
    (λ f.
    let h : n < 4 = ltb-true n 4 f in
    let q : eqb x (get_or push_literal n 0) ≡ false = rw (lt-ltb n 12 (omega arith)) at e in
    ap (ended a n (x ∷ rest)) (push_word n x rest h q) ∙ word_row_lem a n x rest)
    (λ f. choose_by P (and (or (eqb n 4) (eqb n 12)) (not (in_word x))) _ _
    (λ g.
    let w : in_word x ≡ false = not-true (in_word x) (and_right (or (eqb n 4) (eqb n 12)) (not (in_word x)) g) in
    ap (ended a n (x ∷ rest)) (whole_by n (x ∷ rest) (eqb n 4) (eqb n 12) refl refl (and_left (or (eqb n 4) (eqb n 12)) (not (in_word x)) g) (run_none (first in_word) x rest w))
    ∙ run_stop (first in_word) 18 a n x rest w ∙ again_law 18 a (a + n) x rest)
    (λ g. ap (ended a n (x ∷ rest)) (none_by n x rest (in_word x) (ltb-false n 4 f) e g refl) ∙ none a n (x ∷ rest))))

end_by : (n : ℕ) (p q : Bool) → 4 ≤ n → or p q ≡ false → eqb n 4 ≡ p → eqb n 12 ≡ q → pushed n [] ≡ NoToken 0
unfolding run
end_by n p q h e f g = none_other n [] h (rw (f, g) e) refl

pub run_end : (p : List ℕ → Bool) (k a n : ℕ) → ended a n [] (Found k 0 (n + run p [])) ≡ last k a (a + n)
unfolding run
run_end p k a n =
    let z : n + 0 ≡ n = omega arith in
    let y : n - n ≡ 0 = omega arith in
    rw (z, y, add-zero a, from_end (a + n))

push_last : (a n : ℕ) → (n < 4) ⊎ (or (eqb n 4) (eqb n 12) ≡ true) → ended a n [] (pushed n []) ≡ last 18 a (a + n)
unfolding run
push_last a n (inl h) =
    let e : pushed n [] ≡ Found 18 0 (n + words []) = rw (begins_end push n h) in
    ap (ended a n []) e ∙ run_end (first in_word) 18 a n
push_last a n (inr e) = ap (ended a n []) (whole_by n [] (eqb n 4) (eqb n 12) refl refl e refl) ∙ run_end (first in_word) 18 a n

few : (n : ℕ) (p : Bool) → ltb n 5 ≡ true → eqb n 4 ≡ p → (n < 4) ⊎ (or p (eqb n 12) ≡ true)
few n true e f = inr refl
few n false e f =
    let h : n < 5 = ltb-true n 5 e in
    let k : n ≡ 4 → ⊥ = eqb-false n 4 f in
    inl (omega arith)

push_ends : (n : ℕ) → (ltb n 5 ≡ true) ⊎ (eqb n 12 ≡ true) → (n < 4) ⊎ (or (eqb n 4) (eqb n 12) ≡ true)
push_ends n (inl e) = few n (eqb n 4) e refl
push_ends n (inr e) = inr (rw e (or_second (eqb n 4) true refl))

pub push_end : (a n : ℕ) → ended a n [] (pushed n []) ≡ end_row Push a n
push_end a n =
    choose_by (λ (t : Tokens). ended a n [] (pushed n []) ≡ t) (or (ltb n 5) (eqb n 12)) _ _ (λ e. push_last a n (push_ends n (or_true (ltb n 5) (eqb n 12) e)))
    (λ e.
    let l : 5 ≤ n = ltb-false n 5 (or_false (ltb n 5) (eqb n 12) e).0 in
    let f : eqb n 4 ≡ false = ne_eqb n 4 (λ q. omega arith) in
    let g : eqb n 12 ≡ false = (or_false (ltb n 5) (eqb n 12) e).1 in
    ap (ended a n []) (end_by n false false (omega arith) refl f g) ∙ none a n [])
