-- Start, words and numbers: what a byte does to what is still to come.
use Prim.Native.Nat.{ℕ, suc, ◌+◌, ◌≤◌, ◌<◌}
use mathlib.Core.Path.{◌≡◌, refl, sym, ap, ◌∙◌}
use mathlib.Core.Bool.{Bool, true, false}
use mathlib.Core.List.{List, [], ◌∷◌}
use native.Mathlib.Nat.{add-zero}
use native.Mathlib.Omega.{arith}
use lib.Dec.{ltb, eqb}
use borrow.Author.Tests.{eqb-true, ltb-true, ltb-false, lt-ltb, le-ltb}
use Rattle.text.specs.Booleans.{choose}
use Rattle.text.specs.Classes.{class_of}
use Rattle.text.specs.Words.{starts_word, in_word, begins}
use Rattle.text.proofs.Booleans.{choose_by}
use Rattle.token.specs.Blanks.{run, first, in_digits, is_zero, words, digit_run, zeros, opener_blank, blank_by}
use Rattle.token.specs.Tokens.{allowed, word_token, tag_token, number_token, minus_token, dots_token, string_of, insens_token, opener_token, one_kind, token_by}
use Rattle.token.specs.Lists.{tok, onto}
use Rattle.token.specs.declared.Token.TheVariants.{Found, NoToken}
use Rattle.states.specs.declared.State.{State}
use Rattle.states.specs.declared.State.TheVariants.{Word, Num, Tag, Negative}
use Rattle.states.specs.Machine.{Out, go, give, again, open_row, class_row, start_row, word_row, num_row, hash_row, tag_row, dot_row, caret_row, zeros_row, negative_row, fault_at}
use Rattle.states.proofs.From.{from, ended, Beyond, ended_next, none, from_blank, from_first, next_two}
use Rattle.states.proofs.Left.{push_ok, pushed, negated, str_l, left_by, with_rest}
use Rattle.states.proofs.Rows.{run_go, run_none, run_next, run_stop, run_open}
use Rattle.states.proofs.Strs.{string_beyond, less_beyond}

-- ---- what begins at Start

word_open : (a x : ℕ) (rest : List ℕ) → class_of x ≡ 2 → eqb x 80 ≡ false → from a (x ∷ rest) ≡ ended a 1 rest (Found 18 0 (1 + words rest))
unfolding blank_by token_by word_token allowed begins
word_open a x rest q e = from_first a x rest (Found 18 0 (words (x ∷ rest))) (rw q) (rw (q, e)) ∙ run_open (first in_word) 18 a x rest (rw q)

pub push_beyond : (m n w : ℕ) (p : Bool) → m < n → Beyond m (choose p (λ u. Found 18 0 (n + w)) (λ u. NoToken 0))
push_beyond m n w true h = omega arith
push_beyond m n w false h = tt

push_letters : (rest : List ℕ) → word_token (80 ∷ rest) ≡ pushed 1 rest
unfolding word_token allowed begins class_of
push_letters rest =
    let e : words (80 ∷ rest) ≡ 1 + words rest = run_go (first in_word) 80 rest refl ∙ omega arith in
    rw e

push_open : (a : ℕ) (rest : List ℕ) → from a (80 ∷ rest) ≡ ended a 1 rest (pushed 1 rest)
unfolding blank_by token_by class_of
push_open a rest = from_first a 80 rest (pushed 1 rest) refl (push_letters rest) ∙ ended_next a 0 80 rest (pushed 1 rest) (push_beyond 0 1 (words rest) (push_ok 1 rest) (omega arith))

num_open : (a x : ℕ) (rest : List ℕ) → class_of x ≡ 3 → from a (x ∷ rest) ≡ ended a 1 rest (Found 20 0 (1 + digit_run rest))
unfolding blank_by token_by number_token
num_open a x rest q = from_first a x rest (Found 20 0 (digit_run (x ∷ rest))) (rw q) (rw q) ∙ run_open (first in_digits) 20 a x rest (rw q)

one_open : (a x : ℕ) (rest : List ℕ) → class_of x ≡ 4 → from a (x ∷ rest) ≡ with_rest (give (one_kind x) a (suc a)) rest
unfolding blank_by token_by
one_open a x rest q =
    let z : a + 1 ≡ suc a = omega arith in
    from_first a x rest (Found (one_kind x) 0 1) (rw q) (rw q) ∙ rw (add-zero a, z)

str_open : (a : ℕ) (rest : List ℕ) → from a (34 ∷ rest) ≡ str_l 23 a 1 rest
unfolding blank_by token_by class_of opener_blank opener_token
str_open a rest =
    from_first a 34 rest (string_of 23 1 rest) refl refl ∙ ended_next a 0 34 rest (string_of 23 1 rest) (less_beyond 0 1 (string_of 23 1 rest) (omega arith) (string_beyond 23 1 rest))

none_open : (a x c : ℕ) (rest : List ℕ) → class_of x ≡ c → eqb c 1 ≡ false → eqb c 2 ≡ false → eqb c 3 ≡ false → eqb c 4 ≡ false → eqb c 5 ≡ false → from a (x ∷ rest) ≡ fault_at a
unfolding blank_by token_by
none_open a x c rest q e1 e2 e3 e4 e5 = from_first a x rest (NoToken 0) (rw (q, e1, e5)) (rw (q, e2, e3, e4, e5)) ∙ none a 0 (x ∷ rest)

stray_open : (a x : ℕ) (rest : List ℕ) → class_of x ≡ 5 → eqb x 34 ≡ false → eqb x 39 ≡ false → eqb x 94 ≡ false → eqb x 35 ≡ false → eqb x 46 ≡ false → eqb x 47 ≡ false → eqb x 45 ≡ false → eqb x 13 ≡ false
    → from a (x ∷ rest) ≡ fault_at a
unfolding blank_by token_by opener_blank opener_token
stray_open a x rest q e1 e2 e3 e4 e5 e6 e7 e8 = from_first a x rest (NoToken 0) (rw (q, e8, e6)) (rw (q, e1, e2, e3, e4, e5, e6, e7)) ∙ none a 0 (x ∷ rest)

open_row_lem : (a x : ℕ) (rest : List ℕ) → class_of x ≡ 5 → from a (x ∷ rest) ≡ with_rest (open_row a x) rest
open_row_lem a x rest q =
    let P : Out → Type 0 = λ o. from a (x ∷ rest) ≡ with_rest o rest in
    choose_by P (eqb x 34) _ _ (λ e. rw (eqb-true x 34 e) (str_open a rest))
    (λ e1. choose_by P (eqb x 39) _ _ (λ e. rw (eqb-true x 39 e))
    (λ e2. choose_by P (eqb x 94) _ _ (λ e. rw (eqb-true x 94 e))
    (λ e3. choose_by P (eqb x 35) _ _ (λ e. rw (eqb-true x 35 e))
    (λ e4. choose_by P (eqb x 46) _ _ (λ e. rw (eqb-true x 46 e))
    (λ e5. choose_by P (eqb x 47) _ _ (λ e. rw (eqb-true x 47 e))
    (λ e6. choose_by P (eqb x 45) _ _ (λ e. rw (eqb-true x 45 e))
    (λ e7. choose_by P (eqb x 13) _ _ (λ e. rw (eqb-true x 13 e)) (λ e8. stray_open a x rest q e1 e2 e3 e4 e5 e6 e7 e8))))))))

blank_open : (a x : ℕ) (rest : List ℕ) → class_of x ≡ 1 → from a (x ∷ rest) ≡ from (suc a) rest
unfolding blank_by
blank_open a x rest q =
    let z : a + suc 0 ≡ suc a = omega arith in
    from_blank a x rest 0 (rw q) ∙ ap (λ (b : ℕ). from b rest) z

pub start_row_lem : (a x : ℕ) (rest : List ℕ) → from a (x ∷ rest) ≡ with_rest (start_row x a) rest
unfolding class_row
start_row_lem a x rest =
    let P : Out → Type 0 = λ o. from a (x ∷ rest) ≡ with_rest o rest in
    let c : ℕ = class_of x in
    choose_by P (eqb c 1) _ _ (λ e. blank_open a x rest (eqb-true c 1 e))
    (λ e1. choose_by P (eqb c 2) _ _
    (λ e. choose_by P (eqb x 80) _ _ (λ f. rw (eqb-true x 80 f) (push_open a rest)) (λ f. word_open a x rest (eqb-true c 2 e) f))
    (λ e2. choose_by P (eqb c 3) _ _ (λ e. num_open a x rest (eqb-true c 3 e))
    (λ e3. choose_by P (eqb c 4) _ _ (λ e. one_open a x rest (eqb-true c 4 e))
    (λ e4. choose_by P (eqb c 5) _ _ (λ e. open_row_lem a x rest (eqb-true c 5 e)) (λ e5. none_open a x c rest refl e1 e2 e3 e4 e5)))))

-- ---- runs

-- a token that ended before this byte
pub again_law : (k a b x : ℕ) (rest : List ℕ) → onto (tok k a b ∷ []) (from b (x ∷ rest)) ≡ with_rest (again k a b (start_row x)) rest
again_law k a b x rest = ap (onto (tok k a b ∷ [])) (start_row_lem b x rest)

run_row : (p : List ℕ → Bool) (q : State) (k a n x : ℕ) (rest : List ℕ) → left_by q a (suc n) rest ≡ ended a (suc n) rest (Found k 0 (suc n + run p rest)) → (b : Bool) → p (x ∷ rest) ≡ b
    → ended a n (x ∷ rest) (Found k 0 (n + run p (x ∷ rest))) ≡ with_rest (choose b (λ u. go q a (suc n)) (λ u. again k a (a + n) (start_row x))) rest
run_row p q k a n x rest h true e = run_next p k a n x rest e ∙ sym h
run_row p q k a n x rest h false e = run_stop p k a n x rest e ∙ again_law k a (a + n) x rest

pub word_row_lem : (a n x : ℕ) (rest : List ℕ) → left_by Word a n (x ∷ rest) ≡ with_rest (word_row a n x) rest
word_row_lem a n x rest = run_row (first in_word) Word 18 a n x rest refl (in_word x) refl

pub num_row_lem : (a n x : ℕ) (rest : List ℕ) → left_by Num a n (x ∷ rest) ≡ with_rest (num_row a n x) rest
num_row_lem a n x rest = run_row (first in_digits) Num 20 a n x rest refl (in_digits x) refl

pub tag_row_lem : (a n x : ℕ) (rest : List ℕ) → left_by Tag a n (x ∷ rest) ≡ with_rest (tag_row a n x) rest
tag_row_lem a n x rest = run_row (first in_word) Tag 19 a n x rest refl (in_word x) refl

pub negative_row_lem : (a n x : ℕ) (rest : List ℕ) → left_by Negative a n (x ∷ rest) ≡ with_rest (negative_row a n x) rest
negative_row_lem a n x rest = run_row (first in_digits) Negative 21 a n x rest refl (in_digits x) refl

-- ---- `#`, `.`, `^`

hash_yes : (a x : ℕ) (rest : List ℕ) → starts_word x ≡ true → from a (35 ∷ x ∷ rest) ≡ left_by Tag a 2 rest
unfolding blank_by token_by class_of opener_blank opener_token tag_token
hash_yes a x rest e =
    let w : words (x ∷ rest) ≡ suc (words rest) = run_go (first in_word) x rest (rw e) in
    let z : suc (words rest) + 1 ≡ 2 + words rest = omega arith in
    from_first a 35 (x ∷ rest) (Found 19 0 (2 + words rest)) refl (rw (e, w, z)) ∙ next_two a 35 x rest (Found 19 0 (2 + words rest)) (omega arith) (omega arith)

hash_no : (a x : ℕ) (rest : List ℕ) → starts_word x ≡ false → from a (35 ∷ x ∷ rest) ≡ fault_at a
unfolding blank_by token_by class_of opener_blank opener_token tag_token
hash_no a x rest e = from_first a 35 (x ∷ rest) (NoToken 0) refl (rw e) ∙ none a 0 (35 ∷ x ∷ rest)

pub hash_row_lem : (a x : ℕ) (rest : List ℕ) → from a (35 ∷ x ∷ rest) ≡ with_rest (hash_row a x) rest
hash_row_lem a x rest = choose_by (λ (o : Out). from a (35 ∷ x ∷ rest) ≡ with_rest o rest) (starts_word x) _ _ (λ e. hash_yes a x rest e) (λ e. hash_no a x rest e)

dot_yes : (a : ℕ) (rest : List ℕ) → from a (46 ∷ 46 ∷ rest) ≡ with_rest (give 22 a (a + 2)) rest
unfolding blank_by token_by class_of opener_blank opener_token dots_token
dot_yes a rest = from_first a 46 (46 ∷ rest) (Found 22 0 2) refl refl ∙ rw (add-zero a)

dot_no : (a x : ℕ) (rest : List ℕ) → eqb x 46 ≡ false → from a (46 ∷ x ∷ rest) ≡ fault_at a
unfolding blank_by token_by class_of opener_blank opener_token dots_token
dot_no a x rest e = from_first a 46 (x ∷ rest) (NoToken 0) refl (rw e) ∙ none a 0 (46 ∷ x ∷ rest)

pub dot_row_lem : (a x : ℕ) (rest : List ℕ) → from a (46 ∷ x ∷ rest) ≡ with_rest (dot_row a x) rest
dot_row_lem a x rest = choose_by (λ (o : Out). from a (46 ∷ x ∷ rest) ≡ with_rest o rest) (eqb x 46) _ _ (λ e. rw (eqb-true x 46 e) (dot_yes a rest)) (λ e. dot_no a x rest e)

caret_yes : (a : ℕ) (rest : List ℕ) → from a (94 ∷ 34 ∷ rest) ≡ str_l 24 a 2 rest
unfolding blank_by token_by class_of opener_blank opener_token insens_token
caret_yes a rest =
    from_first a 94 (34 ∷ rest) (string_of 24 2 rest) refl refl
    ∙ next_two a 94 34 rest (string_of 24 2 rest) (less_beyond 0 2 (string_of 24 2 rest) (omega arith) (string_beyond 24 2 rest)) (less_beyond 1 2 (string_of 24 2 rest) (omega arith) (string_beyond 24 2 rest))

caret_no : (a x : ℕ) (rest : List ℕ) → eqb x 34 ≡ false → from a (94 ∷ x ∷ rest) ≡ fault_at a
unfolding blank_by token_by class_of opener_blank opener_token insens_token
caret_no a x rest e = from_first a 94 (x ∷ rest) (NoToken 0) refl (rw e) ∙ none a 0 (94 ∷ x ∷ rest)

pub caret_row_lem : (a x : ℕ) (rest : List ℕ) → from a (94 ∷ x ∷ rest) ≡ with_rest (caret_row a x) rest
caret_row_lem a x rest = choose_by (λ (o : Out). from a (94 ∷ x ∷ rest) ≡ with_rest o rest) (eqb x 34) _ _ (λ e. rw (eqb-true x 34 e) (caret_yes a rest)) (λ e. caret_no a x rest e)

-- ---- negative numbers

neg_by : (n m d : ℕ) (p : Bool) → d + 1 ≡ n + m → choose p (λ u. Found 21 0 (d + 1)) (λ u. NoToken 0) ≡ choose p (λ u. Found 21 0 (n + m)) (λ u. NoToken 0)
neg_by n m d true h = ap (Found 21 0) h
neg_by n m d false h = refl

neg_beyond : (m n w : ℕ) (p : Bool) → m < n → Beyond m (choose p (λ u. Found 21 0 (n + w)) (λ u. NoToken 0))
neg_beyond m n w true h = omega arith
neg_beyond m n w false h = tt

pub minus_open : (a : ℕ) (rest : List ℕ) → from a (45 ∷ rest) ≡ ended a 1 rest (negated 1 rest)
unfolding blank_by token_by class_of opener_blank opener_token minus_token
minus_open a rest =
    from_first a 45 rest (negated 1 rest) refl (neg_by 1 (digit_run rest) (digit_run rest) (ltb (zeros rest) (digit_run rest)) (omega arith))
    ∙ ended_next a 0 45 rest (negated 1 rest) (neg_beyond 0 1 (digit_run rest) (ltb (zeros rest) (digit_run rest)) (omega arith))

ltb_suc : (z d : ℕ) (p : Bool) → ltb z d ≡ p → ltb (suc z) (suc d) ≡ p
ltb_suc z d true e = let h : z < d = ltb-true z d e in lt-ltb (suc z) (suc d) (omega arith)
ltb_suc z d false e = let h : d ≤ z = ltb-false z d e in le-ltb (suc z) (suc d) (omega arith)

zero_yes : (a n x : ℕ) (rest : List ℕ) → is_zero x ≡ true → in_digits x ≡ true → ended a n (x ∷ rest) (negated n (x ∷ rest)) ≡ ended a (suc n) rest (negated (suc n) rest)
zero_yes a n x rest e f =
    let z : n + suc (digit_run rest) ≡ suc n + digit_run rest = omega arith in
    rw (run_go (first is_zero) x rest e, run_go (first in_digits) x rest f, ltb_suc (zeros rest) (digit_run rest) (ltb (zeros rest) (digit_run rest)) refl, z)
    (ended_next a n x rest (negated (suc n) rest) (neg_beyond n (suc n) (digit_run rest) (ltb (zeros rest) (digit_run rest)) (omega arith)))

neg_yes : (a n x : ℕ) (rest : List ℕ) → is_zero x ≡ false → in_digits x ≡ true → ended a n (x ∷ rest) (negated n (x ∷ rest)) ≡ left_by Negative a (suc n) rest
neg_yes a n x rest e f =
    let z : n + suc (digit_run rest) ≡ suc n + digit_run rest = omega arith in
    rw (run_none (first is_zero) x rest e, run_go (first in_digits) x rest f, lt-ltb 0 (suc (digit_run rest)) (omega arith), z)
    (ended_next a n x rest (Found 21 0 (suc n + digit_run rest)) (omega arith))

neg_no : (a n x : ℕ) (rest : List ℕ) → is_zero x ≡ false → in_digits x ≡ false → ended a n (x ∷ rest) (negated n (x ∷ rest)) ≡ fault_at a
neg_no a n x rest e f = rw (run_none (first is_zero) x rest e, run_none (first in_digits) x rest f) (none a n (x ∷ rest))

zero_digit : (x : ℕ) → x ≡ 48 → in_digits x ≡ true
unfolding class_of
zero_digit x e = rw e

pub zeros_row_lem : (a n x : ℕ) (rest : List ℕ) → ended a n (x ∷ rest) (negated n (x ∷ rest)) ≡ with_rest (zeros_row a n x) rest
zeros_row_lem a n x rest =
    let P : Out → Type 0 = λ o. ended a n (x ∷ rest) (negated n (x ∷ rest)) ≡ with_rest o rest in
    choose_by P (is_zero x) _ _ (λ e. zero_yes a n x rest e (zero_digit x (eqb-true x 48 e)))
    (λ e. choose_by P (in_digits x) _ _ (λ f. neg_yes a n x rest e f) (λ f. neg_no a n x rest e f))

pub minus_row : (a x : ℕ) (rest : List ℕ) → from a (45 ∷ x ∷ rest) ≡ with_rest (zeros_row a 1 x) rest
minus_row a x rest = minus_open a (x ∷ rest) ∙ zeros_row_lem a 1 x rest
