-- Runs, comments and lines: what a byte does to what is still to come.
use Rattle.std.specs.Prelude.{ℕ, Option, Some, None}
use Prim.Native.Nat.{ℕ, suc, ◌+◌, ◌-◌}
use mathlib.Core.Path.{◌≡◌, refl, sym, ap, ◌∙◌}
use mathlib.Core.Bool.{Bool, true, false}
use mathlib.Core.List.{List, [], ◌∷◌}
use native.Mathlib.Nat.{zero-add, add-zero}
use native.Mathlib.Omega.{arith}
use lib.Dec.{leb, eqb}
use borrow.Author.Tests.{eqb-true}
use Rattle.text.specs.Booleans.{choose, next_is}
use Rattle.text.specs.Classes.{class_of}
use Rattle.text.proofs.Booleans.{choose_by}
use Rattle.token.specs.Blanks.{run, line, in_line, mark_of, further, close_of, line_blank, slash_blank, return_blank, opener_blank, blank_by, blank_of}
use Rattle.token.specs.Tokens.{doc_token, opener_token, token_by}
use Rattle.token.specs.Lists.{tok, onto}
use Rattle.token.specs.declared.Mark.TheVariants.{Neither}
use Rattle.token.specs.declared.Token.TheVariants.{Found, NoToken}
use Rattle.states.specs.declared.State.TheVariants.{Start, Com}
use Rattle.states.specs.Machine.{Out, go, slash_row, line_row, slash2_row, give_doc, doc_row, doc_cr_row, cr_row, com_row, star_row, bar_row, fault_at}
use Rattle.states.proofs.From.{from, ended, ended_next, none, from_blank, from_first, next_two}
use Rattle.states.proofs.Left.{com_by, com_l, doc_l, line_l, with_rest}

-- ---- runs

pub run_go : (p : List ℕ → Bool) (x : ℕ) (xs : List ℕ) → p (x ∷ xs) ≡ true → run p (x ∷ xs) ≡ suc (run p xs)
unfolding run
run_go p x xs h = rw h

pub run_none : (p : List ℕ → Bool) (x : ℕ) (xs : List ℕ) → p (x ∷ xs) ≡ false → run p (x ∷ xs) ≡ 0
unfolding run
run_none p x xs h = rw h

module _ (p : List ℕ → Bool) (k a n x : ℕ) (rest : List ℕ) where
  pub run_next : p (x ∷ rest) ≡ true → ended a n (x ∷ rest) (Found k 0 (n + run p (x ∷ rest))) ≡ ended a (suc n) rest (Found k 0 (suc n + run p rest))
  run_next h =
      let z : n + suc (run p rest) ≡ suc n + run p rest = omega arith in
      rw (run_go p x rest h, z) (ended_next a n x rest (Found k 0 (suc n + run p rest)) (omega arith))

  pub run_stop : p (x ∷ rest) ≡ false → ended a n (x ∷ rest) (Found k 0 (n + run p (x ∷ rest))) ≡ onto (tok k a (a + n) ∷ []) (from (a + n) (x ∷ rest))
  run_stop h =
      let z : n + 0 ≡ n = omega arith in
      let y : n - n ≡ 0 = omega arith in
      rw (run_none p x rest h, z, y, add-zero a)

-- ---- nested comments

further_by : (a n x : ℕ) (xs : List ℕ) (r : Option ℕ) → com_by a n (x ∷ xs) (further 1 r) ≡ com_by a (suc n) xs r
further_by a n x xs (Some m) =
    let z : n + (1 + m) ≡ suc n + m = omega arith in
    let y : 1 + m ≡ suc m = omega arith in
    rw (z, y)
further_by a n x xs None = refl

further_two : (a n x y : ℕ) (xs : List ℕ) (r : Option ℕ) → com_by a n (x ∷ y ∷ xs) (further 2 r) ≡ com_by a (n + 2) xs r
further_two a n x y xs (Some m) =
    let z : n + (2 + m) ≡ (n + 2) + m = omega arith in
    let w : 2 + m ≡ suc (suc m) = omega arith in
    rw (z, w)
further_two a n x y xs None = refl

com_skip : (d a n x y : ℕ) (xs : List ℕ) → mark_of x y ≡ Neither → com_l d a n (x ∷ y ∷ xs) ≡ com_l d a (suc n) (y ∷ xs)
unfolding close_of
com_skip d a n x y xs h = rw h (further_by a n x (y ∷ xs) (close_of d (y ∷ xs)))

com_plain : (d a n x : ℕ) (xs : List ℕ) → eqb x 42 ≡ false → eqb x 47 ≡ false → com_l d a n (x ∷ xs) ≡ com_l d a (suc n) xs
unfolding close_of mark_of
com_plain d a n x [] e f = refl
com_plain d a n x (y ∷ ys) e f = com_skip d a n x y ys (rw (e, f))

pub com_row_lem : (d a n x : ℕ) (rest : List ℕ) → com_l d a n (x ∷ rest) ≡ with_rest (com_row d a n x) rest
com_row_lem d a n x rest =
    let P : Out → Type 0 = λ o. com_l d a n (x ∷ rest) ≡ with_rest o rest in
    choose_by P (eqb x 42) _ _ (λ e. rw (eqb-true x 42 e))
    (λ e. choose_by P (eqb x 47) _ _ (λ f. rw (eqb-true x 47 f)) (λ f. com_plain d a n x rest e f))

star_mark : (x : ℕ) → eqb x 47 ≡ false → mark_of 42 x ≡ Neither
unfolding mark_of
star_mark x e = rw e

bar_mark : (x : ℕ) → eqb x 42 ≡ false → mark_of 47 x ≡ Neither
unfolding mark_of
bar_mark x e = rw e

star_closes : (d a n : ℕ) (rest : List ℕ) → com_l d a n (42 ∷ 47 ∷ rest) ≡ with_rest (choose (leb d 1) (λ u. go Start (a + (n + 2)) 0) (λ u. go (Com (d - 1)) a (n + 2))) rest
unfolding close_of mark_of
star_closes d a n rest =
    by (leb d 1)
  where
    by : (b : Bool) → com_by a n (42 ∷ 47 ∷ rest) (choose b (λ u. Some 2) (λ u. further 2 (close_of (d - 1) rest))) ≡ with_rest (choose b (λ u. go Start (a + (n + 2)) 0) (λ u. go (Com (d - 1)) a (n + 2))) rest
    by true = refl
    by false = further_two a n 42 47 rest (close_of (d - 1) rest)

pub star_row_lem : (d a n x : ℕ) (rest : List ℕ) → com_l d a n (42 ∷ x ∷ rest) ≡ with_rest (star_row d a n x) rest
star_row_lem d a n x rest =
    let P : Out → Type 0 = λ o. com_l d a n (42 ∷ x ∷ rest) ≡ with_rest o rest in
    choose_by P (eqb x 47) _ _ (λ e. rw (eqb-true x 47 e) (star_closes d a n rest))
    (λ e. com_skip d a n 42 x rest (star_mark x e) ∙ com_row_lem d a (suc n) x rest)

bar_opens : (d a n : ℕ) (rest : List ℕ) → com_l d a n (47 ∷ 42 ∷ rest) ≡ com_l (d + 1) a (n + 2) rest
unfolding close_of mark_of
bar_opens d a n rest = further_two a n 47 42 rest (close_of (d + 1) rest)

pub bar_row_lem : (d a n x : ℕ) (rest : List ℕ) → com_l d a n (47 ∷ x ∷ rest) ≡ with_rest (bar_row d a n x) rest
bar_row_lem d a n x rest =
    let P : Out → Type 0 = λ o. com_l d a n (47 ∷ x ∷ rest) ≡ with_rest o rest in
    choose_by P (eqb x 42) _ _ (λ e. rw (eqb-true x 42 e) (bar_opens d a n rest))
    (λ e. com_skip d a n 47 x rest (bar_mark x e) ∙ com_row_lem d a (suc n) x rest)

-- ---- ends of lines

lf_blank : (xs : List ℕ) → blank_of (10 ∷ xs) ≡ Some 0
unfolding blank_by class_of
lf_blank xs = refl

crlf_blank : (xs : List ℕ) → blank_of (13 ∷ 10 ∷ xs) ≡ Some 1
unfolding blank_by class_of opener_blank return_blank
crlf_blank xs = refl

pub from_lf : (a : ℕ) (xs : List ℕ) → from a (10 ∷ xs) ≡ from (suc a) xs
from_lf a xs =
    let z : a + suc 0 ≡ suc a = omega arith in
    from_blank a 10 xs 0 (lf_blank xs) ∙ ap (λ (b : ℕ). from b xs) z

pub from_crlf : (a : ℕ) (xs : List ℕ) → from a (13 ∷ 10 ∷ xs) ≡ from (a + 2) xs
from_crlf a xs = from_blank a 13 (10 ∷ xs) 1 (crlf_blank xs)

pub run_open : (p : List ℕ → Bool) (k a x : ℕ) (rest : List ℕ) → p (x ∷ rest) ≡ true
    → ended a 0 (x ∷ rest) (Found k 0 (run p (x ∷ rest))) ≡ ended a 1 rest (Found k 0 (1 + run p rest))
run_open p k a x rest h = ap (λ (e : ℕ). ended a 0 (x ∷ rest) (Found k 0 e)) (sym (zero-add (run p (x ∷ rest)))) ∙ run_next p k a 0 x rest h

line_in_lem : (a n x : ℕ) (rest : List ℕ) → in_line (x ∷ rest) ≡ true → line_l a n (x ∷ rest) ≡ line_l a (suc n) rest
line_in_lem a n x rest h =
    let z : n + suc (line rest) ≡ suc n + line rest = omega arith in
    rw (run_go in_line x rest h, z)

line_lf : (a n : ℕ) (rest : List ℕ) → line_l a n (10 ∷ rest) ≡ from (a + suc n) rest
line_lf a n rest =
    let z : n + 0 ≡ n = omega arith in
    let y : suc (a + n) ≡ a + suc n = omega arith in
    rw (run_none in_line 10 rest refl, z) (from_lf (a + n) rest ∙ ap (λ (b : ℕ). from b rest) y)

line_crlf : (a n : ℕ) (rest : List ℕ) → line_l a n (13 ∷ 10 ∷ rest) ≡ line_l a (suc n) (10 ∷ rest)
line_crlf a n rest =
    let z : n + 0 ≡ n = omega arith in
    let y : (a + n) + 2 ≡ a + suc (suc n) = omega arith in
    rw (run_none in_line 13 (10 ∷ rest) refl, z) (from_crlf (a + n) rest ∙ ap (λ (b : ℕ). from b rest) y) ∙ sym (line_lf a (suc n) rest)

other_by : (a n x : ℕ) (rest : List ℕ) (b : Bool) → eqb x 10 ≡ false → eqb x 13 ≡ b → line_l a n (x ∷ rest) ≡ line_l a (suc n) rest
other_by a n x rest false e f = line_in_lem a n x rest (rw (e, f))
other_by a n x [] true e f = line_in_lem a n x [] (rw (e, f))
other_by a n x (y ∷ ys) true e f = by (eqb y 10) refl
  where
    by : (c : Bool) → eqb y 10 ≡ c → line_l a n (x ∷ y ∷ ys) ≡ line_l a (suc n) (y ∷ ys)
    by true g = rw (eqb-true x 13 f, eqb-true y 10 g) (line_crlf a n ys)
    by false g = line_in_lem a n x (y ∷ ys) (rw (e, f, g))

pub line_row_lem : (a n x : ℕ) (rest : List ℕ) → line_l a n (x ∷ rest) ≡ with_rest (line_row a n x) rest
line_row_lem a n x rest =
    choose_by (λ (o : Out). line_l a n (x ∷ rest) ≡ with_rest o rest) (eqb x 10) _ _ (λ e. rw (eqb-true x 10 e) (line_lf a n rest))
    (λ e. other_by a n x rest (eqb x 13) e refl)

doc_lf : (k a n : ℕ) (rest : List ℕ) → doc_l k a n (10 ∷ rest) ≡ with_rest (give_doc k a (a + n) (a + suc n)) rest
doc_lf k a n rest =
    let y : suc (a + n) ≡ a + suc n = omega arith in
    run_stop in_line k a n 10 rest refl ∙ ap (onto (tok k a (a + n) ∷ [])) (from_lf (a + n) rest ∙ ap (λ (b : ℕ). from b rest) y)

doc_crlf : (k a n : ℕ) (rest : List ℕ) → doc_l k a n (13 ∷ 10 ∷ rest) ≡ with_rest (give_doc k a (a + n) (a + (n + 2))) rest
doc_crlf k a n rest =
    let y : (a + n) + 2 ≡ a + (n + 2) = omega arith in
    run_stop in_line k a n 13 (10 ∷ rest) refl ∙ ap (onto (tok k a (a + n) ∷ [])) (from_crlf (a + n) rest ∙ ap (λ (b : ℕ). from b rest) y)

pub doc_row_lem : (k a n x : ℕ) (rest : List ℕ) → doc_l k a n (x ∷ rest) ≡ with_rest (doc_row k a n x) rest
doc_row_lem k a n x rest =
    let P : Out → Type 0 = λ o. doc_l k a n (x ∷ rest) ≡ with_rest o rest in
    choose_by P (eqb x 10) _ _ (λ e. rw (eqb-true x 10 e) (doc_lf k a n rest))
    (λ e. choose_by P (eqb x 13) _ _ (λ f. rw (eqb-true x 13 f)) (λ f. run_next in_line k a n x rest (rw (e, f))))

pub doc_cr_row_lem : (k a n x : ℕ) (rest : List ℕ) → doc_l k a n (13 ∷ x ∷ rest) ≡ with_rest (doc_cr_row k a n x) rest
doc_cr_row_lem k a n x rest =
    choose_by (λ (o : Out). doc_l k a n (13 ∷ x ∷ rest) ≡ with_rest o rest) (eqb x 10) _ _ (λ e. rw (eqb-true x 10 e) (doc_crlf k a n rest))
    (λ e. run_next in_line k a n 13 (x ∷ rest) (rw e) ∙ doc_row_lem k a (suc n) x rest)

-- ---- after `/`, `//` and CR

com_by_lem : (a : ℕ) (rest : List ℕ) (r : Option ℕ) → close_of 1 rest ≡ r → from a (47 ∷ 42 ∷ rest) ≡ com_by a 2 rest r
unfolding blank_by class_of opener_blank slash_blank token_by opener_token doc_token
com_by_lem a rest (Some m) q =
    let z : m + 1 ≡ suc m = omega arith in
    let y : suc (suc m) ≡ 2 + m = omega arith in
    from_blank a 47 (42 ∷ rest) (m + 1) (rw q) ∙ rw (z, y)
com_by_lem a rest None q = from_first a 47 (42 ∷ rest) (NoToken 0) (rw q) refl ∙ none a 0 (47 ∷ 42 ∷ rest)

slash_none : (a x : ℕ) (rest : List ℕ) → eqb x 47 ≡ false → eqb x 42 ≡ false → from a (47 ∷ x ∷ rest) ≡ fault_at a
unfolding blank_by class_of opener_blank slash_blank token_by opener_token doc_token
slash_none a x rest e f = from_first a 47 (x ∷ rest) (NoToken 0) (rw (e, f)) (rw e) ∙ none a 0 (47 ∷ x ∷ rest)

pub slash_row_lem : (a x : ℕ) (rest : List ℕ) → from a (47 ∷ x ∷ rest) ≡ with_rest (slash_row a x) rest
slash_row_lem a x rest =
    let P : Out → Type 0 = λ o. from a (47 ∷ x ∷ rest) ≡ with_rest o rest in
    choose_by P (eqb x 47) _ _ (λ e. rw (eqb-true x 47 e))
    (λ e. choose_by P (eqb x 42) _ _ (λ f. rw (eqb-true x 42 f) (com_by_lem a rest (close_of 1 rest) refl)) (λ f. slash_none a x rest e f))

doc_open : (k a x : ℕ) (rest : List ℕ) → in_line (47 ∷ x ∷ rest) ≡ true → in_line (x ∷ rest) ≡ true
    → ended a 0 (47 ∷ 47 ∷ x ∷ rest) (Found k 0 (line (47 ∷ x ∷ rest) + 1)) ≡ doc_l k a 3 rest
doc_open k a x rest g h =
    let z : suc (suc (line rest)) + 1 ≡ 3 + line rest = omega arith in
    rw (run_go in_line 47 (x ∷ rest) g, run_go in_line x rest h, z)
    (next_two a 47 47 (x ∷ rest) (Found k 0 (3 + line rest)) (omega arith) (omega arith) ∙ ended_next a 2 x rest (Found k 0 (3 + line rest)) (omega arith))

doc_27 : (a : ℕ) (rest : List ℕ) → from a (47 ∷ 47 ∷ 47 ∷ rest) ≡ doc_l 27 a 3 rest
unfolding blank_by class_of opener_blank slash_blank line_blank token_by opener_token doc_token
doc_27 a rest = from_first a 47 (47 ∷ 47 ∷ rest) (Found 27 0 (line (47 ∷ 47 ∷ rest) + 1)) refl refl ∙ doc_open 27 a 47 rest refl refl

doc_26 : (a : ℕ) (rest : List ℕ) → from a (47 ∷ 47 ∷ 33 ∷ rest) ≡ doc_l 26 a 3 rest
unfolding blank_by class_of opener_blank slash_blank line_blank token_by opener_token doc_token
doc_26 a rest = from_first a 47 (47 ∷ 33 ∷ rest) (Found 26 0 (line (47 ∷ 33 ∷ rest) + 1)) refl refl ∙ doc_open 26 a 33 rest refl refl

pub line_open : (a : ℕ) (rest : List ℕ) → next_is 47 rest ≡ false → next_is 33 rest ≡ false → from a (47 ∷ 47 ∷ rest) ≡ line_l a 2 rest
unfolding blank_by class_of opener_blank slash_blank line_blank
line_open a rest e f =
    let z : line rest + 1 ≡ suc (line rest) = omega arith in
    let y : suc (suc (line rest)) ≡ 2 + line rest = omega arith in
    from_blank a 47 (47 ∷ rest) (line rest + 1) (rw (e, f)) ∙ rw (z, y)

pub slash2_row_lem : (a x : ℕ) (rest : List ℕ) → from a (47 ∷ 47 ∷ x ∷ rest) ≡ with_rest (slash2_row a x) rest
slash2_row_lem a x rest =
    let P : Out → Type 0 = λ o. from a (47 ∷ 47 ∷ x ∷ rest) ≡ with_rest o rest in
    choose_by P (eqb x 47) _ _ (λ e. rw (eqb-true x 47 e) (doc_27 a rest))
    (λ e. choose_by P (eqb x 33) _ _ (λ f. rw (eqb-true x 33 f) (doc_26 a rest)) (λ f. line_open a (x ∷ rest) e f ∙ line_row_lem a 2 x rest))

cr_none : (a x : ℕ) (rest : List ℕ) → eqb x 10 ≡ false → from a (13 ∷ x ∷ rest) ≡ fault_at a
unfolding blank_by class_of opener_blank return_blank token_by opener_token
cr_none a x rest e = from_first a 13 (x ∷ rest) (NoToken 0) (rw e) refl ∙ none a 0 (13 ∷ x ∷ rest)

pub cr_row_lem : (a x : ℕ) (rest : List ℕ) → from a (13 ∷ x ∷ rest) ≡ with_rest (cr_row a x) rest
cr_row_lem a x rest =
    choose_by (λ (o : Out). from a (13 ∷ x ∷ rest) ≡ with_rest o rest) (eqb x 10) _ _ (λ e. rw (eqb-true x 10 e) (from_crlf a rest)) (λ e. cr_none a x rest e)
