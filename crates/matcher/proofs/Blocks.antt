-- A text in blocks: its lines are the first m lines of it and those behind them, and a text that is cut right behind an LF has the lines of
-- the one part and then those of the other. So a program may run a block at a time.
use mathlib.Core.Bool.{Bool, true, false}
use mathlib.Core.Path.{◌≡◌, refl, sym, ap, ◌∙◌}
use mathlib.Core.List.{List, [], ◌∷◌, ◌++◌}
use Prim.Native.Nat.{ℕ, zero, suc, ◌≤◌}
use native.Mathlib.Omega.{arith}
use lib.Dec.{eqb}
use lib.ListN.{length, take, drop}
use lib.Seq.{drop-drop}
use Rattle.table.specs.Characters.{choose, and, next_is}
use Rattle.replies.specs.declared.Answer.{Answer}
use Rattle.replies.specs.Replies.{numbered}
use Rattle.matcher.specs.Lines.{onto, lines, past, rows, fields, body_size, line_size}
use Rattle.matcher.proofs.Rows.{crlf, lines_lf, lines_cr, lines_on, FirstLine, first_line, past_none, past_zero, past_line}

-- ---- after some lines

abbrev Goes : ℕ → List ℕ → Type 0
Goes m t = lines t ≡ take m (lines t) ++ lines (drop (past m t) t)

goes_zero : (t : List ℕ) → Goes 0 t
goes_zero t = sym (ap (λ k. lines (drop k t)) (past_zero t))

goes_none : (m : ℕ) → Goes (suc m) []
unfolding lines
goes_none m = ap (λ k. lines (drop k [])) (sym (past_none (suc m)))

goes_line : (m x : ℕ) (xs : List ℕ) → Goes m (drop (line_size (x ∷ xs)) (x ∷ xs)) → Goes (suc m) (x ∷ xs)
goes_line m x xs ih =
    let t : List ℕ = x ∷ xs in
    let f : FirstLine t = first_line xs x in
    let b : drop (past (suc m) t) t ≡ drop (past m (drop (line_size t) t)) (drop (line_size t) t) =
    ap (λ k. drop k t) (past_line m t) ∙ sym (drop-drop (past m (drop (line_size t) t)) (line_size t) t) in
    f ∙ ap (λ ls. take (body_size t) t ∷ ls) ih ∙ sym (ap (λ ls. take (suc m) ls ++ lines (drop (past (suc m) t) t)) f ∙ ap (λ r. (take (body_size t) t ∷ take m (lines (drop (line_size t) t))) ++ lines r) b)

-- the first m lines, and the lines behind them
pub after_lines : (m : ℕ) (t : List ℕ) → lines t ≡ take m (lines t) ++ lines (drop (past m t) t)
after_lines zero t = goes_zero t
after_lines (suc m) [] = goes_none m
after_lines (suc m) (x ∷ xs) = goes_line m x xs (after_lines m (drop (line_size (x ∷ xs)) (x ∷ xs)))

pub past_inside : (m : ℕ) (t : List ℕ) → past m t ≤ length t
unfolding past
past_inside m [] = omega (arith, past_none m)
past_inside zero (x ∷ xs) = omega arith
past_inside (suc m) (x ∷ xs) = omega (arith, past_inside (choose (eqb x 10) (λ u. m) (λ u. suc m)) xs)

-- ---- behind an LF

next_same : (a b c : List ℕ) → next_is 10 (a ++ (10 ∷ b)) ≡ next_is 10 (a ++ (10 ∷ c))
next_same [] b c = refl
next_same (x ∷ a) b c = refl

-- a text with an LF has a line, and a byte goes before its first
onto_line : (x : ℕ) (ms ls : List (List ℕ)) {l : List ℕ} {ns : List (List ℕ)} → ls ≡ l ∷ ns → onto x (ls ++ ms) ≡ onto x ls ++ ms
onto_line x ms ls e = rw e

onto_behind : (x : ℕ) (a : List ℕ) (ms : List (List ℕ)) → onto x (lines (a ++ (10 ∷ [])) ++ ms) ≡ onto x (lines (a ++ (10 ∷ []))) ++ ms
onto_behind x [] ms = onto_line x ms (lines (10 ∷ [])) (first_line [] 10)
onto_behind x (y ∷ a) ms = onto_line x ms (lines (y ∷ (a ++ (10 ∷ [])))) (first_line (a ++ (10 ∷ [])) y)

abbrev Cut : List ℕ → List ℕ → Type 0
Cut a b = lines (a ++ (10 ∷ b)) ≡ lines (a ++ (10 ∷ [])) ++ lines b

cut_none : (b : List ℕ) → Cut [] b
unfolding lines
cut_none b = refl

cut_byte : (x : ℕ) (a b : List ℕ) → Cut a b → Cut (x ∷ a) b
cut_byte x a b ih = by (eqb x 10) (crlf x (a ++ (10 ∷ []))) refl refl
  where
    ends : crlf x (a ++ (10 ∷ b)) ≡ crlf x (a ++ (10 ∷ []))
    ends = ap (and (eqb x 13)) (next_same a b [])

    by : (p q : Bool) → eqb x 10 ≡ p → crlf x (a ++ (10 ∷ [])) ≡ q → Cut (x ∷ a) b
    by true q e f = lines_lf x (a ++ (10 ∷ b)) e ∙ ap (λ ls. [] ∷ ls) ih ∙ sym (ap (λ ls. ls ++ lines b) (lines_lf x (a ++ (10 ∷ [])) e))
    by false true e f = lines_cr x (a ++ (10 ∷ b)) e (ends ∙ f) ∙ ih ∙ sym (ap (λ ls. ls ++ lines b) (lines_cr x (a ++ (10 ∷ [])) e f))
    by false false e f =
        lines_on x (a ++ (10 ∷ b)) e (ends ∙ f) ∙ ap (onto x) ih ∙ onto_behind x a (lines b)
        ∙ sym (ap (λ ls. ls ++ lines b) (lines_on x (a ++ (10 ∷ [])) e f))

-- the lines up to an LF, and the lines behind it
pub behind_lf : (a b : List ℕ) → lines (a ++ (10 ∷ b)) ≡ lines (a ++ (10 ∷ [])) ++ lines b
behind_lf [] b = cut_none b
behind_lf (x ∷ a) b = cut_byte x a b (behind_lf a b)

-- ---- records

module _ (f : List ℕ → Answer) where
  pub rows_append : (ls ms : List (List ℕ)) → rows f (ls ++ ms) ≡ rows f ls ++ rows f ms
  unfolding rows
  rows_append [] ms = refl
  rows_append (l ∷ ls) ms = ap (λ r. fields (numbered (f l)) ++ r) (rows_append ls ms)

  -- the records of a text are those of its blocks, one after another
  pub rows_after : (m : ℕ) (t : List ℕ) → rows f (lines t) ≡ rows f (take m (lines t)) ++ rows f (lines (drop (past m t) t))
  rows_after m t = ap (rows f) (after_lines m t) ∙ rows_append (take m (lines t)) (lines (drop (past m t) t))
