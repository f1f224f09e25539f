-- Laws of lines and their records. The first line of a text is its first bytes up to LF or CRLF, and the others are the lines behind that
-- end; so what is left to be done after k lines is the same work over the rest of the text.
use Rattle.std.specs.Prelude.{Ok}
use mathlib.Core.Bool.{Bool, true, false}
use mathlib.Core.Path.{◌≡◌, refl, sym, ap, ◌∙◌, subst}
use mathlib.Core.List.{List, [], ◌∷◌, ◌++◌}
use Prim.Native.Nat.{ℕ, zero, suc, ◌+◌, ◌*◌, ◌-◌, ◌/◌, ◌≤◌, ◌<◌}
use native.Mathlib.Omega.{arith}
use native.Mathlib.Numerals.{add-one}
use lib.Dec.{eqb}
use lib.ListN.{length, get_or, set, take, drop, length-take, length-drop}
use lib.Seq.{drop-cons, drop-drop, sets, length-sets, sets-eq}
use borrow.Author.Tests.{eq-eqb, ne_eqb}
use Rattle.table.proofs.Booleans.{and_right, choose_false, choose_true}
use Rattle.table.specs.Characters.{choose, and, or, next_is, fronted}
use Rattle.replies.specs.declared.Answer.{Answer}
use Rattle.replies.specs.declared.Row.{Row}
use Rattle.replies.specs.Replies.{numbered}
use Rattle.matcher.specs.Lines.{onto, lines, past, row_size, fields, rows, ran_over, recorded, body_size, line_size}

drop_all : (t : List ℕ) (i : ℕ) → length t ≤ i → drop i t ≡ []
drop_all [] zero h = refl
drop_all [] (suc i) h = refl
drop_all (x ∷ xs) zero h = absurd (omega arith)
drop_all (x ∷ xs) (suc i) h = drop_all xs i (omega arith)

nothing : (m : ℕ) → length (take m (lines [])) ≡ 0
unfolding lines
nothing zero = refl
nothing (suc m) = refl

-- ---- one byte

module _ (x : ℕ) (xs : List ℕ) where
  abbrev pub crlf : Bool
  crlf = and (eqb x 13) (next_is 10 xs)

  pub lines_lf : eqb x 10 ≡ true → lines (x ∷ xs) ≡ [] ∷ lines xs
  unfolding lines
  lines_lf p = choose_true (eqb x 10) _ _ p

  pub lines_cr : eqb x 10 ≡ false → crlf ≡ true → lines (x ∷ xs) ≡ lines xs
  unfolding lines
  lines_cr p q = choose_false (eqb x 10) _ _ p ∙ choose_true crlf _ _ q

  pub lines_on : eqb x 10 ≡ false → crlf ≡ false → lines (x ∷ xs) ≡ onto x (lines xs)
  unfolding lines
  lines_on p q = choose_false (eqb x 10) _ _ p ∙ choose_false crlf _ _ q

  body_lf : eqb x 10 ≡ true → body_size (x ∷ xs) ≡ 0
  unfolding body_size
  body_lf p = choose_true (or (eqb x 10) crlf) _ _ (rw p)

  body_cr : eqb x 10 ≡ false → crlf ≡ true → body_size (x ∷ xs) ≡ 0
  unfolding body_size
  body_cr p q = choose_true (or (eqb x 10) crlf) _ _ (ap (λ b. or b crlf) p ∙ q)

  body_on : eqb x 10 ≡ false → crlf ≡ false → body_size (x ∷ xs) ≡ suc (body_size xs)
  unfolding body_size
  body_on p q = choose_false (or (eqb x 10) crlf) _ _ (ap (λ b. or b crlf) p ∙ q)

  size_lf : eqb x 10 ≡ true → line_size (x ∷ xs) ≡ 1
  unfolding line_size
  size_lf p = choose_true (eqb x 10) _ _ p

  size_on : eqb x 10 ≡ false → line_size (x ∷ xs) ≡ suc (line_size xs)
  unfolding line_size
  size_on p = choose_false (eqb x 10) _ _ p

  past_lf : (m : ℕ) → eqb x 10 ≡ true → past (suc m) (x ∷ xs) ≡ suc (past m xs)
  unfolding past
  past_lf m p = ap (λ k. suc (past k xs)) (choose_true (eqb x 10) _ _ p)

  past_on : (m : ℕ) → eqb x 10 ≡ false → past (suc m) (x ∷ xs) ≡ suc (past (suc m) xs)
  unfolding past
  past_on m p = ap (λ k. suc (past k xs)) (choose_false (eqb x 10) _ _ p)

-- ---- the first line

abbrev pub FirstLine : List ℕ → Type 0
FirstLine t = lines t ≡ take (body_size t) t ∷ lines (drop (line_size t) t)

sized : (t : List ℕ) (b l : ℕ) → body_size t ≡ b → line_size t ≡ l → lines t ≡ take b t ∷ lines (drop l t) → FirstLine t
sized t b l p q e = e ∙ ap (λ k. take k t ∷ lines (drop l t)) (sym p) ∙ ap (λ k. take (body_size t) t ∷ lines (drop k t)) (sym q)

module _ (x : ℕ) where
  one_byte : FirstLine (x ∷ [])
  unfolding lines body_size line_size
  one_byte = by (eqb x 10) (and (eqb x 13) (next_is 10 [])) refl refl
    where
      never : (a : Bool) → and a false ≡ true → ⊥
      never true e = let z : ◌≡◌ {A = ℕ} 0 1 = cc in omega arith
      never false e = let z : ◌≡◌ {A = ℕ} 0 1 = cc in omega arith

      by : (a b : Bool) → eqb x 10 ≡ a → and (eqb x 13) (next_is 10 []) ≡ b → FirstLine (x ∷ [])
      by true b p q = sized (x ∷ []) 0 1 (body_lf x [] p) (size_lf x [] p) (lines_lf x [] p)
      by false true p q = absurd (never (eqb x 13) q)
      by false false p q = sized (x ∷ []) 1 1 (body_on x [] p q) (size_on x [] p) (lines_on x [] p q)

  more_bytes : (y : ℕ) (ys : List ℕ) → FirstLine (y ∷ ys) → FirstLine (x ∷ y ∷ ys)
  more_bytes y ys ih = by (eqb x 10) (and (eqb x 13) (next_is 10 (y ∷ ys))) refl refl
    where
      by : (a b : Bool) → eqb x 10 ≡ a → and (eqb x 13) (next_is 10 (y ∷ ys)) ≡ b → FirstLine (x ∷ y ∷ ys)
      by true b p q = sized (x ∷ y ∷ ys) 0 1 (body_lf x (y ∷ ys) p) (size_lf x (y ∷ ys) p) (lines_lf x (y ∷ ys) p)
      by false true p q =
          let n : eqb y 10 ≡ true = and_right (eqb x 13) (eqb y 10) q in
          sized (x ∷ y ∷ ys) 0 2 (body_cr x (y ∷ ys) p q) (size_on x (y ∷ ys) p ∙ ap suc (size_lf y ys n)) (lines_cr x (y ∷ ys) p q ∙ lines_lf y ys n)
      by false false p q =
          sized (x ∷ y ∷ ys) (suc (body_size (y ∷ ys))) (suc (line_size (y ∷ ys))) (body_on x (y ∷ ys) p q) (size_on x (y ∷ ys) p) (lines_on x (y ∷ ys) p q ∙ ap (onto x) ih)

pub first_line : (xs : List ℕ) (x : ℕ) → FirstLine (x ∷ xs)
first_line [] x = one_byte x
first_line (y ∷ ys) x = more_bytes x y ys (first_line ys y)

pub past_none : (m : ℕ) → past m [] ≡ 0
unfolding past
past_none zero = refl
past_none (suc m) = refl

pub past_zero : (t : List ℕ) → past 0 t ≡ 0
unfolding past
past_zero [] = refl
past_zero (x ∷ xs) = refl

abbrev pub PastLine : ℕ → List ℕ → Type 0
PastLine m t = past (suc m) t ≡ line_size t + past m (drop (line_size t) t)

past_empty : (m : ℕ) → PastLine m []
unfolding line_size
past_empty m = past_none (suc m) ∙ sym (omega (arith, past_none m))

past_step : (m x : ℕ) (xs : List ℕ) → PastLine m xs → PastLine m (x ∷ xs)
past_step m x xs ih = by (eqb x 10) refl
  where
    by : (a : Bool) → eqb x 10 ≡ a → PastLine m (x ∷ xs)
    by true p =
        let z : 1 + past m xs ≡ suc (past m xs) = omega arith in
        past_lf x xs m p ∙ sym (ap (λ k. k + past m (drop k (x ∷ xs))) (size_lf x xs p) ∙ z)
    by false p =
        let z : suc (line_size xs) + past m (drop (line_size xs) xs) ≡ suc (line_size xs + past m (drop (line_size xs) xs)) = omega arith in
        past_on x xs m p ∙ ap suc ih ∙ sym (ap (λ k. k + past m (drop k (x ∷ xs))) (size_on x xs p) ∙ z)

pub past_line : (m : ℕ) (t : List ℕ) → PastLine m t
past_line m [] = past_empty m
past_line m (x ∷ xs) = past_step m x xs (past_line m xs)

body_le : (t : List ℕ) → body_size t ≤ length t
unfolding body_size
body_le [] = omega arith
body_le (x ∷ xs) = by (or (eqb x 10) (and (eqb x 13) (next_is 10 xs))) (body_le xs)
  where
    by : (b : Bool) → body_size xs ≤ length xs → choose b (λ u. 0) (λ u. suc (body_size xs)) ≤ suc (length xs)
    by true h = omega arith
    by false h = omega arith

size_le : (t : List ℕ) → line_size t ≤ length t
unfolding line_size
size_le [] = omega arith
size_le (x ∷ xs) = by (eqb x 10) (size_le xs)
  where
    by : (b : Bool) → line_size xs ≤ length xs → choose b (λ u. 1) (λ u. suc (line_size xs)) ≤ suc (length xs)
    by true h = omega arith
    by false h = omega arith

-- ---- the code's search for the end

pub record Before (t : List ℕ) (at i : ℕ) : Type 0 where
  pub low : at ≤ i
  pub high : i ≤ length t
  pub body : body_size (drop at t) ≡ (i - at) + body_size (drop i t)
  pub whole : line_size (drop at t) ≡ (i - at) + line_size (drop i t)

pub before_first : (t : List ℕ) (at : ℕ) → at ≤ length t → Before t at at
before_first t at h = record { low = omega arith; high = h; body = omega arith; whole = omega arith }

-- where a line ends, and where the next one begins
pub record Ends (t : List ℕ) (at e n : ℕ) : Type 0 where
  pub stop : e ≡ at + body_size (drop at t)
  pub next : n ≡ at + line_size (drop at t)

next_is_lem : (t : List ℕ) (i : ℕ) → i < length t → next_is 10 (drop i t) ≡ eqb (get_or t i 0) 10
next_is_lem t i h = ap (next_is 10) (drop-cons t i 0 h)

next_none : (t : List ℕ) (i : ℕ) → length t ≤ i → next_is 10 (drop i t) ≡ false
next_none t i h = ap (next_is 10) (drop_all t i h)

module _ (t : List ℕ) (at i : ℕ) (s : Before t at i) where
  pub ends_text : length t ≤ i → Ends t at i i
  unfolding body_size line_size
  ends_text h =
      let z = drop_all t i h in
      record { stop = omega (arith, s.low, s.body, ap body_size z); next = omega (arith, s.low, s.whole, ap line_size z) }

  module _ (h : i < length t) where
    abbrev byte : ℕ
    byte = get_or t i 0

    here : drop i t ≡ byte ∷ drop (i + 1) t
    here = drop-cons t i 0 h ∙ ap (λ k. byte ∷ drop k t) (sym (add-one i))

    pub ends_lf : byte ≡ 10 → Ends t at i (i + 1)
    ends_lf e =
        let p = eq-eqb byte 10 e in
        let b : body_size (drop i t) ≡ 0 = ap body_size here ∙ body_lf byte (drop (i + 1) t) p in
        let l : line_size (drop i t) ≡ 1 = ap line_size here ∙ size_lf byte (drop (i + 1) t) p in
        record { stop = omega (arith, s.low, s.body); next = omega (arith, s.low, s.whole) }

    module _ (n : byte ≡ 10 → ⊥) where
      abbrev other : eqb byte 10 ≡ false
      other = ne_eqb byte 10 n

      goes : and (eqb byte 13) (next_is 10 (drop (i + 1) t)) ≡ false → Before t at (i + 1)
      goes q =
          let b : body_size (drop i t) ≡ suc (body_size (drop (i + 1) t)) = ap body_size here ∙ body_on byte (drop (i + 1) t) other q in
          let l : line_size (drop i t) ≡ suc (line_size (drop (i + 1) t)) = ap line_size here ∙ size_on byte (drop (i + 1) t) other in
          record { low = omega (arith, s.low); high = omega arith; body = omega (arith, s.low, s.body); whole = omega (arith, s.low, s.whole) }

      pub before_byte : (byte ≡ 13 → ⊥) → Before t at (i + 1)
      before_byte m = goes (ap (λ b. and b (next_is 10 (drop (i + 1) t))) (ne_eqb byte 13 m))

      module _ (r : byte ≡ 13) where
        next_only : {b : Bool} → next_is 10 (drop (i + 1) t) ≡ b → and (eqb byte 13) (next_is 10 (drop (i + 1) t)) ≡ b
        next_only e = ap (λ b. and b (next_is 10 (drop (i + 1) t))) (eq-eqb byte 13 r) ∙ e

        pub ends_crlf : i + 1 < length t → get_or t (i + 1) 0 ≡ 10 → Ends t at i (i + 1 + 1)
        ends_crlf k e =
            let q = next_only (next_is_lem t (i + 1) k ∙ eq-eqb (get_or t (i + 1) 0) 10 e) in
            let b : body_size (drop i t) ≡ 0 = ap body_size here ∙ body_cr byte (drop (i + 1) t) other q in
            let l : line_size (drop i t) ≡ suc (line_size (drop (i + 1) t)) = ap line_size here ∙ size_on byte (drop (i + 1) t) other in
            let z : line_size (drop (i + 1) t) ≡ 1 = ap line_size (drop-cons t (i + 1) 0 k) ∙ size_lf (get_or t (i + 1) 0) (drop (suc (i + 1)) t) (eq-eqb (get_or t (i + 1) 0) 10 e) in
            record { stop = omega (arith, s.low, s.body); next = omega (arith, s.low, s.whole) }

        pub before_cr : i + 1 < length t → (get_or t (i + 1) 0 ≡ 10 → ⊥) → Before t at (i + 1)
        before_cr k e = goes (next_only (next_is_lem t (i + 1) k ∙ ne_eqb (get_or t (i + 1) 0) 10 e))

        pub before_last : length t ≤ i + 1 → Before t at (i + 1)
        before_last k = goes (next_only (next_none t (i + 1) k))

-- the same as the code's promise says it
abbrev pub Found : List ℕ → ℕ → ℕ → ℕ → Type 0
Found t at e n = (e ≡ at + body_size (drop at t)) × (n ≡ at + line_size (drop at t))

ends : (t : List ℕ) (at e n : ℕ) → Found t at e n → Ends t at e n
ends t at e n s = record { stop = s.0; next = s.1 }

ends_inside : (t : List ℕ) (at e n : ℕ) → at ≤ length t → Ends t at e n → (at ≤ e) × (e ≤ length t) × (n ≤ length t)
ends_inside t at e n h s =
    let z : length (drop at t) ≡ length t - at = length-drop at t in
    (omega (arith, s.stop), omega (arith, s.stop, body_le (drop at t)), omega (arith, s.next, size_le (drop at t)))

pub line_inside : (t : List ℕ) (at : ℕ) {e n : ℕ} → at ≤ length t → Found t at e n → (at ≤ e) × (e ≤ length t) × (n ≤ length t)
line_inside t at {e} {n} h s = ends_inside t at e n h (record { stop = s.0; next = s.1 })

-- ---- the records of all lines

pub put_five : (o : List ℕ) (at a b c d e : ℕ) → set (set (set (set (set o at a) (at + 1) b) (at + 2) c) (at + 3) d) (at + 4) e ≡ sets o at (a ∷ b ∷ c ∷ d ∷ e ∷ [])
put_five o at a b c d e =
    let p : at + 1 ≡ suc at = omega arith in
    let q : at + 2 ≡ suc (suc at) = omega arith in
    let r : at + 3 ≡ suc (suc (suc at)) = omega arith in
    let s : at + 4 ≡ suc (suc (suc (suc at))) = omega arith in
    rw (p, q, r, s)

take_none : (o : List ℕ) → take 0 o ≡ []
take_none [] = refl
take_none (x ∷ xs) = refl

front_sets : (o x : List ℕ) → length x ≤ length o → sets o 0 x ≡ x ++ drop (length x) o
front_sets o x h =
    let z : 0 + length x ≡ length x = omega arith in
    sets-eq x o 0 (omega arith) ∙ ap (λ p. p ++ (x ++ drop (0 + length x) o)) (take_none o) ∙ ap (λ k. x ++ drop k o) z

module _ (f : List ℕ → Answer) where
  rows_length : (ls : List (List ℕ)) → length (rows f ls) ≡ row_size * length ls
  unfolding rows
  rows_length [] = refl
  rows_length (l ∷ ls) = omega (arith, rows_length ls)

  rows_none : (m : ℕ) → rows f (take m (lines [])) ≡ []
  unfolding rows lines
  rows_none zero = refl
  rows_none (suc m) = refl

  -- after k lines, with the next one at a place
  pub record Done (t o₀ : List ℕ) (m : ℕ) (o : List ℕ) (k at : ℕ) : Type 0 where
    pub room : m ≡ length o₀ / row_size
    pub long : length o ≡ length o₀
    pub some : k ≤ m
    pub inside : at ≤ length t
    pub now : sets o (row_size * k) (rows f (take (m - k) (lines (drop at t)))) ≡ sets o₀ 0 (rows f (take m (lines t)))
    pub count : k + length (take (m - k) (lines (drop at t))) ≡ length (take m (lines t))
    pub place : at + past (m - k) (drop at t) ≡ past m t

  pub done_none : (t o : List ℕ) (m : ℕ) → m ≡ length o / row_size → Done t o m o 0 0
  done_none t o m h =
      let z : m - 0 ≡ m = omega arith in
      record {
        room = h;
        long = refl;
        some = omega arith;
        inside = omega arith;
        now = rw z;
        count = rw z (omega arith);
        place = rw z (omega arith);
      }

  module _ (t o₀ : List ℕ) (m : ℕ) (o : List ℕ) (k at : ℕ) (d : Done t o₀ m o k at) where
    done-sets : (e n : ℕ) → k < m → at < length t → Ends t at e n → {a : Answer} {r : Row} → a ≡ f (take (e - at) (drop at t)) → r ≡ numbered a → Done t o₀ m (sets o (k * row_size) (fields r)) (k + 1) n
    unfolding rows
    done-sets e n h l s {a} {r} p q =
        let j : m - k ≡ suc (m - (k + 1)) = omega arith in
        let b : e - at ≡ body_size (drop at t) = omega (arith, s.stop) in
        let c : lines (drop at t) ≡ take (e - at) (drop at t) ∷ lines (drop n t) = at-line in
        let w : fields (numbered (f (take (e - at) (drop at t)))) ≡ fields r = ap fields (ap numbered (sym p) ∙ sym q) in
        let i : k * row_size ≡ row_size * k = omega arith in
        let u : suc (suc (suc (suc (suc (row_size * k))))) ≡ row_size * (k + 1) = omega arith in
        let x = ends_inside t at e n d.inside s in
        record {
          room = d.room;
          long = length-sets o (k * row_size) (fields r) ∙ d.long;
          some = omega arith;
          inside = x.2;
          now =
              ap (λ z. sets (sets o z (fields r)) (row_size * (k + 1)) (rows f (take (m - (k + 1)) (lines (drop n t))))) i
              ∙ ap (λ z. sets (sets o (row_size * k) (fields r)) z (rows f (take (m - (k + 1)) (lines (drop n t))))) (sym u)
              ∙ ap (λ z. sets o (row_size * k) (z ++ rows f (take (m - (k + 1)) (lines (drop n t))))) (sym w)
              ∙ sym (ap (λ z. sets o (row_size * k) (rows f (take z (lines (drop at t))))) j ∙ ap (λ z. sets o (row_size * k) (rows f (take (suc (m - (k + 1))) z))) c)
              ∙ d.now;
          count = omega (arith, d.count, ap length (ap (λ z. take z (lines (drop at t))) j ∙ ap (take (suc (m - (k + 1)))) c));
          place = omega (arith, d.place, ap (λ z. past z (drop at t)) j, past_line (m - (k + 1)) (drop at t), s.next, ap (past (m - (k + 1))) behind);
        }
      where
        behind : drop (line_size (drop at t)) (drop at t) ≡ drop n t
        behind = drop-drop (line_size (drop at t)) at t ∙ ap (λ z. drop z t) (sym s.next)

        at-line : lines (drop at t) ≡ take (e - at) (drop at t) ∷ lines (drop n t)
        at-line =
            let b : body_size (drop at t) ≡ e - at = omega (arith, s.stop) in
            let g : FirstLine (drop at t) = rw (drop-cons t at 0 l) (first_line (drop (suc at) t) (get_or t at 0)) in
            g ∙ ap (λ z. take z (drop at t) ∷ lines (drop (line_size (drop at t)) (drop at t))) b ∙ ap (λ z. take (e - at) (drop at t) ∷ lines z) behind

    pub done_more : {e n : ℕ} → k < m → at < length t → Found t at e n → {a : Answer} {r : Row} {o' : List ℕ} → a ≡ f (take (e - at) (drop at t)) → r ≡ numbered a → o' ≡ sets o (k * row_size) (fields r) → Done t o₀ m o' (k + 1) n
    done_more {e} {n} h l s {a} {r} {o'} p q z = subst (λ y. Done t o₀ m y (k + 1) n) (sym z) (done-sets e n h l (ends t at e n s) p q)

    fits : length (rows f (take m (lines t))) ≤ length o₀
    fits = omega (arith, d.room, rows_length (take m (lines t)), length-take m (lines t))

    all-now : o ≡ sets o₀ 0 (rows f (take m (lines t))) → o ≡ recorded f t o₀
    unfolding recorded fronted
    all-now e =
        e ∙ front_sets o₀ (rows f (take m (lines t))) fits
        ∙ ap (λ k. rows f (take k (lines t)) ++ drop (length (rows f (take k (lines t)))) o₀) d.room

    all_ran : {n : ℕ} → n ≡ length (take m (lines t)) → at ≡ past m t → Ok (n, at) ≡ ran_over t (length o₀)
    unfolding ran_over
    all_ran e g = rw (sym d.room) (cc)

    module _ (h : length t ≤ at) where
      end-text : drop at t ≡ []
      end-text = drop_all t at h

      pub done_text : Ok (k, at) ≡ ran_over t (length o₀)
      done_text = all_ran (omega (arith, d.count, none_left)) (omega (arith, d.place, ap (past (m - k)) end-text, past_none (m - k)))
        where
          none_left : length (take (m - k) (lines (drop at t))) ≡ 0
          none_left = ap (λ z. length (take (m - k) (lines z))) end-text ∙ nothing (m - k)

      pub now_text : o ≡ recorded f t o₀
      now_text = all-now (sym (ap (λ z. sets o (row_size * k) (rows f (take (m - k) (lines z)))) end-text ∙ ap (sets o (row_size * k)) (rows_none (m - k))) ∙ d.now)

    module _ (h : m ≤ k) where
      full-up : m - k ≡ 0
      full-up = omega arith

      pub done_full : Ok (m, at) ≡ ran_over t (length o₀)
      done_full = all_ran (omega (arith, d.count, d.some, ap (λ z. length (take z (lines (drop at t)))) full-up)) (omega (arith, d.place, ap (λ z. past z (drop at t)) full-up, past_zero (drop at t)))

      pub now_full : o ≡ recorded f t o₀
      unfolding rows
      now_full = all-now (sym (ap (λ z. sets o (row_size * k) (rows f (take z (lines (drop at t))))) full-up) ∙ d.now)
