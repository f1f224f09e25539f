-- Laws of characters. Good bytes before a text change nothing of what is good behind them, so that a place behind whole characters parts
-- a line into two that are UTF-8.
use Rattle.std.specs.Prelude.{ℕ, Option, Some, None}
use mathlib.Core.Path.{◌≡◌, refl, sym, ap, ◌∙◌}
use mathlib.Core.Bool.{true, false}
use mathlib.Core.List.{List, [], ◌∷◌, ◌++◌, append-nil, map}
use mathlib.Core.Logic.{⊎_elim}
use Prim.Native.Nat.{ℕ, zero, suc, ◌+◌, ◌-◌, ◌*◌, ◌≤◌, ◌<◌}
use native.Mathlib.Omega.{arith}
use lib.ListN.{length, get_or, take, drop, take-append-drop, length-take, length-drop}
use lib.Seq.{drop-length, drop-append-le, drop-drop, take-add}
use Rattle.text.specs.Booleans.{within}
use Rattle.text.specs.Scans.{later, sought_by, sought}
use Rattle.text.specs.Utf8.{scalar, lead_of, gathered, judged, sequence_by, char_of, look_by, seq_look, first_bad, encoded}
use Rattle.text.proofs.Tests.{lt_or_ge, at_byte, within_low}
use Rattle.text.proofs.Walks.{later_zero, later_later}
use Rattle.text.proofs.Decodes.{Found, one, two, three, four, found, decoded}
use Rattle.text.proofs.Encodes.{found_read, encoded_read, look_step}

-- ---- the code

pub ascii_at : (s : List ℕ) (at : ℕ) → at < length s → get_or s at 0 < 128 → char_of (drop at s) ≡ Some (get_or s at 0, 1)
ascii_at s at l h = rw (at_byte s at l) (found_read (one h))

pub char_inside : (s : List ℕ) (at c n : ℕ) → char_of (drop at s) ≡ Some (c, n) → at + n ≤ length s
char_inside s at c n e = let d = decoded (drop at s) c n e in omega (arith, d.some, d.inside, length-drop at s)

-- ---- a text behind good bytes

found_before : {xs : List ℕ} {c n : ℕ} (ys : List ℕ) → Found xs c n → Found (xs ++ ys) c n
found_before ys (one a) = one a
found_before ys (two a b t e l s) = two a b t e l s
found_before ys (three a b t u e l s) = three a b t u e l s
found_before ys (four a b t u v e l s) = four a b t u v e l s

later_good : (k : ℕ) (r : Option ℕ) → later k r ≡ None → r ≡ None
later_good k None e = refl
later_good k (Some i) e = let z : ◌≡◌ {A = ℕ} 0 1 = cc in absurd (omega arith)

-- a character and what stands behind it
step : (s : List ℕ) (c n : ℕ) → char_of s ≡ Some (c, n) → first_bad s ≡ later n (first_bad (drop n s))
unfolding first_bad
step s c n e =
    let d = decoded s c n e in
    let z : 0 + n ≡ n = omega arith in
    let h : 0 < length s = omega (arith, d.some, d.inside) in
    sym (later_zero (sought seq_look 0 s)) ∙ look_step s 0 c n h e ∙ rw z

broken : (x : ℕ) (xs : List ℕ) → char_of (x ∷ xs) ≡ None → first_bad (x ∷ xs) ≡ None → ⊥
unfolding first_bad sought
broken x xs e g = let w : Some 0 ≡ None = sym (ap (λ q. sought_by (look_by q) (λ n. sought seq_look n xs)) e) ∙ g in let z : ◌≡◌ {A = ℕ} 0 1 = cc in omega arith

abbrev Before : List ℕ → List ℕ → Type 0
Before xs ys = first_bad xs ≡ None → first_bad (xs ++ ys) ≡ later (length xs) (first_bad ys)

before_step : (f : ℕ) (ys : List ℕ) → ((zs : List ℕ) → length zs ≤ f → Before zs ys) → (xs : List ℕ) → length xs ≤ suc f → Before xs ys
before_step f ys ih [] l g = sym (later_zero (first_bad ys))
before_step f ys ih (x ∷ xs) l g = by (char_of (x ∷ xs)) refl
  where
    by : (q : Option (ℕ × ℕ)) → char_of (x ∷ xs) ≡ q → first_bad ((x ∷ xs) ++ ys) ≡ later (length (x ∷ xs)) (first_bad ys)
    by (Some (c, n)) e =
        let d = decoded (x ∷ xs) c n e in
        let h : length (drop n (x ∷ xs)) ≡ length (x ∷ xs) - n = length-drop n (x ∷ xs) in
        let k : n + length (drop n (x ∷ xs)) ≡ length (x ∷ xs) = omega (arith, d.inside) in
        let r : first_bad (drop n (x ∷ xs)) ≡ None = later_good n _ (sym (step (x ∷ xs) c n e) ∙ g) in
        step ((x ∷ xs) ++ ys) c n (found_read (found_before ys (found (x ∷ xs) c n e)))
        ∙ ap (λ t. later n (first_bad t)) (drop-append-le n (x ∷ xs) ys d.inside)
        ∙ ap (later n) (ih (drop n (x ∷ xs)) (omega (arith, d.some)) r)
        ∙ later_later n (length (drop n (x ∷ xs))) (first_bad ys)
        ∙ ap (λ m. later m (first_bad ys)) k
    by None e = absurd (broken x xs e g)

pub good_before : (f : ℕ) (xs ys : List ℕ) → length xs ≤ f → Before xs ys
good_before zero xs ys l g = before_step zero ys (λ zs m. none zs m) xs (omega arith) g
  where
    none : (zs : List ℕ) → length zs ≤ 0 → Before zs ys
    none [] m h = sym (later_zero (first_bad ys))
    none (z ∷ zs) m h = absurd (omega arith)
good_before (suc f) xs ys l g = before_step f ys (λ zs m. good_before f zs ys m) xs l g

encoded_good : (c : ℕ) → scalar c ≡ true → first_bad (encoded c) ≡ None
unfolding first_bad sought
encoded_good c s =
    let e : char_of (encoded c) ≡ Some (c, length (encoded c)) = ap char_of (sym (append-nil (encoded c))) ∙ encoded_read c [] s in
    step (encoded c) c (length (encoded c)) e ∙ ap (λ z. later (length (encoded c)) (first_bad z)) (drop-length (encoded c))

-- a place that parts a line between two characters
pub record Edge (line : List ℕ) (at : ℕ) : Type 0 where
  pub inside : at ≤ length line
  pub front : first_bad (take at line) ≡ None
  pub back : first_bad (drop at line) ≡ None

pub edge_first : (line : List ℕ) → first_bad line ≡ None → Edge line 0
unfolding first_bad sought
edge_first line g = record { inside = omega arith; front = refl; back = g }

module _ (line : List ℕ) (at : ℕ) (t : Edge line at) where
  pub edge_more : (n : ℕ) → at + n ≤ length line → first_bad (take n (drop at line)) ≡ None → Edge line (at + n)
  edge_more n l g =
      let a : length (take n (drop at line)) ≡ n = simp (length-take, length-drop) (omega arith) in
      record {
        inside = l;
        front = ap first_bad (take-add at n line) ∙ good_before (length (take at line)) (take at line) (take n (drop at line)) (omega arith) t.front ∙ ap (later (length (take at line))) g;
        back = later_good (length (take n (drop at line))) _ (sym (good_before (length (take n (drop at line))) (take n (drop at line)) (drop (at + n) line) (omega arith) g) ∙ (ap first_bad whole ∙ t.back));
      }
    where
      whole : take n (drop at line) ++ drop (at + n) line ≡ drop at line
      whole = ap (λ z. take n (drop at line) ++ z) (sym (drop-drop n at line)) ∙ take-append-drop n (drop at line)

  pub edge_char : (c n : ℕ) → char_of (drop at line) ≡ Some (c, n) → Edge line (at + n)
  edge_char c n e =
      let d = decoded (drop at line) c n e in
      let h : length (drop at line) ≡ length line - at = length-drop at line in
      edge_more n (omega (arith, d.inside, d.some)) (ap first_bad d.front ∙ encoded_good c d.good)

-- ---- bytes below 128 changed among themselves

pub record Keeps (f : ℕ → ℕ) : Type 0 where
  pub low : (x : ℕ) → x < 128 → f x < 128
  pub high : (x : ℕ) → 128 ≤ x → f x ≡ x

module _ (f : ℕ → ℕ) (k : Keeps f) where
  gathered_map : (n v : ℕ) (xs : List ℕ) → gathered n v (map f xs) ≡ gathered n v xs
  unfolding gathered
  gathered_map zero v xs = refl
  gathered_map (suc n) v [] = refl
  gathered_map (suc n) v (x ∷ xs) = ⊎_elim (below (k.low x)) (above (λ w. gathered_map n w xs)) (lt_or_ge x 128)
    where
      below : (x < 128 → f x < 128) → x < 128 → gathered (suc n) v (map f (x ∷ xs)) ≡ gathered (suc n) v (x ∷ xs)
      below h l =
          let p : within 0x80 0xbf (f x) ≡ false = within_low 0x80 0xbf (f x) (omega (arith, h l)) in
          let q : within 0x80 0xbf x ≡ false = within_low 0x80 0xbf x (omega arith) in
          rw (gathered, p, gathered, q)

      above : ((w : ℕ) → gathered n w (map f xs) ≡ gathered n w xs) → 128 ≤ x → gathered (suc n) v (map f (x ∷ xs)) ≡ gathered (suc n) v (x ∷ xs)
      above ih l = rw (k.high x l, ih (v * 64 + (x - 0x80)))

  by_lead : (l : Option (ℕ × ℕ × ℕ)) (xs : List ℕ) → sequence_by l (map f xs) ≡ sequence_by l xs
  by_lead None xs = refl
  by_lead (Some (b, m, w)) xs = ap (judged w (m + 1)) (gathered_map m b xs)

  look_map : (x : ℕ) (xs : List ℕ) → seq_look (map f (x ∷ xs)) ≡ seq_look (x ∷ xs)
  unfolding char_of
  look_map x xs = ⊎_elim below above (lt_or_ge x 128)
    where
      below : x < 128 → look_by (char_of (f x ∷ map f xs)) ≡ look_by (char_of (x ∷ xs))
      below l =
          let p : char_of (f x ∷ map f xs) ≡ Some (f x, 1) = found_read (one (k.low x l)) in
          let q : char_of (x ∷ xs) ≡ Some (x, 1) = found_read (one l) in
          ap look_by p ∙ sym (ap look_by q)

      above : 128 ≤ x → look_by (char_of (f x ∷ map f xs)) ≡ look_by (char_of (x ∷ xs))
      above l = ap (λ z. look_by (char_of (z ∷ map f xs))) (k.high x l) ∙ ap look_by (by_lead (lead_of x) xs)

  sought_map : (n : ℕ) (xs : List ℕ) → sought seq_look n (map f xs) ≡ sought seq_look n xs
  unfolding sought
  sought_map n [] = refl
  sought_map (suc n) (x ∷ xs) = ap (later 1) (sought_map n xs)
  sought_map zero (x ∷ xs) = ap (λ l. sought_by l (λ n. sought seq_look n (map f xs))) (look_map x xs) ∙ by (seq_look (x ∷ xs)) (λ n. sought_map n xs)
    where
      by : (l : Option ℕ) → ((n : ℕ) → sought seq_look n (map f xs) ≡ sought seq_look n xs) → sought_by l (λ n. sought seq_look n (map f xs)) ≡ sought_by l (λ n. sought seq_look n xs)
      by None ih = refl
      by (Some n) ih = ap (later 1) (ih n)

  -- what is good stays so
  pub good_map : (xs : List ℕ) → first_bad (map f xs) ≡ first_bad xs
  unfolding first_bad
  good_map xs = sought_map 0 xs
