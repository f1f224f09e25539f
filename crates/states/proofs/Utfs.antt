-- The machine for fault 2 finds the start of the first bad sequence; when it shows.
use Rattle.std.specs.Prelude.{ℕ, Option, Some, None}
use Prim.Native.Nat.{ℕ, zero, suc, ◌+◌, ◌-◌, ◌≤◌, ◌<◌}
use mathlib.Core.Path.{◌≡◌, refl, sym, ap, ◌∙◌}
use mathlib.Core.Bool.{Bool, true, false}
use mathlib.Core.List.{List, [], ◌∷◌, ◌++◌}
use native.Mathlib.Nat.{zero-add, add-zero}
use native.Mathlib.Omega.{arith}
use lib.Dec.{ltb, eqb}
use lib.ListN.{length, drop}
use borrow.Author.Tests.{eqb-true, eqb-false, ltb-true, ltb-false}
use Rattle.text.specs.Booleans.{choose, within}
use Rattle.text.specs.Scans.{later, sought_by, sought}
use Rattle.text.specs.Utf8.{look_by, seq_look, first_bad}
use Rattle.text.proofs.Tests.{lt_or_ge}
use Rattle.text.proofs.Walks.{sought_pending, later_later, later_zero}
use Rattle.text.proofs.Booleans.{choose_by, choose_same}
use Rattle.token.specs.Blanks.{first}
use Rattle.states.specs.declared.Tail.{Tail}
use Rattle.states.specs.declared.Tail.TheVariants.{T1, T2, T3, TE0, TED, TF0, TF4}
use Rattle.states.specs.Machine.{tail_ok, tail_left}
use Rattle.states.specs.declared.Utf.{Utf}
use Rattle.states.specs.declared.Utf.TheVariants.{Whole, Mid, Broke}
use Rattle.states.specs.Utf.{utf_lead, utf_next, utf_step, utf_end, utf_feed, utf_rest}
use Rattle.states.specs.Free.{Free-2}
use Rattle.states.proofs.Bytes.{rest_bytes}
use Rattle.states.proofs.Strs.{ascii_char}
use Rattle.states.proofs.Sequences.{tails_of, more_of, lead_t1, lead_e0, lead_ed, lead_t2, lead_f0, lead_t3, lead_f4, lead_f5, lead_80}

unfoldable utf_tails : ℕ → ℕ → ℕ → List ℕ → Option ℕ
utf_tails zero s a rest = later a (sought seq_look 0 rest)
utf_tails (suc k) s a rest = choose (first (within 0x80 0xbf) rest) (λ u. utf_tails k s (suc a) (drop 1 rest)) (λ u. Some s)

-- what is still to be found, by the state
abbrev utf_l : Utf → ℕ → List ℕ → Option ℕ
utf_l Whole a rest = later a (sought seq_look 0 rest)
utf_l (Mid t s) a rest = choose (first (tail_ok t) rest) (λ u. utf_tails (tail_left t) s (suc a) (drop 1 rest)) (λ u. Some s)
utf_l (Broke p) a rest = Some p

ascii_utf : (a x : ℕ) (rest : List ℕ) → x < 128 → later a (sought seq_look 0 (x ∷ rest)) ≡ later (suc a) (sought seq_look 0 rest)
unfolding sought
ascii_utf a x rest h =
    let z : a + 1 ≡ suc a = omega arith in
    rw (ascii_char x rest h) (later_later a 1 (sought seq_look 0 rest) ∙ rw z)

module _ (a x : ℕ) (rest : List ℕ) where
  abbrev E : Option (ℕ × ℕ) → Option ℕ
  E q = later a (sought_by (look_by q) (λ n. sought seq_look n rest))

  broken : E None ≡ Some a
  broken = rw (add-zero a)

  abbrev K : ℕ → List ℕ → Option ℕ
  K j r = later (suc (a + j)) (sought seq_look 0 r)

  is : (c i : ℕ) → E (Some (c, suc i)) ≡ K i (drop i rest)
  is c i =
      let z : suc i - 1 ≡ i = omega arith in
      let y : a + (1 + i) ≡ suc (a + i) = omega arith in
      rw (z, sought_pending seq_look i rest) (ap (later a) (later_later 1 i (sought seq_look 0 (drop i rest))) ∙ later_later a (1 + i) (sought seq_look 0 (drop i rest)) ∙ rw y)

  tails_same : (k j : ℕ) (r : List ℕ) → tails_of E (Some a) broken K k j r ≡ utf_tails k a (suc (a + j)) r
  unfolding tails_of utf_tails
  tails_same zero j r = refl
  tails_same (suc k) j r =
      let z : a + suc j ≡ suc (a + j) = omega arith in
      choose_same (first (within 0x80 0xbf) r) (Some a) (tails_same k (suc j) (drop 1 r) ∙ ap (λ (b : ℕ). utf_tails k a (suc b) (drop 1 r)) z)

  more_same : (t : Tail) → more_of E (Some a) broken K t rest ≡ utf_l (Mid t a) (suc a) rest
  more_same t =
      let z : a + 1 ≡ suc a = omega arith in
      choose_same (first (tail_ok t) rest) (Some a) (tails_same (tail_left t) 1 (drop 1 rest) ∙ ap (λ (b : ℕ). utf_tails (tail_left t) a (suc b) (drop 1 rest)) z)

  lead_utf : later a (sought seq_look 0 (x ∷ rest)) ≡ utf_l (utf_lead a x) (suc a) rest
  unfolding utf_lead sought
  lead_utf =
      let P : Utf → Type 0 = λ q. later a (sought seq_look 0 (x ∷ rest)) ≡ utf_l q (suc a) rest in
      choose_by P (ltb x 0x80) _ _ (λ e. ascii_utf a x rest (ltb-true x 0x80 e))
      (λ e0. let g0 : 0x80 ≤ x = ltb-false x 0x80 e0 in
      choose_by P (ltb x 0xc2) _ _ (λ e. lead_80 E (Some a) broken K x rest is g0 (ltb-true x 0xc2 e) (lt_or_ge x 0xc0))
      (λ e1. let g1 : 0xc2 ≤ x = ltb-false x 0xc2 e1 in
      choose_by P (ltb x 0xe0) _ _ (λ e. lead_t1 E (Some a) broken K x rest is g1 (ltb-true x 0xe0 e) ∙ more_same T1)
      (λ e2. let g2 : 0xe0 ≤ x = ltb-false x 0xe0 e2 in
      choose_by P (eqb x 0xe0) _ _ (λ e. lead_e0 E (Some a) broken K x rest is (eqb-true x 0xe0 e) ∙ more_same TE0)
      (λ e3. let g3 : x ≡ 0xe0 → ⊥ = eqb-false x 0xe0 e3 in
      choose_by P (eqb x 0xed) _ _ (λ e. lead_ed E (Some a) broken K x rest is (eqb-true x 0xed e) ∙ more_same TED)
      (λ e4. choose_by P (ltb x 0xf0) _ _ (λ e. lead_t2 E (Some a) broken K x rest is (omega arith) (ltb-true x 0xf0 e) (eqb-false x 0xed e4) ∙ more_same T2)
      (λ e5. let g5 : 0xf0 ≤ x = ltb-false x 0xf0 e5 in
      choose_by P (eqb x 0xf0) _ _ (λ e. lead_f0 E (Some a) broken K x rest is (eqb-true x 0xf0 e) ∙ more_same TF0)
      (λ e6. let g6 : x ≡ 0xf0 → ⊥ = eqb-false x 0xf0 e6 in
      choose_by P (ltb x 0xf4) _ _ (λ e. lead_t3 E (Some a) broken K x rest is (omega arith) (ltb-true x 0xf4 e) ∙ more_same T3)
      (λ e7. let g7 : 0xf4 ≤ x = ltb-false x 0xf4 e7 in
      choose_by P (eqb x 0xf4) _ _ (λ e. lead_f4 E (Some a) broken K x rest is (eqb-true x 0xf4 e) ∙ more_same TF4)
      (λ e8. let g8 : x ≡ 0xf4 → ⊥ = eqb-false x 0xf4 e8 in
      lead_f5 E (Some a) broken K x rest is (omega arith) (lt_or_ge x 0xf8))))))))))

next_is_lem : (t : Tail) (s a : ℕ) (rest : List ℕ) → utf_tails (tail_left t) s a rest ≡ utf_l (utf_next t s) a rest
unfolding utf_tails
next_is_lem T1 s a rest = refl
next_is_lem T2 s a rest = refl
next_is_lem T3 s a rest = refl
next_is_lem TE0 s a rest = refl
next_is_lem TED s a rest = refl
next_is_lem TF0 s a rest = refl
next_is_lem TF4 s a rest = refl

mid_by : (t : Tail) (s a : ℕ) (rest : List ℕ) (b : Bool) → choose b (λ u. utf_tails (tail_left t) s (suc a) rest) (λ u. Some s) ≡ utf_l (choose b (λ u. utf_next t s) (λ u. Broke s)) (suc a) rest
mid_by t s a rest true = next_is_lem t s (suc a) rest
mid_by t s a rest false = refl

utf_row : (q : Utf) (a x : ℕ) (rest : List ℕ) → utf_l q a (x ∷ rest) ≡ utf_l (utf_step q a x) (suc a) rest
utf_row Whole a x rest = lead_utf a x rest
utf_row (Mid t s) a x rest = mid_by t s a rest (tail_ok t x)
utf_row (Broke p) a x rest = refl

utf_end_lem : (q : Utf) (a : ℕ) → utf_l q a [] ≡ utf_end q
unfolding sought
utf_end_lem Whole a = refl
utf_end_lem (Mid t s) a = refl
utf_end_lem (Broke p) a = refl

utf_whole : (xs : List ℕ) (q : Utf) (a : ℕ) → utf_l q a xs ≡ utf_end (utf_feed q a xs)
unfolding utf_feed
utf_whole [] q a = utf_end_lem q a
utf_whole (x ∷ xs) q a = utf_row q a x xs ∙ utf_whole xs (utf_step q a x) (suc a)

-- the machine finds what text's `first_bad` finds
pub machine_2 : (s : List ℕ) → first_bad s ≡ utf_end (utf_feed Whole 0 s)
unfolding first_bad
machine_2 s = sym (later_zero (sought seq_look 0 s)) ∙ utf_whole s Whole 0

-- and from any place on
pub machine_at : (a : ℕ) (s : List ℕ) → later a (first_bad s) ≡ utf_end (utf_feed Whole a s)
unfolding first_bad
machine_at a s = utf_whole s Whole a

pub utf_cuts : (xs ys : List ℕ) (q : Utf) (a : ℕ) → utf_feed q a (xs ++ ys) ≡ utf_feed (utf_feed q a xs) (length xs + a) ys
unfolding utf_feed
utf_cuts [] ys q a = rw (zero-add a)
utf_cuts (x ∷ xs) ys q a =
    let z : suc (length xs) + a ≡ length xs + suc a = omega arith in
    rw z (utf_cuts xs ys (utf_step q a x) (suc a))

pub stays : (p a : ℕ) (ys : List ℕ) → utf_feed (Broke p) a ys ≡ Broke p
unfolding utf_feed
stays p a [] = refl
stays p a (y ∷ ys) = stays p (suc a) ys

pub refused_2 : (s ys : List ℕ) (p : ℕ) → utf_feed Whole 0 s ≡ Broke p → first_bad (s ++ ys) ≡ Some p
refused_2 s ys p e = machine_2 (s ++ ys) ∙ ap utf_end (utf_cuts s ys Whole 0 ∙ ap (λ (q : Utf). utf_feed q (length s + 0) ys) e ∙ stays p (length s + 0) ys)

rest_by : (q : Utf) (a : ℕ) → ((p : ℕ) → q ≡ Broke p → ⊥) → utf_end (utf_feed q a (utf_rest q)) ≡ None
unfolding utf_feed
rest_by Whole a n = refl
rest_by (Mid T1 s) a n = refl
rest_by (Mid T2 s) a n = refl
rest_by (Mid T3 s) a n = refl
rest_by (Mid TE0 s) a n = refl
rest_by (Mid TED s) a n = refl
rest_by (Mid TF0 s) a n = refl
rest_by (Mid TF4 s) a n = refl
rest_by (Broke p) a n = absurd (n p refl)

pub complete_2 : (s : List ℕ) → ((p : ℕ) → utf_feed Whole 0 s ≡ Broke p → ⊥) → Free-2 s
complete_2 s n =
    let ys : List ℕ = utf_rest (utf_feed Whole 0 s) in
    (ys, rest_bytes (utf_feed Whole 0 s), machine_2 (s ++ ys) ∙ ap utf_end (utf_cuts s ys Whole 0) ∙ rest_by (utf_feed Whole 0 s) (length s + 0) n)
