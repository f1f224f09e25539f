-- A raw character in a literal: the UTF-8 rows.
use Rattle.std.specs.Prelude.{ℕ, Option, Some, None}
use Prim.Native.Nat.{ℕ, zero, suc, ◌≤◌}
use mathlib.Core.Path.{◌≡◌, refl, ◌∙◌}
use mathlib.Core.Bool.{Bool, true, false}
use mathlib.Core.List.{List, ◌∷◌}
use native.Mathlib.Omega.{arith}
use lib.Dec.{ltb, eqb}
use lib.ListN.{drop}
use borrow.Author.Tests.{eqb-true, eqb-false, ltb-true, ltb-false}
use Rattle.text.specs.Booleans.{choose, within}
use Rattle.text.specs.Classes.{class_of}
use Rattle.text.specs.Utf8.{char_of}
use Rattle.text.proofs.Tests.{lt_or_ge}
use Rattle.text.proofs.Booleans.{choose_by, choose_same}
use Rattle.token.specs.Blanks.{first, opener_blank, blank_by}
use Rattle.token.specs.Tokens.{raw_by, char_token, opener_token, token_by}
use Rattle.token.specs.Lists.{Tokens}
use Rattle.states.specs.declared.Tail.{Tail}
use Rattle.states.specs.declared.Tail.TheVariants.{T1, T2, T3, TE0, TED, TF0, TF4}
use Rattle.states.specs.Machine.{Out, go, refuse, tail_ok, tail_left, tail_next, lead_row, more_row, chr_row, fault_at}
use Rattle.states.proofs.From.{from, ended, none, from_first}
use Rattle.states.proofs.Left.{quote_l, tails, more_l, left_by, with_rest}
use Rattle.states.proofs.Strs.{quoted_law, chr_esc, chr_ascii}
use Rattle.states.proofs.Sequences.{tails_of, more_of, lead_t1, lead_e0, lead_ed, lead_t2, lead_f0, lead_t3, lead_f4, lead_f5, lead_80}

raw_open : (a x : ℕ) (rest : List ℕ) → eqb x 92 ≡ false → from a (39 ∷ x ∷ rest) ≡ ended a 0 (39 ∷ x ∷ rest) (raw_by (x ∷ rest) (char_of (x ∷ rest)))
unfolding blank_by class_of opener_blank token_by opener_token char_token
raw_open a x rest e = from_first a 39 (x ∷ rest) (raw_by (x ∷ rest) (char_of (x ∷ rest))) refl (rw e)

module _ (a x : ℕ) (rest : List ℕ) where
  abbrev E : Option (ℕ × ℕ) → Tokens
  E q = ended a 0 (39 ∷ x ∷ rest) (raw_by (x ∷ rest) q)

  broken : E None ≡ fault_at a
  broken = none a 0 (39 ∷ x ∷ rest)

  abbrev K : ℕ → List ℕ → Tokens
  K j r = quote_l a (suc (suc j)) r

  is : (c i : ℕ) → E (Some (c, suc i)) ≡ K i (drop i rest)
  is c i = quoted_law a i x rest

  tails_same : (k j : ℕ) (r : List ℕ) → tails_of E (fault_at a) broken K k j r ≡ tails k a (suc (suc j)) r
  unfolding tails_of tails
  tails_same zero j r = refl
  tails_same (suc k) j r = choose_same (first (within 0x80 0xbf) r) (fault_at a) (tails_same k (suc j) (drop 1 r))

  more_same : (t : Tail) → more_of E (fault_at a) broken K t rest ≡ more_l t a 2 rest
  more_same t = choose_same (first (tail_ok t) rest) (fault_at a) (tails_same (tail_left t) 1 (drop 1 rest))

  lead_row_lem : 0x80 ≤ x → E (char_of (x ∷ rest)) ≡ with_rest (lead_row a x) rest
  unfolding lead_row
  lead_row_lem h =
      let P : Out → Type 0 = λ o. E (char_of (x ∷ rest)) ≡ with_rest o rest in
      choose_by P (ltb x 0xc2) _ _ (λ e. lead_80 E (fault_at a) broken K x rest is h (ltb-true x 0xc2 e) (lt_or_ge x 0xc0))
      (λ e1. let g1 : 0xc2 ≤ x = ltb-false x 0xc2 e1 in
      choose_by P (ltb x 0xe0) _ _ (λ e. lead_t1 E (fault_at a) broken K x rest is g1 (ltb-true x 0xe0 e) ∙ more_same T1)
      (λ e2. let g2 : 0xe0 ≤ x = ltb-false x 0xe0 e2 in
      choose_by P (eqb x 0xe0) _ _ (λ e. lead_e0 E (fault_at a) broken K x rest is (eqb-true x 0xe0 e) ∙ more_same TE0)
      (λ e3. let g3 : x ≡ 0xe0 → ⊥ = eqb-false x 0xe0 e3 in
      choose_by P (eqb x 0xed) _ _ (λ e. lead_ed E (fault_at a) broken K x rest is (eqb-true x 0xed e) ∙ more_same TED)
      (λ e4. choose_by P (ltb x 0xf0) _ _ (λ e. lead_t2 E (fault_at a) broken K x rest is (omega arith) (ltb-true x 0xf0 e) (eqb-false x 0xed e4) ∙ more_same T2)
      (λ e5. let g5 : 0xf0 ≤ x = ltb-false x 0xf0 e5 in
      choose_by P (eqb x 0xf0) _ _ (λ e. lead_f0 E (fault_at a) broken K x rest is (eqb-true x 0xf0 e) ∙ more_same TF0)
      (λ e6. let g6 : x ≡ 0xf0 → ⊥ = eqb-false x 0xf0 e6 in
      choose_by P (ltb x 0xf4) _ _ (λ e. lead_t3 E (fault_at a) broken K x rest is (omega arith) (ltb-true x 0xf4 e) ∙ more_same T3)
      (λ e7. let g7 : 0xf4 ≤ x = ltb-false x 0xf4 e7 in
      choose_by P (eqb x 0xf4) _ _ (λ e. lead_f4 E (fault_at a) broken K x rest is (eqb-true x 0xf4 e) ∙ more_same TF4)
      (λ e8. let g8 : x ≡ 0xf4 → ⊥ = eqb-false x 0xf4 e8 in
      lead_f5 E (fault_at a) broken K x rest is (omega arith) (lt_or_ge x 0xf8)))))))))

pub chr_row_lem : (a x : ℕ) (rest : List ℕ) → from a (39 ∷ x ∷ rest) ≡ with_rest (chr_row a x) rest
chr_row_lem a x rest =
    let P : Out → Type 0 = λ o. from a (39 ∷ x ∷ rest) ≡ with_rest o rest in
    choose_by P (eqb x 92) _ _ (λ e. rw (eqb-true x 92 e) (chr_esc a rest))
    (λ e. choose_by P (ltb x 0x80) _ _ (λ f. chr_ascii a x rest e (ltb-true x 0x80 f)) (λ f. raw_open a x rest e ∙ lead_row_lem a x rest (ltb-false x 0x80 f)))

tail_is : (t : Tail) (a n : ℕ) (rest : List ℕ) → tails (tail_left t) a n rest ≡ left_by (tail_next t) a n rest
unfolding tails
tail_is T1 a n rest = refl
tail_is T2 a n rest = refl
tail_is T3 a n rest = refl
tail_is TE0 a n rest = refl
tail_is TED a n rest = refl
tail_is TF0 a n rest = refl
tail_is TF4 a n rest = refl

more_by : (t : Tail) (a n : ℕ) (rest : List ℕ) (b : Bool) → choose b (λ u. tails (tail_left t) a (suc n) rest) (λ u. fault_at a) ≡ with_rest (choose b (λ u. go (tail_next t) a (suc n)) (λ u. refuse a)) rest
more_by t a n rest true = tail_is t a (suc n) rest
more_by t a n rest false = refl

pub more_row_lem : (t : Tail) (a n x : ℕ) (rest : List ℕ) → more_l t a n (x ∷ rest) ≡ with_rest (more_row t a n x) rest
more_row_lem t a n x rest = more_by t a n rest (tail_ok t x)
