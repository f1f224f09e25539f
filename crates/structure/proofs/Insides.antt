-- UTF-8 is cut by a byte below 128: what stands before it and what stands behind it are UTF-8 too. So is what stands between two such bytes.
-- By characters: such a byte is a character of its own, or stands behind the first character.
use Rattle.std.specs.Prelude.{None}
use Prim.Native.Nat.{ℕ, ◌+◌, ◌-◌, ◌<◌}
use mathlib.Core.Path.{◌≡◌, refl, sym, ap, ◌∙◌}
use mathlib.Core.Bool.{Bool, true, false}
use mathlib.Core.List.{List, [], ◌∷◌, ◌++◌}
use native.Mathlib.Omega.{arith}
use lib.Dec.{eqb}
use lib.ListN.{length, get_or, take, drop, length-drop, take-append-drop}
use lib.Seq.{get_or-drop}
use borrow.Author.Tests.{eqb-true, eqb-false}
use Rattle.text.specs.Scans.{sought}
use Rattle.text.specs.Utf8.{scalar, encoded, seq_look, first_bad}
use Rattle.text.proofs.Tests.{at_byte}
use Rattle.text.proofs.Decodes.{encoded_one}
use Rattle.literal.proofs.Escaped.{Each}
use Rattle.literal.proofs.Pieces.{over_char, encoded_free, chars_by}
use Rattle.token.specs.Table.{between}

module _ (b : ℕ) (a : b < 128) where
  Cut : List ℕ → Type 0
  Cut s = (x y : List ℕ) → s ≡ x ++ (b ∷ y) → (first_bad x ≡ None) × (first_bad y ≡ None)

  -- bytes that aren't the one stand before it
  behind : (e t x y : List ℕ) → Each (λ (z : ℕ). z ≡ b → ⊥) e → e ++ t ≡ x ++ (b ∷ y) → (z : List ℕ) × (x ≡ e ++ z) × (t ≡ z ++ (b ∷ y))
  behind [] t x y n e = (x, refl, e)
  behind (w ∷ ws) t [] y n e = absurd (n.0 (cc))
  behind (w ∷ ws) t (v ∷ vs) y n e =
      let (z, p, q) = behind ws t vs y n.1 (cc) in
      let k : v ≡ w = cc in
      (z, ap (λ (l : List ℕ). v ∷ l) p ∙ ap (λ (m : ℕ). m ∷ (ws ++ z)) k, q)

  none_cut : Cut []
  unfolding Cut
  none_cut [] y e = let z : ◌≡◌ {A = ℕ} 0 1 = cc in absurd (omega arith)
  none_cut (v ∷ vs) y e = let z : ◌≡◌ {A = ℕ} 0 1 = cc in absurd (omega arith)

  module _ (c : ℕ) (s : List ℕ) (k : scalar c ≡ true) (u : first_bad s ≡ None) (h : Cut s) where
    longer : (x y z : List ℕ) → x ≡ encoded c ++ z → s ≡ z ++ (b ∷ y) → (first_bad x ≡ None) × (first_bad y ≡ None)
    unfolding Cut first_bad
    longer x y z p q =
        let (f, g) = h z y q in
        (ap (sought seq_look 0) p ∙ (over_char c k z ∙ rw f), g)

    alone : c ≡ b → (x y : List ℕ) → c ∷ s ≡ x ++ (b ∷ y) → (first_bad x ≡ None) × (first_bad y ≡ None)
    unfolding first_bad sought
    alone i [] y e = let z : s ≡ y = cc in (refl, rw z at u)
    alone i (v ∷ vs) y e =
        let w : v ≡ c = cc in
        longer (v ∷ vs) y vs (rw (encoded_one c (omega arith), w)) (cc)

    char_by_lem : (t : Bool) → eqb c b ≡ t → Cut (encoded c ++ s)
    unfolding Cut
    char_by_lem true q x y e =
        let i : c ≡ b = eqb-true c b q in
        alone i x y (rw (encoded_one c (omega arith)) at e)
    char_by_lem false q x y e =
        let (z, p, r) = behind (encoded c) s x y (encoded_free b c a (eqb-false c b q)) e in
        longer x y z p r

  cut : (s : List ℕ) → first_bad s ≡ None → Cut s
  cut = chars_by Cut none_cut (λ c s k u h. char_by_lem c s k u h (eqb c b) refl)

  module _ (s : List ℕ) (p : ℕ) (h : p < length s) (e : get_or s p 0 ≡ b) (u : first_bad s ≡ None) where
    halves : (first_bad (take p s) ≡ None) × (first_bad (drop (p + 1) s) ≡ None)
    unfolding Cut
    halves = cut s u (take p s) (drop (p + 1) s) (sym (rw (sym e, sym (at_byte s p h)) (take-append-drop p s)))

-- what stands between two of them
pub between_utf8 : (b : ℕ) → b < 128 → (s : List ℕ) (p q : ℕ) → p < q → q < length s → get_or s p 0 ≡ b → get_or s q 0 ≡ b → first_bad s ≡ None → first_bad (between s (p + 1) q) ≡ None
unfolding between
between_utf8 b a s p q l h e f u =
    let t = drop (p + 1) s in
    let m = q - (p + 1) in
    let z : (p + 1) + m ≡ q = omega arith in
    (halves b a t m (omega (arith, length-drop (p + 1) s)) (get_or-drop (p + 1) s m 0 ∙ rw z f) (halves b a s p (omega arith) e u).1).0
