-- Nodes that their numbers and children alone tell.
use Rattle.std.specs.Prelude.{Some, None}
use mathlib.Core.Path.{◌≡◌, refl, sym, ap, ◌∙◌}
use mathlib.Core.Bool.{Bool, true, false}
use mathlib.Core.List.{List}
use Prim.Native.Nat.{ℕ, zero, suc, ◌+◌, ◌*◌, ◌-◌, ◌≤◌, ◌<◌}
use native.Mathlib.Omega.{arith}
use lib.Dec.{eqb, ltb}
use lib.ListN.{length, get_or}
use borrow.Author.Tests.{lt-ltb, le-leb}
use Rattle.text.specs.Booleans.{choose}
use Rattle.text.specs.Utf8.{scalar}
use Rattle.text.proofs.Booleans.{and_both, choose_true}
use Rattle.table.specs.declared.Join.TheVariants.{Seq, Choice}
use Rattle.table.specs.declared.Unary.{Unary}
use Rattle.table.specs.declared.Unary.TheVariants.{PosPred, NegPred, Opt, Rep, RepOnce, RepExact, RepMin, RepMax, RepMinMax, Push}
use Rattle.table.specs.declared.Leaf.TheVariants.{Range}
use Rattle.table.specs.declared.Op.TheVariants.{Plain}
use Rattle.table.specs.Record.{node_size, node_of, node_at, first_at}
use Rattle.table.specs.Check.{good_op, good_leaf, verdict, Firsts}
use Rattle.table.specs.Children.{ones, twos, limits, Limits, Told}
use Rattle.table.proofs.Nodes.{first_le}
use Rattle.table.proofs.Ascii.{string_kind, string_good}
use Rattle.table.proofs.Verdicts.{verdict_tip, verdict_one, verdict_one_child, verdict_two, verdict_two_right, verdict_two_left}

low_scalar : (c : ℕ) → c < 0xd800 → scalar c ≡ true
unfolding scalar
low_scalar c h = choose_true (ltb c 0xd800) _ _ (lt-ltb c 0xd800 h)

range_good : (st : List ℕ) (x y : ℕ) → x < 0xd800 → y < 0xd800 → good_leaf st (Range x y) ≡ true
unfolding good_leaf
range_good st x y h l = and_both (scalar x) (scalar y) (low_scalar x h) (low_scalar y l)

plain_good : (st : List ℕ) (u : Unary) → good_op st (Plain u) ≡ true
unfolding good_op
plain_good st u = refl

module _ (ns st : List ℕ) (i : ℕ) where
  abbrev kind : ℕ
  kind = get_or ns (node_size * i) 0

  abbrev p : ℕ
  p = get_or ns (node_size * i + 3) 0

  abbrev q : ℕ
  q = get_or ns (node_size * i + 4) 0

  module _ {ls : List ℕ} (l : Limits st ls) where
    string_told : string_kind kind ≡ true → p + q < l.size → verdict ns st i ≡ Some i
    string_told e h = string_good ns st i e (l.low (omega arith)) (le-leb (p + q) (length st) (omega (arith, l.ends)))

    range_told : kind ≡ 3 → p + q < 0xd800 → verdict ns st i ≡ Some i
    unfolding node_at node_of
    range_told e h = verdict_tip ns st i (rw e) (range_good st p q (omega arith) (omega arith))

    told_by : (k : ℕ) → kind ≡ k → p + q < get_or (limits l.size) k 0 → Told ns st i (get_or ones k 0) (get_or twos k 0)
    unfolding node_at node_of
    told_by zero e h = absurd (omega arith)
    told_by (suc zero) e h = string_told (ap string_kind e) h
    told_by (suc (suc zero)) e h = string_told (ap string_kind e) h
    told_by (suc (suc (suc zero))) e h = range_told e h
    told_by (suc (suc (suc (suc zero)))) e h = absurd (omega arith)
    told_by (suc (suc (suc (suc (suc zero))))) e h = absurd (omega arith)
    told_by (suc (suc (suc (suc (suc (suc zero)))))) e h = (PosPred, rw e)
    told_by (suc (suc (suc (suc (suc (suc (suc zero))))))) e h = (NegPred, rw e)
    told_by (suc (suc (suc (suc (suc (suc (suc (suc zero)))))))) e h = (Seq, rw e)
    told_by (suc (suc (suc (suc (suc (suc (suc (suc (suc zero))))))))) e h = (Choice, rw e)
    told_by (suc (suc (suc (suc (suc (suc (suc (suc (suc (suc zero)))))))))) e h = (Opt, rw e)
    told_by (suc (suc (suc (suc (suc (suc (suc (suc (suc (suc (suc zero))))))))))) e h = (Rep, rw e)
    told_by (suc (suc (suc (suc (suc (suc (suc (suc (suc (suc (suc (suc zero)))))))))))) e h = (RepOnce, rw e)
    told_by (suc (suc (suc (suc (suc (suc (suc (suc (suc (suc (suc (suc (suc zero))))))))))))) e h = ((RepExact q), rw e)
    told_by (suc (suc (suc (suc (suc (suc (suc (suc (suc (suc (suc (suc (suc (suc zero)))))))))))))) e h = ((RepMin q), rw e)
    told_by (suc (suc (suc (suc (suc (suc (suc (suc (suc (suc (suc (suc (suc (suc (suc zero))))))))))))))) e h = ((RepMax q), rw e)
    told_by (suc (suc (suc (suc (suc (suc (suc (suc (suc (suc (suc (suc (suc (suc (suc (suc zero)))))))))))))))) e h = ((RepMinMax q (get_or ns (node_size * i + 5) 0)), rw e)
    told_by (suc (suc (suc (suc (suc (suc (suc (suc (suc (suc (suc (suc (suc (suc (suc (suc (suc zero))))))))))))))))) e h = (Push, rw e)
    told_by (suc (suc (suc (suc (suc (suc (suc (suc (suc (suc (suc (suc (suc (suc (suc (suc (suc (suc zero)))))))))))))))))) e h = string_told (ap string_kind e) h
    told_by (suc (suc (suc (suc (suc (suc (suc (suc (suc (suc (suc (suc (suc (suc (suc (suc (suc (suc (suc zero))))))))))))))))))) e h = absurd (omega arith)
    told_by (suc (suc (suc (suc (suc (suc (suc (suc (suc (suc (suc (suc (suc (suc (suc (suc (suc (suc (suc (suc k)))))))))))))))))))) e h = absurd (omega arith)

    -- what the tables say of a node whose numbers are below its limit
    pub told : {os ts : List ℕ} → os ≡ ones → ts ≡ twos → p + q < get_or ls kind 0 → Told ns st i (get_or os kind 0) (get_or ts kind 0)
    told {os} {ts} o t h = rw (o, t) (told_by kind refl (rw l.are at h))

  -- the last child is not the node just before
  pub last_out : (one two : ℕ) → Told ns st i one two → {x : ℕ} → x ≡ choose (eqb two 1) (λ u. q) (λ u. p) → ((x + 1) * one ≡ i * one → ⊥) → None ≡ verdict ns st i
  last_out zero zero t d h = absurd (h (omega arith))
  last_out zero (suc two) t d h = absurd t
  last_out (suc zero) zero t d h = sym (verdict_one_child ns st i t.1 (λ e. h (omega arith)))
  last_out (suc zero) (suc zero) t d h = sym (verdict_two_right ns st i t.1 (λ e. h (omega arith)))
  last_out (suc zero) (suc (suc two)) t d h = absurd t
  last_out (suc (suc one)) two t d h = absurd t

  -- it is
  module _ {fs : List ℕ} (f : Firsts ns fs i) where
    -- the left child does not stand just before the right child's first node
    pub left_out : (one two : ℕ) → Told ns st i one two → {x : ℕ} → x ≡ choose (eqb two 1) (λ u. q) (λ u. p) → (x + 1) * one ≡ i * one → {w : ℕ} → w ≡ get_or fs (q * two) 0 → ((p + 1) * two ≡ w * two → ⊥) → None ≡ verdict ns st i
    left_out zero zero t d n v h = absurd (h (omega arith))
    left_out zero (suc two) t d n v h = absurd t
    left_out (suc zero) zero t d n v h = absurd (h (omega arith))
    left_out (suc zero) (suc zero) t d n {w} v h =
        let e : q * 1 ≡ q = omega arith in
        sym (verdict_two_left ns st i t.1 (λ z. h (omega (arith, z, v, ap (λ y. get_or fs y 0) e, f.at q (omega arith)))))
    left_out (suc zero) (suc (suc two)) t d n v h = absurd t
    left_out (suc (suc one)) two t d n v h = absurd t

    -- it does, so that it has an entry
    pub left_in : (one two : ℕ) → Told ns st i one two → {x : ℕ} → x ≡ choose (eqb two 1) (λ u. q) (λ u. p) → (x + 1) * one ≡ i * one → {w : ℕ} → w ≡ get_or fs (q * two) 0 → (p + 1) * two ≡ w * two → {n : ℕ} → i ≤ n → 0 < n → p * one < n
    left_in zero zero t d n v h l z = omega arith
    left_in zero (suc two) t d n v h l z = absurd t
    left_in (suc zero) zero t d n v h l z = omega arith
    left_in (suc zero) (suc zero) t d n v h l z =
        let e : q * 1 ≡ q = omega arith in
        omega (arith, v, h, ap (λ y. get_or fs y 0) e, f.at q (omega arith), first_le ns q)
    left_in (suc zero) (suc (suc two)) t d n v h l z = absurd t
    left_in (suc (suc one)) two t d n v h l z = absurd t

    -- and the node is not false
    pub told_first : (one two : ℕ) → Told ns st i one two → {x : ℕ} → x ≡ choose (eqb two 1) (λ u. q) (λ u. p) → (x + 1) * one ≡ i * one → {w : ℕ} → w ≡ get_or fs (q * two) 0 → (p + 1) * two ≡ w * two
        → {y : ℕ} → y ≡ get_or fs (p * one) 0 → Some (y * one + i * (1 - one)) ≡ verdict ns st i
    told_first zero zero t d n v h {y} m = let e : y * 0 + i * (1 - 0) ≡ i = omega arith in ap Some e ∙ sym t
    told_first zero (suc two) t d n v h m = absurd t
    told_first (suc zero) zero t d n v h {y} m =
        let e : p * 1 ≡ p = omega arith in
        let z : y * 1 + i * (1 - 1) ≡ first_at ns p = omega (arith, m, ap (λ y. get_or fs y 0) e, f.at p (omega arith)) in
        ap Some z ∙ sym (verdict_one ns st i t.1 (omega arith) (plain_good st t.0))
    told_first (suc zero) (suc zero) t d n {w} v h {y} m =
        let e : p * 1 ≡ p = omega arith in
        let g : q * 1 ≡ q = omega arith in
        let r : p + 1 ≡ first_at ns q = omega (arith, v, h, ap (λ y. get_or fs y 0) g, f.at q (omega arith)) in
        let z : y * 1 + i * (1 - 1) ≡ first_at ns p = omega (arith, m, ap (λ y. get_or fs y 0) e, f.at p (omega (arith, first_le ns q))) in
        ap Some z ∙ sym (verdict_two ns st i t.1 (omega arith) r)
    told_first (suc zero) (suc (suc two)) t d n v h m = absurd t
    told_first (suc (suc one)) two t d n v h m = absurd t
