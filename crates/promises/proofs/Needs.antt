-- How many brackets a tree needs, from place to place; and how many a text has, from token to token.
use Prim.Native.Nat.{ℕ, zero, suc, ◌+◌, ◌≤◌}
use mathlib.Core.Path.{◌≡◌, refl, ap, ◌∙◌}
use mathlib.Core.Bool.{Bool, true, false}
use mathlib.Core.List.{List}
use native.Mathlib.Omega.{arith}
use native.Mathlib.Numerals.{add-one}
use native.Mathlib.Decide.{dec_le}
use lib.Dec.{ltb}
use lib.ListN.{length}
use borrow.Author.Tests.{ltb-true, ltb-false}
use Rattle.token.specs.Table.{toks, is}
use Rattle.table.specs.Tree.{Tree, leaf, one, two, aside, placed}
use Rattle.forms.specs.declared.Place.{Place}
use Rattle.forms.specs.declared.Place.TheVariants.{LeftOf, RightOf}
use Rattle.forms.specs.declared.Form.TheVariants.{Joined}
use Rattle.forms.specs.Printing.{atom_form, wrap_form, under}
use Rattle.forms.specs.Levels.{own, asked}
use Rattle.forms.proofs.Levels.{short_by_level}
use Rattle.structure.proofs.Steps.{inside_is}
use Rattle.promises.specs.Open.{one?}
use Rattle.forms.specs.declared.Style.TheVariants.{Short}
use Rattle.promises.specs.Styled.{marked}
use Rattle.promises.specs.Marked.{atom_depth, wrap_depth, form_of, opens}
use Rattle.promises.specs.Fewest.{opens_to, opens_in, need}
use Rattle.promises.proofs.Styles.{marked_aside}

-- ---- a tree

module _ {P : Type 0} where
  -- but for its own
  abbrev inner : Tree P → ℕ
  inner (leaf s a) = atom_depth a
  inner (one s o t) = wrap_depth o + need (under (wrap_form o)) t
  inner (two s j a b) = need (LeftOf j) a + need (RightOf j) b

  need_is : (w : Place) (t : Tree P) → need w t ≡ one? (ltb (own (form_of t)) (asked w)) + inner t
  unfolding marked opens
  need_is w (leaf s a) = ap (λ z. one? z + atom_depth a) (short_by_level w (atom_form a))
  need_is w (one s o t) = ap (λ z. one? z + inner (one s o t)) (short_by_level w (wrap_form o))
  need_is w (two s j a b) = ap (λ z. one? z + inner (two s j a b)) (short_by_level w (Joined j))

  -- a place that asks for more needs no fewer, and one more at most
  pub need_more : (w v : Place) (t : Tree P) → asked w ≤ asked v → need w t ≤ need v t
  need_more w v t h = omega (arith, need_is w t, need_is v t, go (ltb (own (form_of t)) (asked w)) (ltb (own (form_of t)) (asked v)) refl refl)
    where
      go : (b c : Bool) → ltb (own (form_of t)) (asked w) ≡ b → ltb (own (form_of t)) (asked v) ≡ c → one? b ≤ one? c
      go false false p q = omega arith
      go false true p q = omega arith
      go true true p q = omega arith
      go true false p q = absurd (omega (arith, ltb-true (own (form_of t)) (asked w) p, ltb-false (own (form_of t)) (asked v) q))

  pub need_one : (w v : Place) (t : Tree P) → need v t ≤ need w t + 1
  need_one w v t = omega (arith, need_is w t, need_is v t, go (ltb (own (form_of t)) (asked v)))
    where
      go : (b : Bool) → one? b ≤ 1
      go false = omega arith
      go true = omega arith

  -- spans have no part in it
  pub need_placed : (w : Place) (p : P) (t : Tree P) → need w (placed p t) ≡ need w t
  unfolding marked
  need_placed w p (leaf s a) = refl
  need_placed w p (one s o t) = refl
  need_placed w p (two s j a b) = refl

  pub need_aside : (w : Place) (t : Tree P) → need w (aside t) ≡ need w t
  need_aside w t = ap opens (marked_aside Short w t)

-- ---- a text

module _ (s : List ℕ) where
  pub opens_step : (n : ℕ) → opens_to s (n + 1) ≡ opens_to s n + one? (is s n 6)
  unfolding opens_to
  opens_step n = rw (add-one n)

  pub opens_here : (n : ℕ) → is s n 6 ≡ true → opens_to s (n + 1) ≡ opens_to s n + 1
  opens_here n e = opens_step n ∙ ap (λ z. opens_to s n + one? z) e

  pub opens_more : (i n : ℕ) → i ≤ n → opens_to s i ≤ opens_to s n
  unfolding opens_to
  opens_more i zero h = let e : i ≡ 0 = omega arith in omega (arith, ap (opens_to s) e)
  opens_more i (suc n) h = go (dec_le i n) (λ l. opens_more i n l)
    where
      go : Dec (i ≤ n) → (i ≤ n → opens_to s i ≤ opens_to s n) → opens_to s i ≤ opens_to s n + one? (is s n 6)
      go (yes l) f = omega (arith, f l)
      go (no l) f = let e : i ≡ suc n = omega arith in omega (arith, ap (opens_to s) e)

  -- there is none behind the last token
  pub opens_most : (n : ℕ) → opens_to s n ≤ opens_in s
  unfolding opens_to
  opens_most zero = opens_more 0 (length (toks s)) (omega arith)
  opens_most (suc n) = go (is s n 6) refl (opens_most n)
    where
      go : (b : Bool) → is s n 6 ≡ b → opens_to s n ≤ opens_in s → opens_to s n + one? b ≤ opens_in s
      go true e f = let l = inside_is s n 6 (omega arith) e in omega (arith, opens_here n e, opens_more (n + 1) (length (toks s)) (omega arith))
      go false e f = omega arith
