-- Laws of the texts of leaves and tags.
use Rattle.std.specs.Prelude.{ℕ, Option, Some, None}
use mathlib.Core.Path.{◌≡◌, refl}
use mathlib.Core.Bool.{Bool, true, false}
use mathlib.Core.List.{List}
use mathlib.Core.Logic.{◌⊎◌, inl, inr}
use Prim.Native.Nat.{ℕ, ◌+◌, ◌-◌, ◌≤◌}
use native.Mathlib.Omega.{arith}
use lib.Dec.{leb}
use lib.ListN.{length, take, drop}
use borrow.Author.Tests.{leb-true, leb-false}
use Rattle.table.specs.declared.Sort.{Sort}
use Rattle.table.specs.declared.Leaf.{Leaf}
use Rattle.table.specs.declared.Leaf.TheVariants.{Text, Range}
use Rattle.table.specs.declared.Op.{Op}
use Rattle.table.specs.declared.Op.TheVariants.{NodeTag}
use Rattle.table.specs.Record.{part, atom_of, wrap_of}
use Rattle.text.specs.Utf8.{scalar, first_bad}
use Rattle.text.specs.Words.{word_of}
use Rattle.text.specs.declared.Word.{Word}
use Rattle.text.proofs.Booleans.{and_true}
use Rattle.table.specs.Check.{is_through, may_name, may_tag, is_utf8, is_name, is_label, fine_text, fine_atom, fine_wrap, in_store, leaf_inside, op_inside, good_leaf, good_op}

module _ (st : List ℕ) where
  pub leaf_inside_lem : (k : Sort) (p n : ℕ) → good_leaf st (Text k p n) ≡ true → p + n ≤ length st
  unfolding good_leaf
  leaf_inside_lem k p n g = leb-true (p + n) (length st) (and_true _ _ g).0

  pub leaf_fine : (l : Leaf) → good_leaf st l ≡ true → fine_atom (atom_of st l) ≡ true
  unfolding good_leaf
  leaf_fine l g = (and_true (leaf_inside st l) _ g).1

  pub tag_inside : (p n : ℕ) → good_op st (NodeTag p n) ≡ true → p + n ≤ length st
  unfolding good_op
  tag_inside p n g = leb-true (p + n) (length st) (and_true _ _ g).0

  pub op_fine : (o : Op) → good_op st o ≡ true → fine_wrap (wrap_of st o) ≡ true
  unfolding good_op
  op_fine o g = (and_true (op_inside st o) _ g).1

  -- a text inside is judged by its bytes
  pub text_in : (k : Sort) (p n : ℕ) → in_store st p n ≡ true → good_leaf st (Text k p n) ≡ fine_text k (part st p n)
  unfolding good_leaf
  text_in k p n h = rw h

-- a part, by its start and end
pub part_between : (st : List ℕ) (p n : ℕ) → take (p + n - p) (drop p st) ≡ part st p n
part_between st p n = let e : p + n - p ≡ n = omega arith in rw e

-- ---- what fine texts are

good_is : (c : Option ℕ) → is_through c ≡ true → c ≡ None
good_is None e = refl
good_is (Some i) e = let z : ◌≡◌ {A = ℕ} 0 1 = cc in absurd (omega arith)

name_word : (w : Word) → may_name w ≡ true → w ≡ Word.Name
name_word Word.Name e = refl
name_word Word.Push e = let z : ◌≡◌ {A = ℕ} 0 1 = cc in absurd (omega arith)
name_word Word.Neither e = let z : ◌≡◌ {A = ℕ} 0 1 = cc in absurd (omega arith)

label_word : (w : Word) → may_tag w ≡ true → (w ≡ Word.Name) ⊎ (w ≡ Word.Push)
label_word Word.Name e = inl refl
label_word Word.Push e = inr refl
label_word Word.Neither e = let z : ◌≡◌ {A = ℕ} 0 1 = cc in absurd (omega arith)

module _ (b : List ℕ) where
  pub utf8_is : is_utf8 b ≡ true → first_bad b ≡ None
  unfolding is_utf8
  utf8_is e = good_is (first_bad b) e

  pub name_is : is_name b ≡ true → word_of b ≡ Word.Name
  unfolding is_name
  name_is e = name_word (word_of b) e

  pub label_is : is_label b ≡ true → (word_of b ≡ Word.Name) ⊎ (word_of b ≡ Word.Push)
  unfolding is_label
  label_is e = label_word (word_of b) e

-- the ends of a good range are scalars
pub range_scalars : (st : List ℕ) (x y : ℕ) → good_leaf st (Range x y) ≡ true → (scalar x ≡ true) × (scalar y ≡ true)
unfolding good_leaf
range_scalars st x y g = and_true (scalar x) (scalar y) g
