-- Texts whose nodes are told by their kind alone, and strings in a store of ASCII.
use Rattle.std.specs.Prelude.{Some}
use mathlib.Core.Path.{◌≡◌, refl, ap, ◌∙◌}
use mathlib.Core.Bool.{Bool, true, false}
use mathlib.Core.List.{List, [], ◌∷◌}
use Prim.Native.Nat.{ℕ, zero, suc, ◌+◌, ◌*◌}
use native.Mathlib.Omega.{arith}
use lib.Dec.{eqb}
use lib.ListN.{get_or, take, drop}
use borrow.Author.Tests.{eqb-true}
use Rattle.text.specs.Booleans.{or}
use Rattle.text.proofs.Ascii.{Low, low_good}
use Rattle.table.specs.declared.Sort.{Sort}
use Rattle.table.specs.declared.Sort.TheVariants.{Str, Insens, Ident, PushLiteral}
use Rattle.table.specs.declared.Leaf.TheVariants.{Text}
use Rattle.table.specs.declared.Node.TheVariants.{Tip}
use Rattle.table.specs.Record.{node_size, part, node_of, node_at}
use Rattle.table.specs.Check.{is_through, is_utf8, fine_text, in_store, verdict}
use Rattle.table.proofs.Texts.{text_in}
use Rattle.table.proofs.Verdicts.{verdict_tip}

take_low : (n : ℕ) (xs : List ℕ) → Low xs → Low (take n xs)
take_low zero xs h k = omega arith
take_low (suc n) [] h k = omega arith
take_low (suc n) (x ∷ xs) h zero = h zero
take_low (suc n) (x ∷ xs) h (suc k) = take_low n xs (λ j. h (suc j)) k

drop_low : (n : ℕ) (xs : List ℕ) → Low xs → Low (drop n xs)
drop_low zero xs h k = h k
drop_low (suc n) [] h k = omega arith
drop_low (suc n) (x ∷ xs) h k = drop_low n xs (λ j. h (suc j)) k

low_utf8 : (xs : List ℕ) → Low xs → is_utf8 xs ≡ true
unfolding is_utf8
low_utf8 xs h = ap is_through (low_good xs h)

-- kinds 1, 2 and 18
abbrev pub string_kind : ℕ → Bool
string_kind k = or (eqb k 1) (or (eqb k 2) (eqb k 18))

record StringOf (k p q r : ℕ) : Type 0 where
  sort : Sort
  is : node_of k p q r ≡ Tip (Text sort p q)
  fine : (b : List ℕ) → fine_text sort b ≡ is_utf8 b

string_by_lem : (k p q r : ℕ) (x y z : Bool) → eqb k 1 ≡ x → eqb k 2 ≡ y → eqb k 18 ≡ z → or x (or y z) ≡ true → StringOf k p q r
unfolding node_of
string_by_lem k p q r true y z e f g h = let i = eqb-true k 1 e in record { sort = Str; is = rw i; fine = λ b. refl }
string_by_lem k p q r false true z e f g h = let i = eqb-true k 2 f in record { sort = Insens; is = rw i; fine = λ b. refl }
string_by_lem k p q r false false true e f g h = let i = eqb-true k 18 g in record { sort = PushLiteral; is = rw i; fine = λ b. refl }
string_by_lem k p q r false false false e f g h = let z : ◌≡◌ {A = ℕ} 0 1 = cc in absurd (omega arith)

module _ (ns st : List ℕ) (i : ℕ) where
  abbrev kind : ℕ
  kind = get_or ns (node_size * i) 0

  abbrev p : ℕ
  p = get_or ns (node_size * i + 3) 0

  abbrev q : ℕ
  q = get_or ns (node_size * i + 4) 0

  pub str_at : kind ≡ 1 → node_at ns i ≡ Tip (Text Str p q)
  unfolding node_at node_of
  str_at e = rw e

  pub insens_at : kind ≡ 2 → node_at ns i ≡ Tip (Text Insens p q)
  unfolding node_at node_of
  insens_at e = rw e

  pub ident_at : kind ≡ 4 → node_at ns i ≡ Tip (Text Ident p q)
  unfolding node_at node_of
  ident_at e = rw e

  pub push_at : kind ≡ 18 → node_at ns i ≡ Tip (Text PushLiteral p q)
  unfolding node_at node_of
  push_at e = rw e

  module _ (e : string_kind kind ≡ true) where
    string_of_lem : StringOf kind p q (get_or ns (node_size * i + 5) 0)
    string_of_lem = string_by_lem kind p q _ (eqb kind 1) (eqb kind 2) (eqb kind 18) refl refl refl e

    string_at : node_at ns i ≡ Tip (Text string_of_lem.sort p q)
    unfolding node_at
    string_at = string_of_lem.is

    pub string_good : Low st → in_store st p q ≡ true → verdict ns st i ≡ Some i
    string_good h g =
        let s = string_of_lem in
        verdict_tip ns st i string_at (text_in st s.sort p q g ∙ s.fine (part st p q) ∙ low_utf8 _ (take_low q _ (drop_low p st h)))
