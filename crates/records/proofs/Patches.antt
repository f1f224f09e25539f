-- What stores into the table of records leave: records one after another, and numbers of the last record that change.
use Rattle.std.specs.Prelude.{ℕ, Option}
use Prim.Native.Nat.{ℕ, suc, ◌+◌, ◌-◌, ◌*◌, ◌<◌}
use mathlib.Core.Path.{◌≡◌, refl, sym, ap, ◌∙◌}
use mathlib.Core.List.{List, [], ◌∷◌, ◌++◌, append_assoc}
use native.Mathlib.Omega.{arith}
use lib.ListN.{length, set, length-append, length-set}
use lib.Seq.{sets, length-sets, set-set, set_comm}
use Rattle.text.proofs.Splices.{sets_append}
use Rattle.table.specs.declared.Join.{Join}
use Rattle.table.specs.declared.Unary.{Unary}
use Rattle.table.specs.declared.Sort.{Sort}
use Rattle.table.specs.declared.Leaf.TheVariants.{Text, PeekSlice}
use Rattle.table.specs.declared.Op.TheVariants.{Plain}
use Rattle.table.specs.declared.Node.TheVariants.{Tip, One, Two}
use Rattle.table.specs.Tree.{Span, Tree, count, place_of, placed, ends_at, starts_at}
use Rattle.table.specs.Record.{node_size, rule_size}
use Rattle.table.specs.Flat.{leaf_numbers, op_numbers, join_numbers, numbers_of, node_record, record_of, root_node, front, flat, no_line}
use Rattle.table.proofs.Flats.{flat_root, flat_own, length_front}
use Rattle.records.specs.Records.{written, rule_written, EndMoved, StartMoved}

pub length_written : (l : List ℕ) (f : ℕ) (vs : List ℕ) → length (written l f vs) ≡ length l
unfolding written
length_written l f vs = length-sets l (node_size * f) vs

pub length_rule_written : (l : List ℕ) (k : ℕ) (vs : List ℕ) → length (rule_written l k vs) ≡ length l
unfolding rule_written
length_rule_written l k vs = length-sets l (rule_size * k) vs

-- six stores are a run of stores: a rule record, and a node record but for its line
six_stores : (l : List ℕ) (i a b c d e g : ℕ) → set (set (set (set (set (set l i a) (i + 1) b) (i + 2) c) (i + 3) d) (i + 4) e) (i + 5) g ≡ sets l i (a ∷ b ∷ c ∷ d ∷ e ∷ g ∷ [])
six_stores l i a b c d e g =
    let e₁ : i + 1 ≡ suc i = omega arith in
    let e₂ : i + 2 ≡ suc (suc i) = omega arith in
    let e₃ : i + 3 ≡ suc (suc (suc i)) = omega arith in
    let e₄ : i + 4 ≡ suc (suc (suc (suc i))) = omega arith in
    let e₅ : i + 5 ≡ suc (suc (suc (suc (suc i)))) = omega arith in
    rw (e₁, e₂, e₃, e₄, e₅)

pub put_is : (l : List ℕ) (f i a b c d e g h : ℕ) → i ≡ node_size * f
    → set (set (set (set (set (set (set l i a) (i + 1) b) (i + 2) c) (i + 3) d) (i + 4) e) (i + 5) g) (i + 6) h ≡ written l f (a ∷ b ∷ c ∷ d ∷ e ∷ g ∷ h ∷ [])
unfolding written
put_is l f i a b c d e g h q =
    ap (λ (x : List ℕ). set x (i + 6) h) (six_stores l i a b c d e g)
    ∙ sym (sets_append l i (a ∷ b ∷ c ∷ d ∷ e ∷ g ∷ []) (h ∷ []))
    ∙ ap (λ (j : ℕ). sets l j (a ∷ b ∷ c ∷ d ∷ e ∷ g ∷ h ∷ [])) q

pub put_rule_is : (l : List ℕ) (k i a b c d e g : ℕ) → i ≡ rule_size * k
    → set (set (set (set (set (set l i a) (i + 1) b) (i + 2) c) (i + 3) d) (i + 4) e) (i + 5) g ≡ rule_written l k (a ∷ b ∷ c ∷ d ∷ e ∷ g ∷ [])
unfolding rule_written
put_rule_is l k i a b c d e g q = six_stores l i a b c d e g ∙ ap (λ (j : ℕ). sets l j (a ∷ b ∷ c ∷ d ∷ e ∷ g ∷ [])) q

-- one part after the other
pub sets_on : (l st st' xs ys : List ℕ) (f g : ℕ) → st ≡ sets l f xs → st' ≡ sets st g ys → g ≡ f + length xs → st' ≡ sets l f (xs ++ ys)
sets_on l st st' xs ys f g e q h =
    q ∙ ap (λ (x : List ℕ). sets x g ys) e ∙ ap (λ (j : ℕ). sets (sets l f xs) j ys) h ∙ sym (sets_append l f xs ys)

pub written_on : (l tbl tbl' : List ℕ) (f k g : ℕ) (xs ys : List ℕ) → tbl ≡ written l f xs → tbl' ≡ written tbl g ys
    → length xs ≡ node_size * k → g ≡ f + k → tbl' ≡ written l f (xs ++ ys)
unfolding written
written_on l tbl tbl' f k g xs ys e q h j = sets_on l tbl tbl' xs ys (node_size * f) (node_size * g) e q (omega arith)

pub rule_written_on : (l tbl tbl' : List ℕ) (f k g : ℕ) (xs ys : List ℕ) → tbl ≡ rule_written l f xs → tbl' ≡ rule_written tbl g ys
    → length xs ≡ rule_size * k → g ≡ f + k → tbl' ≡ rule_written l f (xs ++ ys)
unfolding rule_written
rule_written_on l tbl tbl' f k g xs ys e q h j = sets_on l tbl tbl' xs ys (rule_size * f) (rule_size * g) e q (omega arith)

-- a store below a run of stores may come first
set_under : (ys l : List ℕ) (i j w : ℕ) → j < i → set (sets l i ys) j w ≡ sets (set l j w) i ys
set_under [] l i j w h = refl
set_under (y ∷ ys) l i j w h =
    set_under ys (set l i y) (suc i) j w (omega arith)
    ∙ ap (λ (x : List ℕ). sets x (suc i) ys) (set_comm l i j y w (λ z. absurd (omega (arith, z))))

-- a store into a run of stores
set_in : (xs ys l : List ℕ) (i j v w : ℕ) → j ≡ i + length xs → set (sets l i (xs ++ (v ∷ ys))) j w ≡ sets l i (xs ++ (w ∷ ys))
set_in [] ys l i j v w e =
    let z : j ≡ i = omega arith in
    ap (λ (k : ℕ). set (sets (set l i v) (suc i) ys) k w) z ∙ set_under ys (set l i v) (suc i) i w (omega arith)
    ∙ ap (λ (x : List ℕ). sets x (suc i) ys) (set-set l i v w)
set_in (x ∷ xs) ys l i j v w e = set_in xs ys (set l i x) (suc i) j v w (omega arith)

-- ---- moving an end or a start

module _ (l tbl : List ℕ) (used v : ℕ) (t : Tree Span) (f at : ℕ) (h : 0 < used) (e : used ≡ f + count t) (q : tbl ≡ written l f (flat no_line f at t)) where
  end_moved : set tbl (node_size * (used - 1) + 2) v ≡ written l f (flat no_line f at (ends_at t v))
  unfolding written ends_at
  end_moved =
      let w = front no_line f at t in
      let x = numbers_of (root_node f at t) in
      let p = place_of t in
      let k = x.kind ∷ p.start ∷ [] in
      let r = x.p ∷ x.q ∷ x.r ∷ 0 ∷ [] in
      let xs = w ++ k in
      let m = length-append w k in
      let n = length_front no_line f at t in
      let a : flat no_line f at t ≡ xs ++ (p.stop ∷ r) = flat_own no_line f at t ∙ sym (append_assoc w k (p.stop ∷ r)) in
      let s : Span = record { start = p.start; stop = v } in
      let b : xs ++ (v ∷ r) ≡ flat no_line f at (placed s t) = append_assoc w k (v ∷ r) ∙ sym (flat_root no_line f at s t) in
      ap (λ (y : List ℕ). set y (node_size * (used - 1) + 2) v) (q ∙ ap (sets l (node_size * f)) a)
      ∙ set_in xs r l (node_size * f) (node_size * (used - 1) + 2) p.stop v (omega arith)
      ∙ ap (sets l (node_size * f)) b

  start_moved : set tbl (node_size * (used - 1) + 1) v ≡ written l f (flat no_line f at (starts_at t v))
  unfolding written starts_at
  start_moved =
      let w = front no_line f at t in
      let x = numbers_of (root_node f at t) in
      let p = place_of t in
      let k = x.kind ∷ [] in
      let r = x.p ∷ x.q ∷ x.r ∷ 0 ∷ [] in
      let xs = w ++ k in
      let m = length-append w k in
      let n = length_front no_line f at t in
      let a : flat no_line f at t ≡ xs ++ (p.start ∷ p.stop ∷ r) = flat_own no_line f at t ∙ sym (append_assoc w k (p.start ∷ p.stop ∷ r)) in
      let s : Span = record { start = v; stop = p.stop } in
      let b : xs ++ (v ∷ p.stop ∷ r) ≡ flat no_line f at (placed s t) = append_assoc w k (v ∷ p.stop ∷ r) ∙ sym (flat_root no_line f at s t) in
      ap (λ (y : List ℕ). set y (node_size * (used - 1) + 1) v) (q ∙ ap (sets l (node_size * f)) a)
      ∙ set_in xs (p.stop ∷ r) l (node_size * f) (node_size * (used - 1) + 1) p.start v (omega arith)
      ∙ ap (sets l (node_size * f)) b

pub end_record : (tbl : List ℕ) (used v : ℕ) → 0 < used → EndMoved tbl used v (set tbl (node_size * (used - 1) + 2) v)
end_record tbl used v h = record { long = length-set tbl (node_size * (used - 1) + 2) v; same = λ l t f at e q. end_moved l tbl used v t f at h e q }

pub start_record : (tbl : List ℕ) (used v : ℕ) → 0 < used → StartMoved tbl used v (set tbl (node_size * (used - 1) + 1) v)
start_record tbl used v h = record { long = length-set tbl (node_size * (used - 1) + 1) v; same = λ l t f at e q. start_moved l tbl used v t f at h e q }

-- ---- records by the kinds of their nodes

abbrev pub spanned : ℕ → ℕ → Span
spanned a z = record { start = a; stop = z }

module _ (l l' : List ℕ) (f a z : ℕ) where
  pub unary_is : (c : ℕ) {u v : Unary} → u ≡ v → l' ≡ written l f (node_record no_line (spanned a z) (op_numbers c (Plain v)))
      → l' ≡ written l f (record_of no_line (spanned a z) (One (Plain u) c))
  unfolding numbers_of
  unary_is c e q = q ∙ ap (λ (w : Unary). written l f (record_of no_line (spanned a z) (One (Plain w) c))) (sym e)

  pub join_is : (c d : ℕ) {j k : Join} → j ≡ k → l' ≡ written l f (node_record no_line (spanned a z) (join_numbers k c d))
      → l' ≡ written l f (record_of no_line (spanned a z) (Two j c d))
  unfolding numbers_of
  join_is c d e q = q ∙ ap (λ (w : Join). written l f (record_of no_line (spanned a z) (Two w c d))) (sym e)

  pub text_is : (c d : ℕ) {j k : Sort} → j ≡ k → l' ≡ written l f (node_record no_line (spanned a z) (leaf_numbers (Text k c d)))
      → l' ≡ written l f (record_of no_line (spanned a z) (Tip (Text j c d)))
  unfolding numbers_of
  text_is c d e q = q ∙ ap (λ (w : Sort). written l f (record_of no_line (spanned a z) (Tip (Text w c d)))) (sym e)

  pub slice_is : (c : ℕ) {j k : Option ℕ} → j ≡ k → l' ≡ written l f (node_record no_line (spanned a z) (leaf_numbers (PeekSlice c k)))
      → l' ≡ written l f (record_of no_line (spanned a z) (Tip (PeekSlice c j)))
  unfolding numbers_of
  slice_is c e q = q ∙ ap (λ (w : Option ℕ). written l f (record_of no_line (spanned a z) (Tip (PeekSlice c w)))) (sym e)
