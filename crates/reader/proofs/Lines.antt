-- Lines from place to place: a byte more adds an LF or nothing, and past the text's end nothing is added.
-- Tables: one record more gets its line, and records without lines that get them are those that have them.
use Rattle.std.specs.Prelude.{Ok}
use Prim.Native.Nat.{ℕ, zero, suc, ◌+◌, ◌*◌, ◌≤◌, ◌<◌}
use mathlib.Core.Path.{◌≡◌, refl, sym, ap, ◌∙◌}
use mathlib.Core.Bool.{Bool, true, false}
use mathlib.Core.List.{List, [], ◌∷◌, ◌++◌, append_assoc, append-nil}
use mathlib.Core.Logic.{⊎_elim}
use native.Mathlib.Nat.{eq-or-lt_of_le}
use native.Mathlib.Numerals.{add-one}
use native.Mathlib.Omega.{arith}
use lib.Dec.{eqb}
use lib.ListN.{length, get_or, set, take, drop, length-append, length-take, length-drop, length-set}
use lib.Seq.{take_all, take-length, take-suc, get_or-append-add, set_at, get_or-set_same, get_or-set_other}
use Rattle.std.proofs.lemmas.List.{get_or-take, get_or-drop}
use Rattle.text.specs.Booleans.{choose}
use Rattle.text.specs.Splice.{fronted}
use Rattle.text.proofs.Splices.{length_fronted}
use Rattle.table.specs.declared.Node.{Node}
use Rattle.table.specs.declared.Node.TheVariants.{Tip, One, Two}
use Rattle.table.specs.Tree.{Span, Tree, leaf, one, two, below, count, wrap_stored, size, Rule, counts, rule_stored}
use Rattle.table.specs.Record.{node_size}
use Rattle.table.specs.Flat.{numbers_of, no_line, record_of, leaf_at, op_at, flat, nodes_from, nodes_of}
use Rattle.table.proofs.Rules.{length_nodes}
use Rattle.structure.specs.declared.Edition.{Edition}
use Rattle.structure.specs.declared.Level.{Level}
use Rattle.build.specs.Rules.{rules_read}
use Rattle.reader.specs.Lines.{feed, feeds, line_in, with_line, with_lines, Lined}
use Rattle.reader.specs.Read.{room_for_nodes, room_for_rules, read_of, left_in, Leaves}
use Rattle.reader.proofs.Counts.{read_counts}

-- ---- lines

feeds_append : (x y : List ℕ) → feeds (x ++ y) ≡ feeds x + feeds y
unfolding feeds
feeds_append [] y = omega arith
feeds_append (b ∷ x) y = omega (arith, feeds_append x y)

feeds_one : (b : ℕ) → feeds (b ∷ []) ≡ feed b
unfolding feeds
feeds_one b = omega arith

choose_most : (b : Bool) → choose b (λ u. 1) (λ u. 0) ≤ 1
choose_most true = omega arith
choose_most false = omega arith

pub feed_most : (b : ℕ) → feed b ≤ 1
feed_most b = choose_most (eqb b 10)

feeds_most : (s : List ℕ) → feeds s ≤ length s
unfolding feeds
feeds_most [] = omega arith
feeds_most (b ∷ s) = omega (arith, feed_most b, feeds_most s)

-- the text begins in line 1
pub line_first : (s : List ℕ) → line_in s 0 ≡ 1
unfolding line_in feeds
line_first s = refl

pub line_most : (s : List ℕ) (a : ℕ) → line_in s a ≤ length s + 1
unfolding line_in
line_most s a = omega (arith, feeds_most (take a s), length-take a s)

-- a byte more adds 1 if it is LF
line_more : (s : List ℕ) (i j : ℕ) → i < length s → i + 1 ≡ j → line_in s i + feed (get_or s i 0) ≡ line_in s j
unfolding line_in
line_more s i j h z =
    let e : feeds (take (i + 1) s) ≡ feeds (take i s) + feed (get_or s i 0) =
    rw (add-one, take-suc s i 0) (feeds_append (take i s) (get_or s i 0 ∷ []) ∙ ap (λ (n : ℕ). feeds (take i s) + n) (feeds_one (get_or s i 0))) in
    let m : (1 + feeds (take i s)) + feed (get_or s i 0) ≡ 1 + feeds (take (i + 1) s) = omega arith in
    m ∙ ap (λ (k : ℕ). 1 + feeds (take k s)) z

-- and so does the next one of a part of a text
pub line_more_in : (s : List ℕ) (a m k : ℕ) → k < length (take m (drop a s)) → line_in s (a + k) + feed (get_or (take m (drop a s)) k 0) ≡ line_in s (a + (k + 1))
line_more_in s a m k h =
    let t : k < m = omega (arith, h, length-take m (drop a s), length-drop a s) in
    let i : a + k < length s = omega (arith, h, length-take m (drop a s), length-drop a s) in
    rw (get_or-take m (drop a s) k 0 t, get_or-drop a s k 0) (line_more s (a + k) (a + (k + 1)) i (omega arith))

-- nothing is past the end
pub line_end_lem : (s : List ℕ) (a : ℕ) → length s ≤ a → line_in s (length s) ≡ line_in s a
unfolding line_in
line_end_lem s a h = ap (λ x. 1 + feeds x) (take-length s ∙ sym (take_all a s h))

-- ---- records that get their lines

module _ (line : ℕ → ℕ) (ns : List ℕ) where
  lined_none : Lined line ns 0
  lined_none = record { lines = λ k h. absurd (omega arith) }

  module _ (n : ℕ) (l : Lined line ns n) (h : node_size * (n + 1) ≤ length ns) where
    at_other : (v j : ℕ) → (j ≡ node_size * n + 6 → ⊥) → get_or (set ns (node_size * n + 6) v) j 0 ≡ get_or ns j 0
    at_other v j e = get_or-set_other ns (node_size * n + 6) j v 0 e

    lined_more : Lined line (with_line line ns n) (n + 1)
    lined_more =
        let v = line (get_or ns (node_size * n + 1) 0) in
        record {
          lines = λ k g. ⊎_elim
              (λ e. let z : k ≡ n = omega arith in
              rw z (get_or-set_same ns (node_size * n + 6) v 0 (omega arith) ∙ ap line (sym (at_other v (node_size * n + 1) (λ w. absurd (omega (arith, w)))))))
              (λ g. at_other v (node_size * k + 6) (λ w. absurd (omega (arith, w))) ∙ l.lines k (omega arith) ∙ ap line (sym (at_other v (node_size * k + 1) (λ w. absurd (omega (arith, w))))))
              (eq-or-lt_of_le g);
        }

-- a table whose first n records have got their lines
pub record Numbering (line : ℕ → ℕ) (ns₀ ns : List ℕ) (n : ℕ) : Type 0 where
  pub is : ns ≡ with_lines line ns₀ n
  pub long : length ns ≡ length ns₀
  pub lined : Lined line ns n

pub numbering_none : (line : ℕ → ℕ) (ns : List ℕ) → Numbering line ns ns 0
unfolding with_lines
numbering_none line ns = record { is = refl; long = refl; lined = lined_none line ns }

pub numbering_more : {line : ℕ → ℕ} {ns₀ ns ns' : List ℕ} {n : ℕ} → Numbering line ns₀ ns n → ns' ≡ with_line line ns n → node_size * (n + 1) ≤ length ns
    → Numbering line ns₀ ns' (n + 1)
unfolding with_lines
numbering_more {line} {ns₀} {ns} {ns'} {n} l e h = record {
  is = e ∙ ap (λ (x : List ℕ). with_line line x n) l.is ∙ ap (with_lines line ns₀) (sym (add-one n));
  long = ap length e ∙ length-set ns (node_size * n + 6) (line (get_or ns (node_size * n + 1) 0)) ∙ l.long;
  lined = rw e (lined_more line ns n l.lined h);
}

-- all that are there
numbering_all : (line : ℕ → ℕ) (ns : List ℕ) (n : ℕ) → node_size * n ≤ length ns → Numbering line ns (with_lines line ns n) n
unfolding with_lines
numbering_all line ns zero h = numbering_none line ns
numbering_all line ns (suc n) h =
    let l = numbering_all line ns n (omega arith) in
    rw (add-one n) at (numbering_more l refl (omega (arith, l.long)))

-- ---- trees and rules

module _ (line : ℕ → ℕ) (table : List ℕ) where
  -- f records have their lines, and are xs; the others, ys, are as they were
  record Upto (xs ys : List ℕ) (f : ℕ) : Type 0 where
    pub is : with_lines line table f ≡ xs ++ ys
    pub long : length xs ≡ node_size * f

  upto-part : {xs : List ℕ} (a b ys : List ℕ) {f : ℕ} → Upto xs ((a ++ b) ++ ys) f → Upto xs (a ++ (b ++ ys)) f
  upto-part {xs} a b ys u = record { is = u.is ∙ ap (λ (x : List ℕ). xs ++ x) (append_assoc a b ys); long = u.long }

  upto-whole : (xs a b : List ℕ) {ys : List ℕ} {f : ℕ} → Upto ((xs ++ a) ++ b) ys f → Upto (xs ++ (a ++ b)) ys f
  upto-whole xs a b {ys} {f} u = rw (append_assoc xs a b) at u

  upto-at : {xs ys : List ℕ} {f g : ℕ} → f ≡ g → Upto xs ys f → Upto xs ys g
  upto-at e u = rw e at u

  line-record : (s : Span) (x : Node) {xs ys : List ℕ} {f : ℕ} → Upto xs (record_of no_line s x ++ ys) f → Upto (xs ++ record_of line s x) ys (f + 1)
  unfolding with_lines
  line-record s x {xs} {ys} {f} u =
      let n = numbers_of x in
      let head = n.kind ∷ s.start ∷ s.stop ∷ n.p ∷ n.q ∷ n.r ∷ [] in
      let l = u.long in
      let z : node_size * f + 1 ≡ length xs + 1 = omega arith in
      let w : length (xs ++ head) ≡ node_size * f + 6 = length-append xs head ∙ omega arith in
      let a : get_or (with_lines line table f) (node_size * f + 1) 0 ≡ s.start =
      ap (λ (y : List ℕ). get_or y (node_size * f + 1) 0) u.is
      ∙ ap (λ (i : ℕ). get_or (xs ++ (record_of no_line s x ++ ys)) i 0) z
      ∙ get_or-append-add xs (record_of no_line s x ++ ys) 1 0 in
      record {
        is = ap (with_lines line table) (add-one f)
            ∙ ap (λ (y : List ℕ). set y (node_size * f + 6) (line (get_or (with_lines line table f) (node_size * f + 1) 0))) (u.is ∙ sym (append_assoc xs head (0 ∷ ys)))
            ∙ ap (λ (i : ℕ). set ((xs ++ head) ++ (0 ∷ ys)) (node_size * f + 6) (line i)) a
            ∙ set_at (xs ++ head) 0 ys (line s.start) (node_size * f + 6) w
            ∙ append_assoc xs head (line s.start ∷ ys)
            ∙ sym (append_assoc xs (record_of line s x) ys);
        long = length-append xs (record_of line s x) ∙ omega arith;
      }

  line-tree : (i at : ℕ) (t : Tree Span) {xs ys : List ℕ} {f : ℕ} → Upto xs (flat no_line i at t ++ ys) f → Upto (xs ++ flat line i at t) ys (f + count t)
  unfolding flat below
  line-tree i at (leaf s a) u = line-record s (Tip (leaf_at at a)) u
  line-tree i at (one s o t) {xs} {ys} {f} u =
      let k = at + length (wrap_stored o) in
      let x = One (op_at at o) (i + below t) in
      let v = line-tree i k t (upto-part (flat no_line i k t) (record_of no_line s x) ys u) in
      upto-at (omega arith) (upto-whole xs (flat line i k t) (record_of line s x) (line-record s x v))
  line-tree i at (two s j a b) {xs} {ys} {f} u =
      let m = i + count a in
      let k = at + size a in
      let x = Two j (i + below a) (m + below b) in
      let v = line-tree i at a (upto-part (flat no_line i at a) (flat no_line m k b ++ record_of no_line s x) ys u) in
      let w = line-tree m k b (upto-part (flat no_line m k b) (record_of no_line s x) ys v) in
      upto-at (omega arith)
      (upto-whole xs (flat line i at a) (flat line m k b ++ record_of line s x)
      (upto-whole (xs ++ flat line i at a) (flat line m k b) (record_of line s x) (line-record s x w)))

  line-rules : (i at : ℕ) (us : List (Rule Span)) {xs ys : List ℕ} {f : ℕ} → Upto xs (nodes_from no_line i at us ++ ys) f
      → Upto (xs ++ nodes_from line i at us) ys (f + counts us)
  unfolding nodes_from counts
  line-rules i at [] {xs} {ys} {f} u = let z : f ≡ f + 0 = omega arith in upto-at z (rw append-nil u)
  line-rules i at (r ∷ us) {xs} {ys} {f} u =
      let k = at + length r.name in
      let m = i + count r.tree in
      let n = at + length (rule_stored r) in
      let v = line-tree i k r.tree (upto-part (flat no_line i k r.tree) (nodes_from no_line m n us) ys u) in
      upto-at (omega arith) (upto-whole xs (flat line i k r.tree) (nodes_from line m n us) (line-rules m n us v))

-- the records of rules, without lines and then with them
pub lines_fronted : (line : ℕ → ℕ) (us : List (Rule Span)) (o : List ℕ) → with_lines line (fronted (nodes_of no_line us) o) (counts us) ≡ fronted (nodes_of line us) o
unfolding fronted with_lines
lines_fronted line us o =
    let n = nodes_of no_line us in
    let e : length n ≡ length (nodes_of line us) = length_nodes no_line 0 0 us ∙ sym (length_nodes line 0 0 us) in
    let z : 0 + counts us ≡ counts us = omega arith in
    let u = line-rules line (n ++ drop (length n) o) 0 0 us {xs = []} {ys = drop (length n) o} {f = 0} (record { is = refl; long = refl }) in
    ap (with_lines line (n ++ drop (length n) o)) (sym z) ∙ u.is ∙ ap (λ (k : ℕ). nodes_of line us ++ drop k o) e

-- ---- what is read

-- the seventh number of every record that is used is one plus the LF bytes before the span's start
module _ (edition : Edition) (level : Level) (s ns rs st ns' rs' st' : List ℕ) {x y z : ℕ} (e : read_of edition level s (room_for_nodes ns) (room_for_rules rs) (length st) ≡ Ok (x, y, z)) (h : Leaves level s (Ok (x, y, z)) ns rs st ns' rs' st') where
  pub read_lines : (k : ℕ) → k < x → get_or ns' (node_size * k + 6) 0 ≡ line_in s (get_or ns' (node_size * k + 1) 0)
  unfolding left_in
  read_lines k l =
      let us = rules_read level s in
      let c = read_counts edition level s (room_for_nodes ns) (room_for_rules rs) (length st) e in
      let n = length_nodes no_line 0 0 us in
      let f = c.nodes_fit in
      let m = length_fronted (nodes_of no_line us) ns (omega arith) in
      let a = numbering_all (line_in s) (fronted (nodes_of no_line us) ns) (counts us) (omega arith) in
      rw (h.nodes ∙ sym (lines_fronted (line_in s) us ns)) (a.lined.lines k (omega (arith, c.nodes_are)))
