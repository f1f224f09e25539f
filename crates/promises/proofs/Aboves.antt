-- A minimum above its maximum stands among the pieces if an operation has one, and only then. What a count is asked about stands with it in one
-- operation, so that each unit brings what it holds, whatever stands behind it (`Brings`).
use Rattle.std.specs.Prelude.{Some, None}
use Prim.Native.Nat.{ℕ, zero, suc}
use mathlib.Core.Path.{◌≡◌, refl, sym, ap, ◌∙◌}
use mathlib.Core.Bool.{Bool, true, false, not}
use mathlib.Core.List.{List, [], ◌∷◌, ◌++◌, append_assoc, append-nil}
use lib.Dec.{leb, ltb, eqb}
use borrow.Author.Tests.{leb-true, leb-false, lt-ltb, le-ltb, eqb-false, not-true}
use Rattle.text.specs.Booleans.{and, or}
use Rattle.text.specs.Digits.{decimal, decimal_of}
use Rattle.text.proofs.Decimals.{decimal_back}
use Rattle.text.proofs.Booleans.{and_second, and_true, or_assoc, or_nothing}
use Rattle.table.specs.declared.Join.{Join}
use Rattle.table.specs.declared.Join.TheVariants.{Seq, Choice}
use Rattle.table.specs.declared.Unary.TheVariants.{PosPred, NegPred, Opt, Rep, RepOnce, RepExact, RepMin, RepMax, RepMinMax, Push}
use Rattle.table.specs.declared.Sort.TheVariants.{Str, Insens, Ident, PushLiteral}
use Rattle.table.specs.Tree.{Atom, text, range, peek_slice, Wrap, plain, node_tag, Tree, leaf, one, two, Rule}
use Rattle.structure.specs.Counts.{small, positive, wrap_counts, counted, counted_rules}
use Rattle.structure.specs.Values.{value_of, over_most}
use Rattle.structure.proofs.Faults.{most_some}
use Rattle.promises.specs.Pieces.{Piece, gap, lbrace, rbrace, closes, space, signed_kind, enclosed, atom_pieces, pieces_before, pieces_after, separator, pieces, mark_pieces, rule_pieces, rules_pieces}
use Rattle.promises.specs.Round.{wraps_pass, rules_pass, wrap_ordered, ordered_rules}
use Rattle.promises.proofs.Leaves.{small_le}
use Rattle.promises.proofs.Laid.{aboves_in}

-- a unit brings such a minimum or none
abbrev Brings : List Piece → Bool → Type 0
Brings x b = (ps : List Piece) → aboves_in (x ++ ps) ≡ or b (aboves_in ps)

brings_then : (x y : List Piece) (a b : Bool) → Brings x a → Brings y b → Brings (x ++ y) (or a b)
brings_then x y a b f g ps = ap aboves_in (append_assoc x y ps) ∙ f (y ++ ps) ∙ ap (or a) (g ps) ∙ or_assoc a b (aboves_in ps)

brings_enclosed : (s b : Bool) (x : List Piece) → Brings x b → Brings (enclosed s x) b
unfolding enclosed
brings_enclosed true b x f ps = ap aboves_in (append_assoc x (closes ∷ []) ps) ∙ f (closes ∷ ps)
brings_enclosed false b x f ps = ap (λ (z : List Piece). aboves_in (z ++ ps)) (append-nil x) ∙ f ps

-- ---- units

-- a slice's number has no comma behind it
brings_atom : (a : Atom) → Brings (atom_pieces a) false
brings_atom (text Str t) ps = refl
brings_atom (text Insens t) ps = refl
brings_atom (text Ident t) ps = refl
brings_atom (text PushLiteral t) ps = refl
brings_atom (range x y) ps = refl
brings_atom (peek_slice x None) ps = rw (and_second (eqb (signed_kind x) 20) false refl)
brings_atom (peek_slice x (Some y)) ps = rw (and_second (eqb (signed_kind x) 20) false refl, and_second (eqb (signed_kind y) 20) false refl)

brings_before : (o : Wrap) → Brings (pieces_before o) false
brings_before (plain PosPred) ps = refl
brings_before (plain NegPred) ps = refl
brings_before (plain Opt) ps = refl
brings_before (plain Rep) ps = refl
brings_before (plain RepOnce) ps = refl
brings_before (plain (RepExact n)) ps = refl
brings_before (plain (RepMin n)) ps = refl
brings_before (plain (RepMax n)) ps = refl
brings_before (plain (RepMinMax n m)) ps = refl
brings_before (plain Push) ps = refl
brings_before (node_tag b) ps = refl

-- a pair in bounds
over_not : (n m : ℕ) → small n ≡ true → positive m ≡ true → over_most (value_of (decimal_of 4294967295 (decimal n))) (decimal_of 4294967295 (decimal m)) ≡ not (leb n m)
over_not n m s p =
    let g = and_true (small m) (not (eqb m 0)) p in
    let d = decimal_back 4294967295 n (small_le n s) in
    let e = decimal_back 4294967295 m (small_le m g.0) in
    rw (d, e) (sym (most_some n m (λ q. eqb-false m 0 (not-true (eqb m 0) g.1) q)) ∙ go (leb n m) refl)
  where
    go : (b : Bool) → leb n m ≡ b → ltb m n ≡ not b
    go true h = le-ltb m n (leb-true n m h)
    go false h = lt-ltb m n (leb-false n m h)

brings_after : (o : Wrap) → wrap_counts o ≡ true → Brings (pieces_after o) (not (wrap_ordered o))
brings_after (plain PosPred) c ps = refl
brings_after (plain NegPred) c ps = refl
brings_after (plain Opt) c ps = refl
brings_after (plain Rep) c ps = refl
brings_after (plain RepOnce) c ps = refl
brings_after (plain (RepExact n)) c ps = refl
brings_after (plain (RepMin n)) c ps = refl
brings_after (plain (RepMax n)) c ps = refl
brings_after (plain (RepMinMax n m)) c ps = let g = and_true (small n) (positive m) c in ap (λ (b : Bool). or b (aboves_in ps)) (over_not n m g.0 g.1)
brings_after (plain Push) c ps = refl
brings_after (node_tag b) c ps = refl

brings_separator : (j : Join) → Brings (separator j) false
brings_separator Seq ps = refl
brings_separator Choice ps = refl

brings_mark : (m : ℕ) → Brings (mark_pieces m) false
unfolding mark_pieces
brings_mark zero ps = refl
brings_mark (suc zero) ps = refl
brings_mark (suc (suc zero)) ps = refl
brings_mark (suc (suc (suc zero))) ps = refl
brings_mark (suc (suc (suc (suc zero)))) ps = refl
brings_mark (suc (suc (suc (suc (suc m))))) ps = refl

-- ---- trees

not_both : (a b : Bool) → or (not a) (not b) ≡ not (and a b)
not_both true b = refl
not_both false b = refl

not_either : (a b : Bool) → or (not b) (not a) ≡ not (and a b)
not_either true b = or_nothing (not b)
not_either false true = refl
not_either false false = refl

brings_as : (x : List Piece) {a b : Bool} → a ≡ b → Brings x a → Brings x b
brings_as x e f ps = f ps ∙ ap (λ (c : Bool). or c (aboves_in ps)) e

brings_tree : (t : Tree Bool) → counted t ≡ true → Brings (pieces t) (not (wraps_pass wrap_ordered t))
unfolding pieces counted wraps_pass
brings_tree (leaf s a) c = brings_enclosed s false (atom_pieces a) (brings_atom a)
brings_tree (one s o t) c =
    let d = and_true (wrap_counts o) (counted t) c in
    let x : List Piece = pieces t in
    let b : Bool = wraps_pass wrap_ordered t in
    brings_enclosed s (not (and (wrap_ordered o) b)) (pieces_before o ++ (x ++ pieces_after o))
    (brings_as (pieces_before o ++ (x ++ pieces_after o)) (not_either (wrap_ordered o) b)
    (brings_then (pieces_before o) (x ++ pieces_after o) false (or (not b) (not (wrap_ordered o))) (brings_before o)
    (brings_then x (pieces_after o) (not b) (not (wrap_ordered o)) (brings_tree t d.1) (brings_after o d.0))))
brings_tree (two s j a b) c =
    let d = and_true (counted a) (counted b) c in
    let x : List Piece = pieces a in
    let y : List Piece = pieces b in
    let f : Bool = wraps_pass wrap_ordered a in
    let g : Bool = wraps_pass wrap_ordered b in
    brings_enclosed s (not (and f g)) (x ++ (separator j ++ y))
    (brings_as (x ++ (separator j ++ y)) (not_both f g)
    (brings_then x (separator j ++ y) (not f) (not g) (brings_tree a d.0) (brings_then (separator j) y false (not g) (brings_separator j) (brings_tree b d.1))))

-- ---- rules

-- what stands behind a rule's tree
abbrev tail : List Piece
tail = space ∷ rbrace ∷ gap 10 ∷ []

brings_rule : (r : Rule Bool) → counted r.tree ≡ true → Brings (rule_pieces r) (not (wraps_pass wrap_ordered r.tree))
unfolding rule_pieces
brings_rule r c =
    let x : List Piece = pieces r.tree in
    let b : Bool = not (wraps_pass wrap_ordered r.tree) in
    let e : Brings (lbrace ∷ space ∷ (x ++ tail)) b = brings_as (x ++ tail) (or_nothing b) (brings_then x tail b false (brings_tree r.tree c) (λ ps. refl)) in
    brings_then (mark_pieces r.mark) (lbrace ∷ space ∷ (x ++ tail)) false b (brings_mark r.mark) e

brings_rules : (us : List (Rule Bool)) → counted_rules us ≡ true → Brings (rules_pieces us) (not (ordered_rules us))
unfolding rules_pieces counted_rules rules_pass
brings_rules [] c = λ ps. refl
brings_rules (r ∷ us) c =
    let d = and_true (counted r.tree) (counted_rules us) c in
    let a : Bool = wraps_pass wrap_ordered r.tree in
    brings_as (rule_pieces r ++ rules_pieces us) (not_both a (ordered_rules us))
    (brings_then (rule_pieces r) (rules_pieces us) (not a) (not (ordered_rules us)) (brings_rule r d.0) (brings_rules us d.1))

pub above_rules : (us : List (Rule Bool)) → counted_rules us ≡ true → aboves_in (rules_pieces us) ≡ not (ordered_rules us)
above_rules us c = ap aboves_in (sym (append-nil (rules_pieces us))) ∙ brings_rules us c [] ∙ or_nothing (not (ordered_rules us))
