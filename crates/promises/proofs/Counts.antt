-- The brackets of marked rules' pieces, where these stand, are those of the marks, of PUSH and of PUSH_LITERAL.
use Rattle.std.specs.Prelude.{ℕ, Option, Some, None}
use Prim.Native.Nat.{ℕ, zero, suc, ◌+◌}
use mathlib.Core.Path.{◌≡◌, refl, ap}
use mathlib.Core.Bool.{Bool, true, false}
use mathlib.Core.List.{List, [], ◌∷◌, ◌++◌}
use native.Mathlib.Omega.{arith}
use lib.Dec.{leb, eqb, ltb}
use borrow.Author.Tests.{leb-true}
use Rattle.text.specs.Booleans.{choose}
use Rattle.text.proofs.Booleans.{and_true}
use Rattle.token.specs.Table.{is}
use Rattle.table.specs.declared.Unary.TheVariants.{PosPred, NegPred, Opt, Rep, RepOnce, RepExact, RepMin, RepMax, RepMinMax, Push}
use Rattle.table.specs.declared.Sort.TheVariants.{Str, Insens, Ident, PushLiteral}
use Rattle.table.specs.declared.Join.{Join}
use Rattle.table.specs.declared.Join.TheVariants.{Seq, Choice}
use Rattle.table.specs.Tree.{Atom, text, range, peek_slice, Wrap, plain, node_tag, Tree, leaf, one, two, Rule}
use Rattle.table.specs.Check.{is_name, fine, fine_rule, fine_rules}
use Rattle.promises.specs.Pieces.{Piece, gap, tok, lbrace, rbrace, space, signed_kind, end_pieces, enclosed, closes, atom_pieces, pieces_before, pieces_after, separator, pieces, mark_pieces, rule_pieces, rules_pieces, Stand}
use Rattle.promises.specs.Open.{one?}
use Rattle.forms.specs.declared.Style.TheVariants.{Short}
use Rattle.promises.specs.Styled.{marked_rules}
use Rattle.promises.specs.Marked.{atom_depth, wrap_depth, opens}
use Rattle.promises.specs.Fewest.{opens_to, needs}
use Rattle.promises.proofs.Needs.{opens_step}

unfoldable pub count : List Piece → ℕ
count [] = 0
count (gap b ∷ ps) = count ps
count (tok k w ∷ ps) = one? (eqb k 6) + count ps

pub counted_stand : (s : List ℕ) (ps : List Piece) (i n : ℕ) → Stand s i ps n → opens_to s n ≡ opens_to s i + count ps
unfolding count is
counted_stand s [] i n h = omega (arith, ap (opens_to s) h)
counted_stand s (gap b ∷ ps) i n h = counted_stand s ps i n h
counted_stand s (tok k w ∷ ps) i n h = omega (arith, counted_stand s ps (i + 1) n h.2, opens_step s i, ap (λ (x : ℕ). one? (eqb x 6)) h.0)

count_append : (a b : List Piece) → count (a ++ b) ≡ count a + count b
unfolding count
count_append [] b = omega arith
count_append (gap c ∷ a) b = count_append a b
count_append (tok k w ∷ a) b = omega (arith, count_append a b)

count_enclosed : (b : Bool) (x : List Piece) → count (enclosed b x) ≡ one? b + count x
unfolding enclosed count
count_enclosed true x = omega (arith, count_append x (closes ∷ []))
count_enclosed false x = omega (arith, count_append x [])

count_integer : (n : ℕ) → one? (eqb (signed_kind n) 6) ≡ 0
count_integer n = go (ltb n 0x8000_0000)
  where
    go : (b : Bool) → one? (eqb (choose b (λ u. 20) (λ u. 21)) 6) ≡ 0
    go true = refl
    go false = refl

count_end : (e : Option ℕ) → count (end_pieces e ++ (tok 5 (93 ∷ []) ∷ [])) ≡ 0
unfolding count
count_end None = omega arith
count_end (Some n) = omega (arith, count_integer n)

count_atom : (a : Atom) → count (atom_pieces a) ≡ atom_depth a
unfolding count
count_atom (text Str b) = omega arith
count_atom (text Insens b) = omega arith
count_atom (text Ident b) = omega arith
count_atom (text PushLiteral b) = omega arith
count_atom (range x y) = omega arith
count_atom (peek_slice x e) = omega (arith, count_integer x, count_end e)

count_wrap : (o : Wrap) → count (pieces_before o) + count (pieces_after o) ≡ wrap_depth o
unfolding count
count_wrap (plain PosPred) = omega arith
count_wrap (plain NegPred) = omega arith
count_wrap (plain Opt) = omega arith
count_wrap (plain Rep) = omega arith
count_wrap (plain RepOnce) = omega arith
count_wrap (plain (RepExact n)) = omega arith
count_wrap (plain (RepMin n)) = omega arith
count_wrap (plain (RepMax n)) = omega arith
count_wrap (plain (RepMinMax n m)) = omega arith
count_wrap (plain Push) = omega arith
count_wrap (node_tag b) = omega arith

count_separator : (j : Join) → count (separator j) ≡ 0
unfolding count
count_separator Seq = omega arith
count_separator Choice = omega arith

count_pieces : (m : Tree Bool) → count (pieces m) ≡ opens m
unfolding pieces opens
count_pieces (leaf b a) = omega (arith, count_enclosed b (atom_pieces a), count_atom a)
count_pieces (one b o t) = omega (
  arith,
  count_enclosed b (pieces_before o ++ (pieces t ++ pieces_after o)),
  count_append (pieces_before o) (pieces t ++ pieces_after o),
  count_append (pieces t) (pieces_after o),
  count_pieces t,
  count_wrap o,
)
count_pieces (two b j x y) = omega (
  arith,
  count_enclosed b (pieces x ++ (separator j ++ pieces y)),
  count_append (pieces x) (separator j ++ pieces y),
  count_append (separator j) (pieces y),
  count_separator j,
  count_pieces x,
  count_pieces y,
)

count_mark : (m : ℕ) → leb m 4 ≡ true → count (mark_pieces m) ≡ 0
unfolding mark_pieces count
count_mark zero l = omega arith
count_mark (suc zero) l = omega arith
count_mark (suc (suc zero)) l = omega arith
count_mark (suc (suc (suc zero))) l = omega arith
count_mark (suc (suc (suc (suc zero)))) l = omega arith
count_mark (suc (suc (suc (suc (suc m))))) l = absurd (omega (arith, leb-true (suc (suc (suc (suc (suc m))))) 4 l))

-- ---- rules

-- the brackets that marked rules have
unfoldable pub opens_all : List (Rule Bool) → ℕ
opens_all [] = 0
opens_all (r ∷ rs) = opens r.tree + opens_all rs

count_rule : (r : Rule Bool) → leb r.mark 4 ≡ true → count (rule_pieces r) ≡ opens r.tree
unfolding rule_pieces count
count_rule r l = omega (
  arith,
  count_append (mark_pieces r.mark) (lbrace ∷ space ∷ (pieces r.tree ++ (space ∷ rbrace ∷ gap 10 ∷ []))),
  count_append (pieces r.tree) (space ∷ rbrace ∷ gap 10 ∷ []),
  count_pieces r.tree,
  count_mark r.mark l,
)

pub count_rules : (ms : List (Rule Bool)) → fine_rules ms ≡ true → count (rules_pieces ms) ≡ opens_all ms
unfolding rules_pieces fine_rules fine_rule opens_all count
count_rules [] f = refl
count_rules (r ∷ ms) f =
    let a = and_true (fine_rule r) (fine_rules ms) f in
    let b = and_true (is_name r.name) _ a.0 in
    let c = and_true (leb r.mark 4) (fine r.tree) b.1 in
    omega (arith, count_append (rule_pieces r) (rules_pieces ms), count_rule r c.0, count_rules ms a.1)

pub needs_marked : {P : Type 0} (us : List (Rule P)) → opens_all (marked_rules Short us) ≡ needs us
unfolding opens_all needs
needs_marked [] = refl
needs_marked (r ∷ us) = omega (arith, needs_marked us)
