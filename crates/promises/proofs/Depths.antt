-- How many brackets are open at once where a marked tree stands, from token to token: behind it as many are open as
-- before it, and inside it at most as many more as the tree is deep (`Rises`). So the most in a text is the depth of its rules.
use Rattle.std.specs.Prelude.{ℕ, Option, Some, None}
use Prim.Native.Nat.{ℕ, zero, suc, ◌+◌, ◌-◌, ◌≤◌, max}
use mathlib.Core.Path.{◌≡◌, refl, sym, ap, ◌∙◌}
use mathlib.Core.Bool.{Bool, true, false}
use mathlib.Core.List.{List, [], ◌∷◌, ◌++◌}
use native.Mathlib.Omega.{arith}
use native.Mathlib.Numerals.{add-one}
use native.Mathlib.Decide.{dec_le}
use lib.Dec.{leb, eqb, ltb}
use lib.ListN.{length}
use borrow.Author.Tests.{leb-true, eqb-true}
use Rattle.text.specs.Booleans.{choose}
use Rattle.text.proofs.Booleans.{and_true}
use Rattle.literal.specs.Literals.{literal}
use Rattle.token.specs.Table.{toks, kind, is}
use Rattle.table.specs.declared.Unary.TheVariants.{PosPred, NegPred, Opt, Rep, RepOnce, RepExact, RepMin, RepMax, RepMinMax, Push}
use Rattle.table.specs.declared.Sort.TheVariants.{Str, Insens, Ident, PushLiteral}
use Rattle.table.specs.declared.Join.{Join}
use Rattle.table.specs.declared.Join.TheVariants.{Seq, Choice}
use Rattle.table.specs.Tree.{Atom, text, range, peek_slice, Wrap, plain, node_tag, Tree, leaf, one, two, Rule}
use Rattle.table.specs.Check.{is_name, fine, fine_rule, fine_rules}
use Rattle.promises.specs.Open.{one?, open_at, most_to, most_open, FirstOver}
use Rattle.promises.specs.Pieces.{Piece, gap, tok, signed_kind, end_pieces, enclosed, atom_pieces, pieces_before, pieces_after, separator, pieces, mark_pieces, rule_pieces, rules_pieces, Stand}
use Rattle.promises.specs.Marked.{atom_depth, wrap_depth, depth, depths}
use Rattle.promises.proofs.Values as Values
use Rattle.promises.proofs.Shapes.{cut, closed, stand_as}
use Rattle.promises.proofs.Backs.{enclosed_none}

-- a slice's number is no bracket
integer_kind : (n k : ℕ) → eqb 20 k ≡ false → eqb 21 k ≡ false → eqb (signed_kind n) k ≡ false
integer_kind n k p q = go (ltb n 0x8000_0000)
  where
    go : (b : Bool) → eqb (choose b (λ u. 20) (λ u. 21)) k ≡ false
    go true = p
    go false = q

module _ (s : List ℕ) where
  -- ---- from a token to the next

  open_step : (n : ℕ) → open_at s (n + 1) ≡ open_at s n + one? (is s n 6) - one? (is s n 7)
  unfolding open_at
  open_step n = rw (add-one n)

  most_step : (n : ℕ) → most_to s (n + 1) ≡ max (most_to s n) (open_at s (n + 1))
  unfolding most_to
  most_step n = rw (add-one n)

  pub open_most : (n : ℕ) → open_at s n ≤ most_to s n
  unfolding open_at most_to
  open_most zero = omega arith
  open_most (suc n) = omega arith

  pub most_more : (i n : ℕ) → i ≤ n → most_to s i ≤ most_to s n
  unfolding most_to
  most_more i zero h = let e : i ≡ 0 = omega arith in omega (arith, ap (most_to s) e)
  most_more i (suc n) h = go (dec_le i n) (λ l. most_more i n l)
    where
      go : Dec (i ≤ n) → (i ≤ n → most_to s i ≤ most_to s n) → most_to s i ≤ most_to s (suc n)
      go (yes l) f = omega (arith, f l)
      go (no l) f = let e : i ≡ suc n = omega arith in omega (arith, ap (most_to s) e)

  past_by : (n : ℕ) (b c : Bool) → is s n 6 ≡ b → is s n 7 ≡ c → open_at s (n + 1) ≡ open_at s n + one? b - one? c
  past_by n b c p q = open_step n ∙ ap (λ (z : Bool). open_at s n + one? z - one? (is s n 7)) p ∙ ap (λ (z : Bool). open_at s n + one? b - one? z) q

  pub past_open : (n : ℕ) → kind s n ≡ 6 → (open_at s (n + 1) ≡ open_at s n + 1) × (most_to s (n + 1) ≡ max (most_to s n) (open_at s n + 1))
  past_open n k =
      let e = past_by n true false (Values.yes s n 6 k) (Values.no s n 6 7 k refl) in
      (omega arith, omega (arith, most_step n))

  pub past_other : (n k : ℕ) → kind s n ≡ k → eqb k 6 ≡ false → eqb k 7 ≡ false → (open_at s (n + 1) ≡ open_at s n) × (most_to s (n + 1) ≡ most_to s n)
  past_other n k e p q =
      let x = past_by n false false (Values.no s n k 6 e p) (Values.no s n k 7 e q) in
      (omega arith, omega (arith, most_step n, open_most n))

  -- ---- what rises by d between two tokens

  -- the first one too many is one token
  no_first : (n i j : ℕ) → FirstOver s n i → FirstOver s n j → i + 1 ≤ j → ⊥
  unfolding is
  no_first n i j p q l = omega (arith, most_more (i + 1) j l, (past_open i (eqb-true (kind s i) 6 p.opens)).1, p.full, q.before)

  pub first_once : (n i j : ℕ) → FirstOver s n i → FirstOver s n j → i ≡ j
  first_once n i j p q = omega (arith, no_first n i j p q, no_first n j i q p)

  pub record Rises (i n d : ℕ) : Type 0 where
    pub level : open_at s n ≡ open_at s i
    pub most : most_to s n ≡ max (most_to s i) (open_at s i + d)

  -- pieces that rise by d wherever they stand
  pub record RisesOf (x : List Piece) (d : ℕ) : Type 0 where
    pub by : (i n : ℕ) → Stand s i x n → Rises i n d

  rises-as : {x : List Piece} {d e : ℕ} → d ≡ e → RisesOf x d → RisesOf x e
  rises-as p f = record { by = λ i n h. let r = f.by i n h in record { level = r.level; most = omega (arith, r.most) } }

  rises-none : RisesOf [] 0
  rises-none = record { by = λ i n h. record { level = ap (open_at s) (sym h); most = omega (arith, ap (most_to s) h, open_most i) } }

  rises-gap : {b : ℕ} {x : List Piece} {d : ℕ} → RisesOf x d → RisesOf (gap b ∷ x) d
  rises-gap f = record { by = f.by }

  rises-tok : {k : ℕ} {w : List ℕ} {x : List Piece} {d : ℕ} → eqb k 6 ≡ false → eqb k 7 ≡ false → RisesOf x d → RisesOf (tok k w ∷ x) d
  rises-tok {k} p q f = record {
    by = λ i n h.
        let r = f.by (i + 1) n h.2 in
        let e = past_other i k h.0 p q in
        record { level = r.level ∙ e.0; most = omega (arith, r.most, e.0, e.1) };
  }

  rises-join : {a b : List Piece} {d e : ℕ} → RisesOf a d → RisesOf b e → RisesOf (a ++ b) (max d e)
  rises-join {a} {b} f g = record {
    by = λ i n h.
        let c = cut s a b i n h in
        let p = f.by i c.0 c.1 in
        let q = g.by c.0 n c.2 in
        record { level = q.level ∙ p.level; most = omega (arith, p.level, p.most, q.most) };
  }

  -- before what holds no brackets
  rises-before : {a b : List Piece} {d : ℕ} → RisesOf a d → RisesOf b 0 → RisesOf (a ++ b) d
  rises-before f g = rises-as (omega arith) (rises-join f g)

  rises-in : {x : List Piece} {d : ℕ} → RisesOf x d → RisesOf (enclosed true x) (1 + d)
  rises-in {x} f = record {
    by = λ i n h.
        let c = closed s i n x h in
        let p = past_open i c.opens in
        let q = f.by (i + 1) c.stop c.inner in
        let e = past_by c.stop false true (Values.no s c.stop 7 6 c.closing refl) (Values.yes s c.stop 7 c.closing) in
        let z = c.past in
        record {
          level = omega (arith, ap (open_at s) z, p.0, q.level);
          most = omega (arith, ap (most_to s) z, p.0, p.1, q.level, q.most, most_step c.stop, open_most i);
        };
  }

  rises-enclosed : (b : Bool) {x : List Piece} {d : ℕ} → RisesOf x d → RisesOf (enclosed b x) (one? b + d)
  rises-enclosed true f = rises-in f
  rises-enclosed false {x} f = rises-as (omega arith) (record { by = λ i n h. f.by i n (stand_as s (enclosed_none x) i n h) })

  -- ---- marked trees

  rises-end : (e : Option ℕ) → RisesOf (end_pieces e ++ (tok 5 (93 ∷ []) ∷ [])) 0
  rises-end None = rises-tok refl refl rises-none
  rises-end (Some n) = rises-tok (integer_kind n 6 refl refl) (integer_kind n 7 refl refl) (rises-tok refl refl rises-none)

  rises-atom : (a : Atom) → RisesOf (atom_pieces a) (atom_depth a)
  unfolding enclosed
  rises-atom (text Str b) = rises-tok refl refl rises-none
  rises-atom (text Insens b) = rises-tok refl refl rises-none
  rises-atom (text Ident b) = rises-tok refl refl rises-none
  rises-atom (text PushLiteral b) = rises-tok refl refl (rises-in {x = tok 23 (literal 34 b) ∷ []} (rises-tok refl refl rises-none))
  rises-atom (range x y) = rises-tok refl refl (rises-tok refl refl (rises-tok refl refl rises-none))
  rises-atom (peek_slice x e) =
      rises-tok refl refl (rises-tok refl refl (rises-tok (integer_kind x 6 refl refl) (integer_kind x 7 refl refl) (rises-tok refl refl (rises-end e))))

  rises-wrap : (o : Wrap) {x : List Piece} {d : ℕ} → RisesOf x d → RisesOf (pieces_before o ++ (x ++ pieces_after o)) (wrap_depth o + d)
  unfolding enclosed
  rises-wrap (plain PosPred) f = rises-as (omega arith) (rises-tok refl refl (rises-before f rises-none))
  rises-wrap (plain NegPred) f = rises-as (omega arith) (rises-tok refl refl (rises-before f rises-none))
  rises-wrap (plain Opt) f = rises-as (omega arith) (rises-before f (rises-tok refl refl rises-none))
  rises-wrap (plain Rep) f = rises-as (omega arith) (rises-before f (rises-tok refl refl rises-none))
  rises-wrap (plain RepOnce) f = rises-as (omega arith) (rises-before f (rises-tok refl refl rises-none))
  rises-wrap (plain (RepExact n)) f = rises-as (omega arith) (rises-before f (rises-tok refl refl (rises-tok refl refl (rises-tok refl refl rises-none))))
  rises-wrap (plain (RepMin n)) f =
      rises-as (omega arith) (rises-before f (rises-tok refl refl (rises-tok refl refl (rises-tok refl refl (rises-tok refl refl rises-none)))))
  rises-wrap (plain (RepMax n)) f =
      rises-as (omega arith) (rises-before f (rises-tok refl refl (rises-tok refl refl (rises-tok refl refl (rises-tok refl refl rises-none)))))
  rises-wrap (plain (RepMinMax n m)) f =
      rises-as (omega arith)
      (rises-before f (rises-tok refl refl (rises-tok refl refl (rises-tok refl refl (rises-gap (rises-tok refl refl (rises-tok refl refl rises-none)))))))
  rises-wrap (plain Push) {x} f = rises-tok refl refl (rises-in {x = x} f)
  rises-wrap (node_tag b) f = rises-as (omega arith) (rises-tok refl refl (rises-gap (rises-tok refl refl (rises-gap (rises-before f rises-none)))))

  rises-behind : (j : Join) {x : List Piece} {d : ℕ} → RisesOf x d → RisesOf (separator j ++ x) d
  rises-behind Seq f = rises-gap (rises-tok refl refl (rises-gap f))
  rises-behind Choice f = rises-gap (rises-tok refl refl (rises-gap f))

  pub rises_tree : (m : Tree Bool) → RisesOf (pieces m) (depth m)
  unfolding pieces depth
  rises_tree (leaf b a) = rises-enclosed b (rises-atom a)
  rises_tree (one b o t) = rises-enclosed b (rises-wrap o (rises_tree t))
  rises_tree (two b j x y) = rises-enclosed b (rises-join (rises_tree x) (rises-behind j (rises_tree y)))

  -- ---- marked rules

  pub rises_mark : (m : ℕ) → leb m 4 ≡ true → RisesOf (mark_pieces m) 0
  unfolding mark_pieces
  rises_mark zero l = rises-none
  rises_mark (suc zero) l = rises-tok refl refl rises-none
  rises_mark (suc (suc zero)) l = rises-tok refl refl rises-none
  rises_mark (suc (suc (suc zero))) l = rises-tok refl refl rises-none
  rises_mark (suc (suc (suc (suc zero)))) l = rises-tok refl refl rises-none
  rises_mark (suc (suc (suc (suc (suc m))))) l = absurd (omega (arith, leb-true (suc (suc (suc (suc (suc m))))) 4 l))

  pub rises_rule : (r : Rule Bool) → fine_rule r ≡ true → RisesOf (rule_pieces r) (depth r.tree)
  unfolding rule_pieces fine_rule
  rises_rule r f =
      let b = and_true (is_name r.name) _ f in
      let c = and_true (leb r.mark 4) (fine r.tree) b.1 in
      let body = rises-before (rises_tree r.tree) (rises-gap (rises-tok refl refl (rises-gap rises-none))) in
      rises-as (omega arith) (rises-tok refl refl (rises-gap (rises-tok refl refl (rises-gap (rises-join (rises_mark r.mark c.0) (rises-tok refl refl (rises-gap body)))))))

  rises-rules : (ms : List (Rule Bool)) → fine_rules ms ≡ true → RisesOf (rules_pieces ms) (depths ms)
  unfolding rules_pieces fine_rules depths
  rises-rules [] f = rises-none
  rises-rules (r ∷ ms) f =
      let a = and_true (fine_rule r) (fine_rules ms) f in
      rises-join (rises_rule r a.0) (rises-rules ms a.1)

  -- the most that are open at once in a text where marked rules stand
  pub most_marked : (ms : List (Rule Bool)) → fine_rules ms ≡ true → Stand s 0 (rules_pieces ms) (length (toks s)) → most_open s ≡ depths ms
  unfolding open_at most_to
  most_marked ms f h = omega (arith, ((rises-rules ms f).by 0 (length (toks s)) h).most)
