-- Every matching pair of brackets in the pieces of marked rules, but for those of PUSH and PUSH_LITERAL, is a mark.
use Rattle.std.specs.Prelude.{ℕ, Option, Some, None}
use Prim.Native.Nat.{ℕ, zero, suc}
use mathlib.Core.Path.{◌≡◌, refl, sym, ap, ◌∙◌}
use mathlib.Core.Bool.{Bool, true, false, not}
use mathlib.Core.List.{List, [], ◌∷◌, ◌++◌, append_assoc, append-nil}
use lib.Dec.{eqb, ltb}
use Rattle.text.specs.Booleans.{choose, and, or}
use Rattle.text.specs.Words.{begins, push}
use Rattle.token.specs.Tokens.{push_literal}
use Rattle.table.specs.declared.Unary.TheVariants.{PosPred, NegPred, Opt, Rep, RepOnce, RepExact, RepMin, RepMax, RepMinMax, Push}
use Rattle.table.specs.declared.Sort.TheVariants.{Str, Insens, Ident, PushLiteral}
use Rattle.table.specs.declared.Join.{Join}
use Rattle.table.specs.declared.Join.TheVariants.{Seq, Choice}
use Rattle.table.specs.Tree.{Atom, text, range, peek_slice, Wrap, plain, node_tag, Tree, leaf, one, two, Rule}
use Rattle.structure.specs.Tokens.{same, peek}
use Rattle.promises.specs.Pieces.{Piece, gap, tok, lbrace, rbrace, space, equals, dots, signed_kind, integer, end_pieces, opens, closes, enclosed, atom_pieces, pieces_before, pieces_after, separator, pieces, mark_pieces, rule_pieces, rules_pieces}
use Rattle.promises.proofs.Bared.{Bared, at_leaf, at_one, at_two, in_one, in_left, in_right, BaredRules, in_first, in_rest}

-- ---- pieces without a pair

-- for 0, and for one more than k
abbrev pub by_count : {A : Type 0} → ℕ → (Unit {0} → A) → (ℕ → A) → A
by_count zero f g = f tt
by_count (suc k) f g = g k

-- without the `)` that closes a `(` before these pieces; d are open inside it
unfoldable pub unclosed : ℕ → List Piece → List Piece
unclosed d [] = []
unclosed d (gap b ∷ ps) = gap b ∷ unclosed d ps
unclosed d (tok t b ∷ ps) =
    choose (eqb t 7) (λ u. by_count d (λ v. ps) (λ e. tok t b ∷ unclosed e ps))
    (λ u. tok t b ∷ unclosed (choose (eqb t 6) (λ v. suc d) (λ v. d)) ps)

-- the words PUSH and PUSH_LITERAL, behind which stand brackets of their own
abbrev pub owns_pair : ℕ → List ℕ → Bool
owns_pair t b = or (and (eqb t 18) (same push b)) (and (eqb t 18) (same push_literal b))

-- without the k-th `(` from the left, from 0 on, that doesn't stand behind such a word, and without its `)`: the same pieces
-- if there is none. The token before them is such a word if w is true
unfoldable pub unpaired : ℕ → Bool → List Piece → List Piece
unpaired k w [] = []
unpaired k w (gap b ∷ ps) = gap b ∷ unpaired k w ps
unpaired k w (tok t b ∷ ps) =
    choose (and (eqb t 6) (not w)) (λ u. by_count k (λ v. unclosed zero ps) (λ e. tok t b ∷ unpaired e (owns_pair t b) ps))
    (λ u. tok t b ∷ unpaired k (owns_pair t b) ps)

-- ---- a number of a slice is no bracket

signed_no : (n k : ℕ) → eqb 20 k ≡ false → eqb 21 k ≡ false → eqb (signed_kind n) k ≡ false
signed_no n k a b = go (ltb n 0x8000_0000)
  where
    go : (z : Bool) → eqb (choose z (λ u. 20) (λ u. 21)) k ≡ false
    go true = a
    go false = b

-- ---- pieces in which every bracket that is opened is closed

Even : List Piece → Type 0
Even x = (d : ℕ) (q : List Piece) → unclosed d (x ++ q) ≡ x ++ unclosed d q

even_token : (t : ℕ) (b : List ℕ) → eqb t 6 ≡ false → eqb t 7 ≡ false → (d : ℕ) (q : List Piece) → unclosed d (tok t b ∷ q) ≡ tok t b ∷ unclosed d q
unfolding unclosed
even_token t b h g d q = rw (g, h)

even_integer : (n : ℕ) (b : List ℕ) (d : ℕ) (q : List Piece) → unclosed d (tok (signed_kind n) b ∷ q) ≡ tok (signed_kind n) b ∷ unclosed d q
even_integer n b = even_token (signed_kind n) b (signed_no n 6 refl refl) (signed_no n 7 refl refl)

even_end : (e : Option ℕ) (d : ℕ) (q : List Piece) → unclosed d ((end_pieces e ++ (tok 5 (93 ∷ []) ∷ [])) ++ q) ≡ (end_pieces e ++ (tok 5 (93 ∷ []) ∷ [])) ++ unclosed d q
unfolding unclosed
even_end None d q = refl
even_end (Some n) d q = even_integer n _ d _

even_atom : (a : Atom) → Even (atom_pieces a)
unfolding Even unclosed
even_atom (text Str b) d q = refl
even_atom (text Insens b) d q = refl
even_atom (text Ident b) d q = refl
even_atom (text PushLiteral b) d q = refl
even_atom (range x y) d q = refl
even_atom (peek_slice x e) d q =
    ap (λ (z : List Piece). tok 18 peek ∷ tok 4 (91 ∷ []) ∷ z) (even_integer x _ d _ ∙ ap (λ (z : List Piece). integer x ∷ dots ∷ z) (even_end e d q))

-- how many are open behind what stands before an operand
abbrev in_wrap : Wrap → ℕ → ℕ
in_wrap (plain PosPred) d = d
in_wrap (plain NegPred) d = d
in_wrap (plain Opt) d = d
in_wrap (plain Rep) d = d
in_wrap (plain RepOnce) d = d
in_wrap (plain (RepExact n)) d = d
in_wrap (plain (RepMin n)) d = d
in_wrap (plain (RepMax n)) d = d
in_wrap (plain (RepMinMax n m)) d = d
in_wrap (plain Push) d = suc d
in_wrap (node_tag b) d = d

even_before : (o : Wrap) (d : ℕ) (q : List Piece) → unclosed d (pieces_before o ++ q) ≡ pieces_before o ++ unclosed (in_wrap o d) q
unfolding unclosed
even_before (plain PosPred) d q = refl
even_before (plain NegPred) d q = refl
even_before (plain Opt) d q = refl
even_before (plain Rep) d q = refl
even_before (plain RepOnce) d q = refl
even_before (plain (RepExact n)) d q = refl
even_before (plain (RepMin n)) d q = refl
even_before (plain (RepMax n)) d q = refl
even_before (plain (RepMinMax n m)) d q = refl
even_before (plain Push) d q = refl
even_before (node_tag b) d q = refl

even_after : (o : Wrap) (d : ℕ) (q : List Piece) → unclosed (in_wrap o d) (pieces_after o ++ q) ≡ pieces_after o ++ unclosed d q
unfolding unclosed
even_after (plain PosPred) d q = refl
even_after (plain NegPred) d q = refl
even_after (plain Opt) d q = refl
even_after (plain Rep) d q = refl
even_after (plain RepOnce) d q = refl
even_after (plain (RepExact n)) d q = refl
even_after (plain (RepMin n)) d q = refl
even_after (plain (RepMax n)) d q = refl
even_after (plain (RepMinMax n m)) d q = refl
even_after (plain Push) d q = refl
even_after (node_tag b) d q = refl

even_separator : (j : Join) → Even (separator j)
unfolding Even unclosed
even_separator Seq d q = refl
even_separator Choice d q = refl

-- three parts, and what follows
three : (a b c q : List Piece) → (a ++ (b ++ c)) ++ q ≡ a ++ (b ++ (c ++ q))
three a b c q = append_assoc a (b ++ c) q ∙ ap (λ (z : List Piece). a ++ z) (append_assoc b c q)

even_one : (o : Wrap) (x : List Piece) → Even x → Even (pieces_before o ++ (x ++ pieces_after o))
unfolding Even
even_one o x h d q =
    ap (unclosed d) (three (pieces_before o) x (pieces_after o) q) ∙ even_before o d _
    ∙ ap (λ (z : List Piece). pieces_before o ++ z) (h (in_wrap o d) _ ∙ ap (λ (z : List Piece). x ++ z) (even_after o d q)) ∙ sym (three (pieces_before o) x (pieces_after o) _)

even_two : (j : Join) (x y : List Piece) → Even x → Even y → Even (x ++ (separator j ++ y))
unfolding Even
even_two j x y h g d q =
    ap (unclosed d) (three x (separator j) y q) ∙ h d _
    ∙ ap (λ (z : List Piece). x ++ z) (even_separator j d _ ∙ ap (λ (z : List Piece). separator j ++ z) (g d q)) ∙ sym (three x (separator j) y _)

-- in brackets: the pieces, then `)`
closed_is : (x q : List Piece) → enclosed true x ++ q ≡ opens ∷ (x ++ (closes ∷ q))
unfolding enclosed
closed_is x q = ap (λ (z : List Piece). opens ∷ z) (append_assoc x (closes ∷ []) q)

bare_is : (x q : List Piece) → enclosed false x ++ q ≡ x ++ q
unfolding enclosed
bare_is x q = append_assoc x [] q

even_enclosed : (b : Bool) (x : List Piece) → Even x → Even (enclosed b x)
unfolding Even unclosed
even_enclosed true x h d q =
    ap (unclosed d) (closed_is x q) ∙ ap (λ (z : List Piece). opens ∷ z) (h (suc d) _) ∙ sym (closed_is x _)
even_enclosed false x h d q = ap (unclosed d) (bare_is x q) ∙ h d q ∙ sym (bare_is x _)

even : (m : Tree Bool) → Even (pieces m)
unfolding pieces
even (leaf b a) = even_enclosed b (atom_pieces a) (even_atom a)
even (one b o t) = even_enclosed b (pieces_before o ++ (pieces t ++ pieces_after o)) (even_one o (pieces t) (even t))
even (two b j x y) = even_enclosed b (pieces x ++ (separator j ++ pieces y)) (even_two j (pieces x) (pieces y) (even x) (even y))

-- ---- the k-th pair is in these pieces, which are then others, of which B holds; or behind them
data Got (B : List Piece → Type 0) (k : ℕ) (x : List Piece) : Type 0 where
  hit : (y : List Piece) → B y → ((q : List Piece) → unpaired k false (x ++ q) ≡ y ++ q) → Got B k x
  miss : (e : ℕ) (w : Bool) → ((q : List Piece) → unpaired k false (x ++ q) ≡ x ++ unpaired e w q) → Got B k x

module _ {B C : List Piece → Type 0} (x : List Piece) where
  got_bare : (k : ℕ) → ((y : List Piece) → B y → C (enclosed false y)) → Got B k x → Got C k (enclosed false x)
  got_bare k f (hit y b h) = hit (enclosed false y) (f y b) (λ q. ap (unpaired k false) (bare_is x q) ∙ h q ∙ sym (bare_is y q))
  got_bare k f (miss e w h) = miss e w (λ q. ap (unpaired k false) (bare_is x q) ∙ h q ∙ sym (bare_is x _))

  got_closed : (k : ℕ) → Even x → C (enclosed false x) → ((y : List Piece) → B y → C (enclosed true y)) → ((e : ℕ) → Got B e x) → Got C k (enclosed true x)
  unfolding Even unpaired unclosed
  got_closed zero h c f g = hit (enclosed false x) c (λ q. ap (unpaired zero false) (closed_is x q) ∙ h zero (closes ∷ q) ∙ sym (bare_is x q))
  got_closed (suc k) h c f g = go (g k)
    where
      go : Got B k x → Got C (suc k) (enclosed true x)
      go (hit y b i) = hit (enclosed true y) (f y b) (λ q. ap (unpaired (suc k) false) (closed_is x q) ∙ ap (λ (z : List Piece). opens ∷ z) (i (closes ∷ q)) ∙ sym (closed_is y q))
      go (miss e w i) = miss e false (λ q. ap (unpaired (suc k) false) (closed_is x q) ∙ ap (λ (z : List Piece). opens ∷ z) (i (closes ∷ q)) ∙ sym (closed_is x _))

-- ---- what has no such pair of its own

pass_token : (t : ℕ) (b : List ℕ) → eqb t 6 ≡ false → (k : ℕ) (w : Bool) (q : List Piece) → unpaired k w (tok t b ∷ q) ≡ tok t b ∷ unpaired k (owns_pair t b) q
unfolding unpaired
pass_token t b h k w q = rw h

pass_integer : (n : ℕ) (b : List ℕ) (k : ℕ) (w : Bool) (q : List Piece) → unpaired k w (tok (signed_kind n) b ∷ q) ≡ tok (signed_kind n) b ∷ unpaired k (owns_pair (signed_kind n) b) q
pass_integer n b = pass_token (signed_kind n) b (signed_no n 6 refl refl)

pass_end : (e : Option ℕ) (k : ℕ) (q : List Piece) → unpaired k false ((end_pieces e ++ (tok 5 (93 ∷ []) ∷ [])) ++ q) ≡ (end_pieces e ++ (tok 5 (93 ∷ []) ∷ [])) ++ unpaired k false q
unfolding unpaired
pass_end None k q = refl
pass_end (Some n) k q = pass_integer n _ k false _

got_atom : {B : List Piece → Type 0} (a : Atom) (k : ℕ) → Got B k (atom_pieces a)
unfolding unpaired begins
got_atom (text Str b) k = miss k false (λ q. refl)
got_atom (text Insens b) k = miss k false (λ q. refl)
got_atom (text Ident b) k = miss k (owns_pair 18 b) (λ q. refl)
got_atom (text PushLiteral b) k = miss k false (λ q. refl)
got_atom (range x y) k = miss k false (λ q. refl)
got_atom (peek_slice x e) k =
    miss k false (λ q. ap (λ (z : List Piece). tok 18 peek ∷ tok 4 (91 ∷ []) ∷ z) (pass_integer x _ k false _ ∙ ap (λ (z : List Piece). integer x ∷ dots ∷ z) (pass_end e k q)))

pass_before : (o : Wrap) (k : ℕ) (q : List Piece) → unpaired k false (pieces_before o ++ q) ≡ pieces_before o ++ unpaired k false q
unfolding unpaired begins
pass_before (plain PosPred) k q = refl
pass_before (plain NegPred) k q = refl
pass_before (plain Opt) k q = refl
pass_before (plain Rep) k q = refl
pass_before (plain RepOnce) k q = refl
pass_before (plain (RepExact n)) k q = refl
pass_before (plain (RepMin n)) k q = refl
pass_before (plain (RepMax n)) k q = refl
pass_before (plain (RepMinMax n m)) k q = refl
pass_before (plain Push) k q = refl
pass_before (node_tag b) k q = refl

pass_after : (o : Wrap) (w : Bool) → (v : Bool) × ((k : ℕ) (q : List Piece) → unpaired k w (pieces_after o ++ q) ≡ pieces_after o ++ unpaired k v q)
unfolding unpaired
pass_after (plain PosPred) w = (w, λ k q. refl)
pass_after (plain NegPred) w = (w, λ k q. refl)
pass_after (plain Opt) w = (false, λ k q. refl)
pass_after (plain Rep) w = (false, λ k q. refl)
pass_after (plain RepOnce) w = (false, λ k q. refl)
pass_after (plain (RepExact n)) w = (false, λ k q. refl)
pass_after (plain (RepMin n)) w = (false, λ k q. refl)
pass_after (plain (RepMax n)) w = (false, λ k q. refl)
pass_after (plain (RepMinMax n m)) w = (false, λ k q. refl)
pass_after (plain Push) w = (false, λ k q. refl)
pass_after (node_tag b) w = (w, λ k q. refl)

pass_separator : (j : Join) (w : Bool) (k : ℕ) (q : List Piece) → unpaired k w (separator j ++ q) ≡ separator j ++ unpaired k false q
unfolding unpaired
pass_separator Seq w k q = refl
pass_separator Choice w k q = refl

pass_mark : (m k : ℕ) (q : List Piece) → unpaired k false (mark_pieces m ++ (lbrace ∷ q)) ≡ mark_pieces m ++ (lbrace ∷ unpaired k false q)
unfolding unpaired mark_pieces
pass_mark zero k q = refl
pass_mark (suc zero) k q = refl
pass_mark (suc (suc zero)) k q = refl
pass_mark (suc (suc (suc zero))) k q = refl
pass_mark (suc (suc (suc (suc zero)))) k q = refl
pass_mark (suc (suc (suc (suc (suc m))))) k q = refl

-- ---- trees

-- the pieces of a tree with one mark less
Less : Tree Bool → List Piece → Type 0
Less m y = (n : Tree Bool) × Bared m n × (pieces n ≡ y)

-- and of its node unpaired the node's own brackets
LessOne : Wrap → Tree Bool → List Piece → Type 0
LessOne o t y = (u : Tree Bool) × Bared t u × (pieces_before o ++ (pieces u ++ pieces_after o) ≡ y)

LessTwo : Join → Tree Bool → Tree Bool → List Piece → Type 0
LessTwo j x y z = (u : Tree Bool) × (v : Tree Bool) × ((b : Bool) → Bared (two b j x y) (two b j u v)) × (pieces u ++ (separator j ++ pieces v) ≡ z)

got_one : (o : Wrap) (t : Tree Bool) (k : ℕ) → Got (Less t) k (pieces t) → Got (LessOne o t) k (pieces_before o ++ (pieces t ++ pieces_after o))
unfolding Less LessOne
got_one o t k (hit y (n, r, e) h) =
    hit (pieces_before o ++ (y ++ pieces_after o)) (n, r, ap (λ (z : List Piece). pieces_before o ++ (z ++ pieces_after o)) e)
    (λ q. ap (unpaired k false) (three (pieces_before o) (pieces t) (pieces_after o) q) ∙ pass_before o k _ ∙ ap (λ (z : List Piece). pieces_before o ++ z) (h (pieces_after o ++ q)) ∙ sym (three (pieces_before o) y (pieces_after o) q))
got_one o t k (miss e w h) =
    let (v, p) = pass_after o w in
    miss e v
    (λ q. ap (unpaired k false) (three (pieces_before o) (pieces t) (pieces_after o) q) ∙ pass_before o k _
    ∙ ap (λ (z : List Piece). pieces_before o ++ z) (h (pieces_after o ++ q) ∙ ap (λ (z : List Piece). pieces t ++ z) (p e q)) ∙ sym (three (pieces_before o) (pieces t) (pieces_after o) _))

module _ (j : Join) (x y : Tree Bool) (k : ℕ) where
  got_right : (e : ℕ) (w : Bool) → ((q : List Piece) → unpaired k false (pieces x ++ q) ≡ pieces x ++ unpaired e w q) → Got (Less y) e (pieces y)
      → Got (LessTwo j x y) k (pieces x ++ (separator j ++ pieces y))
  unfolding Less LessTwo
  got_right e w h (hit z (n, r, f) g) =
      hit (pieces x ++ (separator j ++ z)) (x, n, (λ b. in_right r), ap (λ (a : List Piece). pieces x ++ (separator j ++ a)) f)
      (λ q. ap (unpaired k false) (three (pieces x) (separator j) (pieces y) q) ∙ h _
      ∙ ap (λ (a : List Piece). pieces x ++ a) (pass_separator j w e _ ∙ ap (λ (a : List Piece). separator j ++ a) (g q)) ∙ sym (three (pieces x) (separator j) z q))
  got_right e w h (miss i v g) =
      miss i v
      (λ q. ap (unpaired k false) (three (pieces x) (separator j) (pieces y) q) ∙ h _
      ∙ ap (λ (a : List Piece). pieces x ++ a) (pass_separator j w e _ ∙ ap (λ (a : List Piece). separator j ++ a) (g q)) ∙ sym (three (pieces x) (separator j) (pieces y) _))

  got_two : Got (Less x) k (pieces x) → ((e : ℕ) → Got (Less y) e (pieces y)) → Got (LessTwo j x y) k (pieces x ++ (separator j ++ pieces y))
  unfolding Less LessTwo
  got_two (hit z (n, r, f) g) i =
      hit (z ++ (separator j ++ pieces y)) (n, y, (λ b. in_left r), ap (λ (a : List Piece). a ++ (separator j ++ pieces y)) f)
      (λ q. ap (unpaired k false) (three (pieces x) (separator j) (pieces y) q) ∙ g _ ∙ sym (three z (separator j) (pieces y) q))
  got_two (miss e w h) i = got_right e w h (i e)

-- every pair of a tree is a mark
found : (m : Tree Bool) (k : ℕ) → Got (Less m) k (pieces m)
unfolding pieces Less LessOne LessTwo
found (leaf false a) k = got_bare {B = λ y. ⊥} (atom_pieces a) k (λ y b. absurd b) (got_atom a k)
found (leaf true a) k = got_closed {B = λ y. ⊥} (atom_pieces a) k (even_atom a) (leaf false a, at_leaf, refl) (λ y b. absurd b) (λ e. got_atom a e)
found (one false o t) k = got_bare {B = LessOne o t} (pieces_before o ++ (pieces t ++ pieces_after o)) k (λ y (u, r, e). (one false o u, in_one r, ap (enclosed false) e)) (got_one o t k (found t k))
found (one true o t) k =
    got_closed {B = LessOne o t} (pieces_before o ++ (pieces t ++ pieces_after o)) k (even_one o (pieces t) (even t)) (one false o t, at_one, refl)
    (λ y (u, r, e). (one true o u, in_one r, ap (enclosed true) e)) (λ e. got_one o t e (found t e))
found (two false j x y) k =
    got_bare {B = LessTwo j x y} (pieces x ++ (separator j ++ pieces y)) k (λ z (u, v, r, e). (two false j u v, r false, ap (enclosed false) e))
    (got_two j x y k (found x k) (λ e. found y e))
found (two true j x y) k =
    got_closed {B = LessTwo j x y} (pieces x ++ (separator j ++ pieces y)) k (even_two j (pieces x) (pieces y) (even x) (even y)) (two false j x y, at_two, refl)
    (λ z (u, v, r, e). (two true j u v, r true, ap (enclosed true) e)) (λ e. got_two j x y e (found x e) (λ i. found y i))

-- ---- rules

-- a rule around its tree's pieces, and what follows
framed : List ℕ → ℕ → List Piece → List Piece → List Piece
framed b m y q = tok 18 b ∷ space ∷ equals ∷ space ∷ (mark_pieces m ++ (lbrace ∷ space ∷ (y ++ (space ∷ rbrace ∷ gap 10 ∷ q))))

module _ (b : List ℕ) (m : ℕ) where
  framed_then : (y z q : List Piece) → framed b m y z ++ q ≡ framed b m y (z ++ q)
  unfolding framed
  framed_then y z q =
      ap (λ (a : List Piece). tok 18 b ∷ space ∷ equals ∷ space ∷ a)
      (append_assoc (mark_pieces m) _ q ∙ ap (λ (a : List Piece). mark_pieces m ++ (lbrace ∷ space ∷ a)) (append_assoc y (space ∷ rbrace ∷ gap 10 ∷ z) q))

  -- a pair of the tree, and one behind it
  pass_framed : (k : ℕ) (y z q : List Piece) → unpaired k false (y ++ (space ∷ rbrace ∷ gap 10 ∷ q)) ≡ z → unpaired k false (framed b m y q)
      ≡ tok 18 b ∷ space ∷ equals ∷ space ∷ (mark_pieces m ++ (lbrace ∷ space ∷ z))
  unfolding framed unpaired
  pass_framed k y z q h =
      ap (λ (a : List Piece). tok 18 b ∷ space ∷ equals ∷ space ∷ a)
      (pass_mark m k (space ∷ (y ++ (space ∷ rbrace ∷ gap 10 ∷ q))) ∙ ap (λ (a : List Piece). mark_pieces m ++ (lbrace ∷ space ∷ a)) h)

LessRules : List (Rule Bool) → List Piece → Type 0
LessRules ms y = (ns : List (Rule Bool)) × BaredRules ms ns × (rules_pieces ns ≡ y)

rules_is : (r : Rule Bool) (rs : List (Rule Bool)) → rules_pieces (r ∷ rs) ≡ framed r.name r.mark (pieces r.tree) (rules_pieces rs)
unfolding rules_pieces rule_pieces framed
rules_is r rs = framed_then r.name r.mark (pieces r.tree) [] (rules_pieces rs)

module _ (r : Rule Bool) (rs : List (Rule Bool)) (k : ℕ) where
  abbrev in_rule : List Piece → List Piece → List Piece
  in_rule y q = framed r.name r.mark y q

  starts : (q : List Piece) → rules_pieces (r ∷ rs) ++ q ≡ in_rule (pieces r.tree) (rules_pieces rs ++ q)
  starts q = ap (λ (a : List Piece). a ++ q) (rules_is r rs) ∙ framed_then r.name r.mark (pieces r.tree) (rules_pieces rs) q

  got_rest : (e : ℕ) (w : Bool) → ((q : List Piece) → unpaired k false (pieces r.tree ++ q) ≡ pieces r.tree ++ unpaired e w q) → Got (LessRules rs) e (rules_pieces rs)
      → Got (LessRules (r ∷ rs)) k (rules_pieces (r ∷ rs))
  unfolding LessRules framed unpaired
  got_rest e w h (hit z (ns, b, f) g) =
      hit (in_rule (pieces r.tree) z) (r ∷ ns, in_rest b, rules_is r ns ∙ ap (in_rule (pieces r.tree)) f)
      (λ q. ap (unpaired k false) (starts q) ∙ pass_framed r.name r.mark k (pieces r.tree) _ (rules_pieces rs ++ q) (h _)
      ∙ ap (in_rule (pieces r.tree)) (g q) ∙ sym (framed_then r.name r.mark (pieces r.tree) z q))
  got_rest e w h (miss i v g) =
      miss i v
      (λ q. ap (unpaired k false) (starts q) ∙ pass_framed r.name r.mark k (pieces r.tree) _ (rules_pieces rs ++ q) (h _)
      ∙ ap (in_rule (pieces r.tree)) (g q) ∙ sym (starts _))

  got_rule : Got (Less r.tree) k (pieces r.tree) → ((e : ℕ) → Got (LessRules rs) e (rules_pieces rs)) → Got (LessRules (r ∷ rs)) k (rules_pieces (r ∷ rs))
  unfolding Less LessRules framed
  got_rule (hit y (n, b, f) g) i =
      let u : Rule Bool = record { name = r.name; mark = r.mark; tree = n; place = r.place } in
      hit (in_rule y (rules_pieces rs)) (u ∷ rs, in_first b, rules_is u rs ∙ ap (λ (a : List Piece). in_rule a (rules_pieces rs)) f)
      (λ q. ap (unpaired k false) (starts q) ∙ pass_framed r.name r.mark k (pieces r.tree) _ (rules_pieces rs ++ q) (g _)
      ∙ sym (framed_then r.name r.mark y (rules_pieces rs) q))
  got_rule (miss e w h) i = got_rest e w h (i e)

found_rules : (ms : List (Rule Bool)) (k : ℕ) → Got (LessRules ms) k (rules_pieces ms)
unfolding rules_pieces
found_rules [] k = miss k false (λ q. refl)
found_rules (r ∷ rs) k = got_rule r rs k (found r.tree k) (λ e. found_rules rs e)

-- THE law: the pieces unpaired their k-th pair, if there is one, are those of the rules with one mark less
pub every_pair : (ms : List (Rule Bool)) (k : ℕ) → (unpaired k false (rules_pieces ms) ≡ rules_pieces ms → ⊥)
    → (ns : List (Rule Bool)) × BaredRules ms ns × (unpaired k false (rules_pieces ms) ≡ rules_pieces ns)
unfolding LessRules unpaired
every_pair ms k z = go (found_rules ms k)
  where
    go : Got (LessRules ms) k (rules_pieces ms) → (ns : List (Rule Bool)) × BaredRules ms ns × (unpaired k false (rules_pieces ms) ≡ rules_pieces ns)
    go (hit y (ns, b, e) h) = (ns, b, ap (unpaired k false) (sym (append-nil (rules_pieces ms))) ∙ h [] ∙ append-nil y ∙ sym e)
    go (miss e w h) = absurd (z (ap (unpaired k false) (sym (append-nil (rules_pieces ms))) ∙ h [] ∙ append-nil (rules_pieces ms)))
