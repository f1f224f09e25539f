-- The paths of the functions that check postfixes and nodes without an expression.
use Rattle.std.specs.Prelude.{ℕ, Option, Some, None, Result, Ok, Err}
use Prim.Native.Nat.{ℕ, ◌+◌, ◌≤◌, ◌<◌}
use mathlib.Core.Path.{◌≡◌, refl, sym, ap, ◌∙◌}
use mathlib.Core.Bool.{Bool, true, false}
use mathlib.Core.Logic.{◌⊎◌, inl, inr, ⊎_elim}
use mathlib.Core.List.{List}
use native.Mathlib.Omega.{arith}
use lib.ListN.{length}
use borrow.Author.Tests.{le-leb, lt-leb}
use Rattle.text.specs.Booleans.{choose, and}
use Rattle.text.proofs.Tests.{lt_or_ge}
use Rattle.text.proofs.Booleans.{and_both, and_first, and_second, choose_false, choose_true, or_first, or_neither, or_second}
use Rattle.text.specs.Limits.{max_open}
use Rattle.token.specs.Table.{toks, kind, start, is, word}
use Rattle.token.specs.Tokens.{push_literal}
use Rattle.table.specs.Tree.{Span, Atom, text, range, peek_slice, leaf, below, stored, atom_stored}
use Rattle.table.specs.declared.Unary.{Unary}
use Rattle.table.specs.declared.Unary.TheVariants.{RepMin, RepMax, RepMinMax}
use Rattle.table.specs.declared.Sort.TheVariants.{Str, Insens, Ident, PushLiteral}
use Rattle.structure.specs.declared.Why.TheVariants.{NotAllowed, TooDeep}
use Rattle.structure.specs.declared.Refusal.{Refusal}
use Rattle.structure.specs.Refusals.{because}
use Rattle.structure.specs.declared.Piece.{Piece}
use Rattle.structure.specs.Tokens.{across, spells, peek}
use Rattle.structure.specs.Values.{is_integer, integer, number, string, character}
use Rattle.structure.specs.Structure.{Parsed, got, refused, want, post, not_post, to_most, from_number, from_comma, postfix_at, slice_to, slice, pushed, ranged, slices, leaf_at}
use Rattle.structure.specs.Answers.{summary, wanted, past_integer, tail_of}
use Rattle.structure.proofs.Steps.{inside_is, sees, misses, opened_true, opened_false, another, spells_kind}
use Rattle.structure.proofs.Wants.{piece, wanted_on, wanted_off, tail_past, tail_bad, tail_ended, sum_refused, sum_got}

-- ---- postfixes

module _ (s : List ℕ) (at : ℕ) (c : Option ℕ) (f : c ≡ wanted s at 20) where
  pub most_bare : c ≡ None → (y : Refusal) → y ≡ because NotAllowed (start s at) → (v : ℕ → Unary) → Err y ≡ tail_of (to_most s at v)
  most_bare g y z v = tail_bad (wanted_off not_post s at 20 _ c y f g z)

  module _ (k : ℕ) (g : c ≡ Some k) (d : Option ℕ) (m : d ≡ wanted s k 3) where
    pub most_unclosed : d ≡ None → (y : Refusal) → y ≡ because NotAllowed (start s k) → (v : ℕ → Unary) → Err y ≡ tail_of (to_most s at v)
    most_unclosed n y z v = tail_bad (wanted_on not_post s at 20 _ c k f g ∙ wanted_off not_post s k 3 _ d y m n z)

    pub most_closed : (i : ℕ) → d ≡ Some i → (v : ℕ → Unary) → Ok (Some i) ≡ tail_of (to_most s at v)
    most_closed i n v = tail_past (wanted_on not_post s at 20 _ c k f g ∙ wanted_on not_post s k 3 _ d i m n) refl

module _ (s : List ℕ) (at x : ℕ) (e : x ≡ kind s (at + 1)) where
  pub number_exact : x ≡ 3 → Ok (Some (at + 1 + 1)) ≡ tail_of (from_number s at)
  unfolding from_number
  number_exact q = tail_past (choose_true (is s (at + 1) 3) _ _ (sees s (at + 1) x 3 e q)) (omega arith)

  module _ (q : x ≡ 3 → ⊥) (c : Option ℕ) (f : c ≡ wanted s (at + 1) 15) where
    pub number_open : c ≡ None → (y : Refusal) → y ≡ because NotAllowed (start s (at + 1)) → Err y ≡ tail_of (from_number s at)
    unfolding from_number
    number_open g y z = tail_bad (choose_false (is s (at + 1) 3) _ _ (misses s (at + 1) x 3 e q) ∙ wanted_off not_post s (at + 1) 15 _ c y f g z)

    module _ (j : ℕ) (g : c ≡ Some j) (w : ℕ) (h : w ≡ kind s j) where
      past_comma : from_number s at ≡ choose (is s j 3) (λ u. post (RepMin (number s at)) (j + 1)) (λ u. to_most s j (RepMinMax (number s at)))
      unfolding from_number
      past_comma = choose_false (is s (at + 1) 3) _ _ (misses s (at + 1) x 3 e q) ∙ wanted_on not_post s (at + 1) 15 _ c j f g

      pub number_least : w ≡ 3 → Ok (Some (j + 1)) ≡ tail_of (from_number s at)
      number_least l = tail_past (past_comma ∙ choose_true (is s j 3) _ _ (sees s j w 3 h l)) refl

      pub number_most : (w ≡ 3 → ⊥) → (r : Result (Option ℕ) Refusal) → ((v : ℕ → Unary) → r ≡ tail_of (to_most s j v)) → r ≡ tail_of (from_number s at)
      number_most l r y = y (RepMinMax (number s at)) ∙ ap tail_of (sym (past_comma ∙ choose_false (is s j 3) _ _ (misses s j w 3 h l)))

module _ (s : List ℕ) (at : ℕ) (c : Option ℕ) (f : c ≡ wanted s at 15) where
  pub comma_none : c ≡ None → (y : Refusal) → y ≡ because NotAllowed (start s at) → Err y ≡ tail_of (from_comma s at)
  unfolding from_comma
  comma_none g y z = tail_bad (wanted_off not_post s at 15 _ c y f g z)

  pub comma_most : (j : ℕ) → c ≡ Some j → (r : Result (Option ℕ) Refusal) → ((v : ℕ → Unary) → r ≡ tail_of (to_most s j v)) → r ≡ tail_of (from_comma s at)
  unfolding from_comma
  comma_most j g r y = y RepMax ∙ ap tail_of (sym (wanted_on not_post s at 15 _ c j f g))

module _ (s : List ℕ) (at x : ℕ) (e : x ≡ kind s at) where
  pub post_in : (k : ℕ) → 0 < k → x ≡ k → at < length (toks s)
  post_in k h q = inside_is s at k h (sees s at x k e q)

  pub post_some : 0 < x → at < length (toks s)
  post_some h = post_in x h refl

  post_opt : x ≡ 12 → Ok (Some (at + 1)) ≡ tail_of (postfix_at s at)
  unfolding postfix_at
  post_opt q = tail_past (choose_true (is s at 12) _ _ (sees s at x 12 e q)) refl

  post_rep : x ≡ 13 → Ok (Some (at + 1)) ≡ tail_of (postfix_at s at)
  unfolding postfix_at
  post_rep q = tail_past (choose_false (is s at 12) _ _ (another s at x 13 12 e q (λ h. omega arith)) ∙ choose_true (is s at 13) _ _ (sees s at x 13 e q)) refl

  post_once : x ≡ 14 → Ok (Some (at + 1)) ≡ tail_of (postfix_at s at)
  unfolding postfix_at
  post_once q =
      tail_past (choose_false (is s at 12) _ _ (another s at x 14 12 e q (λ h. omega arith)) ∙ choose_false (is s at 13) _ _ (another s at x 14 13 e q (λ h. omega arith)) ∙ choose_true (is s at 14) _ _ (sees s at x 14 e q)) refl

  -- `?`, `*` and `+` are one token
  pub post_one : 12 ≤ x → x ≤ 14 → Ok (Some (at + 1)) ≡ tail_of (postfix_at s at)
  post_one l h = ⊎_elim (λ a. post_opt (omega arith)) (λ a. ⊎_elim (λ b. post_rep (omega arith)) (λ b. post_once (omega arith)) (lt_or_ge x 14)) (lt_or_ge x 13)

  module _ (q : x ≡ 2) (w : ℕ) (f : w ≡ kind s (at + 1)) where
    braced : postfix_at s at ≡ choose (is s (at + 1) 20) (λ u. from_number s (at + 1)) (λ u. from_comma s (at + 1))
    unfolding postfix_at
    braced =
        choose_false (is s at 12) _ _ (another s at x 2 12 e q (λ h. omega arith)) ∙ choose_false (is s at 13) _ _ (another s at x 2 13 e q (λ h. omega arith)) ∙ choose_false (is s at 14) _ _ (another s at x 2 14 e q (λ h. omega arith))
        ∙ choose_true (is s at 2) _ _ (sees s at x 2 e q)

    pub post_number : w ≡ 20 → (r : Result (Option ℕ) Refusal) → r ≡ tail_of (from_number s (at + 1)) → r ≡ tail_of (postfix_at s at)
    post_number g r h = h ∙ ap tail_of (sym (braced ∙ choose_true (is s (at + 1) 20) _ _ (sees s (at + 1) w 20 f g)))

    pub post_comma : (w ≡ 20 → ⊥) → (r : Result (Option ℕ) Refusal) → r ≡ tail_of (from_comma s (at + 1)) → r ≡ tail_of (postfix_at s at)
    post_comma g r h = h ∙ ap tail_of (sym (braced ∙ choose_false (is s (at + 1) 20) _ _ (misses s (at + 1) w 20 f g)))

  pub post_none : (x ≡ 12 → ⊥) → (x ≡ 13 → ⊥) → (x ≡ 14 → ⊥) → (x ≡ 2 → ⊥) → Ok None ≡ tail_of (postfix_at s at)
  unfolding postfix_at
  post_none a b c d =
      tail_ended (choose_false (is s at 12) _ _ (misses s at x 12 e a) ∙ choose_false (is s at 13) _ _ (misses s at x 13 e b) ∙ choose_false (is s at 14) _ _ (misses s at x 14 e c) ∙ choose_false (is s at 2) _ _ (misses s at x 2 e d))

  -- ---- a number in a slice

  pub integer_here : (x ≡ 20) ⊎ (x ≡ 21) → at + 1 ≡ past_integer s at
  integer_here (inl q) = sym (choose_true (is_integer s at) _ _ (or_first (is s at 20) (is s at 21) (sees s at x 20 e q)))
  integer_here (inr q) = sym (choose_true (is_integer s at) _ _ (or_second (is s at 20) (is s at 21) (sees s at x 21 e q)))

  pub integer_none : (x ≡ 20 → ⊥) → (x ≡ 21 → ⊥) → at ≡ past_integer s at
  integer_none n q = sym (choose_false (is_integer s at) _ _ (or_neither (is s at 20) (is s at 21) (misses s at x 20 e n) (misses s at x 21 e q)))

-- ---- leaves

sum_leaf : {m : Parsed} {p : Span} {a : Atom} {n : ℕ} (b : ℕ) → m ≡ got (leaf p a) n → b ≡ length (atom_stored a) → Ok (piece n 1 b) ≡ summary m
unfolding below stored
sum_leaf {n = n} b e w = sum_got n 1 b e refl refl w

from_by : (b : Bool) (s : List ℕ) (at i v f : ℕ) → f ≡ choose b (λ u. i + 1) (λ u. i)
    → (from : ℕ) × (choose b (λ u. want refused s (i + 1) 22 (λ j. slice_to s at v j)) (λ u. want refused s i 22 (λ j. slice_to s at 0 j)) ≡ want refused s f 22 (λ j. slice_to s at from j))
from_by true s at i v f e = (v, ap (λ (n : ℕ). want refused s n 22 (λ j. slice_to s at v j)) (sym e))
from_by false s at i v f e = (0, ap (λ (n : ℕ). want refused s n 22 (λ j. slice_to s at 0 j)) (sym e))

slice_from : (s : List ℕ) (at i f : ℕ) → f ≡ past_integer s i → (from : ℕ) × (slice s at i ≡ want refused s f 22 (λ j. slice_to s at from j))
unfolding slice
slice_from s at i f e = from_by (is_integer s i) s at i (integer s i) f e

to_by : (b : Bool) (s : List ℕ) (at from i f : ℕ) (x : Option ℕ) → f ≡ choose b (λ u. i + 1) (λ u. i)
    → (p : Span) × (y : Option ℕ) × (choose b (λ u. want refused s (i + 1) 5 (λ n. got (leaf (across s at (i + 1)) (peek_slice from x)) n)) (λ u. want refused s i 5 (λ n. got (leaf (across s at i) (peek_slice from None)) n))
    ≡ want refused s f 5 (λ n. got (leaf p (peek_slice from y)) n))
to_by true s at from i f x e = (across s at (i + 1), x, ap (λ (m : ℕ). want refused s m 5 (λ n. got (leaf (across s at (i + 1)) (peek_slice from x)) n)) (sym e))
to_by false s at from i f x e = (across s at i, None, ap (λ (m : ℕ). want refused s m 5 (λ n. got (leaf (across s at i) (peek_slice from None)) n)) (sym e))

slice_to_lem : (s : List ℕ) (at from i f : ℕ) → f ≡ past_integer s i → (p : Span) × (y : Option ℕ) × (slice_to s at from i ≡ want refused s f 5 (λ n. got (leaf p (peek_slice from y)) n))
unfolding slice_to
slice_to_lem s at from i f e = to_by (is_integer s i) s at from i f (Some (integer s i)) e

module _ (s : List ℕ) (at i f : ℕ) (e : f ≡ past_integer s i) (c : Option ℕ) (g : c ≡ wanted s f 22) where
  pub slice_undotted : c ≡ None → (y : Refusal) → y ≡ because NotAllowed (start s f) → Err y ≡ summary (slice s at i)
  slice_undotted h y z = let (from, p) = slice_from s at i f e in sum_refused (p ∙ wanted_off refused s f 22 _ c y g h z)

  module _ (j : ℕ) (h : c ≡ Some j) (t : ℕ) (k : t ≡ past_integer s j) (d : Option ℕ) (l : d ≡ wanted s t 5) where
    pub slice_unclosed : d ≡ None → (y : Refusal) → y ≡ because NotAllowed (start s t) → Err y ≡ summary (slice s at i)
    slice_unclosed m y z =
        let (from, p) = slice_from s at i f e in
        let (q, v, r) = slice_to_lem s at from j t k in
        sum_refused (p ∙ wanted_on refused s f 22 _ c j g h ∙ r ∙ wanted_off refused s t 5 _ d y l m z)

    pub slice_read : (n : ℕ) → d ≡ Some n → Ok (piece n 1 0) ≡ summary (slice s at i)
    slice_read n m =
        let (from, p) = slice_from s at i f e in
        let (q, v, r) = slice_to_lem s at from j t k in
        sum_leaf {p = q} {a = peek_slice from v} 0 (p ∙ wanted_on refused s f 22 _ c j g h ∙ r ∙ wanted_on refused s t 5 _ d n l m) refl

module _ (o : ℕ) (s : List ℕ) (at : ℕ) (a : Option ℕ) (f : a ≡ wanted s (at + 1) 6) where
  pub pushed_bare : a ≡ None → (y : Refusal) → y ≡ because NotAllowed (start s (at + 1)) → Err y ≡ summary (pushed o s at)
  unfolding pushed
  pushed_bare g y z = sum_refused (wanted_off refused s (at + 1) 6 _ a y f g z)

  module _ (i : ℕ) (g : a ≡ Some i) where
    pub pushed_deep : 1024 ≤ o → (y : Refusal) → y ≡ because TooDeep (start s (at + 1)) → Err y ≡ summary (pushed o s at)
    unfolding pushed
    pushed_deep h y z = ap Err z ∙ sum_refused (wanted_on refused s (at + 1) 6 _ a i f g ∙ opened_true o s (at + 1) _ (le-leb max_open o h))

    module _ (h : o < 1024) (b : Option ℕ) (l : b ≡ wanted s i 23) where
      pub pushed_empty : b ≡ None → (y : Refusal) → y ≡ because NotAllowed (start s i) → Err y ≡ summary (pushed o s at)
      unfolding pushed
      pushed_empty m y z = sum_refused (wanted_on refused s (at + 1) 6 _ a i f g ∙ opened_false o s (at + 1) _ (lt-leb max_open o h) ∙ wanted_off refused s i 23 _ b y l m z)

      module _ (j : ℕ) (m : b ≡ Some j) (c : Option ℕ) (k : c ≡ wanted s j 7) where
        pub pushed_unclosed : c ≡ None → (y : Refusal) → y ≡ because NotAllowed (start s j) → Err y ≡ summary (pushed o s at)
        unfolding pushed
        pushed_unclosed n y z =
            sum_refused (wanted_on refused s (at + 1) 6 _ a i f g ∙ opened_false o s (at + 1) _ (lt-leb max_open o h) ∙ wanted_on refused s i 23 _ b j l m ∙ wanted_off refused s j 7 _ c y k n z)

        pub pushed_read : (n : ℕ) → c ≡ Some n → (v : ℕ) → v ≡ length (string s i) → Ok (piece n 1 v) ≡ summary (pushed o s at)
        unfolding pushed
        pushed_read n p v w =
            sum_leaf {p = across s i i} {a = text PushLiteral (string s i)} v
            (wanted_on refused s (at + 1) 6 _ a i f g ∙ opened_false o s (at + 1) _ (lt-leb max_open o h) ∙ wanted_on refused s i 23 _ b j l m ∙ wanted_on refused s j 7 _ c n k p) w

module _ (s : List ℕ) (at : ℕ) (a : Option ℕ) (f : a ≡ wanted s (at + 1) 22) where
  pub range_undotted : a ≡ None → (y : Refusal) → y ≡ because NotAllowed (start s (at + 1)) → Err y ≡ summary (ranged s at)
  unfolding ranged
  range_undotted g y z = sum_refused (wanted_off refused s (at + 1) 22 _ a y f g z)

  module _ (i : ℕ) (g : a ≡ Some i) (b : Option ℕ) (l : b ≡ wanted s i 25) where
    pub range_open : b ≡ None → (y : Refusal) → y ≡ because NotAllowed (start s i) → Err y ≡ summary (ranged s at)
    unfolding ranged
    range_open m y z = sum_refused (wanted_on refused s (at + 1) 22 _ a i f g ∙ wanted_off refused s i 25 _ b y l m z)

    pub range_read : (n : ℕ) → b ≡ Some n → Ok (piece n 1 0) ≡ summary (ranged s at)
    unfolding ranged
    range_read n m = sum_leaf {p = across s at i} {a = range (character s at) (character s i)} 0 (wanted_on refused s (at + 1) 22 _ a i f g ∙ wanted_on refused s i 25 _ b n l m) refl

slices_kind : (s : List ℕ) (at : ℕ) → is s at 18 ≡ false → slices s at ≡ false
slices_kind s at e = ap (λ (b : Bool). and b (is s (at + 1) 4)) (spells_kind peek s at e)

module _ (o : ℕ) (s : List ℕ) (at : ℕ) where
  module _ (b : Bool) (f : b ≡ spells push_literal s at) where
    pub word_pushes : b ≡ true → (r : Result Piece Refusal) → r ≡ summary (pushed o s at) → r ≡ summary (leaf_at o s at)
    unfolding leaf_at
    word_pushes g r h = h ∙ ap summary (sym (choose_true (spells push_literal s at) _ _ (sym f ∙ g)))

    module _ (g : b ≡ false) (c : Bool) (h : c ≡ spells peek s at) where
      pub word_slices : c ≡ true → (x : ℕ) → x ≡ kind s (at + 1) → x ≡ 4 → (r : Result Piece Refusal) → r ≡ summary (slice s at (at + 2)) → r ≡ summary (leaf_at o s at)
      unfolding leaf_at
      word_slices l x e q r m =
          m ∙ ap summary (sym (choose_false (spells push_literal s at) _ _ (sym f ∙ g) ∙ choose_true (slices s at) _ _ (and_both (spells peek s at) (is s (at + 1) 4) (sym h ∙ l) (sees s (at + 1) x 4 e q))))

      pub no_slice : (x : ℕ) → x ≡ kind s (at + 1) → (x ≡ 4 → ⊥) → slices s at ≡ false
      no_slice x e q = and_second (spells peek s at) (is s (at + 1) 4) (misses s (at + 1) x 4 e q)

      pub no_peek : c ≡ false → slices s at ≡ false
      no_peek l = and_first (spells peek s at) (is s (at + 1) 4) (sym h ∙ l)

      pub word_named : slices s at ≡ false → kind s at ≡ 18 → (n : ℕ) → n ≡ length (word s at) → Ok (piece (at + 1) 1 n) ≡ summary (leaf_at o s at)
      unfolding leaf_at
      word_named l q n w =
          sum_leaf {p = across s at at} {a = text Ident (word s at)} n
          (choose_false (spells push_literal s at) _ _ (sym f ∙ g) ∙ choose_false (slices s at) _ _ l ∙ choose_true (is s at 18) _ _ (sees s at (kind s at) 18 refl q)) w

  module _ (x : ℕ) (e : x ≡ kind s at) where
    past_words : (is s at 18 ≡ false) → leaf_at o s at
        ≡ choose (is s at 23) (λ u. got (leaf (across s at at) (text Str (string s at))) (at + 1))
        (λ u. choose (is s at 24) (λ u. got (leaf (across s at at) (text Insens (string s at))) (at + 1)) (λ u. choose (is s at 25) (λ u. ranged s at) (λ u. refused (because NotAllowed (start s at)))))
    unfolding leaf_at
    past_words n = choose_false (spells push_literal s at) _ _ (spells_kind push_literal s at n) ∙ choose_false (slices s at) _ _ (slices_kind s at n) ∙ choose_false (is s at 18) _ _ n

    leaf_string : x ≡ 23 → (n : ℕ) → n ≡ length (string s at) → Ok (piece (at + 1) 1 n) ≡ summary (leaf_at o s at)
    leaf_string q n w =
        sum_leaf {p = across s at at} {a = text Str (string s at)} n (past_words (another s at x 23 18 e q (λ h. omega arith)) ∙ choose_true (is s at 23) _ _ (sees s at x 23 e q)) w

    leaf_insens : x ≡ 24 → (n : ℕ) → n ≡ length (string s at) → Ok (piece (at + 1) 1 n) ≡ summary (leaf_at o s at)
    leaf_insens q n w =
        sum_leaf {p = across s at at} {a = text Insens (string s at)} n
        (past_words (another s at x 24 18 e q (λ h. omega arith)) ∙ choose_false (is s at 23) _ _ (another s at x 24 23 e q (λ h. omega arith)) ∙ choose_true (is s at 24) _ _ (sees s at x 24 e q)) w

    -- both kinds of string
    pub leaf_literal : 23 ≤ x → x ≤ 24 → (n : ℕ) → n ≡ length (string s at) → Ok (piece (at + 1) 1 n) ≡ summary (leaf_at o s at)
    leaf_literal l h n w = ⊎_elim (λ a. leaf_string (omega arith) n w) (λ a. leaf_insens (omega arith) n w) (lt_or_ge x 24)

    pub leaf_range : x ≡ 25 → (r : Result Piece Refusal) → r ≡ summary (ranged s at) → r ≡ summary (leaf_at o s at)
    leaf_range q r w =
        w ∙ ap summary (sym (past_words (another s at x 25 18 e q (λ h. omega arith)) ∙ choose_false (is s at 23) _ _ (another s at x 25 23 e q (λ h. omega arith)) ∙ choose_false (is s at 24) _ _ (another s at x 25 24 e q (λ h. omega arith))
        ∙ choose_true (is s at 25) _ _ (sees s at x 25 e q)))

    pub leaf_none : (x ≡ 18 → ⊥) → (x ≡ 23 → ⊥) → (x ≡ 24 → ⊥) → (x ≡ 25 → ⊥) → (y : Refusal) → y ≡ because NotAllowed (start s at) → Err y ≡ summary (leaf_at o s at)
    leaf_none a b c d y z =
        ap Err z
        ∙ sum_refused (past_words (misses s at x 18 e a) ∙ choose_false (is s at 23) _ _ (misses s at x 23 e b) ∙ choose_false (is s at 24) _ _ (misses s at x 24 e c) ∙ choose_false (is s at 25) _ _ (misses s at x 25 e d))
