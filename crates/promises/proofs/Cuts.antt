-- A pair of a text's own brackets is one of its pieces': the text without the one is spelled by the pieces without the other.
use Prim.Native.Nat.{ℕ, zero, suc, ◌+◌, ◌≤◌, ◌<◌}
use mathlib.Core.Path.{◌≡◌, refl, sym, ap, ◌∙◌}
use mathlib.Core.Bool.{Bool, true, false, not}
use mathlib.Core.List.{List, [], ◌∷◌, ◌++◌, append_assoc}
use native.Mathlib.Decide.{dec_le}
use native.Mathlib.Omega.{arith}
use lib.Dec.{eqb}
use lib.ListN.{length, drop, length-append, length-take, length-drop}
use lib.Seq.{take-append_seam, drop-append-add}
use borrow.Author.Tests.{eqb-true}
use Rattle.text.specs.Booleans.{choose, and, or}
use Rattle.text.specs.Words.{push}
use Rattle.text.proofs.Booleans.{or_neither}
use Rattle.token.specs.Table.{toks, kind, start, is}
use Rattle.token.specs.Tokens.{push_literal}
use Rattle.token.proofs.Table.{spans}
use Rattle.structure.specs.Tokens.{spells}
use Rattle.structure.proofs.Steps.{inside_is}
use Rattle.promises.specs.Pieces.{Piece, gap, tok, spelled}
use Rattle.promises.specs.Pairs.{Closed, here, past_close, past_open, past_other, Pair, without, cut}
use Rattle.promises.proofs.Tokens.{one_byte}
use Rattle.promises.proofs.Laid.{Laid, View, view_gap, view_next, kind_here, start_here, word_here, tokened}
use Rattle.promises.proofs.Pairs.{by_count, unclosed, owns_pair, unpaired}

pub never : {A : Type 0} {b : Bool} → b ≡ true → b ≡ false → A
never e h = let z : ◌≡◌ {A = ℕ} 0 1 = cc in absurd (omega arith)

without_here : (f x : List ℕ) (c n : ℕ) → n ≡ length f → without n (f ++ (c ∷ x)) ≡ f ++ x
unfolding without
without_here f x c n e =
    ap (λ (m : ℕ). without m (f ++ (c ∷ x))) e ∙ ap (λ (z : List ℕ). z ++ drop (length f + 1) (f ++ (c ∷ x))) (take-append_seam f (c ∷ x))
    ∙ ap (λ (z : List ℕ). f ++ z) (drop-append-add f (c ∷ x) 1)

module _ (s : List ℕ) where
  -- ---- the text from token i on is these pieces, and f stands before them

  record Rest (i : ℕ) (f : List ℕ) (ps : List Piece) : Type 0 where
    view : View s i (length f) ps
    before : ℕ
    laid : Laid before ps
    text : s ≡ f ++ spelled ps

  rest-gap : (i c : ℕ) (f : List ℕ) (ps : List Piece) → Rest i f (gap c ∷ ps) → Rest i (f ++ (c ∷ [])) ps
  unfolding spelled
  rest-gap i c f ps r = record {
    view = rw (length-append f (c ∷ [])) (view_gap s i (length f) c ps r.view);
    before = r.before;
    laid = r.laid.1;
    text = r.text ∙ sym (append_assoc f (c ∷ []) (spelled ps));
  }

  module _ (i k : ℕ) (f w : List ℕ) (ps : List Piece) (r : Rest i f (tok k w ∷ ps)) where
    rest-next : Rest (i + 1) (f ++ w) ps
    unfolding spelled
    rest-next = record {
      view = rw (length-append f w) (view_next s i (length f) k w ps r.view);
      before = k;
      laid = r.laid.1;
      text = r.text ∙ sym (append_assoc f w (spelled ps));
    }

    is_kind : (n : ℕ) (b : Bool) → is s i n ≡ b → eqb k n ≡ b
    unfolding is
    is_kind n b e = ap (λ (x : ℕ). eqb x n) (sym (kind_here s i (length f) k w ps r.view)) ∙ e

    -- a bracket is one byte
    bracket-out : k ≤ 17 → (x : List ℕ) → without (start s i) (f ++ (w ++ x)) ≡ f ++ x
    bracket-out l x =
        let (c, e) = one_byte r.laid.0 l in
        rw e (without_here f x c (start s i) (start_here s i (length f) k w ps r.view))

  -- ---- the `)`

  closed-inside : {d i j : ℕ} → Closed s d i j → (i ≤ j) × (j < length (toks s))
  closed-inside {j = j} (here e) = (omega arith, inside_is s j 7 (omega arith) e)
  closed-inside (past_close e c) = let g = closed-inside c in (omega arith, g.1)
  closed-inside (past_open e c) = let g = closed-inside c in (omega arith, g.1)
  closed-inside (past_other e h c) = let g = closed-inside c in (omega arith, g.1)

  -- a token is of one kind
  one-kind : {A : Type 0} (i : ℕ) → is s i 6 ≡ true → is s i 7 ≡ true → A
  unfolding is
  one-kind i e h = let a = eqb-true (kind s i) 6 e in let b = eqb-true (kind s i) 7 h in absurd (omega arith)

  -- and so there is one such `)` at most
  pub closed_once : {d i j k : ℕ} → Closed s d i j → Closed s d i k → j ≡ k
  closed_once (here e) (here g) = refl
  closed_once {i = i} (here e) (past_open g c) = one-kind i g e
  closed_once (here e) (past_other g h c) = never e h
  closed_once (past_close e b) (past_close g c) = closed_once b c
  closed_once {i = i} (past_close e b) (past_open g c) = one-kind i g e
  closed_once (past_close e b) (past_other g h c) = never e h
  closed_once {i = i} (past_open e b) (here g) = one-kind i e g
  closed_once {i = i} (past_open e b) (past_close g c) = one-kind i e g
  closed_once (past_open e b) (past_open g c) = closed_once b c
  closed_once (past_open e b) (past_other g h c) = never e g
  closed_once (past_other e h b) (here g) = never g h
  closed_once (past_other e h b) (past_close g c) = never g h
  closed_once (past_other e h b) (past_open g c) = never g e
  closed_once (past_other e h b) (past_other g k c) = closed_once b c

  unclosed-cut : (ps : List Piece) (f : List ℕ) (d i j : ℕ) → Rest i f ps → Closed s d i j → f ++ spelled (unclosed d ps) ≡ without (start s j) s
  unfolding unclosed spelled
  unclosed-cut [] f d i j r c = let g = closed-inside c in absurd (omega (arith, r.view.many))
  unclosed-cut (gap x ∷ ps) f d i j r c =
      sym (append_assoc f (x ∷ []) (spelled (unclosed d ps))) ∙ unclosed-cut ps (f ++ (x ∷ [])) d i j (rest-gap i x f ps r) c
  unclosed-cut (tok k w ∷ ps) f d i j r (here e) =
      let h = is_kind i k f w ps r 7 true e in
      let l = eqb-true k 7 h in
      rw h (sym (ap (without (start s i)) r.text ∙ bracket-out i k f w ps r (omega arith) (spelled ps)))
  unclosed-cut (tok k w ∷ ps) f d i j r (past_close {d = n} e c) =
      rw (is_kind i k f w ps r 7 true e) (sym (append_assoc f w (spelled (unclosed n ps))) ∙ unclosed-cut ps (f ++ w) n (i + 1) j (rest-next i k f w ps r) c)
  unclosed-cut (tok k w ∷ ps) f d i j r (past_open e c) =
      let h = is_kind i k f w ps r 6 true e in
      let l : eqb k 7 ≡ false = ap (λ (x : ℕ). eqb x 7) (eqb-true k 6 h) in
      rw (l, h) (sym (append_assoc f w (spelled (unclosed (suc d) ps))) ∙ unclosed-cut ps (f ++ w) (suc d) (i + 1) j (rest-next i k f w ps r) c)
  unclosed-cut (tok k w ∷ ps) f d i j r (past_other e h c) =
      rw (is_kind i k f w ps r 7 false h, is_kind i k f w ps r 6 false e)
      (sym (append_assoc f w (spelled (unclosed d ps))) ∙ unclosed-cut ps (f ++ w) d (i + 1) j (rest-next i k f w ps r) c)

  -- ---- the `(`

  -- if b is true, the token before token i is PUSH or PUSH_LITERAL
  Behind : Bool → ℕ → Type 0
  Behind true i = (p : ℕ) × (i ≡ p + 1) × (or (spells push s p) (spells push_literal s p) ≡ true)
  Behind false i = Unit {0}

  behind-next : (i k : ℕ) (f w : List ℕ) (ps : List Piece) → Rest i f (tok k w ∷ ps) → Behind (owns_pair k w) (i + 1)
  unfolding Behind spells is
  behind-next i k f w ps r = go (owns_pair k w) (rw (kind_here s i (length f) k w ps r.view, word_here s i (length f) k w ps r.view))
    where
      go : (b : Bool) → or (spells push s i) (spells push_literal s i) ≡ b → Behind b (i + 1)
      go true e = (i, refl, e)
      go false e = tt

-- past a token, whether it counts or not
passed : {A : Type 0} (b : Bool) (k : ℕ) (x : Unit {0} → A) (g : ℕ → A) → (n : ℕ) × (choose b (λ u. by_count n x g) (λ u. g n) ≡ g k)
passed true k x g = (suc k, refl)
passed false k x g = (k, refl)

module _ (s : List ℕ) (i j : ℕ) (p : Pair s i j) where
  module _ (k : ℕ) (f w : List ℕ) (ps : List Piece) where
    unpaired_here : (b : Bool) → Behind s b i → Rest s i f (tok k w ∷ ps) → f ++ spelled (unpaired zero b (tok k w ∷ ps)) ≡ cut s i j
    unfolding Behind unpaired spelled cut
    unpaired_here true (q, e, h) r = let (a, c) = p.groups q e in never h (or_neither (spells push s q) (spells push_literal s q) a c)
    unpaired_here false u r =
        let h = is_kind s i k f w ps r 6 true p.opens in
        let l = eqb-true k 6 h in
        let c = unclosed-cut s ps (f ++ w) zero (i + 1) j (rest-next s i k f w ps r) p.closes in
        rw h (sym (ap (without (start s i)) (sym c ∙ append_assoc f w (spelled (unclosed zero ps))) ∙ bracket-out s i k f w ps r (omega arith) (spelled (unclosed zero ps))))

  unpaired_cut : (ps : List Piece) (b : Bool) (n : ℕ) (f : List ℕ) → Behind s b n → Rest s n f ps → n ≤ i → (k : ℕ) × (f ++ spelled (unpaired k b ps) ≡ cut s i j)
  unfolding unpaired spelled
  unpaired_cut [] b n f u r l = absurd (omega (arith, r.view.many, inside_is s i 6 (omega arith) p.opens))
  unpaired_cut (gap x ∷ ps) b n f u r l =
      let (k, e) = unpaired_cut ps b n (f ++ (x ∷ [])) u (rest-gap s n x f ps r) l in
      (k, sym (append_assoc f (x ∷ []) (spelled (unpaired k b ps))) ∙ e)
  unpaired_cut (tok t w ∷ ps) b n f u r l =
      go (dec_le (n + 1) i) (λ h. unpaired_cut ps (owns_pair t w) (n + 1) (f ++ w) (behind-next s n t f w ps r) (rest-next s n t f w ps r) h)
    where
      go : Dec (n + 1 ≤ i) → (n + 1 ≤ i → (k : ℕ) × ((f ++ w) ++ spelled (unpaired k (owns_pair t w) ps) ≡ cut s i j)) → (k : ℕ) × (f ++ spelled (unpaired k b (tok t w ∷ ps)) ≡ cut s i j)
      go (yes h) g =
          let (k, e) = g h in
          let (m, z) = passed (and (eqb t 6) (not b)) k (λ u. unclosed zero ps) (λ e. tok t w ∷ unpaired e (owns_pair t w) ps) in
          (m, ap (λ (x : List Piece). f ++ spelled x) z ∙ sym (append_assoc f w (spelled (unpaired k (owns_pair t w) ps))) ∙ e)
      go (no h) g =
          let e : n ≡ i = omega arith in
          (zero, unpaired_here t f w ps b (rw e at u) (rw e at r))

-- THE law: the pieces without some pair spell the text without this one
pub pair_cut : (s : List ℕ) (ps : List Piece) → s ≡ spelled ps → Laid 0 ps → (i j : ℕ) → Pair s i j → (k : ℕ) × (spelled (unpaired k false ps) ≡ cut s i j)
unfolding Behind
pair_cut s ps e h i j p = unpaired_cut s i j p ps false 0 [] tt (record { view = (tokened s ps e h).view; before = 0; laid = h; text = e }) (omega arith)

-- ---- which is shorter

without_less : (n : ℕ) (s : List ℕ) → length (without n s) ≤ length s
unfolding without
without_less n s = simp (length-append, length-take, length-drop) (omega arith)

without_fewer : (n : ℕ) (s : List ℕ) → n < length s → length (without n s) < length s
unfolding without
without_fewer n s h = simp (length-append, length-take, length-drop) (omega arith)

pub cut_shorter : (s : List ℕ) (i j : ℕ) → Pair s i j → length (cut s i j) < length s
unfolding cut
cut_shorter s i j p =
    let g = spans s j (closed-inside s p.closes).1 in
    omega (arith, without_less (start s i) (without (start s j) s), without_fewer (start s j) s (omega arith))
