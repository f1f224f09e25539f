-- What is read has no more store bytes than the text has bytes: a token gives at most its own, and the bytes up to an index (`up_to`) grow with it.
-- By descent: what a call adds to what it was handed fits between where it begins and where it ends.
use Rattle.std.specs.Prelude.{ℕ, Option, Some, None}
use Prim.Native.Nat.{ℕ, zero, suc, ◌+◌, ◌-◌, ◌≤◌, ◌<◌}
use mathlib.Core.Path.{◌≡◌, refl, ap, ◌∙◌}
use mathlib.Core.Bool.{true}
use mathlib.Core.List.{List, [], ◌∷◌}
use mathlib.Core.Logic.{⊎_elim}
use native.Mathlib.Nat.{eq-or-lt_of_le}
use native.Mathlib.Numerals.{add-one}
use native.Mathlib.Omega.{arith}
use lib.Dec.{leb, eqb}
use lib.ListN.{length, get_or, drop, length-append}
use Rattle.text.specs.Booleans.{next_is}
use Rattle.text.specs.Words.{push}
use Rattle.text.specs.Scans.{Piece, spelled}
use Rattle.text.specs.Utf8.{encoded}
use Rattle.text.proofs.Booleans.{and_left, choose_by, split}
use Rattle.literal.specs.Escapes.{digits_of, simple_of, pair_by, pair_of, braced_by, braced_of, after_by, after_of, escape_of, escape_piece_by, escape_piece, unescaped}
use Rattle.literal.specs.declared.Digits.{Digits}
use Rattle.literal.proofs.Escaped.{meant}
use Rattle.token.specs.Lists.{Tok, tok, end_of, place_from}
use Rattle.token.specs.Table.{toks, tok_of, start, end, is, trimmed, word, label}
use Rattle.token.proofs.Lists.{Ordered, ordered, inside_at}
use Rattle.token.proofs.Table.{part_length}
use Rattle.table.specs.Tree.{Span, Tree, Rule, stored, size, rule_stored, rules_stored}
use Rattle.table.specs.declared.Join.TheVariants.{Seq}
use Rattle.table.specs.declared.Unary.TheVariants.{PosPred, NegPred, Push}
use Rattle.structure.specs.declared.Level.{Level}
use Rattle.structure.specs.Tokens.{across, spells}
use Rattle.structure.specs.Values.{is_integer, opening, literal_bytes, string}
use Rattle.structure.specs.Answers.{tag_bytes}
use Rattle.structure.specs.Structure.{Parsed, got, join, closed, postfixed, postfix_at, slice_to, slice, Call, expr, term, signed, node, chain, posts, body, place, mark_at, past_mark, past_bar, rules, grammar}
use Rattle.structure.proofs.Steps.{inside_is, next_got, want_got, opened_got, posts_by_lem}
use Rattle.structure.proofs.Sizes.{encoded_short, grown_ends, grown_starts, grown_before, grown_after, grown_tag, size_closed, size_more}
use Rattle.structure.proofs.Fuel.{held_size, postfix_past}
use Rattle.structure.proofs.Rules.{past_mark_on, past_bar_on, size_rule}
use Rattle.structure.proofs.Descent.{descent}
use Rattle.structure.proofs.Cases.{LeafRead, literal, sliced, ident, str, insens, ranges, leaf_read, RuleRead}
use Rattle.structure.proofs.Ruled.{all_rules}

-- ---- an escape is no shorter than what it means

abbrev Short : Option (ℕ × ℕ) → Type 0
Short (Some (c, n)) = length (encoded c) ≤ n
Short None = Unit {0}

abbrev Little : Option ℕ → Type 0
Little (Some c) = length (encoded c) ≤ 2
Little None = Unit {0}

simple_short : (x : ℕ) → Little (simple_of x)
unfolding simple_of encoded
simple_short x =
    choose_by Little (eqb x 34) _ _ (λ e. omega arith)
    (λ e. choose_by Little (eqb x 92) _ _ (λ e. omega arith)
    (λ e. choose_by Little (eqb x 114) _ _ (λ e. omega arith)
    (λ e. choose_by Little (eqb x 110) _ _ (λ e. omega arith)
    (λ e. choose_by Little (eqb x 116) _ _ (λ e. omega arith)
    (λ e. choose_by Little (eqb x 48) _ _ (λ e. omega arith) (λ e. choose_by Little (eqb x 39) _ _ (λ e. omega arith) (λ e. tt)))))))

pair_short : (d : Digits) → Short (pair_by d)
pair_short d = choose_by Short (eqb d.count 2) _ _ (λ e. encoded_short d.value) (λ e. tt)

braced_short : (xs : List ℕ) (d : Digits) → Short (braced_by xs d)
braced_short xs d =
    choose_by Short (leb 2 d.count) _ _
    (λ e. choose_by Short (next_is 125 (drop d.count xs)) _ _ (λ e. omega (arith, encoded_short d.value)) (λ e. tt)) (λ e. tt)

open_short : (xs : List ℕ) → Short (braced_of xs)
unfolding braced_of
open_short [] = tt
open_short (x ∷ xs) = choose_by Short (eqb x 123) _ _ (λ e. braced_short xs (digits_of 6 0 0 xs)) (λ e. tt)

after_by_lem : (v : Option ℕ) (x : ℕ) (xs : List ℕ) → Little v → Short (after_by v x xs)
unfolding pair_of
after_by_lem (Some c) x xs h = h
after_by_lem None x xs h =
    choose_by Short (eqb x 120) _ _ (λ e. pair_short (digits_of 2 0 0 xs)) (λ e. choose_by Short (eqb x 117) _ _ (λ e. open_short xs) (λ e. tt))

after_short : (xs : List ℕ) → Short (after_of xs)
unfolding after_of
after_short [] = tt
after_short (x ∷ xs) = after_by_lem (simple_of x) x xs (simple_short x)

escape_short : (xs : List ℕ) → Short (escape_of xs)
unfolding escape_of
escape_short [] = tt
escape_short (x ∷ xs) = choose_by Short (eqb x 92) _ _ (λ e. after_short xs) (λ e. tt)

-- a piece gives no more bytes than it has, and it has no more than there are
abbrev Fair : List ℕ → Piece → Type 0
Fair xs p = (length p.gives ≤ p.more + 1) × (p.more ≤ length xs)

piece_fair : (x : ℕ) (xs : List ℕ) (r : Option (ℕ × ℕ)) → escape_of (x ∷ xs) ≡ r → Short r → Fair xs (escape_piece_by (x ∷ xs) r)
piece_fair x xs None e h = (omega arith, omega arith)
piece_fair x xs (Some (c, n)) e h = let m = meant (x ∷ xs) c n e in (omega (arith, m.two), omega (arith, m.two, m.inside))

spelled_fair : (p : List ℕ → Piece) → ((x : ℕ) (xs : List ℕ) → Fair xs (p (x ∷ xs))) → (k : ℕ) (xs : List ℕ) → k ≤ length xs → length (spelled p k xs) + k ≤ length xs
unfolding spelled
spelled_fair p f zero [] h = omega arith
spelled_fair p f (suc k) [] h = absurd (omega arith)
spelled_fair p f (suc k) (x ∷ xs) h = let l = spelled_fair p f k xs (omega arith) in omega arith
spelled_fair p f zero (x ∷ xs) h =
    let (a, b) = f x xs in
    let l = spelled_fair p f (p (x ∷ xs)).more xs b in
    omega (arith, length-append (p (x ∷ xs)).gives (spelled p (p (x ∷ xs)).more xs))

pub unescaped_fits : (s : List ℕ) → length (unescaped s) ≤ length s
unfolding unescaped
unescaped_fits s =
    omega (arith, spelled_fair escape_piece (λ x xs. piece_fair x xs (escape_of (x ∷ xs)) refl (escape_short (x ∷ xs))) 0 s (omega arith))

-- ---- the bytes up to an index: to the end of the token before it

abbrev up_to : List ℕ → ℕ → ℕ
up_to s i = place_from 0 (toks s) i

grows_by : (z at : ℕ) (ts : List Tok) (i : ℕ) → Ordered z at ts → place_from at ts i ≤ place_from at ts (suc i)
grows_by z at [] zero h = omega arith
grows_by z at [] (suc i) h = omega arith
grows_by z at (tok k a b ∷ ts) zero h = omega (arith, h.2, h.3)
grows_by z at (tok k a b ∷ ts) (suc i) h = grows_by z b ts i h.5

low_by : (z at : ℕ) (ts : List Tok) (i : ℕ) → at ≤ z → Ordered z at ts → place_from at ts i ≤ z
low_by z at ts zero l h = l
low_by z at [] (suc i) l h = l
low_by z at (tok k a b ∷ ts) (suc i) l h = low_by z b ts i h.4 h.5

end_by : (at : ℕ) (ts : List Tok) (i : ℕ) (d : Tok) → i < length ts → place_from at ts (suc i) ≡ end_of (get_or ts i d)
end_by at [] i d h = absurd (omega arith)
end_by at (t ∷ ts) zero d h = refl
end_by at (t ∷ ts) (suc i) d h = end_by (end_of t) ts i d (omega arith)

module _ (s : List ℕ) where
  grows : (i j : ℕ) → i ≤ j → up_to s i ≤ up_to s j
  grows i zero h = let z : i ≡ 0 = omega arith in rw z (omega arith)
  grows i (suc j) h =
      ⊎_elim (λ e. rw e (omega arith)) (λ l. let a = grows i j (omega arith) in let b = grows_by (length s) 0 (toks s) j (ordered s) in omega arith) (eq-or-lt_of_le h)

  low : (i : ℕ) → up_to s i ≤ length s
  low i = low_by (length s) 0 (toks s) i (omega arith) (ordered s)

  -- a part of a token is between
  part_fits : (i k m : ℕ) → i < length (toks s) → length (trimmed s i k m) + up_to s i ≤ up_to s (i + 1)
  unfolding start end tok_of
  part_fits i k m h =
      let d = tok 0 (length s) (length s) in
      let p = inside_at s i d h in
      let e : up_to s (i + 1) ≡ end_of (get_or (toks s) i d) = rw add-one (end_by 0 (toks s) i d h) in
      omega (arith, p.after, p.some, p.within, part_length s (start s i + k) (end s i - m) (omega (arith, p.within)))

  word_fits : (i k : ℕ) → 0 < k → is s i k ≡ true → length (word s i) + up_to s i ≤ up_to s (i + 1)
  unfolding word
  word_fits i k p e = part_fits i 0 0 (inside_is s i k p e)

  label_fits : (i k : ℕ) → 0 < k → is s i k ≡ true → length (label s i) + up_to s i ≤ up_to s (i + 1)
  unfolding label
  label_fits i k p e = part_fits i 1 0 (inside_is s i k p e)

  string_fits : (i k : ℕ) → 0 < k → is s i k ≡ true → length (string s i) + up_to s i ≤ up_to s (i + 1)
  unfolding string
  string_fits i k p e = omega (arith, unescaped_fits (literal_bytes s i), part_fits i (opening s i) 1 (inside_is s i k p e))

  -- ---- leaves

  size_got : (a : ℕ) {x t : Tree Span} {i n : ℕ} → got x i ≡ got t n → size x + up_to s a ≤ up_to s i → size t + up_to s a ≤ up_to s n
  size_got a {x} {t} {i} {n} e h =
      let z : x ≡ t = cc in
      let w : i ≡ n = cc in
      rw (z, w) at h

  module _ {t : Tree Span} {n : ℕ} where
    slice_to_fits : (at from i : ℕ) → at ≤ i → slice_to s at from i ≡ got t n → size t + up_to s at ≤ up_to s n
    unfolding slice_to stored
    slice_to_fits at from i h =
        split (is_integer s i) _ _ (λ v e. size_got at (want_got s (i + 1) 5 _ (omega arith) e).2 (omega (arith, grows at (i + 1 + 1) (omega arith))))
        (λ v e. size_got at (want_got s i 5 _ (omega arith) e).2 (omega (arith, grows at (i + 1) (omega arith))))

    slice_fits : (at i : ℕ) → at ≤ i → slice s at i ≡ got t n → size t + up_to s at ≤ up_to s n
    unfolding slice
    slice_fits at i h =
        split (is_integer s i) _ _ (λ v e. slice_to_fits at _ (i + 1 + 1) (omega arith) (want_got s (i + 1) 22 _ (omega arith) e).2)
        (λ v e. slice_to_fits at _ (i + 1) (omega arith) (want_got s i 22 _ (omega arith) e).2)

    leaf_fits : (o at : ℕ) → LeafRead o s at t n → size t + up_to s at ≤ up_to s n
    unfolding stored
    leaf_fits o at (literal a b c d f e z) =
        rw (e, z) (omega (arith, string_fits (at + 1 + 1) 23 (omega arith) d, grows at (at + 1 + 1) (omega arith), grows (at + 1 + 1 + 1) (at + 1 + 1 + 1 + 1) (omega arith)))
    leaf_fits o at (sliced a b e) = slice_fits at (at + 2) (omega arith) e
    leaf_fits o at (ident a b c e z) = rw (e, z) (word_fits at 18 (omega arith) c)
    leaf_fits o at (str a b e z) = rw (e, z) (string_fits at 23 (omega arith) b)
    leaf_fits o at (insens a b c e z) = rw (e, z) (string_fits at 24 (omega arith) c)
    leaf_fits o at (ranges a b c d f g e z) = rw (e, z) (omega (arith, grows at (at + 1 + 1 + 1) (omega arith)))

  -- ---- calls

  abbrev Adds : Call → Tree Span → ℕ → Type 0
  Adds c t n = size t + up_to s (place c) ≤ up_to s n + held_size c

  -- what comes to the same size
  same_got : (c : Call) {x t : Tree Span} {i n : ℕ} → got x i ≡ got t n → Adds c x i → Adds c t n
  same_got c {x} {t} {i} {n} e h =
      let z : x ≡ t = cc in
      let w : i ≡ n = cc in
      rw (z, w) at h

  first_adds : (o at i : ℕ) (x t : Tree Span) (n : ℕ) → Adds (term o at) x i → Adds (chain o None x i) t n → Adds (expr o at) t n
  unfolding closed
  first_adds o at i x t n a b = omega arith

  tag_fits : (level : Level) (n : ℕ) → tag_bytes level n ≤ n
  tag_fits Level.Tagged n = omega arith
  tag_fits Level.Plain n = omega arith

  module _ (level : Level) where
    step : (go : Call → Parsed) → ((c : Call) (t : Tree Span) (n : ℕ) → go c ≡ got t n → Adds c t n) → (c : Call) (t : Tree Span) (n : ℕ) → body level s go c ≡ got t n → Adds c t n
    unfolding body
    step go h (expr o at) t n e =
        let (x, i, p, q) = next_got (go (term o at)) _ e in
        first_adds o at i x t n (h (term o at) x i p) (h (chain o None x i) t n q)
    step go h (chain o c l at) t n e =
        split (is s at 10) _ _
        (λ v w.
        let (x, i, p, q) = next_got (go (term o (at + 1))) _ w in
        let a = h (term o (at + 1)) x i p in
        let b = h (chain o c (join Seq l x) i) t n q in
        omega (arith, size_closed c l x, grows at (at + 1) (omega arith)))
        (λ v. split (is s at 11) _ _
        (λ v w.
        let (x, i, p, q) = next_got (go (term o (at + 1))) _ w in
        let a = h (term o (at + 1)) x i p in
        let b = h (chain o (Some (closed c l)) x i) t n q in
        omega (arith, size_more c l x, grows at (at + 1) (omega arith)))
        (λ v w. same_got (chain o c l at) w (omega arith))) e
    step go h (term o at) t n e =
        split (is s at 19) _ _
        (λ v w.
        let (v₁, l₁, e₁) = want_got s (at + 1) 1 _ (omega arith) w in
        let (x, i, p, q) = next_got (go (signed o (at + 1 + 1))) _ e₁ in
        let a = h (signed o (at + 1 + 1)) x i p in
        let g = (grown_tag level (start s at) (label s at) x).sizes in
        same_got (term o at) q (omega (arith, tag_fits level (length (label s at)), label_fits at 19 (omega arith) v, grows (at + 1) (at + 1 + 1) (omega arith))))
        (λ v w. h (signed o at) t n w) e
    step go h (signed o at) t n e =
        split (is s at 8) _ _
        (λ v w.
        let (x, i, p, q) = next_got (go (signed o (at + 1))) _ w in
        let a = h (signed o (at + 1)) x i p in
        same_got (signed o at) q (omega (arith, (grown_before (start s at) PosPred x).sizes, grows at (at + 1) (omega arith))))
        (λ v. split (is s at 9) _ _
        (λ v w.
        let (x, i, p, q) = next_got (go (signed o (at + 1))) _ w in
        let a = h (signed o (at + 1)) x i p in
        same_got (signed o at) q (omega (arith, (grown_before (start s at) NegPred x).sizes, grows at (at + 1) (omega arith))))
        (λ v w.
        let (x, i, p, q) = next_got (go (node o at)) _ w in
        let (y, j, p₁, q₁) = next_got (go (posts x i)) _ q in
        let a = h (node o at) x i p in
        let b = h (posts x i) y j p₁ in
        same_got (signed o at) q₁
        (choose_by (λ (z : Tree Span). Adds (signed o at) z j) (is s at 6) _ _ (λ f. omega (arith, (grown_starts y (start s at)).sizes)) (λ f. omega arith)))) e
    step go h (node o at) t n e =
        split (is s at 6) _ _
        (λ v w.
        let (v₁, e₁) = opened_got o s at _ w in
        let (x, i, p, q) = next_got (go (expr (o + 1) (at + 1))) _ e₁ in
        let a = h (expr (o + 1) (at + 1)) x i p in
        same_got (node o at) (want_got s i 7 _ (omega arith) q).2 (omega (arith, (grown_ends x (end s i)).sizes, grows at (at + 1) (omega arith), grows i (i + 1) (omega arith))))
        (λ v. split (spells push s at) _ _
        (λ v w.
        let (v₁, l₁, e₁) = want_got s (at + 1) 6 _ (omega arith) w in
        let (v₂, e₂) = opened_got o s (at + 1) _ e₁ in
        let (x, i, p, q) = next_got (go (expr (o + 1) (at + 1 + 1))) _ e₂ in
        let a = h (expr (o + 1) (at + 1 + 1)) x i p in
        same_got (node o at) (want_got s i 7 _ (omega arith) q).2 (omega (arith, (grown_before (start s at) Push x).sizes, grows at (at + 1 + 1) (omega arith), grows i (i + 1) (omega arith))))
        (λ v w. omega (arith, leaf_fits o at (leaf_read o s at w)))) e
    step go h (posts x at) t n e =
        posts_by_lem (postfix_at s at) _ _
        (λ v m p q.
        let a = h (posts (postfixed (end s (m - 1)) v x) m) t n q in
        omega (arith, (grown_after (end s (m - 1)) v x).sizes, grows at m (omega (arith, (postfix_past s at v m p).0))))
        (λ p q. same_got (posts x at) q (omega arith)) e

    -- ---- rules

    Bounded : ℕ → List (Rule Span) → Type 0
    Bounded at us = length (rules_stored us) + up_to s at ≤ length s

    more_bounded : (at : ℕ) (r : Rule Span) (n : ℕ) (us : List (Rule Span)) → RuleRead level s at r n → Bounded n us → Bounded at (r ∷ us)
    unfolding Bounded rules_stored
    more_bounded at r n us p h =
        let j = past_mark s (at + 1 + 1) + 1 in
        let k = past_bar s j in
        let a = descent level s Adds step (expr 0 k) p.body p.past p.read in
        let b = word_fits at 18 (omega arith) (and_left (is s at 18) _ p.named) in
        let c = ap (λ (z : Rule Span). length (rule_stored z)) p.rule ∙ size_rule (record { name = word s at; mark = mark_at s (at + 1 + 1); tree = p.body; place = across s at at }) in
        let l : at + 1 ≤ k = omega (arith, past_mark_on s (at + 1 + 1), past_bar_on s j) in
        omega (arith, length-append (rule_stored r) (rules_stored us), grows (at + 1) k l, grows p.past n (omega (arith, p.next)))

    none_bounded : (at : ℕ) → Bounded at []
    unfolding Bounded rules_stored
    none_bounded at = omega (arith, low at)

    doc_bounded : (at : ℕ) (us : List (Rule Span)) → Bounded (at + 1) us → Bounded at us
    unfolding Bounded
    doc_bounded at us h = omega (arith, grows at (at + 1) (omega arith))

    pub stored_fits : (us : List (Rule Span)) → grammar level s ≡ rules us → length (rules_stored us) ≤ length s
    unfolding Bounded
    stored_fits us e = omega (arith, all_rules level s Bounded none_bounded doc_bounded more_bounded us e)
