-- Where a 3 stands. The walk over a string's inside stops at a backslash exactly if that backslash is met; every other way to no token is told where it begins.
use Rattle.std.specs.Prelude.{ℕ, Option, Some, None}
use Prim.Native.Nat.{ℕ, zero, suc, ◌+◌, ◌≤◌, ◌<◌}
use mathlib.Core.Path.{◌≡◌, refl, sym, ap, ◌∙◌}
use mathlib.Core.Bool.{Bool, true, false}
use mathlib.Core.List.{List, ◌∷◌}
use mathlib.Core.Logic.{◌⊎◌, inl, inr}
use native.Mathlib.Omega.{arith}
use lib.Dec.{ltb, eqb}
use lib.ListN.{length, get_or, drop, length-drop}
use lib.Seq.{drop-drop}
use borrow.Author.Tests.{eqb-true}
use Rattle.text.specs.Booleans.{next_is}
use Rattle.text.specs.Classes.{class_of}
use Rattle.text.specs.Words.{starts_word}
use Rattle.text.specs.Scans.{later, sought}
use Rattle.text.specs.Utf8.{char_of, first_bad}
use Rattle.text.proofs.Tests.{lt_or_ge, at_byte}
use Rattle.text.proofs.Walks.{sought_end}
use Rattle.text.proofs.Booleans.{choose_by}
use Rattle.text.specs.Limits.{max_text}
use Rattle.literal.specs.Escapes.{escape_of}
use Rattle.literal.proofs.Escaped.{meant, means_opens}
use Rattle.token.specs.Blanks.{first, words, digit_run, zeros, blank_of}
use Rattle.token.specs.Tokens.{moved, allowed, word_token, tag_token, number_token, minus_token, dots_token, inside_look, string_by, string_of, insens_token, quoted, escaped_by, raw_by, char_token, doc_token, opener_token, token_by, first_token, token_at}
use Rattle.token.specs.Lists.{tokens_of, past_last}
use Rattle.token.specs.Lister.{listed_by, checked_by, next_of}
use Rattle.token.specs.Faults.{Stray, Meets, here, past_byte, past_escape, BadEscape, in_string, in_insens, in_character, FaultAt, FaultFrom}
use Rattle.token.specs.declared.Token.{Token}
use Rattle.token.specs.declared.Listed.{Listed}
use Rattle.token.specs.declared.Listed.TheVariants.{TooLong, NoToken}
use Rattle.token.proofs.Runs.{next_at, drop_next}
use Rattle.token.proofs.Bounds.{some_next, stop_at}
use Rattle.token.proofs.Places.{landed, landed_is}
use Rattle.token.proofs.Lists.{ended_by, ended}
use Rattle.token.proofs.Strings.{inside_quote, inside_bad, inside_escape, inside_byte, string_bad, char_bad}

-- ---- the byte at a place

pub is_at : (s : List ℕ) (i b : ℕ) → next_is b (drop i s) ≡ true → get_or s i 0 ≡ b
is_at s i b e = eqb-true (get_or s i 0) b (sym (ap (next_is b) (at_byte s i (some_next b i s e))) ∙ e)

not_at : (s : List ℕ) (i b : ℕ) → i < length s → next_is b (drop i s) ≡ false → get_or s i 0 ≡ b → ⊥
not_at s i b h e q =
    let y : next_is b (drop i s) ≡ true = next_at s i h b q in
    let z : ◌≡◌ {A = ℕ} 0 1 = cc in
    absurd (omega arith)

-- ---- the inside of a string

-- where the walk over it stops, from a place on
abbrev stop_from : List ℕ → ℕ → Option ℕ
stop_from s i = later i (sought inside_look 0 (drop i s))

meets_in : (s : List ℕ) (i p : ℕ) → Meets s i p → (i ≤ p) × (p < length s)
meets_in s i p (here w) = (omega arith, some_next 92 p s w.backslash)
meets_in s i p (past_byte q b m) = let r = meets_in s (i + 1) p m in (omega (arith, r.0), r.1)
meets_in s i p (past_escape {n = n} e m) = let r = meets_in s (i + n) p m in (omega (arith, r.0), r.1)

-- a backslash that is met stops the walk
meets_stop : (s : List ℕ) (i p : ℕ) → Meets s i p → stop_from s i ≡ Some p
meets_stop s i p (here w) =
    let b : get_or s p 0 ≡ 92 = is_at s p 92 w.backslash in
    inside_bad s p (some_next 92 p s w.backslash) b (λ q. omega arith) w.plain
meets_stop s i p (past_byte q b m) =
    let r = meets_in s (i + 1) p m in
    let h : i < length s = omega (arith, r.0, r.1) in
    inside_byte s i h (not_at s i 34 h q) (not_at s i 92 h b) ∙ meets_stop s (i + 1) p m
meets_stop s i p (past_escape {c = c} {n = n} e m) =
    let r = meets_in s (i + n) p m in
    let h : i < length s = omega (arith, r.0, r.1) in
    inside_escape s i h c n (not_at s i 34 h (means_opens 34 (drop i s) c n (λ z. omega arith) e)) e ∙ meets_stop s (i + n) p m

-- and what stops the walk is a `"` or is met. next: the same from every later place on
module _ (s : List ℕ) (i p : ℕ) (h : i < length s) (next : (j : ℕ) → i < j → stop_from s j ≡ Some p → Meets s j p)
    (e : stop_from s i ≡ Some p) (f : next_is 34 (drop p s) ≡ false) where
  by_slash : (b : Bool) → next_is 34 (drop i s) ≡ false → escape_of (drop i s) ≡ None → next_is 92 (drop i s) ≡ b → Meets s i p
  by_slash true q w b =
      let x : get_or s i 0 ≡ 92 = is_at s i 92 b in
      let y : stop_from s i ≡ Some i = inside_bad s i h x (not_at s i 34 h q) w in
      let z : p ≡ i = cc in
      rw z (here (record { backslash = b; plain = w }))
  by_slash false q w b = past_byte q b (next (i + 1) (omega arith) (sym (inside_byte s i h (not_at s i 34 h q) (not_at s i 92 h b)) ∙ e))

  by_escape : (r : Option (ℕ × ℕ)) → next_is 34 (drop i s) ≡ false → escape_of (drop i s) ≡ r → Meets s i p
  by_escape (Some (c, n)) q w = past_escape w (next (i + n) (omega (arith, (meant (drop i s) c n w).two)) (sym (inside_escape s i h c n (not_at s i 34 h q) w) ∙ e))
  by_escape None q w = by_slash (next_is 92 (drop i s)) q w refl

  by_quote : (b : Bool) → next_is 34 (drop i s) ≡ b → Meets s i p
  by_quote true q =
      let y : stop_from s i ≡ Some i = inside_quote s i h (is_at s i 34 q) in
      let x : p ≡ i = cc in
      let w : next_is 34 (drop p s) ≡ true = rw x q in
      let z : ◌≡◌ {A = ℕ} 0 1 = cc in
      absurd (omega arith)
  by_quote false q = by_escape (escape_of (drop i s)) q refl

not_ended : (s : List ℕ) (i p : ℕ) → length s ≤ i → stop_from s i ≡ Some p → ⊥
not_ended s i p h e =
    let y : stop_from s i ≡ None = sought_end inside_look s i h in
    let z : ◌≡◌ {A = ℕ} 0 1 = cc in
    absurd (omega arith)

by_place : (s : List ℕ) (i p : ℕ) → (i < length s) ⊎ (length s ≤ i) → ((j : ℕ) → i < j → stop_from s j ≡ Some p → Meets s j p)
    → stop_from s i ≡ Some p → next_is 34 (drop p s) ≡ false → Meets s i p
by_place s i p (inl h) next e f = by_quote s i p h next e f (next_is 34 (drop i s)) refl
by_place s i p (inr h) next e f = absurd (not_ended s i p h e)

-- k bounds the bytes left
walk : (s : List ℕ) (k i p : ℕ) → length s ≤ i + k → stop_from s i ≡ Some p → next_is 34 (drop p s) ≡ false → Meets s i p
walk s zero i p l e f = absurd (not_ended s i p (omega arith) e)
walk s (suc k) i p l e f = by_place s i p (lt_or_ge i (length s)) (λ j m w. walk s k j p (omega arith) w f) e f

-- ---- tokens: no token is told where it begins, or has a bad escape there

module _ (s : List ℕ) (f : ℕ) where
  abbrev Out : Token → Type 0
  Out (Token.Found k a b) = Unit {0}
  Out Token.End = Unit {0}
  Out (Token.NoToken n) = (n ≡ 0) ⊎ BadEscape s f (f + n)

  string_by_lem : (kind k : ℕ) → ((p : ℕ) → Meets s (f + k) p → BadEscape s f p) → (r : Option ℕ) → sought inside_look 0 (drop (f + k) s) ≡ r → Out (string_by kind k (drop (f + k) s) r)
  string_by_lem kind k make None e = inl refl
  string_by_lem kind k make (Some n) e =
      let d : drop n (drop (f + k) s) ≡ drop ((f + k) + n) s = drop-drop n (f + k) s in
      let z : (f + k) + n ≡ f + (k + n) = omega arith in
      choose_by Out (next_is 34 (drop n (drop (f + k) s))) _ _ (λ q. tt)
      (λ q. inr (rw (sym z) (make ((f + k) + n) (walk s (length s) (f + k) ((f + k) + n) (omega arith) (ap (later (f + k)) e) (ap (next_is 34) (sym d) ∙ q)))))

  string_out : (kind k : ℕ) → ((p : ℕ) → Meets s (f + k) p → BadEscape s f p) → Out (string_of kind k (drop (f + k) s))
  unfolding string_of
  string_out kind k make = string_by_lem kind k make (sought inside_look 0 (drop (f + k) s)) refl

  insens_out : next_is 94 (drop f s) ≡ true → Out (insens_token (drop (f + 1) s))
  unfolding insens_token
  insens_out o = choose_by Out (next_is 34 (drop (f + 1) s)) _ _ (λ q. rw (drop_next s f) (string_out 24 2 (λ p m. in_insens o q m))) (λ q. inl refl)

  quoted_out : (n : ℕ) (xs : List ℕ) → Out (quoted n xs)
  unfolding quoted
  quoted_out n xs = choose_by Out (next_is 39 (drop n xs)) _ _ (λ q. tt) (λ q. inl refl)

  escaped_out : next_is 39 (drop f s) ≡ true → next_is 92 (drop (f + 1) s) ≡ true → (r : Option (ℕ × ℕ)) → escape_of (drop (f + 1) s) ≡ r → Out (escaped_by (drop (f + 1) s) r)
  escaped_out o b None e = inr (in_character o (record { backslash = b; plain = e }))
  escaped_out o b (Some (c, n)) e = quoted_out n (drop (f + 1) s)

  raw_out : (xs : List ℕ) (r : Option (ℕ × ℕ)) → Out (raw_by xs r)
  raw_out xs None = inl refl
  raw_out xs (Some (c, n)) = quoted_out n xs

  char_out : next_is 39 (drop f s) ≡ true → Out (char_token (drop (f + 1) s))
  unfolding char_token
  char_out o = choose_by Out (next_is 92 (drop (f + 1) s)) _ _ (λ b. escaped_out o b (escape_of (drop (f + 1) s)) refl) (λ b. raw_out (drop (f + 1) s) (char_of (drop (f + 1) s)))

  tag_out : (xs : List ℕ) → Out (tag_token xs)
  unfolding tag_token
  tag_out xs = choose_by Out (first starts_word xs) _ _ (λ q. tt) (λ q. inl refl)

  dots_out : (xs : List ℕ) → Out (dots_token xs)
  unfolding dots_token
  dots_out xs = choose_by Out (next_is 46 xs) _ _ (λ q. tt) (λ q. inl refl)

  minus_out : (xs : List ℕ) → Out (minus_token xs)
  unfolding minus_token
  minus_out xs = choose_by Out (ltb (zeros xs) (digit_run xs)) _ _ (λ q. tt) (λ q. inl refl)

  doc_out : (xs : List ℕ) → Out (doc_token xs)
  unfolding doc_token
  doc_out xs =
      choose_by Out (next_is 47 xs) _ _
      (λ q. choose_by Out (next_is 33 (drop 1 xs)) _ _ (λ r. tt) (λ r. choose_by Out (next_is 47 (drop 1 xs)) _ _ (λ t. tt) (λ t. inl refl)))
      (λ q. inl refl)

  word_out : (xs : List ℕ) → Out (word_token xs)
  unfolding word_token
  word_out xs = choose_by Out (allowed (words xs) xs) _ _ (λ q. tt) (λ q. inl refl)

  number_out : (xs : List ℕ) → Out (number_token xs)
  unfolding number_token
  number_out xs = tt

  module _ (h : f < length s) where
    begins_with : (b : ℕ) → eqb (get_or s f 0) b ≡ true → next_is b (drop f s) ≡ true
    begins_with b e = next_at s f h b (eqb-true (get_or s f 0) b e)

    opener_out : Out (opener_token (get_or s f 0) (drop (f + 1) s))
    unfolding opener_token
    opener_out =
        let x = get_or s f 0 in
        let xs = drop (f + 1) s in
        choose_by Out (eqb x 34) _ _ (λ e. string_out 23 1 (λ p m. in_string (begins_with 34 e) m))
        (λ n. choose_by Out (eqb x 39) _ _ (λ e. char_out (begins_with 39 e))
        (λ n. choose_by Out (eqb x 94) _ _ (λ e. insens_out (begins_with 94 e))
        (λ n. choose_by Out (eqb x 35) _ _ (λ e. tag_out xs)
        (λ n. choose_by Out (eqb x 46) _ _ (λ e. dots_out xs)
        (λ n. choose_by Out (eqb x 47) _ _ (λ e. doc_out xs) (λ n. choose_by Out (eqb x 45) _ _ (λ e. minus_out xs) (λ n. inl refl)))))))

    first_out : Out (first_token (drop f s))
    unfolding token_by
    first_out =
        let x = get_or s f 0 in
        let xs = drop (f + 1) s in
        rw (at_byte s f h)
        (choose_by Out (eqb (class_of x) 2) _ _ (λ e. word_out (x ∷ xs))
        (λ n. choose_by Out (eqb (class_of x) 3) _ _ (λ e. number_out (x ∷ xs))
        (λ n. choose_by Out (eqb (class_of x) 4) _ _ (λ e. tt) (λ n. choose_by Out (eqb (class_of x) 5) _ _ (λ e. opener_out) (λ n. inl refl)))))

  out_place : (r : Token) (p : ℕ) → Out r → moved f r ≡ Token.NoToken p → BadEscape s f p ⊎ (p ≡ f)
  out_place (Token.NoToken n) p (inl z) e = let q : f + n ≡ p = cc in inr (omega arith)
  out_place (Token.NoToken n) p (inr w) e = let q : p ≡ f + n = cc in inl (rw q w)
  out_place (Token.Found k a b) p o e = let z : ◌≡◌ {A = ℕ} 0 1 = cc in absurd (omega arith)
  out_place Token.End p o e = let z : ◌≡◌ {A = ℕ} 0 1 = cc in absurd (omega arith)

-- ---- a bad escape is told

module _ (s : List ℕ) (f : ℕ) where
  opened : (b : ℕ) → next_is b (drop f s) ≡ true → class_of b ≡ 5 → first_token (drop f s) ≡ opener_token b (drop (f + 1) s)
  unfolding token_by
  opened b o c = rw (at_byte s f (some_next b f s o), is_at s f b o, c)

  met_string : (kind k p : ℕ) → Meets s (f + k) p → moved f (string_of kind k (drop (f + k) s)) ≡ Token.NoToken p
  met_string kind k p m = sym (string_bad s f k p (meets_stop s (f + k) p m) kind (λ q. absurd (stray_other p (meets_stray (f + k) p m) q)))
    where
      meets_stray : (i p : ℕ) → Meets s i p → Stray s p
      meets_stray i p (here w) = w
      meets_stray i p (past_byte q b m) = meets_stray (i + 1) p m
      meets_stray i p (past_escape {n = n} e m) = meets_stray (i + n) p m

      stray_other : (p : ℕ) → Stray s p → get_or s p 0 ≡ 34 → ⊥
      stray_other p w q = let z : get_or s p 0 ≡ 92 = is_at s p 92 w.backslash in omega arith

  told_first : (p : ℕ) → BadEscape s f p → moved f (first_token (drop f s)) ≡ Token.NoToken p
  unfolding opener_token insens_token class_of
  told_first p (in_string o m) = ap (moved f) (opened 34 o refl) ∙ met_string 23 1 p m
  told_first p (in_insens o q m) = ap (moved f) (opened 94 o refl) ∙ rw (q, drop_next s f) (met_string 24 2 p m)
  told_first p (in_character o w) = ap (moved f) (opened 39 o refl) ∙ sym (char_bad f (drop (f + 1) s) w.backslash w.plain)

  beyond : (p : ℕ) → BadEscape s f p → f < p
  beyond p (in_string o m) = omega (arith, (meets_in s (f + 1) p m).0)
  beyond p (in_insens o q m) = omega (arith, (meets_in s (f + 2) p m).0)
  beyond p (in_character o w) = omega arith

-- ---- from any place on

module _ (s : List ℕ) (at : ℕ) where
  -- what begins at f past the blanks, and has a bad escape, is refused there
  pub escape_told : (f p : ℕ) → later at (sought blank_of 0 (drop at s)) ≡ Some f → BadEscape s f p → token_at s at ≡ Token.NoToken p
  escape_told f p e w = landed_is s at ∙ ap (landed s) e ∙ told_first s f p w

  place_by : (p : ℕ) (r : Option ℕ) → later at (sought blank_of 0 (drop at s)) ≡ r → landed s r ≡ Token.NoToken p → FaultFrom s at p
  place_by p None e t = let z : ◌≡◌ {A = ℕ} 0 1 = cc in absurd (omega arith)
  place_by p (Some f) e t = (f, e, either (out_place s f (first_token (drop f s)) p (first_out s f h) t))
    where
      h : f < length s
      h = let (n, q, z, l) = stop_at blank_of s at f e in omega (arith, length-drop at s)

      either : BadEscape s f p ⊎ (p ≡ f) → FaultAt s f p
      either (inl w) = inl w
      either (inr z) = inr (z, λ q w. let y : moved f (first_token (drop f s)) ≡ Token.NoToken q = told_first s f q w in let x : p ≡ q = cc in omega (arith, beyond s f q w))

  -- where there is no token: it begins past the blanks, and the place is its bad escape's or its own
  pub fault_place : (p : ℕ) → token_at s at ≡ Token.NoToken p → FaultFrom s at p
  fault_place p e = place_by p (later at (sought blank_of 0 (drop at s))) refl (sym (landed_is s at) ∙ e)

  none_listed : (n p : ℕ) (r : Token) → listed_by n r ≡ NoToken p → r ≡ Token.NoToken p
  none_listed n p (Token.Found k a b) e = let z : ◌≡◌ {A = ℕ} 0 1 = cc in absurd (omega arith)
  none_listed n p Token.End e = let z : ◌≡◌ {A = ℕ} 0 1 = cc in absurd (omega arith)
  none_listed n p (Token.NoToken q) e = let z : q ≡ p = cc in rw z

  none_checked : (p : ℕ) (r : Option ℕ) → checked_by r (λ u. listed_by (length s) (token_at s at)) ≡ NoToken p → token_at s at ≡ Token.NoToken p
  none_checked p None e = none_listed (length s) p (token_at s at) e
  none_checked p (Some q) e = let z : ◌≡◌ {A = ℕ} 0 1 = cc in absurd (omega arith)

  -- the same of the lister's 3
  pub lister_place : (p : ℕ) → next_of s at ≡ NoToken p → FaultFrom s at p
  unfolding next_of
  lister_place p =
      choose_by (λ (x : Listed). x ≡ NoToken p → FaultFrom s at p) (ltb max_text (length s)) (λ u. TooLong) _
      (λ l e.
      let z : ◌≡◌ {A = ℕ} 0 1 = cc in
      absurd (omega arith)) (λ l e. fault_place p (none_checked p (first_bad s) e))

-- and of the first 3 of a text
pub text_place : (s : List ℕ) (p : ℕ) → (tokens_of s).fault ≡ Some p → FaultFrom s (past_last s) p
text_place s p e = fault_place s (past_last s) p (ended s ∙ ap ended_by e)
