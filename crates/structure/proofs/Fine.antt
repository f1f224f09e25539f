-- What is read is fine: of a text of UTF-8 whose literals mean characters, as they do where no value is at fault, every rule that is read passes the check of tables.
-- By descent: a call hands on what is fine if what it was handed is (`Given`). No leaf but a word, a string and a range can be at fault.
use Rattle.std.specs.Prelude.{ℕ, Option, Some, None}
use Prim.Native.Nat.{ℕ, ◌+◌, ◌-◌}
use mathlib.Core.Path.{◌≡◌, refl, ap, ◌∙◌}
use mathlib.Core.Bool.{Bool, true, false, not}
use mathlib.Core.List.{List, ◌∷◌}
use native.Mathlib.Omega.{arith}
use lib.Dec.{leb}
use Rattle.text.specs.Booleans.{and, or}
use Rattle.text.specs.Words.{is_word, begins, push, word_of}
use Rattle.text.specs.Utf8.{scalar, char_of, first_bad}
use Rattle.text.specs.Scans.{sought}
use Rattle.text.proofs.Booleans.{and_both, and_true, choose_by, or_by, or_first, or_second, split}
use Rattle.text.proofs.Decodes.{decoded}
use Rattle.text.proofs.Walks.{later_zero}
use Rattle.literal.specs.Escapes.{escape_of, escape_look, bad_escape}
use Rattle.literal.proofs.Escaped.{meant, good_scalar}
use Rattle.literal.proofs.Meanings.{unescaped_utf8}
use Rattle.token.specs.Table.{start, end, is, word, label}
use Rattle.table.specs.Tree.{Span, Tree, leaf, one, two, Rule, placed, starts_at, ends_at}
use Rattle.table.specs.Check.{is_through, is_utf8, is_label, fine, fine_rule, fine_rules}
use Rattle.table.specs.Check as Check
use Rattle.table.specs.declared.Join.TheVariants.{Seq}
use Rattle.structure.specs.declared.Edition.{Edition}
use Rattle.structure.specs.declared.Level.{Level}
use Rattle.structure.specs.declared.Level.TheVariants.{Tagged, Plain}
use Rattle.structure.specs.Tokens.{spells}
use Rattle.structure.specs.Values.{is_integer, literal_bytes, string, raw_char, char_by, character, faults}
use Rattle.structure.specs.Held.{single, bytes, value_by}
use Rattle.structure.specs.Structure.{Parsed, got, join, closed, prefixed, postfixed, in_tag, postfix_at, slice_to, slice, Call, expr, term, signed, node, chain, posts, body, Run, silent, mark_at, rules, grammar}
use Rattle.structure.proofs.Steps.{inside_is, next_got, want_got, opened_got, posts_by_lem}
use Rattle.structure.proofs.Descent.{descent}
use Rattle.structure.proofs.Cases.{LeafRead, literal, sliced, ident, str, insens, ranges, leaf_read, RuleRead}
use Rattle.structure.proofs.Ruled.{all_rules}
use Rattle.structure.proofs.Held.{value_is}
use Rattle.structure.proofs.Judged.{sound_right}
use Rattle.structure.proofs.Spelled.{word_spelled, no_push, label_spelled, string_inside, insens_inside}

-- every literal of a text means characters
abbrev pub Characters : List ℕ → Type 0
Characters s = (i : ℕ) → or (is s i 23) (or (is s i 24) (is s i 25)) ≡ true → bad_escape (literal_bytes s i) ≡ None

-- as where no value is at fault
pub sound_characters : (edition : Edition) (level : Level) (s : List ℕ) → faults edition level s ≡ None → Characters s
unfolding value_by
sound_characters edition level s e i d =
    or_by (is s i 23) _ d (λ a. sound_right edition level s e i (inside_is s i 23 (omega arith) a) (bytes (string s i)) (value_is s i 23 a))
    (λ b. or_by (is s i 24) _ b (λ a. sound_right edition level s e i (inside_is s i 24 (omega arith) a) (bytes (string s i)) (value_is s i 24 a))
    (λ a. sound_right edition level s e i (inside_is s i 25 (omega arith) a) (single (character s i)) (value_is s i 25 a)))

-- ---- texts and characters

utf8_fine : (b : List ℕ) → first_bad b ≡ None → is_utf8 b ≡ true
unfolding is_utf8
utf8_fine b e = ap is_through e

name_fine : (b : List ℕ) → is_word b ≡ true → begins push b ≡ false → Check.is_name b ≡ true
unfolding Check.is_name word_of
name_fine b w p = rw (w, p)

label_fine : (b : List ℕ) → is_word b ≡ true → is_label b ≡ true
unfolding is_label word_of
label_fine b w = rw w (choose_by (λ x. Check.may_tag x ≡ true) (begins push b) _ _ (λ e. refl) (λ e. refl))

raw_scalar : (xs : List ℕ) (r : Option (ℕ × ℕ)) → char_of xs ≡ r → scalar (raw_char r) ≡ true
unfolding scalar
raw_scalar xs (Some (c, n)) e = (decoded xs c n e).good
raw_scalar xs None e = refl

char_scalar : (xs : List ℕ) (r : Option (ℕ × ℕ)) → bad_escape xs ≡ None → escape_of xs ≡ r → scalar (char_by r xs) ≡ true
unfolding bad_escape
char_scalar xs (Some (c, n)) b e =
    let m = meant xs c n e in
    good_scalar xs 0 (omega (arith, m.two, m.inside)) c n (later_zero (sought escape_look 0 xs) ∙ b) e
char_scalar xs None b e = raw_scalar xs (char_of xs) refl

-- ---- trees

fine_placed : (p : Span) (t : Tree Span) → fine (placed p t) ≡ fine t
unfolding fine
fine_placed p (leaf s a) = refl
fine_placed p (one s o t) = refl
fine_placed p (two s j a b) = refl

fine_closed : (c : Option (Tree Span)) (l r : Tree Span) → fine (closed c l) ≡ true → fine r ≡ true → fine (closed c (join Seq l r)) ≡ true
unfolding fine closed join
fine_closed None l r g h = and_both (fine l) (fine r) g h
fine_closed (Some c) l r g h =
    let (a, b) = and_true (fine c) (fine l) g in
    and_both (fine c) (and (fine l) (fine r)) a (and_both (fine l) (fine r) b h)

fine_tag : (level : Level) (a : ℕ) (b : List ℕ) (t : Tree Span) → is_label b ≡ true → fine t ≡ true → fine (in_tag level a b t) ≡ true
unfolding fine in_tag prefixed
fine_tag Tagged a b t l h = and_both (is_label b) (fine t) l h
fine_tag Plain a b t l h = h

fine_got : {x t : Tree Span} {i n : ℕ} → got x i ≡ got t n → fine x ≡ true → fine t ≡ true
fine_got {x} {t} e h = let z : x ≡ t = cc in rw z at h

module _ (s : List ℕ) (u : first_bad s ≡ None) (scalars : Characters s) where
  string_fine : (i : ℕ) → is s i 23 ≡ true → is_utf8 (string s i) ≡ true
  unfolding string
  string_fine i e = utf8_fine _ (unescaped_utf8 (literal_bytes s i) (string_inside s i u e) (scalars i (or_first (is s i 23) (or (is s i 24) (is s i 25)) e)))

  insens_fine : (i : ℕ) → is s i 24 ≡ true → is_utf8 (string s i) ≡ true
  unfolding string
  insens_fine i e = utf8_fine _ (unescaped_utf8 (literal_bytes s i) (insens_inside s i u e) (scalars i (or_second (is s i 23) (or (is s i 24) (is s i 25)) (or_first (is s i 24) (is s i 25) e))))

  character_fine : (i : ℕ) → is s i 25 ≡ true → scalar (character s i) ≡ true
  unfolding character
  character_fine i e =
      char_scalar (literal_bytes s i) (escape_of (literal_bytes s i)) (scalars i (or_second (is s i 23) (or (is s i 24) (is s i 25)) (or_second (is s i 24) (is s i 25) e))) refl

  -- ---- leaves

  module _ {t : Tree Span} {n : ℕ} where
    fine_slice_to : (at from i : ℕ) → slice_to s at from i ≡ got t n → fine t ≡ true
    unfolding slice_to fine
    fine_slice_to at from i =
        split (is_integer s i) _ _ (λ v e. fine_got (want_got s (i + 1) 5 _ (omega arith) e).2 refl) (λ v e. fine_got (want_got s i 5 _ (omega arith) e).2 refl)

    fine_slice : (at i : ℕ) → slice s at i ≡ got t n → fine t ≡ true
    unfolding slice
    fine_slice at i =
        split (is_integer s i) _ _ (λ v e. fine_slice_to at _ _ (want_got s (i + 1) 22 _ (omega arith) e).2) (λ v e. fine_slice_to at _ _ (want_got s i 22 _ (omega arith) e).2)

    fine_leaf : (o at : ℕ) → spells push s at ≡ false → LeafRead o s at t n → fine t ≡ true
    unfolding fine
    fine_leaf o at p (literal a b c d f e z) = rw e (string_fine (at + 1 + 1) d)
    fine_leaf o at p (sliced a b e) = fine_slice at (at + 2) e
    fine_leaf o at p (ident a b c e z) = rw e (name_fine (word s at) (word_spelled s at c) (no_push s at c p a))
    fine_leaf o at p (str a b e z) = rw e (string_fine at b)
    fine_leaf o at p (insens a b c e z) = rw e (insens_fine at c)
    fine_leaf o at p (ranges a b c d f g e z) =
        rw e (and_both (scalar (character s at)) (scalar (character s (at + 1 + 1))) (character_fine at d) (character_fine (at + 1 + 1) g))

  -- ---- calls

  abbrev Given : Call → Type 0
  Given (expr o at) = Unit {0}
  Given (chain o c l at) = fine (closed c l) ≡ true
  Given (term o at) = Unit {0}
  Given (signed o at) = Unit {0}
  Given (node o at) = Unit {0}
  Given (posts t at) = fine t ≡ true

  abbrev Hands : Call → Tree Span → ℕ → Type 0
  Hands c t n = Given c → fine t ≡ true

  module _ (level : Level) where
    step : (go : Call → Parsed) → ((c : Call) (t : Tree Span) (n : ℕ) → go c ≡ got t n → Hands c t n) → (c : Call) (t : Tree Span) (n : ℕ) → body level s go c ≡ got t n → Hands c t n
    unfolding body fine closed join prefixed postfixed starts_at ends_at
    step go h (expr o at) t n e g =
        let (x, i, p, q) = next_got (go (term o at)) _ e in
        h (chain o None x i) t n q (h (term o at) x i p tt)
    step go h (chain o c l at) t n e g =
        split (is s at 10) _ _
        (λ v w. let (x, i, p, q) = next_got (go (term o (at + 1))) _ w in h (chain o c (join Seq l x) i) t n q (fine_closed c l x g (h (term o (at + 1)) x i p tt)))
        (λ v. split (is s at 11) _ _
        (λ v w. let (x, i, p, q) = next_got (go (term o (at + 1))) _ w in h (chain o (Some (closed c l)) x i) t n q (and_both (fine (closed c l)) (fine x) g (h (term o (at + 1)) x i p tt)))
        (λ v w. fine_got w g)) e
    step go h (term o at) t n e g =
        split (is s at 19) _ _
        (λ v w.
        let (v₁, l₁, e₁) = want_got s (at + 1) 1 _ (omega arith) w in
        let (x, i, p, q) = next_got (go (signed o (at + 1 + 1))) _ e₁ in
        fine_got q (fine_tag level (start s at) (label s at) x (label_fine (label s at) (label_spelled s at v)) (h (signed o (at + 1 + 1)) x i p tt)))
        (λ v w. h (signed o at) t n w tt) e
    step go h (signed o at) t n e g =
        split (is s at 8) _ _ (λ v w. let (x, i, p, q) = next_got (go (signed o (at + 1))) _ w in fine_got q (h (signed o (at + 1)) x i p tt))
        (λ v. split (is s at 9) _ _ (λ v w. let (x, i, p, q) = next_got (go (signed o (at + 1))) _ w in fine_got q (h (signed o (at + 1)) x i p tt))
        (λ v w.
        let (x, i, p, q) = next_got (go (node o at)) _ w in
        let (y, j, p₁, q₁) = next_got (go (posts x i)) _ q in
        let f : fine y ≡ true = h (posts x i) y j p₁ (h (node o at) x i p tt) in
        fine_got q₁ (choose_by (λ (z : Tree Span). fine z ≡ true) (is s at 6) _ _ (λ b. fine_placed _ y ∙ f) (λ b. f)))) e
    step go h (node o at) t n e g =
        split (is s at 6) _ _
        (λ v w.
        let (v₁, e₁) = opened_got o s at _ w in
        let (x, i, p, q) = next_got (go (expr (o + 1) (at + 1))) _ e₁ in
        fine_got (want_got s i 7 _ (omega arith) q).2 (fine_placed _ x ∙ h (expr (o + 1) (at + 1)) x i p tt))
        (λ v. split (spells push s at) _ _
        (λ v w.
        let (v₁, l₁, e₁) = want_got s (at + 1) 6 _ (omega arith) w in
        let (v₂, e₂) = opened_got o s (at + 1) _ e₁ in
        let (x, i, p, q) = next_got (go (expr (o + 1) (at + 1 + 1))) _ e₂ in
        fine_got (want_got s i 7 _ (omega arith) q).2 (h (expr (o + 1) (at + 1 + 1)) x i p tt))
        (λ v w. fine_leaf o at v (leaf_read o s at w))) e
    step go h (posts x at) t n e g =
        posts_by_lem (postfix_at s at) _ _ (λ v m p q. h (posts (postfixed (end s (m - 1)) v x) m) t n q g) (λ p q. fine_got q g) e

    tree_fine : (o at : ℕ) (t : Tree Span) (n : ℕ) → Run level s (expr o at) ≡ got t n → fine t ≡ true
    tree_fine o at t n e = descent level s Hands step (expr o at) t n e tt

    -- ---- rules

    mark_fine : (i : ℕ) → leb (mark_at s i) 4 ≡ true
    unfolding mark_at
    mark_fine i =
        let P : ℕ → Type 0 = λ (m : ℕ). leb m 4 ≡ true in
        choose_by P (spells silent s i) _ _ (λ e. refl)
        (λ e. choose_by P (is s i 16) _ _ (λ e. refl) (λ e. choose_by P (is s i 17) _ _ (λ e. refl) (λ e. choose_by P (is s i 9) _ _ (λ e. refl) (λ e. refl))))

    not_true : (b : Bool) → not b ≡ true → b ≡ false
    not_true false e = refl
    not_true true e = let z : ◌≡◌ {A = ℕ} 0 1 = cc in absurd (omega arith)

    more_fine : (at : ℕ) (r : Rule Span) (n : ℕ) (us : List (Rule Span)) → RuleRead level s at r n → fine_rules us ≡ true → fine_rules (r ∷ us) ≡ true
    unfolding fine_rules fine_rule
    more_fine at r n us p h =
        let (a, b) = and_true (is s at 18) (not (begins push (word s at))) p.named in
        let f : fine_rule r ≡ true =
        ap fine_rule p.rule ∙ and_both _ _ (name_fine (word s at) (word_spelled s at a) (not_true _ b)) (and_both _ _ (mark_fine (at + 1 + 1)) (tree_fine 0 _ p.body p.past p.read)) in
        and_both (fine_rule r) (fine_rules us) f h

    grammar_fine : (us : List (Rule Span)) → grammar level s ≡ rules us → fine_rules us ≡ true
    unfolding fine_rules
    grammar_fine us e = all_rules level s (λ at us. fine_rules us ≡ true) (λ at. refl) (λ at us h. h) more_fine us e

-- of a text of UTF-8 whose values are sound
pub sound_fine : (edition : Edition) (level : Level) (s : List ℕ) (us : List (Rule Span)) → first_bad s ≡ None → grammar level s ≡ rules us → faults edition level s ≡ None → fine_rules us ≡ true
sound_fine edition level s us u e f = grammar_fine s u (sound_characters edition level s f) level us e
