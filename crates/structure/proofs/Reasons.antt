-- Why a text is refused, phase by phase: by structure for what isn't allowed or too deep, by values for the five that a token alone shows.
-- Each definition hands a refusal on as it is, so that the reason is that of where it was made.
use Rattle.std.specs.Prelude.{ℕ, Option, Some, None, Result, Ok, Err}
use Prim.Native.Nat.{ℕ, zero, suc, ◌+◌}
use mathlib.Core.Path.{◌≡◌, refl}
use mathlib.Core.Logic.{◌⊎◌, inl, inr}
use mathlib.Core.List.{List}
use lib.Dec.{leb, eqb}
use lib.ListN.{length}
use Rattle.text.specs.Booleans.{or}
use Rattle.text.specs.Digits.{decimal_of}
use Rattle.text.specs.Words.{push}
use Rattle.text.specs.declared.DecimalError.{DecimalError}
use Rattle.text.proofs.Booleans.{choose_by}
use Rattle.text.specs.Limits.{max_open}
use Rattle.literal.specs.Escapes.{bad_escape}
use Rattle.token.specs.Table.{toks, start, kind, is, word}
use Rattle.token.specs.Tokens.{push_literal}
use Rattle.table.specs.Tree.{Span, Tree, Rule}
use Rattle.table.specs.declared.Unary.{Unary}
use Rattle.structure.specs.declared.Edition.{Edition}
use Rattle.structure.specs.declared.Edition.TheVariants.{First, Second}
use Rattle.structure.specs.declared.Level.{Level}
use Rattle.structure.specs.declared.Level.TheVariants.{Tagged, Plain}
use Rattle.structure.specs.declared.Why.{Why}
use Rattle.structure.specs.declared.Why.TheVariants.{NotAllowed, TooDeep, Over, Zero, PeekRange, NotScalar, NotPlain, Above}
use Rattle.structure.specs.declared.Refusal.{Refusal}
use Rattle.structure.specs.Refusals.{because}
use Rattle.structure.specs.Tokens.{spells}
use Rattle.structure.specs.Values.{is_integer, integer_of, literal_bytes, exceeds, above_fault, repeat_fault, peek_fault, literal_fault, word_fault, fault_at, or_fault, faults_from, faults}
use Rattle.structure.specs.Structure.{Parsed, got, refused, next, want, opened, Postfix, post, not_post, no_post, from_number, from_comma, postfix_at, slice_to, slice, pushed, ranged, slices, leaf_at, posts_by, Call, expr, term, signed, node, chain, posts, body, run, Run, is_name, past_mark, Ruled, rules, unruled, with_rule, Ruling, ruling, no_rule, rule_of, then_rules, rule_from, rules_up_to, docs, grammar}

-- ---- structure: 4 and 9

abbrev pub OfStructure : Why → Type 0
OfStructure w = (w ≡ NotAllowed) ⊎ (w ≡ TooDeep)

abbrev Read : Parsed → Type 0
Read (got t n) = Unit {0}
Read (refused r) = OfStructure r.why

abbrev After : Postfix → Type 0
After (post v n) = Unit {0}
After (not_post r) = OfStructure r.why
After no_post = Unit {0}

want_by : {A : Type 0} (P : A → Type 0) (fail : Refusal → A) (s : List ℕ) (i k : ℕ) (f : ℕ → A) → P (fail (because NotAllowed (start s i))) → P (f (i + 1)) → P (want fail s i k f)
unfolding want
want_by P fail s i k f x y = choose_by P (is s i k) _ _ (λ e. y) (λ e. x)

module _ (s : List ℕ) where
  read_want : (i k : ℕ) (f : ℕ → Parsed) → Read (f (i + 1)) → Read (want refused s i k f)
  read_want i k f = want_by Read refused s i k f (inl refl)

  read_opened : (o i : ℕ) (f : Unit {0} → Parsed) → Read (f tt) → Read (opened o s i f)
  unfolding opened
  read_opened o i f x = choose_by Read (leb max_open o) _ _ (λ e. inr refl) (λ e. x)

  read_next : (m : Parsed) (f : Tree Span → ℕ → Parsed) → Read m → ((t : Tree Span) (n : ℕ) → Read (f t n)) → Read (next m f)
  unfolding next
  read_next (got t n) f x y = y t n
  read_next (refused r) f x y = x

  after_want : (i k : ℕ) (f : ℕ → Postfix) → After (f (i + 1)) → After (want not_post s i k f)
  after_want i k f = want_by After not_post s i k f (inl refl)

  after_number : (i : ℕ) → After (from_number s i)
  unfolding from_number
  after_number i =
      choose_by After (is s (i + 1) 3) _ _ (λ e. tt)
      (λ e. after_want (i + 1) 15 _ (choose_by After (is s (i + 1 + 1) 3) _ _ (λ e. tt) (λ e. after_want (i + 1 + 1) 20 _ (after_want (i + 1 + 1 + 1) 3 _ tt))))

  after_comma : (i : ℕ) → After (from_comma s i)
  unfolding from_comma
  after_comma i = after_want i 15 _ (after_want (i + 1) 20 _ (after_want (i + 1 + 1) 3 _ tt))

  after_postfix : (i : ℕ) → After (postfix_at s i)
  unfolding postfix_at
  after_postfix i =
      choose_by After (is s i 12) _ _ (λ e. tt)
      (λ e. choose_by After (is s i 13) _ _ (λ e. tt)
      (λ e. choose_by After (is s i 14) _ _ (λ e. tt)
      (λ e. choose_by After (is s i 2) _ _ (λ e. choose_by After (is s (i + 1) 20) _ _ (λ e. after_number (i + 1)) (λ e. after_comma (i + 1))) (λ e. tt))))

  read_posts : (p : Postfix) (f : Unary → ℕ → Parsed) (g : Unit {0} → Parsed) → After p → ((v : Unary) (n : ℕ) → Read (f v n)) → Read (g tt) → Read (posts_by p f g)
  read_posts (post v n) f g x y z = y v n
  read_posts (not_post r) f g x y z = x
  read_posts no_post f g x y z = z

  read_slice_to : (at from i : ℕ) → Read (slice_to s at from i)
  unfolding slice_to
  read_slice_to at from i = choose_by Read (is_integer s i) _ _ (λ e. read_want (i + 1) 5 _ tt) (λ e. read_want i 5 _ tt)

  read_slice : (at i : ℕ) → Read (slice s at i)
  unfolding slice
  read_slice at i =
      choose_by Read (is_integer s i) _ _ (λ e. read_want (i + 1) 22 _ (read_slice_to at _ (i + 1 + 1))) (λ e. read_want i 22 _ (read_slice_to at 0 (i + 1)))

  read_leaf : (o at : ℕ) → Read (leaf_at o s at)
  unfolding leaf_at pushed ranged
  read_leaf o at =
      choose_by Read (spells push_literal s at) _ _
      (λ e. read_want (at + 1) 6 _ (read_opened o (at + 1) _ (read_want (at + 1 + 1) 23 _ (read_want (at + 1 + 1 + 1) 7 _ tt))))
      (λ e. choose_by Read (slices s at) _ _ (λ e. read_slice at (at + 2))
      (λ e. choose_by Read (is s at 18) _ _ (λ e. tt)
      (λ e. choose_by Read (is s at 23) _ _ (λ e. tt)
      (λ e. choose_by Read (is s at 24) _ _ (λ e. tt)
      (λ e. choose_by Read (is s at 25) _ _ (λ e. read_want (at + 1) 22 _ (read_want (at + 1 + 1) 25 _ tt)) (λ e. inl refl))))))

  module _ (level : Level) where
    read_body : (go : Call → Parsed) → ((c : Call) → Read (go c)) → (c : Call) → Read (body level s go c)
    unfolding body
    read_body go h (expr o at) = read_next (go (term o at)) _ (h _) (λ t n. h _)
    read_body go h (chain o c l at) =
        choose_by Read (is s at 10) _ _ (λ e. read_next (go (term o (at + 1))) _ (h _) (λ t n. h _))
        (λ e. choose_by Read (is s at 11) _ _ (λ e. read_next (go (term o (at + 1))) _ (h _) (λ t n. h _)) (λ e. tt))
    read_body go h (term o at) =
        choose_by Read (is s at 19) _ _ (λ e. read_want (at + 1) 1 _ (read_next (go (signed o (at + 1 + 1))) _ (h _) (λ t n. tt))) (λ e. h _)
    read_body go h (signed o at) =
        choose_by Read (is s at 8) _ _ (λ e. read_next (go (signed o (at + 1))) _ (h _) (λ t n. tt))
        (λ e. choose_by Read (is s at 9) _ _ (λ e. read_next (go (signed o (at + 1))) _ (h _) (λ t n. tt))
        (λ e. read_next (go (node o at)) _ (h _) (λ t n. read_next (go (posts t n)) _ (h _) (λ v m. tt))))
    read_body go h (node o at) =
        choose_by Read (is s at 6) _ _ (λ e. read_opened o at _ (read_next (go (expr (o + 1) (at + 1))) _ (h _) (λ t n. read_want n 7 _ tt)))
        (λ e. choose_by Read (spells push s at) _ _
        (λ e. read_want (at + 1) 6 _ (read_opened o (at + 1) _ (read_next (go (expr (o + 1) (at + 1 + 1))) _ (h _) (λ t n. read_want n 7 _ tt))))
        (λ e. read_leaf o at))
    read_body go h (posts t at) = read_posts (postfix_at s at) _ _ (after_postfix at) (λ v n. h _) tt

    read_run : (k : ℕ) (c : Call) → Read (run level s k c)
    unfolding run
    read_run zero c = inl refl
    read_run (suc k) c = read_body (run level s k) (read_run k) c

    abbrev Ruler : Ruling → Type 0
    Ruler (ruling r n) = Unit {0}
    Ruler (no_rule r) = OfStructure r.why

    abbrev Rules : Ruled → Type 0
    Rules (rules us) = Unit {0}
    Rules (unruled r) = OfStructure r.why

    rule_want : (i k : ℕ) (f : ℕ → Ruling) → Ruler (f (i + 1)) → Ruler (want no_rule s i k f)
    rule_want i k f = want_by Ruler no_rule s i k f (inl refl)

    rule_of_lem : (m : Parsed) (f : Tree Span → ℕ → Ruling) → Read m → ((t : Tree Span) (n : ℕ) → Ruler (f t n)) → Ruler (rule_of m f)
    unfolding rule_of
    rule_of_lem (got t n) f x y = y t n
    rule_of_lem (refused r) f x y = x

    rule_from_lem : (at : ℕ) → Ruler (rule_from level s at)
    unfolding rule_from Run
    rule_from_lem at =
        choose_by Ruler (is_name s at) _ _
        (λ e. rule_want (at + 1) 1 _ (rule_want (past_mark s (at + 1 + 1)) 2 _ (rule_of_lem _ _ (read_run _ _) (λ t n. rule_want n 3 _ tt)))) (λ e. inl refl)

    with_rule_lem : (r : Rule Span) (m : Ruled) → Rules m → Rules (with_rule r m)
    with_rule_lem r (rules us) x = tt
    with_rule_lem r (unruled y) x = x

    then_rules_lem : (m : Ruling) (f : Rule Span → ℕ → Ruled) → Ruler m → ((r : Rule Span) (n : ℕ) → Rules (f r n)) → Rules (then_rules m f)
    unfolding then_rules
    then_rules_lem (ruling r n) f x y = y r n
    then_rules_lem (no_rule r) f x y = x

    rules_up_to_lem : (k at : ℕ) → Rules (rules_up_to level s k at)
    unfolding rules_up_to
    rules_up_to_lem zero at = tt
    rules_up_to_lem (suc k) at =
        choose_by Rules (leb (length (toks s)) at) _ _ (λ e. tt)
        (λ e. choose_by Rules (is s at 27) _ _ (λ e. rules_up_to_lem k (at + 1))
        (λ e. then_rules_lem (rule_from level s at) _ (rule_from_lem at) (λ r n. with_rule_lem r (rules_up_to level s k n) (rules_up_to_lem k n))))

    grammar_rules : Rules (grammar level s)
    unfolding grammar
    grammar_rules = choose_by Rules (leb (length (toks s)) (docs s)) _ _ (λ e. inl refl) (λ e. rules_up_to_lem (length (toks s)) (docs s))

    pub grammar_why : (r : Refusal) → grammar level s ≡ unruled r → OfStructure r.why
    grammar_why r e = rw e at grammar_rules

-- ---- values: 5, 6, 7, 8 and 13, and 15 of the second edition

abbrev pub OfValues : Edition → Why → Type 0
OfValues edition w = (w ≡ Over) ⊎ (w ≡ Zero) ⊎ (w ≡ PeekRange) ⊎ (w ≡ NotScalar) ⊎ (w ≡ NotPlain) ⊎ ((edition ≡ Second) × (w ≡ Above))

module _ (edition : Edition) (level : Level) (s : List ℕ) where
  abbrev Valued : Option Refusal → Type 0
  Valued None = Unit {0}
  Valued (Some r) = OfValues edition r.why

  of_above : (o : Edition) → edition ≡ o → (i n : ℕ) → Valued (above_fault o s i n)
  of_above First e i n = tt
  of_above Second e i n = choose_by Valued (exceeds s i n) _ _ (λ a. inr (inr (inr (inr (inr (e, refl)))))) (λ a. tt)

  of_repeat : (i : ℕ) (d : Result ℕ DecimalError) → Valued (repeat_fault edition s i d)
  of_repeat i (Err DecimalError.NotDigits) = tt
  of_repeat i (Err DecimalError.Over) = inl refl
  of_repeat i (Ok zero) = choose_by Valued (is s (i + 1) 3) _ _ (λ e. inr (inl refl)) (λ e. tt)
  of_repeat i (Ok (suc n)) = of_above edition refl i (suc n)

  of_peek : (i : ℕ) (d : Result ℕ DecimalError) → Valued (peek_fault s i d)
  of_peek i (Ok n) = tt
  of_peek i (Err DecimalError.Over) = inr (inr (inl refl))
  of_peek i (Err DecimalError.NotDigits) = tt

  of_literal : (i : ℕ) (c : Option ℕ) → Valued (literal_fault s i c)
  of_literal i None = tt
  of_literal i (Some k) = inr (inr (inr (inl refl)))

  of_word : (l : Level) (i : ℕ) → Valued (word_fault l s i)
  of_word Tagged i = tt
  of_word Plain i = choose_by Valued (spells push_literal s i) _ _ (λ e. inr (inr (inr (inr (inl refl))))) (λ e. tt)

  of_token : (before i : ℕ) → Valued (fault_at edition level s before i)
  unfolding fault_at
  of_token before i =
      choose_by Valued (is s i 18) _ _ (λ e. of_word level i)
      (λ e. choose_by Valued (is s i 20) _ _
      (λ e. choose_by Valued (or (eqb before 4) (eqb before 22)) _ _ (λ e. of_peek i (integer_of s i)) (λ e. of_repeat i (decimal_of 4294967295 (word s i))))
      (λ e. choose_by Valued (is s i 21) _ _ (λ e. of_peek i (integer_of s i))
      (λ e. choose_by Valued (or (is s i 23) (or (is s i 24) (is s i 25))) _ _ (λ e. of_literal i (bad_escape (literal_bytes s i))) (λ e. tt))))

  of_first : (f : Option Refusal) (g : Unit {0} → Option Refusal) → Valued f → Valued (g tt) → Valued (or_fault f g)
  of_first None g x y = y
  of_first (Some r) g x y = x

  of_tokens : (n before i : ℕ) → Valued (faults_from edition level s before i n)
  unfolding faults_from
  of_tokens zero before i = tt
  of_tokens (suc n) before i = of_first (fault_at edition level s before i) _ (of_token before i) (of_tokens n (kind s i) (i + 1))

  of_text : Valued (faults edition level s)
  unfolding faults
  of_text = of_tokens (length (toks s)) 0 0

  pub faults_why : (r : Refusal) → faults edition level s ≡ Some r → OfValues edition r.why
  faults_why r e = rw e at of_text
