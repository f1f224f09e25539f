-- What was read prints, and its text is read again, unless that is too long or nests too deep: the rules of a reading are fine, their numbers are in
-- bounds, in the order that the edition asks, and they fit the limits; so they come back from their text (Round).
use Rattle.std.specs.Prelude.{None, Ok}
use Prim.Native.Nat.{ℕ, ◌≤◌, ◌<◌}
use mathlib.Core.Path.{◌≡◌, refl, sym, ap, ◌∙◌}
use mathlib.Core.Bool.{Bool, true, false}
use mathlib.Core.List.Memᴰ
use mathlib.Core.List.{List, [], ◌∷◌, ◌++◌, map, Memᴰ}
use native.Mathlib.Omega.{arith}
use lib.ListN.{length, length-map}
use borrow.Author.Tests.{leb-false}
use Rattle.text.specs.Booleans.{and}
use Rattle.text.specs.Limits.{max_nodes, max_rules, max_text, max_open}
use Rattle.text.specs.Scans.{sought}
use Rattle.text.specs.Utf8.{first_bad}
use Rattle.text.proofs.Booleans.{or_by}
use Rattle.token.specs.Tokens.{token_of, token_at}
use Rattle.token.specs.Lists.{tokens_in, tokens_from, tokens_of}
use Rattle.table.specs.declared.Unary.{Unary}
use Rattle.table.specs.declared.Unary.TheVariants.{PosPred, NegPred, Opt, Rep, RepOnce, RepExact, RepMin, RepMax, RepMinMax, Push}
use Rattle.table.specs.declared.Sort.TheVariants.{Str, Insens, Ident, PushLiteral}
use Rattle.table.specs.Tree.{Span, Atom, text, range, peek_slice, Wrap, plain, node_tag, Tree, leaf, one, two, Rule, aside, aside_rule, rules_stored}
use Rattle.table.specs.Flat.{nodes_of, records_of}
use Rattle.table.proofs.Rules.{flat_back}
use Rattle.table.proofs.Regroups.{items_aside, rules_counts, rules_fine}
use Rattle.forms.specs.declared.Style.{Style}
use Rattle.forms.specs.Printing.{printed_rules}
use Rattle.forms.proofs.Spans.{printed_rules_lem}
use Rattle.printer.specs.Answers.{table_text, room_of, print_of}
use Rattle.structure.specs.declared.Edition.{Edition}
use Rattle.structure.specs.declared.Edition.TheVariants.{First, Second}
use Rattle.structure.specs.declared.Level.{Level}
use Rattle.structure.specs.declared.Level.TheVariants.{Tagged, Plain}
use Rattle.structure.specs.Values.{faults}
use Rattle.structure.specs.declared.Why.TheVariants.{NotAllowed}
use Rattle.structure.specs.Structure.{rules, docs_in, grammar}
use Rattle.structure.specs.Held.{Value, lower, most, pushes, unary_values, wrap_values, atom_values, tree_values, rules_values}
use Rattle.structure.proofs.Judged.{each_right}
use Rattle.reader.specs.Lines.{line_in}
use Rattle.build.specs.Rules.{rules_read}
use Rattle.structure.specs.declared.Refusal.{Refusal}
use Rattle.reader.specs.Read.{refused_by, read_of, listed_of, judged_of}
use Rattle.reader.proofs.Counts.{read_counts}
use Rattle.reader.proofs.Firsts.{read_counted}
use Rattle.reader.proofs.Good.{read_fine, read_good}
use Rattle.promises.specs.Open.{most_open}
use Rattle.promises.specs.Round.{wraps_pass, rules_pass, unary_ordered, wrap_ordered, ordered_rules, Ordered, is_pushing, pushing, holds_push_literal, seen, Sayable, ReadAs, read_rules, printed_text}
use Rattle.promises.proofs.Asides.{counted_asides, ordered_asides, pushing_asides}
use Rattle.promises.proofs.Round.{rules_tagged, rules_plain}

-- ---- the plain reader reads no PUSH_LITERAL

atom_pushes : (a : Atom) → is_pushing a ≡ true → Memᴰ pushes (atom_values a)
atom_pushes (text Str b) e = let z : ◌≡◌ {A = ℕ} 0 1 = cc in absurd (omega arith)
atom_pushes (text Insens b) e = let z : ◌≡◌ {A = ℕ} 0 1 = cc in absurd (omega arith)
atom_pushes (text Ident b) e = let z : ◌≡◌ {A = ℕ} 0 1 = cc in absurd (omega arith)
atom_pushes (text PushLiteral b) e = Memᴰ.head refl
atom_pushes (range x y) e = let z : ◌≡◌ {A = ℕ} 0 1 = cc in absurd (omega arith)
atom_pushes (peek_slice x y) e = let z : ◌≡◌ {A = ℕ} 0 1 = cc in absurd (omega arith)

tree_pushes : (t : Tree Span) → pushing t ≡ true → Memᴰ pushes (tree_values t)
unfolding pushing tree_values
tree_pushes (leaf s a) e = atom_pushes a e
tree_pushes (one s o t) e = Memᴰ.append_left (wrap_values o) (tree_pushes t e)
tree_pushes (two s j a b) e =
    or_by (pushing a) (pushing b) e (λ h. Memᴰ.append_left (tree_values b) (tree_pushes a h)) (λ h. Memᴰ.append_right (tree_values a) (tree_pushes b h))

rules_push : (us : List (Rule Span)) → holds_push_literal us ≡ true → Memᴰ pushes (rules_values us)
unfolding holds_push_literal rules_values
rules_push [] e = let z : ◌≡◌ {A = ℕ} 0 1 = cc in absurd (omega arith)
rules_push (r ∷ us) e =
    or_by (pushing r.tree) (holds_push_literal us) e (λ h. Memᴰ.append_left (rules_values us) (tree_pushes r.tree h)) (λ h. Memᴰ.append_right (tree_values r.tree) (rules_push us h))

none_pushed : (edition : Edition) (s : List ℕ) (us : List (Rule Span)) → grammar Plain s ≡ rules us → faults edition Plain s ≡ None → holds_push_literal us ≡ false
none_pushed edition s us e f = go (holds_push_literal us) refl
  where
    go : (b : Bool) → holds_push_literal us ≡ b → holds_push_literal us ≡ false
    go false h = h
    go true h =
        let w : Plain ≡ Tagged = (each_right edition Plain s us e f pushes (rules_push us h)).2 in
        let z : ◌≡◌ {A = ℕ} 0 1 = cc in
        absurd (omega arith)

-- ---- the second edition reads no minimum above its maximum

-- among the values of a tree
abbrev Over : List Value → Type 0
Over vs = (n : ℕ) × (m : ℕ) × (m < n) × Memᴰ (lower n m) vs × Memᴰ (most m) vs

over_left : (ws : List Value) {vs : List Value} → Over vs → Over (vs ++ ws)
over_left ws (n, m, l, a, b) = (n, m, l, Memᴰ.append_left ws a, Memᴰ.append_left ws b)

over_right : (vs : List Value) {ws : List Value} → Over ws → Over (vs ++ ws)
over_right vs (n, m, l, a, b) = (n, m, l, Memᴰ.append_right vs a, Memᴰ.append_right vs b)

-- one of two tests fails
and_by : {A : Type 0} (x y : Bool) → and x y ≡ false → (x ≡ false → A) → (y ≡ false → A) → A
and_by true y e f g = g e
and_by false y e f g = f refl

no_test : {A : Type 0} → ◌≡◌ {A = Bool} true false → A
no_test e = let z : ◌≡◌ {A = ℕ} 0 1 = cc in absurd (omega arith)

unary_over_lem : (u : Unary) → unary_ordered u ≡ false → Over (unary_values u)
unary_over_lem PosPred e = no_test e
unary_over_lem NegPred e = no_test e
unary_over_lem Opt e = no_test e
unary_over_lem Rep e = no_test e
unary_over_lem RepOnce e = no_test e
unary_over_lem (RepExact n) e = no_test e
unary_over_lem (RepMin n) e = no_test e
unary_over_lem (RepMax n) e = no_test e
unary_over_lem (RepMinMax n m) e = (n, m, leb-false n m e, Memᴰ.head refl, Memᴰ.append_right (lower n m ∷ []) (Memᴰ.head refl))
unary_over_lem Push e = no_test e

wrap_over : (o : Wrap) → wrap_ordered o ≡ false → Over (wrap_values o)
wrap_over (plain u) e = unary_over_lem u e
wrap_over (node_tag b) e = no_test e

tree_over : (t : Tree Span) → wraps_pass wrap_ordered t ≡ false → Over (tree_values t)
unfolding wraps_pass tree_values
tree_over (leaf s a) e = no_test e
tree_over (one s o t) e = and_by (wrap_ordered o) _ e (λ h. over_right (tree_values t) (wrap_over o h)) (λ h. over_left (wrap_values o) (tree_over t h))
tree_over (two s j a b) e = and_by (wraps_pass wrap_ordered a) _ e (λ h. over_left (tree_values b) (tree_over a h)) (λ h. over_right (tree_values a) (tree_over b h))

rules_over : (us : List (Rule Span)) → ordered_rules us ≡ false → Over (rules_values us)
unfolding rules_pass rules_values
rules_over [] e = no_test e
rules_over (r ∷ us) e =
    and_by (wraps_pass wrap_ordered r.tree) _ e (λ h. over_left (rules_values us) (tree_over r.tree h)) (λ h. over_right (tree_values r.tree) (rules_over us h))

ordered_by : (edition : Edition) (level : Level) (s : List ℕ) (us : List (Rule Span)) → grammar level s ≡ rules us → faults edition level s ≡ None → Ordered edition us
ordered_by First level s us e f = tt
ordered_by Second level s us e f = go (ordered_rules us) refl
  where
    go : (b : Bool) → ordered_rules us ≡ b → ordered_rules us ≡ true
    go true h = h
    go false h =
        let (n, m, l, a, b) = rules_over us h in
        let p = (each_right Second level s us e f (lower n m) a).2.1 in
        let q = (each_right Second level s us e f (most m) b).2.1 in
        absurd (omega (arith, p refl q))

-- ---- texts

is_printed : (v : Style) (level : Level) (s : List ℕ) → printed_rules v (read_rules level s) ≡ printed_text v level s
unfolding table_text
is_printed v level s = printed_rules_lem v (rules_read level s) ∙ sym (ap (printed_rules v) (flat_back (line_in s) (rules_read level s)))

no_rules : (us : List (Rule Span)) → length us ≡ 0 → us ≡ []
no_rules [] e = refl
no_rules (r ∷ us) e = absurd (omega arith)

pub nothing_read : (edition : Edition) (level : Level) (n r b : ℕ) → read_of edition level [] n r b ≡ refused_by NotAllowed 0
unfolding read_of listed_of judged_of first_bad sought tokens_of tokens_from tokens_in token_at token_of grammar docs_in
nothing_read edition level n r b = refl

module _ (edition : Edition) (level : Level) (s : List ℕ) (n r b : ℕ) {x y z : ℕ} (e : read_of edition level s n r b ≡ Ok (x, y, z)) (h : n ≤ max_nodes) (l : r ≤ max_rules) (v : Style) where
  -- what was read prints, at either level and in either style: 20, 21 and 22 are never answered
  pub read_prints : (m : ℕ) → print_of v (nodes_of (line_in s) (rules_read level s)) (records_of (rules_read level s)) (rules_stored (rules_read level s)) m ≡ room_of (printed_text v level s) m
  unfolding print_of
  read_prints m = rw (read_good edition level s n r b e h l)

  -- no minimum of what was read is above its maximum, where the edition asks it
  pub read_ordered : Ordered edition (rules_read level s)
  read_ordered = let c = read_counts edition level s n r b e in ordered_by edition level s (rules_read level s) c.read c.sound

  -- a text of docs alone has no rule: its text is empty, and an empty text is refused by 4 (`nothing_read`)
  pub none_printed : y ≡ 0 → printed_text v level s ≡ []
  unfolding printed_rules
  none_printed o =
      let c = read_counts edition level s n r b e in
      sym (is_printed v level s) ∙ ap (λ (us : List (Rule Span)). printed_rules v (map aside_rule us)) (no_rules (rules_read level s) (sym c.rules_are ∙ o))

  module _ (some : 1 ≤ y) (short : length (printed_text v level s) ≤ max_text) (shallow : most_open (printed_text v level s) ≤ max_open) where
    sayable : Sayable v (read_rules level s)
    sayable =
        let us = rules_read level s in
        let c = read_counts edition level s n r b e in
        let m = length-map us aside_rule in
        record {
          fine = rules_fine aside items_aside us ∙ read_fine edition level s n r b e;
          counted = counted_asides us ∙ read_counted edition level s n r b x y z e;
          some = omega (arith, c.rules_are);
          few_nodes = omega (arith, rules_counts aside items_aside us, c.nodes_fit);
          few_rules = omega (arith, c.rules_fit);
          short = omega (arith, ap length (is_printed v level s));
          shallow = omega (arith, ap most_open (is_printed v level s));
        }

    -- and the tagged reader of an edition reads its text again, if no minimum is above its maximum where that edition asks it
    pub again_tagged : (o : Edition) → Ordered o (rules_read level s) → ReadAs o Tagged (printed_text v level s) (seen v Tagged (read_rules level s))
    again_tagged o q = rw (sym (is_printed v level s)) (rules_tagged v (read_rules level s) sayable o (ordered_asides o (rules_read level s) q))

-- the reader of its own level and of an edition reads it again: a text holding a rule, whose text is within the limits
pub again_by : (edition : Edition) (level : Level) (s : List ℕ) (n r b : ℕ) {x y z : ℕ} → read_of edition level s n r b ≡ Ok (x, y, z) → n ≤ max_nodes → r ≤ max_rules → (v : Style) → 1 ≤ y
    → length (printed_text v level s) ≤ max_text → most_open (printed_text v level s) ≤ max_open → (o : Edition) → Ordered o (rules_read level s) → ReadAs o level (printed_text v level s) (seen v level (read_rules level s))
again_by edition Tagged s n r b e h l v some short shallow o q = again_tagged edition Tagged s n r b e h l v some short shallow o q
again_by edition Plain s n r b e h l v some short shallow o q =
    let us = rules_read Plain s in
    let c = read_counts edition Plain s n r b e in
    rw (sym (is_printed v Plain s))
    (rules_plain v (read_rules Plain s) (sayable edition Plain s n r b e h l v some short shallow) o (ordered_asides o us q) (pushing_asides us ∙ none_pushed edition s us c.read c.sound))

-- and that of its own edition asks no more
pub again : (edition : Edition) (level : Level) (s : List ℕ) (n r b : ℕ) {x y z : ℕ} → read_of edition level s n r b ≡ Ok (x, y, z) → n ≤ max_nodes → r ≤ max_rules → (v : Style) → 1 ≤ y
    → length (printed_text v level s) ≤ max_text → most_open (printed_text v level s) ≤ max_open → ReadAs edition level (printed_text v level s) (seen v level (read_rules level s))
again edition level s n r b e h l v some short shallow = again_by edition level s n r b e h l v some short shallow edition (read_ordered edition level s n r b e h l v)
