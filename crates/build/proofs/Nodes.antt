-- Nodes that hold an expression: in brackets, whose end moves, or in PUSH, which ends with it.
use Prim.Native.Nat.{ℕ, ◌+◌, ◌-◌, ◌*◌, ◌≤◌, ◌<◌}
use mathlib.Core.Path.{◌≡◌, refl, sym, ap, ◌∙◌}
use mathlib.Core.Bool.{true, false}
use mathlib.Core.List.{List}
use native.Mathlib.Omega.{arith}
use lib.Dec.{leb}
use lib.ListN.{length}
use lib.Seq.{sets}
use borrow.Author.Tests.{leb-false}
use Rattle.text.specs.Words.{push}
use Rattle.text.proofs.Booleans.{choose_false, choose_true}
use Rattle.text.specs.Limits.{max_open, max_text}
use Rattle.token.proofs.Lists.{few}
use Rattle.token.specs.Table.{toks, start, end, is}
use Rattle.table.specs.declared.Unary.TheVariants.{Push}
use Rattle.table.specs.declared.Op.TheVariants.{Plain}
use Rattle.table.specs.declared.Node.TheVariants.{One}
use Rattle.table.specs.Tree.{Span, plain, Tree, leaf, one, two, count, size, place_of, placed, ends_at}
use Rattle.table.specs.Record.{node_size}
use Rattle.table.specs.Flat.{no_line, record_of, flat}
use Rattle.structure.specs.declared.Level.{Level}
use Rattle.structure.specs.Answers.{unread}
use Rattle.structure.specs.Tokens.{spells}
use Rattle.structure.specs.Structure.{got, refused, next, want, prefixed, expr, node, Run, leaf_at}
use Rattle.structure.proofs.Steps.{inside_is, next_got, next_good, want_true, want_got, opened_got, opened_false}
use Rattle.structure.proofs.Wants.{fewer}
use Rattle.structure.proofs.Sizes.{stored_placed, grown_ends, grown_before}
use Rattle.structure.proofs.Grammar.{node_law}
use Rattle.build.specs.declared.Placed.{Placed}
use Rattle.build.specs.Build.{TreeRoom, Built}
use Rattle.records.specs.Records.{written, most, Over, EndMoved}
use Rattle.records.proofs.Patches.{spanned}
use Rattle.build.proofs.Lays.{laid_long, one_laid}
use Rattle.build.proofs.Parts.{start_low, end_low}

pub place_placed : (p : Span) (t : Tree Span) → place_of (placed p t) ≡ p
place_placed p (leaf _ a) = refl
place_placed p (one _ o t) = refl
place_placed p (two _ j a b) = refl

-- ---- `(` expression `)`

pub record Grouped (level : Level) (s : List ℕ) (o at used free : ℕ) (table store : List ℕ) : Type 0 where
  pub room : TreeRoom (Run level s (node o at)) table store used free
  pub short : length s ≤ max_text
  pub opens : is s at 6 ≡ true

module _ {level : Level} {s : List ℕ} {o at used free : ℕ} {table store : List ℕ} (b : Grouped level s o at used free table store) where
  group_token : at < length (toks s)
  group_token = inside_is s at 6 (omega arith) b.opens

  pub group_in : at < max_text
  group_in = omega (arith, group_token, few s, b.short)

  pub group_falls : unread s (at + 1) < unread s at
  group_falls = fewer s at (at + 1) (omega arith) (omega (arith, group_token))

  group_open : leb max_open o ≡ false
  group_open = (opened_got o s at _ (sym (node_law level s o at ∙ choose_true (is s at 6) _ _ b.opens) ∙ b.room.read)).0

  pub group_deep : o < max_open
  group_deep = leb-false max_open o group_open

  group_read : Run level s (node o at) ≡ next (Run level s (expr (o + 1) (at + 1))) (λ t n. want refused s n 7 (λ m. got (ends_at t (end s n)) m))
  group_read = node_law level s o at ∙ choose_true (is s at 6) _ _ b.opens ∙ opened_false o s at _ group_open

  pub group_room : TreeRoom (Run level s (expr (o + 1) (at + 1))) table store used free
  group_room =
      let (t, n, e₁, e₂) = next_got _ _ (sym group_read ∙ b.room.read) in
      let (a, p, e₃) = want_got s n 7 _ (omega arith) e₂ in
      let y : ends_at t (end s n) ≡ b.room.tree = cc e₃ in
      let c = ap (count {P = Span}) y in
      let d = ap (size {P = Span}) y in
      let w = grown_ends t (end s n) in
      let w₁ = w.counts in
      let w₂ = w.sizes in
      let h₁ = b.room.room in
      let h₂ = b.room.few in
      let h₃ = b.room.fits in
      let h₄ = b.room.low in
      record { tree = t; end = n; read = e₁; room = omega arith; few = omega arith; fits = omega arith; low = omega arith }

  pub group_last : {r : Placed} {tbl st : List ℕ} → Built (Run level s (expr (o + 1) (at + 1))) table store used free r tbl st
      → {z : ℕ} → z ≡ end s r.next → (node_size * r.used ≤ length tbl) × (0 < r.used) × (z ≤ most)
  group_last {r} {tbl} {st} d {z} e =
      let h = group_room in
      let m : got h.tree h.end ≡ got d.tree r.next = sym h.read ∙ d.read in
      let y : h.tree ≡ d.tree = cc m in
      let c = ap (count {P = Span}) y in
      let l = laid_long d.tree table store used free tbl st d.laid in
      let h₁ = h.room in
      let x = d.used_is in
      (omega arith, omega arith, end_low s r.next z b.short e)

  group_shut : {r : Placed} {tbl st : List ℕ} → Built (Run level s (expr (o + 1) (at + 1))) table store used free r tbl st → (is s r.next 7 ≡ true) × (r.next < length (toks s))
  group_shut {r} {tbl} {st} d = let (a, p, e) = want_got s r.next 7 _ (omega arith) (sym (group_read ∙ next_good _ _ d.read) ∙ b.room.read) in (a, p)

  pub group_within : {r : Placed} {tbl st : List ℕ} → Built (Run level s (expr (o + 1) (at + 1))) table store used free r tbl st → r.next < max_text
  group_within d = omega (arith, (group_shut d).1, few s, b.short)

  pub group_built : {r : Placed} {tbl st : List ℕ} → Built (Run level s (expr (o + 1) (at + 1))) table store used free r tbl st → {z : ℕ} → z ≡ end s r.next
      → {tbl' : List ℕ} → EndMoved tbl r.used z tbl'
      → Built (Run level s (node o at)) table store used free (record { next = r.next + 1; used = r.used; free = r.free; from = r.from; to = z }) tbl' st
  unfolding ends_at
  group_built {r} {tbl} {st} d {z} e {tbl'} m =
      let t = d.tree in
      let q : Span = record { start = (place_of t).start; stop = end s r.next } in
      let w = grown_ends t (end s r.next) in
      let w₁ = w.counts in
      let w₂ = w.sizes in
      let x₁ = d.used_is in
      let x₂ = d.free_is in
      record {
        tree = ends_at t (end s r.next);
        read = group_read ∙ next_good _ _ d.read ∙ want_true refused s r.next 7 _ (group_shut d).0;
        used_is = omega arith;
        free_is = omega arith;
        from_is = d.from_is ∙ sym (ap (λ (k : Span). k.start) (place_placed q t));
        to_is = e ∙ sym (ap (λ (k : Span). k.stop) (place_placed q t));
        short = (d.short.0, end_low s r.next z b.short e);
        laid = record {
          holds = m.same table t used free d.used_is d.laid.holds ∙ ap (λ (j : ℕ). written table used (flat no_line used free (ends_at t j))) e;
          keeps = d.laid.keeps ∙ ap (sets store free) (sym (stored_placed q t));
        };
      }

-- ---- `PUSH(` expression `)`

pub record Pushed (level : Level) (s : List ℕ) (o at used free : ℕ) (table store : List ℕ) : Type 0 where
  pub room : TreeRoom (Run level s (node o at)) table store used free
  pub short : length s ≤ max_text
  pub bare : is s at 6 ≡ false
  pub pushes : spells push s at ≡ true

module _ {level : Level} {s : List ℕ} {o at used free : ℕ} {table store : List ℕ} (b : Pushed level s o at used free table store) where
  push_shape : (is s (at + 1) 6 ≡ true) × (at + 1 < length (toks s)) × (leb max_open o ≡ false)
  push_shape =
      let (a, p, e) = want_got s (at + 1) 6 _ (omega arith) (sym (node_law level s o at ∙ choose_false (is s at 6) _ _ b.bare ∙ choose_true (spells push s at) _ _ b.pushes) ∙ b.room.read) in
      (a, p, (opened_got o s (at + 1) _ e).0)

  pub push_in : (at + 1 < max_text) × (o < max_open)
  push_in = (omega (arith, push_shape.1, few s, b.short), leb-false max_open o push_shape.2)

  pub push_falls : unread s (at + 1 + 1) < unread s at
  push_falls = fewer s at (at + 1 + 1) (omega arith) (omega (arith, push_shape.1))

  push_read : Run level s (node o at) ≡ next (Run level s (expr (o + 1) (at + 1 + 1))) (λ t n. want refused s n 7 (λ m. got (prefixed (start s at) (plain Push) t) m))
  push_read =
      node_law level s o at ∙ choose_false (is s at 6) _ _ b.bare ∙ choose_true (spells push s at) _ _ b.pushes ∙ want_true refused s (at + 1) 6 _ push_shape.0
      ∙ opened_false o s (at + 1) _ push_shape.2

  pub push_room : TreeRoom (Run level s (expr (o + 1) (at + 1 + 1))) table store used free
  push_room =
      let (t, n, e₁, e₂) = next_got _ _ (sym push_read ∙ b.room.read) in
      let (a, p, e₃) = want_got s n 7 _ (omega arith) e₂ in
      let y : prefixed (start s at) (plain Push) t ≡ b.room.tree = cc e₃ in
      let c = ap (count {P = Span}) y in
      let d = ap (size {P = Span}) y in
      let w = grown_before (start s at) Push t in
      let w₁ = w.counts in
      let w₂ = w.sizes in
      let h₁ = b.room.room in
      let h₂ = b.room.few in
      let h₃ = b.room.fits in
      let h₄ = b.room.low in
      record { tree = t; end = n; read = e₁; room = omega arith; few = omega arith; fits = omega arith; low = omega arith }

  push_shut : {r : Placed} {tbl st : List ℕ} (d : Built (Run level s (expr (o + 1) (at + 1 + 1))) table store used free r tbl st)
      → (is s r.next 7 ≡ true) × (r.next < length (toks s)) × (prefixed (start s at) (plain Push) d.tree ≡ b.room.tree)
  push_shut {r} {tbl} {st} d =
      let (i, p, e) = want_got s r.next 7 _ (omega arith) (sym (push_read ∙ next_good _ _ d.read) ∙ b.room.read) in
      (i, p, cc e)

  -- there is room for the node above, and its number fits
  pub push_within : {r : Placed} {tbl st : List ℕ} → Built (Run level s (expr (o + 1) (at + 1 + 1))) table store used free r tbl st
      → (r.next < max_text) × (r.used < most) × (0 < r.used) × (node_size * (r.used + 1) ≤ length tbl)
  push_within {r} {tbl} {st} d =
      let c = ap (count {P = Span}) (push_shut d).2 in
      let w₁ = (grown_before (start s at) Push d.tree).counts in
      let l = laid_long d.tree table store used free tbl st d.laid in
      let h₁ = b.room.room in
      let h₂ = b.room.few in
      let x = d.used_is in
      (omega (arith, (push_shut d).1, few s, b.short), omega arith, omega arith, omega arith)

  pub push_over : {r : Placed} {tbl st : List ℕ} → Built (Run level s (expr (o + 1) (at + 1 + 1))) table store used free r tbl st
      → {a : ℕ} → a ≡ start s at → Over tbl r.used a r.to
  push_over {r} {tbl} {st} d {a} e =
      let w = push_within d in
      record { room = omega arith; from = start_low s at a b.short e; to = d.short.1; few = omega arith; after = omega arith }

  pub push_built : {r : Placed} {tbl st : List ℕ} → Built (Run level s (expr (o + 1) (at + 1 + 1))) table store used free r tbl st → {a : ℕ} → a ≡ start s at
      → {tbl' : List ℕ} → tbl' ≡ written tbl r.used (record_of no_line (spanned a r.to) (One (Plain Push) (r.used - 1)))
      → Built (Run level s (node o at)) table store used free (record { next = r.next + 1; used = r.used + 1; free = r.free; from = a; to = r.to }) tbl' st
  unfolding prefixed
  push_built {r} {tbl} {st} d {a} e {tbl'} m =
      let t = d.tree in
      let w = grown_before (start s at) Push t in
      let w₁ = w.counts in
      let w₂ = w.sizes in
      let x₁ = d.used_is in
      let x₂ = d.free_is in
      record {
        tree = prefixed (start s at) (plain Push) t;
        read = push_read ∙ next_good _ _ d.read ∙ want_true refused s r.next 7 _ (push_shut d).0;
        used_is = omega arith;
        free_is = omega arith;
        from_is = e;
        to_is = d.to_is;
        short = (start_low s at a b.short e, d.short.1);
        laid = one_laid table store used free t tbl st tbl' (spanned (start s at) (place_of t).stop) Push r.used (r.used - 1) d.laid d.used_is (omega arith)
            (m ∙ ap (λ (k : ℕ). written tbl r.used (record_of no_line (spanned k r.to) (One (Plain Push) (r.used - 1)))) e
            ∙ ap (λ (k : ℕ). written tbl r.used (record_of no_line (spanned (start s at) k) (One (Plain Push) (r.used - 1)))) d.to_is);
      }

-- ---- a leaf

pub leaf_read : (level : Level) (s : List ℕ) (o at : ℕ) → is s at 6 ≡ false → spells push s at ≡ false → Run level s (node o at) ≡ leaf_at o s at
leaf_read level s o at v v₁ = node_law level s o at ∙ choose_false (is s at 6) _ _ v ∙ choose_false (spells push s at) _ _ v₁
