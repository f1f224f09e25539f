-- A term from its node: postfixes, the bracket, predicates and the tag.
use Rattle.std.specs.Prelude.{Some}
use Prim.Native.Nat.{ℕ, zero, suc, ◌+◌, ◌-◌, ◌*◌, ◌≤◌, ◌<◌}
use mathlib.Core.Path.{◌≡◌, refl, sym, ap, ◌∙◌}
use mathlib.Core.Bool.{Bool, true, false}
use mathlib.Core.List.{List}
use native.Mathlib.Omega.{arith}
use native.Mathlib.Decide.{dec_lt}
use lib.Dec.{ltb}
use lib.ListN.{length}
use lib.Seq.{sets}
use borrow.Author.Tests.{lt-ltb, le-ltb}
use Rattle.text.specs.Booleans.{choose}
use Rattle.text.specs.Splice.{Wrote}
use Rattle.text.specs.Splice as Splice
use Rattle.text.proofs.Splices.{wrote_length}
use Rattle.text.proofs.Booleans.{choose_false, choose_true}
use Rattle.text.specs.Limits.{max_text}
use Rattle.token.specs.Table.{start, is, label}
use Rattle.token.proofs.Table.{low}
use Rattle.table.specs.Tree.{Span, Tree, count, size, stored, place_of, starts_at}
use Rattle.table.specs.Record.{node_size}
use Rattle.structure.specs.declared.Level.{Level}
use Rattle.structure.specs.Answers.{unread, opening_of, tag_nodes, tag_bytes, predicates_end, predicates}
use Rattle.structure.specs.Structure.{Parsed, got, next, prefixed, term, signed, node, posts, Run}
use Rattle.structure.proofs.Steps.{next_got, next_good, next_assoc, next_fun, next_on, want_got}
use Rattle.structure.proofs.Sizes.{Grown, grown_none, grown_starts, stored_placed}
use Rattle.structure.proofs.Fuel.{went}
use Rattle.structure.proofs.Grammar.{term_law, signed_law}
use Rattle.structure.proofs.Wants.{piece}
use Rattle.structure.proofs.Checks.{was_from, grown_signs, signed_end}
use Rattle.structure.proofs.Checks as Checks
use Rattle.structure.proofs.Cycle.{falls_term}
use Rattle.build.specs.declared.Placed.{Placed}
use Rattle.build.specs.declared.PutPostfixes.{PutPostfixes}
use Rattle.build.specs.Build.{TreeRoom, Built, SignsRoom, SignsPut, PostsRoom, PostsPut, Trails, labelled, tag_text, past_tag, bracketed, Opened, term_start, tag_count, TagRoom, Tied}
use Rattle.records.specs.Records.{most}
use Rattle.records.proofs.Patches.{spanned}
use Rattle.build.proofs.Lays.{laid_long}
use Rattle.build.proofs.Loops.{stop_signs}
use Rattle.build.proofs.Nodes.{place_placed}

-- ---- a bracket and predicates around a tree

module _ (v : Tree Span) (a : ℕ) where
  grown_bracket : (b : Bool) → Grown v (choose b (λ u. starts_at v a) (λ u. v)) 0 0
  grown_bracket true = grown_starts v a
  grown_bracket false = grown_none v

  stored_bracket : (b : Bool) → stored (choose b (λ u. starts_at v a) (λ u. v)) ≡ stored v
  unfolding starts_at
  stored_bracket true = stored_placed (spanned a (place_of v).stop) v
  stored_bracket false = refl

  stop_bracket : (b : Bool) → (place_of (choose b (λ u. starts_at v a) (λ u. v))).stop ≡ (place_of v).stop
  unfolding starts_at
  stop_bracket true = ap (λ (k : Span). k.stop) (place_placed (spanned a (place_of v).stop) v)
  stop_bracket false = refl

  start_bracket : (b : Bool) → (place_of (choose b (λ u. starts_at v a) (λ u. v))).start ≡ choose b (λ u. a) (λ u. (place_of v).start)
  unfolding starts_at
  start_bracket true = ap (λ (k : Span). k.start) (place_placed (spanned a (place_of v).stop) v)
  start_bracket false = refl

stored_signs : (s : List ℕ) (at k : ℕ) (t : Tree Span) → stored (predicates s at k t) ≡ stored t
unfolding predicates prefixed stored
stored_signs s at zero t = refl
stored_signs s at (suc k) t = stored_signs s (at + 1) k t

start_signs : (s : List ℕ) (at k n : ℕ) (t : Tree Span) → n ≡ suc k → (place_of (predicates s at n t)).start ≡ start s at
unfolding predicates prefixed
start_signs s at k n t e = ap (λ (j : ℕ). (place_of (predicates s at j t)).start) e

no_signs : (s : List ℕ) (at n : ℕ) (t : Tree Span) → n ≡ 0 → predicates s at n t ≡ t
unfolding predicates
no_signs s at n t e = ap (λ (j : ℕ). predicates s at j t) e

-- where the finished tree starts
head_is : (s : List ℕ) (from first : ℕ) (v : Tree Span) (a : ℕ) → from ≤ first → a ≡ (place_of v).start
    → term_start s from first a ≡ (place_of (predicates s from (first - from) (bracketed s first v))).start
head_is s from first v a h e = go (dec_lt from first)
  where
    go : Dec (from < first) → term_start s from first a ≡ (place_of (predicates s from (first - from) (bracketed s first v))).start
    go (yes l) = choose_true (ltb from first) _ _ (lt-ltb from first l) ∙ sym (start_signs s from (first - from - 1) (first - from) (bracketed s first v) (omega arith))
    go (no l) =
        choose_false (ltb from first) _ _ (le-ltb from first (omega arith)) ∙ ap (λ (k : ℕ). choose (is s first 6) (λ u. start s first) (λ u. k)) e
        ∙ sym (ap (λ (τ : Tree Span). (place_of τ).start) (no_signs s from (first - from) (bracketed s first v) (omega arith)) ∙ start_bracket v (start s first) (is s first 6))

head_low : (s : List ℕ) (from first a : ℕ) → length s ≤ max_text → a ≤ most → term_start s from first a ≤ most
head_low s from first a h l = let l₁ = low s from in let l₂ = low s first in go (ltb from first) (is s first 6) (start s from) (start s first) (omega arith) (omega arith)
  where
    go : (b c : Bool) (x y : ℕ) → x ≤ most → y ≤ most → choose b (λ u. x) (λ u. choose c (λ u. y) (λ u. a)) ≤ most
    go true c x y p q = p
    go false true x y p q = q
    go false false x y p q = l

-- ---- where the predicates begin

tag_length : (level : Level) (b : List ℕ) → tag_bytes level (length b) ≡ length (labelled level b)
tag_length Level.Tagged b = refl
tag_length Level.Plain b = refl

opening_no : (level : Level) (s : List ℕ) (at : ℕ) → is s at 19 ≡ false → opening_of level s at ≡ Some (piece (past_tag s at) (tag_count level s at) (length (tag_text level s at)))
unfolding opening_of
opening_no level s at f = rw f

opening_yes : (level : Level) (s : List ℕ) (at : ℕ) → is s at 19 ≡ true → is s (at + 1) 1 ≡ true → opening_of level s at ≡ Some (piece (past_tag s at) (tag_count level s at) (length (tag_text level s at)))
unfolding opening_of
opening_yes level s at f f₁ =
    let e : at + 2 ≡ at + 1 + 1 = omega arith in
    rw (f, f₁) (ap (λ (k : ℕ). Some (piece k (tag_nodes level) (tag_bytes level (length (label s at))))) e ∙ ap (λ (k : ℕ). Some (piece (at + 1 + 1) (tag_nodes level) k)) (tag_length level (label s at)))

module _ (level : Level) (s : List ℕ) (o at : ℕ) {used free : ℕ} {table store : List ℕ} (g : TreeRoom (Run level s (term o at)) table store used free) where
  opening_is : opening_of level s at ≡ Some (piece (past_tag s at) (tag_count level s at) (length (tag_text level s at)))
  opening_is = go (is s at 19) refl
    where
      go : (b : Bool) → is s at 19 ≡ b → opening_of level s at ≡ Some (piece (past_tag s at) (tag_count level s at) (length (tag_text level s at)))
      go true f = opening_yes level s at f (want_got s (at + 1) 1 _ (omega arith) (sym (term_law level s o at ∙ choose_true (is s at 19) _ _ f) ∙ g.read)).0
      go false f = opening_no level s at f

  opened_term : Checks.Opened level s at (past_tag s at) (tag_count level s at) (length (tag_text level s at))
  opened_term = was_from level s at (opening_of level s at) _ _ _ refl opening_is

  signed_shape : (x : Tree Span) × (n : ℕ) × (Run level s (signed o (past_tag s at)) ≡ got x n) × (count g.tree ≡ count x + tag_count level s at)
      × (size g.tree ≡ size x + length (tag_text level s at))
  signed_shape =
      let w = opened_term in
      let (x, n, e₁, e₂) = next_got _ _ (sym (w.same o) ∙ g.read) in
      let y : w.wrap x ≡ g.tree = cc e₂ in
      let k = w.grown x in
      (x, n, e₁, sym (ap (count {P = Span}) y) ∙ k.counts, sym (ap (size {P = Span}) y) ∙ k.sizes)

  pub tag_room : Splice.Room store free (tag_text level s at)
  tag_room =
      let (x, n, e, c, d) = signed_shape in
      let h = g.fits in
      record { fits = omega arith }

-- a term whose tag is stored and whose predicates are passed: the node starts at `first`
pub record Headed (level : Level) (s : List ℕ) (o at used free : ℕ) (table store store₁ : List ℕ) (mid from first : ℕ) : Type 0 where
  pub room : TreeRoom (Run level s (term o at)) table store used free
  pub short : length s ≤ max_text
  pub tag : Wrote store free (tag_text level s at) store₁ mid
  pub past : from ≡ past_tag s at
  pub signs : first ≡ predicates_end s from

module _ {level : Level} {s : List ℕ} {o at used free : ℕ} {table store store₁ : List ℕ} {mid from first : ℕ} (head : Headed level s o at used free table store store₁ mid from first) where
  pub node_falls : unread s first ≤ unread s at
  node_falls = falls_term level s at (past_tag s at) (tag_count level s at) (length (tag_text level s at)) first (opened_term level s o at head.room) (head.signs ∙ ap (predicates_end s) head.past)

  abbrev finished : Tree Span → Tree Span
  finished x = predicates s from (first - from) (bracketed s first x)

  grown_finished : (x : Tree Span) → (count (finished x) ≡ count x + (first - from)) × (size (finished x) ≡ size x)
  grown_finished x =
      let p = grown_bracket x (start s first) (is s first 6) in
      let q = grown_signs s from (first - from) (bracketed s first x) in
      let p₁ = p.counts in
      let p₂ = p.sizes in
      let q₁ = q.counts in
      let q₂ = q.sizes in
      (omega arith, omega arith)

  signed_read : Run level s (signed o (past_tag s at)) ≡ next (Run level s (node o first)) (λ t n. next (Run level s (posts t n)) (λ x m. got (finished x) m))
  signed_read =
      let i = signed_end s from first head.signs in
      ap (λ (k : ℕ). Run level s (signed o k)) (sym head.past) ∙ i.same level o
      ∙ ap (λ (m : Parsed). next m (λ t n. got (predicates s from (first - from) t) n)) (signed_law level s o first ∙ choose_false (is s first 8) _ _ i.no_pos ∙ choose_false (is s first 9) _ _ i.no_neg)
      ∙ next_assoc (Run level s (node o first)) _ _
      ∙ next_fun (Run level s (node o first)) _ _ (λ t n. next_assoc (Run level s (posts t n)) _ _ ∙ next_fun (Run level s (posts t n)) _ _ (λ x m. next_on _ _ _))

  pub node_room : TreeRoom (Run level s (node o first)) table store₁ used mid
  node_room =
      let (x, n, e₁, c, d) = signed_shape level s o at head.room in
      let (t, i, k₁, k₂) = next_got _ _ (sym signed_read ∙ e₁) in
      let (y, j, k₃, k₄) = next_got _ _ k₂ in
      let q = went level s (posts t i) y j k₃ in
      let m₁ = q.more in
      let m₂ = q.large in
      let z : finished y ≡ x = cc k₄ in
      let z₁ = ap (count {P = Span}) z in
      let z₂ = ap (size {P = Span}) z in
      let f = grown_finished y in
      let l = wrote_length head.tag in
      let r = head.tag.next in
      let h₁ = head.room.room in
      let h₂ = head.room.few in
      let h₃ = head.room.fits in
      let h₄ = head.room.low in
      record { tree = t; end = i; read = k₁; room = omega arith; few = omega arith; fits = omega arith; low = omega arith }

  module _ {r : Placed} {tbl st : List ℕ} (d : Built (Run level s (node o first)) table store₁ used mid r tbl st) where
    -- the tree with its postfixes, and how much room there is for what comes after them
    trailed : (x : Tree Span) × (n : ℕ) × (Run level s (posts d.tree r.next) ≡ got x n) × (Run level s (signed o (past_tag s at)) ≡ got (finished x) n)
        × (count head.room.tree ≡ count x + (first - from) + tag_count level s at) × (count d.tree ≤ count x)
    trailed =
        let (x, n, e₁, c, _) = signed_shape level s o at head.room in
        let y = signed_read ∙ next_good _ _ d.read in
        let (t, i, k₁, k₂) = next_got _ _ (sym y ∙ e₁) in
        let q = (went level s (posts d.tree r.next) t i k₁).more in
        let z : finished t ≡ x = cc k₂ in
        let z₁ = ap (count {P = Span}) z in
        let f = grown_finished t in
        (t, i, k₁, y ∙ next_good _ _ k₁, omega arith, q)

    pub posts_room : PostsRoom s tbl r.next r.used r.from r.to
    posts_room =
        let (x, n, e₁, e₂, c, m) = trailed in
        let l = laid_long d.tree table store₁ used mid tbl st d.laid in
        let h₁ = head.room.room in
        let h₂ = head.room.few in
        let u = d.used_is in
        record {
          level = level;
          tree = d.tree;
          out = x;
          end = n;
          read = e₁;
          from_is = d.from_is;
          to_is = d.to_is;
          room = omega arith;
          few = omega arith;
          after = omega arith;
          start = d.short.0;
          stop = d.short.1;
        }

    module _ {tail : PutPostfixes} {tbl₁ : List ℕ} (p : PostsPut s r.next r.used r.from r.to tbl tail tbl₁) where
      trails : Trails d.tree trailed.0 trailed.1 r.used r.from tbl tail tbl₁
      trails = p.same level d.tree d.from_is d.to_is trailed.0 trailed.1 trailed.2

      tail_room : (length tbl₁ ≡ length table) × (tail.used ≡ used + count trailed.0) × (node_size * (tail.used + (first - from) + tag_count level s at) ≤ length table)
          × (tail.used + (first - from) + tag_count level s at ≤ most)
      tail_room =
          let (x, n, e₁, e₂, c, m) = trailed in
          let l = laid_long d.tree table store₁ used mid tbl st d.laid in
          let h = p.long in
          let h₁ = head.room.room in
          let h₂ = head.room.few in
          let u = d.used_is in
          let t = trails.used_is in
          (omega arith, omega arith, omega arith, omega arith)

      pub open_room : (node_size * tail.used ≤ length tbl₁) × (0 < tail.used)
      open_room = let q = tail_room in (omega arith, omega arith)

      module _ {tbl₂ : List ℕ} (q : Opened s first tail.used tbl₁ tbl₂) where
        pub signs_room : SignsRoom tbl₂ from first tail.to tail.used
        signs_room =
            let h = tail_room in
            let l = q.long in
            record { from = (signed_end s from first head.signs).from; room = omega arith; few = omega arith; to = p.stop; after = omega arith }

        module _ {u : ℕ} {tbl₃ : List ℕ} (z : (u ≡ tail.used + (first - from)) × SignsPut s from first tail.to tail.used tbl₂ tbl₃) {a : ℕ} (b : a ≡ term_start s from first r.from) where
          abbrev rest : Placed
          rest = record { next = tail.next; used = u; free = r.free; from = a; to = tail.to }

          signed_built : Built (Run level s (signed o (past_tag s at))) table store₁ used mid rest tbl₃ st
          signed_built =
              let x = trailed.0 in
              let h = trails in
              let k = tail_room in
              let c = grown_finished x in
              let i = d.free_is in
              let y = z.0 in
              let j = ap length h.kept in
              let x₁ = bracketed s first x in
              let f = (grown_bracket x (start s first) (is s first 6)).counts in
              let e₁ : tail.to ≡ (place_of x₁).stop = h.to_is ∙ sym (stop_bracket x (start s first) (is s first 6)) in
              let e₂ = head_low s from first r.from head.short d.short.0 in
              record {
                tree = finished x;
                read = trailed.3 ∙ ap (got (finished x)) (sym h.next_is);
                used_is = omega arith;
                free_is = omega arith;
                from_is = b ∙ head_is s from first x r.from (signed_end s from first head.signs).from h.from_is;
                to_is = e₁ ∙ sym (stop_signs s from (first - from) x₁);
                short = (omega arith, p.stop);
                laid = record {
                  holds = z.1.same table x₁ used mid (omega arith) (sym e₁) (q.same table x used mid (omega arith) (h.holds table used mid d.used_is d.laid.holds));
                  keeps = d.laid.keeps ∙ ap (sets store₁ mid) (sym (stored_signs s from (first - from) x₁ ∙ stored_bracket x (start s first) (is s first 6) ∙ h.kept));
                };
              }

          pub tie_room : TagRoom level s tbl₃ at free mid rest
          tie_room =
              let h = tail_room in
              let l₁ = q.long in
              let l₂ = z.1.long in
              let y = z.0 in
              let (_, _, _, _, i) = signed_shape level s o at head.room in
              let j = head.room.low in
              let k = head.tag.next in
              record { room = omega arith; few = omega arith; after = omega arith; to = p.stop; past = omega arith; low = omega arith }

          pub term_built : {out : Placed} {tbl₄ : List ℕ} → Tied level s at free mid rest tbl₃ out tbl₄ → Built (Run level s (term o at)) table store used free out tbl₄ st
          term_built t = t.same o used table store store₁ st head.tag head.room signed_built

pub built_long : {m : Parsed} {table store : List ℕ} {used free : ℕ} {r : Placed} {tbl st : List ℕ} → Built m table store used free r tbl st → (length tbl ≡ length table) × (length st ≡ length store)
built_long {m} {table} {store} {used} {free} {r} {tbl} {st} d = laid_long d.tree table store used free tbl st d.laid
