-- A term's tag, the bracket that moves its start, and where it starts.
use Prim.Native.Nat.{ℕ, ◌+◌, ◌-◌, ◌≤◌, ◌<◌}
use mathlib.Core.Path.{◌≡◌, refl, sym, ap, ◌∙◌}
use mathlib.Core.Bool.{true, false}
use mathlib.Core.List.{List, []}
use native.Mathlib.Omega.{arith}
use lib.ListN.{length}
use lib.Dec.{ltb}
use lib.Seq.{sets}
use borrow.Author.Tests.{lt-ltb, le-ltb}
use Rattle.text.specs.Splice.{Wrote}
use Rattle.text.specs.Splice as Splice
use Rattle.text.proofs.Splices.{wrote_none}
use Rattle.text.proofs.Booleans.{choose_false, choose_true}
use Rattle.text.specs.Limits.{max_text}
use Rattle.token.specs.Table.{toks, kind, start, end, is, between, label}
use Rattle.token.proofs.Table.{spans}
use Rattle.table.specs.declared.Op.TheVariants.{NodeTag}
use Rattle.table.specs.declared.Node.TheVariants.{One}
use Rattle.table.specs.Tree.{Span, node_tag, Tree, stored, place_of, starts_at}
use Rattle.table.specs.Flat.{no_line, record_of, flat}
use Rattle.structure.specs.declared.Level.{Level}
use Rattle.structure.specs.Answers.{tag_nodes}
use Rattle.structure.specs.Structure.{Parsed, got, refused, next, prefixed, in_tag, term, signed, Run}
use Rattle.structure.proofs.Steps.{sees, misses, inside_is, next_good, want_true, want_got}
use Rattle.structure.proofs.Sizes.{count_one, size_one}
use Rattle.structure.proofs.Grammar.{term_law}
use Rattle.build.specs.declared.Placed.{Placed}
use Rattle.build.specs.Build.{Built, Opened, bracketed, labelled, tag_text, past_tag, term_start, TagRoom, Tied, tag_count}
use Rattle.records.specs.Records.{written, most, Over, StartMoved}
use Rattle.build.proofs.Parts.{label_is, start_low}
use Rattle.records.proofs.Patches.{spanned, length_written}
use Rattle.build.proofs.Lays.{tag_laid}

-- ---- a tag

module _ (s store : List ℕ) (at free x : ℕ) (e : x ≡ kind s at) where
  pub no_tag : (level : Level) → (x ≡ 19 → ⊥) → (at ≡ past_tag s at) × Wrote store free (tag_text level s at) store free
  no_tag level h =
      let f = misses s at x 19 e h in
      (sym (rw f), rw f (wrote_none store free))

  module _ (h : x ≡ 19) where
    is_tag_lem : is s at 19 ≡ true
    is_tag_lem = sees s at x 19 e h

    pub tag_inside : (at < length (toks s)) × (start s at < end s at) × (end s at ≤ length s)
    tag_inside = let i = inside_is s at 19 (omega arith) is_tag_lem in let p = spans s at i in (i, p.0, p.1)

    pub plain_tag : {level : Level} → level ≡ Level.Plain → (at + 1 + 1 ≡ past_tag s at) × Wrote store free (tag_text level s at) store free
    plain_tag {level} q =
        let f = is_tag_lem in
        (sym (rw f), rw (f, q) (wrote_none store free))

    module _ (a z : ℕ) (e₁ : a ≡ start s at) (e₂ : z ≡ end s at) where
      tag_part : between s (a + 1) z ≡ label s at
      tag_part = label_is s at (a + 1) z (ap (λ (k : ℕ). k + 1) e₁) e₂

      pub tag_bytes_lem : {level : Level} → level ≡ Level.Tagged → Splice.Room store free (tag_text level s at)
          → ((a + 1 ≤ z) × (z ≤ length s)) × Splice.Room store free (between s (a + 1) z)
      tag_bytes_lem {level} q g =
          let f = is_tag_lem in
          let p = tag_inside in
          let r : Splice.Room store free (label s at) = rw (f, q) at g in
          ((omega arith, omega arith), rw tag_part r)

      pub tagged_tag : {level : Level} → level ≡ Level.Tagged → (n : ℕ) (st : List ℕ) → Wrote store free (between s (a + 1) z) st n
          → (at + 1 + 1 ≡ past_tag s at) × Wrote store free (tag_text level s at) st n
      tagged_tag {level} q n st w =
          let f = is_tag_lem in
          let v : Wrote store free (label s at) st n = rw tag_part at w in
          (sym (rw f), rw (f, q) v)

-- ---- a bracket

pub opened_yes : (s table table' : List ℕ) (i used x a : ℕ) → x ≡ kind s i → x ≡ 6 → a ≡ start s i → StartMoved table used a table' → Opened s i used table table'
opened_yes s table table' i used x a e h e₁ m =
    let f = sees s i x 6 e h in
    record {
      long = m.long;
      same = λ o t k at p q. m.same o t k at p q ∙ ap (λ (j : ℕ). written o k (flat no_line k at (starts_at t j))) e₁ ∙ sym (bracket_yes s i t f o k at);
    }
  where
    bracket_yes : (s : List ℕ) (i : ℕ) (t : Tree Span) → is s i 6 ≡ true → (o : List ℕ) (k at : ℕ) → written o k (flat no_line k at (bracketed s i t)) ≡ written o k (flat no_line k at (starts_at t (start s i)))
    bracket_yes s i t f o k at = rw f

pub opened_no : (s table : List ℕ) (i used x : ℕ) → x ≡ kind s i → (x ≡ 6 → ⊥) → Opened s i used table table
opened_no s table i used x e h =
    let f = misses s i x 6 e h in
    record { long = refl; same = λ o t k at p q. q ∙ sym (bracket_no s i t f o k at) }
  where
    bracket_no : (s : List ℕ) (i : ℕ) (t : Tree Span) → is s i 6 ≡ false → (o : List ℕ) (k at : ℕ) → written o k (flat no_line k at (bracketed s i t)) ≡ written o k (flat no_line k at t)
    bracket_no s i t f o k at = rw f

-- ---- where a term starts, its tag aside

module _ (s : List ℕ) (from first a : ℕ) where
  pub head_signs : (r : ℕ) → from < first → r ≡ start s from → r ≡ term_start s from first a
  head_signs r h e = e ∙ sym (choose_true (ltb from first) _ _ (lt-ltb from first h))

  module _ (h : first ≤ from) (x : ℕ) (e : x ≡ kind s first) where
    pub head_bracket : (r : ℕ) → x ≡ 6 → r ≡ start s first → r ≡ term_start s from first a
    head_bracket r q k = k ∙ sym (choose_false (ltb from first) _ _ (le-ltb from first h) ∙ choose_true (is s first 6) _ _ (sees s first x 6 e q))

    pub head_node : (x ≡ 6 → ⊥) → a ≡ term_start s from first a
    head_node q = sym (choose_false (ltb from first) _ _ (le-ltb from first h) ∙ choose_false (is s first 6) _ _ (misses s first x 6 e q))

-- ---- a tag's record

-- what was built is also what another reading is to build
built_as : (m m' : Parsed) (o store₁ store tbl st : List ℕ) (used mid free : ℕ) (p : Placed) (d : Built m o store₁ used mid p tbl st) → m' ≡ got d.tree p.next → store₁ ≡ store
    → mid ≡ free → Built m' o store used free p tbl st
built_as m m' o store₁ store tbl st used mid free p d e e₁ e₂ =
    let t = d.tree in
    let f = d.free_is in
    record {
      tree = t;
      read = e;
      used_is = d.used_is;
      free_is = omega arith;
      from_is = d.from_is;
      to_is = d.to_is;
      short = d.short;
      laid = record {
        holds = d.laid.holds ∙ ap (λ (k : ℕ). written o used (flat no_line used k t)) e₂;
        keeps = d.laid.keeps ∙ ap (λ (k : ℕ). sets store₁ k (stored t)) e₂ ∙ ap (λ (l : List ℕ). sets l free (stored t)) e₁;
      };
    }

module _ (s : List ℕ) (at free mid : ℕ) (p : Placed) (table : List ℕ) (x : ℕ) (e : x ≡ kind s at) where
  pub tie_none : (level : Level) → (x ≡ 19 → ⊥) → Tied level s at free mid p table p table
  tie_none level h =
      let f = misses s at x 19 e h in
      let q : past_tag s at ≡ at = choose_false (is s at 19) _ _ f in
      let n : tag_text level s at ≡ [] = choose_false (is s at 19) _ _ f in
      record {
        long = refl;
        same = λ deep used o store store₁ st w g d.
            let k = w.next in
            let z = ap length n in
            built_as _ _ o store₁ store table st used mid free p d
            (term_law level s deep at ∙ choose_false (is s at 19) _ _ f ∙ ap (λ (j : ℕ). Run level s (signed deep j)) (sym q) ∙ d.read) (w.now ∙ ap (sets store free) n) (omega arith);
      }

  module _ (h : x ≡ 19) where
    tagged_at : is s at 19 ≡ true
    tagged_at = sees s at x 19 e h

    tagged_read : (level : Level) (deep : ℕ) {t : Tree Span} {n : ℕ} → Run level s (term deep at) ≡ got t n
        → Run level s (term deep at) ≡ next (Run level s (signed deep (past_tag s at))) (λ u m. got (in_tag level (start s at) (label s at) u) m)
    tagged_read level deep g =
        let f = tagged_at in
        let y = term_law level s deep at ∙ choose_true (is s at 19) _ _ f in
        let q : past_tag s at ≡ at + 1 + 1 = choose_true (is s at 19) _ _ f in
        let (a, i, k) = want_got s (at + 1) 1 _ (omega arith) (sym y ∙ g) in
        y ∙ want_true refused s (at + 1) 1 _ a ∙ ap (λ (j : ℕ). next (Run level s (signed deep j)) (λ u m. got (in_tag level (start s at) (label s at) u) m)) (sym q)

    pub tie_plain : {level : Level} → level ≡ Level.Plain → Tied level s at free mid p table p table
    unfolding in_tag
    tie_plain {level} v =
        let f = tagged_at in
        let n : tag_text level s at ≡ [] = choose_true (is s at 19) _ _ f ∙ ap (λ (l : Level). labelled l (label s at)) v in
        record {
          long = refl;
          same = λ deep used o store store₁ st w g d.
              let k = w.next in
              let z = ap length n in
              built_as _ _ o store₁ store table st used mid free p d
              (tagged_read level deep g.read ∙ next_good _ _ d.read ∙ ap (λ (l : Level). got (in_tag l (start s at) (label s at) d.tree) p.next) v) (w.now ∙ ap (sets store free) n) (omega arith);
        }

    module _ (short : length s ≤ max_text) (a : ℕ) (e₁ : a ≡ start s at) where
      pub tag_fits : {level : Level} → level ≡ Level.Tagged → TagRoom level s table at free mid p → Over table p.used a p.to × ((free ≤ most) × (mid - free ≤ most)) × (p.used < most)
      tag_fits {level} v g =
          let n : tag_count level s at ≡ 1 = choose_true (is s at 19) _ _ tagged_at ∙ ap (λ (l : Level). tag_nodes l) v in
          let h₁ = g.room in
          let h₂ = g.few in
          let h₃ = g.past in
          let h₄ = g.low in
          (record { room = omega arith; from = start_low s at a short e₁; to = g.to; few = omega arith; after = g.after }, (omega arith, omega arith), omega arith)

      pub tie_tagged : {level : Level} → level ≡ Level.Tagged → (table' : List ℕ) → table' ≡ written table p.used (record_of no_line (spanned a p.to) (One (NodeTag free (mid - free)) (p.used - 1)))
          → Tied level s at free mid p table (record { next = p.next; used = p.used + 1; free = p.free; from = a; to = p.to }) table'
      unfolding in_tag prefixed
      tie_tagged {level} v table' q =
          let f = tagged_at in
          let b = label s at in
          let n : tag_text level s at ≡ b = choose_true (is s at 19) _ _ f ∙ ap (λ (l : Level). labelled l b) v in
          record {
            long = ap length q ∙ length_written table p.used (record_of no_line (spanned a p.to) (One (NodeTag free (mid - free)) (p.used - 1)));
            same = λ deep used o store store₁ st w g d.
                let t = d.tree in
                let k = w.next in
                let z = ap length n in
                let c = count_one (spanned (start s at) (place_of t).stop) (node_tag b) t in
                let y = size_one (spanned (start s at) (place_of t).stop) (node_tag b) t in
                let x₁ = d.used_is in
                let x₂ = d.free_is in
                record {
                  tree = prefixed (start s at) (node_tag b) t;
                  read = tagged_read level deep g.read ∙ next_good _ _ d.read ∙ ap (λ (l : Level). got (in_tag l (start s at) b t) p.next) v;
                  used_is = omega arith;
                  free_is = omega arith;
                  from_is = e₁;
                  to_is = d.to_is;
                  short = (start_low s at a short e₁, d.short.1);
                  laid = tag_laid o store used free t store₁ table st table' (spanned (start s at) (place_of t).stop) b mid p.used (p.used - 1) (mid - free)
                      (w.now ∙ ap (sets store free) n) (omega arith) d.laid d.used_is (omega arith) (omega arith)
                      (q ∙ ap (λ (j : ℕ). written table p.used (record_of no_line (spanned j p.to) (One (NodeTag free (mid - free)) (p.used - 1)))) e₁
                      ∙ ap (λ (j : ℕ). written table p.used (record_of no_line (spanned (start s at) j) (One (NodeTag free (mid - free)) (p.used - 1)))) d.to_is);
                };
          }
