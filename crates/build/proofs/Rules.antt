-- Rules in the buffers, one after another.
use Prim.Native.Nat.{ℕ, zero, suc, ◌+◌, ◌-◌, ◌≤◌, ◌<◌}
use mathlib.Core.Path.{◌≡◌, refl, sym, ap, ◌∙◌}
use mathlib.Core.Bool.{false}
use mathlib.Core.List.{List, [], ◌∷◌, ◌++◌}
use native.Mathlib.Omega.{arith}
use lib.Dec.{leb, eqb}
use lib.ListN.{length, length-append}
use lib.Seq.{sets, length-sets}
use Rattle.text.specs.Splice.{Wrote}
use Rattle.text.specs.Splice as Splice
use Rattle.text.proofs.Splices.{sets_front}
use Rattle.text.proofs.Booleans.{split}
use Rattle.text.specs.Limits.{max_text}
use Rattle.table.specs.Tree.{Span, Tree, Rule, below, count, counts, size, stored, rule_stored, rules_stored}
use Rattle.table.specs.Flat.{no_line, flat, rule_record, nodes_from, records_from, nodes_of, records_of}
use Rattle.table.proofs.Flats.{length_flat}
use Rattle.table.proofs.Rules.{length_rule, length_nodes, length_records}
use Rattle.structure.specs.declared.Level.{Level}
use Rattle.structure.specs.Tokens.{across, spells}
use Rattle.structure.specs.Structure.{got, expr, Run, silent, mark_at, past_mark, past_bar, Ruled, rules, unruled, with_rule, Ruling, ruling, no_rule, then_rules, rule_from, rules_up_to, docs, grammar}
use Rattle.token.proofs.Lists.{few}
use Rattle.token.specs.Table.{toks, kind, start, end, is, between, word}
use Rattle.token.proofs.Table.{low, word_is, part_length}
use borrow.Author.Tests.{leb-false}
use Rattle.structure.proofs.Steps.{sees, misses}
use Rattle.structure.proofs.Cases.{rule_read}
use Rattle.structure.proofs.Rules.{size_rule, rule_went, rules_end, rules_doc, rules_rule}
use Rattle.build.specs.declared.Placed.{Placed}
use Rattle.build.specs.declared.RuleEnd.{RuleEnd}
use Rattle.build.specs.Build.{TreeRoom, Built}
use Rattle.records.specs.Records.{written, rule_written, RuleFits}
use Rattle.build.specs.Rules.{RuleRoom, RuleBuilt, GrammarRoom, RulesBuilt}
use Rattle.records.proofs.Patches.{length_written, length_rule_written, sets_on, written_on, rule_written_on}

-- ---- one rule

mark_small : (s : List ℕ) (i x : ℕ) → x ≡ mark_at s i → x ≤ 4
unfolding mark_at
mark_small s i x e =
    split (spells silent s i) _ _ (λ a f. omega arith)
    (λ a. split (is s i 16) _ _ (λ b f. omega arith)
    (λ b. split (is s i 17) _ _ (λ c f. omega arith) (λ c. split (is s i 9) _ _ (λ d f. omega arith) (λ d f. omega arith)))) (sym e)

-- the rule with a name at an index and a tree
abbrev made : List ℕ → ℕ → Tree Span → Rule Span
made s at t = record { name = word s at; mark = mark_at s (at + 1 + 1); tree = t; place = across s at at }

-- a mark is one token at most
pub mark_near : (s : List ℕ) (i x : ℕ) → x ≡ past_mark s i → x ≤ i + 1
mark_near s i x e = split (eqb (mark_at s i) 0) _ _ (λ a f. omega arith) (λ a f. omega arith) (sym e)

module _ (level : Level) (s nodes rows store : List ℕ) (at index used free : ℕ) (short : length s ≤ max_text) (g : RuleRoom (rule_from level s at) nodes rows store index used free) where
  pub rule_inside : (at + count g.rule.tree < g.end) × (g.end ≤ length (toks s)) × (length (toks s) ≤ max_text)
  rule_inside = let p = rule_went level s at g.rule g.end short g.read in let f = few s in (p.0, p.1, omega arith)

  module _ (a z : ℕ) (e₁ : a ≡ start s at) (e₂ : z ≡ end s at) where
    name_bytes : length (between s a z) ≡ length g.rule.name
    name_bytes = ap length (word_is s at a z e₁ e₂ ∙ sym (ap (λ (r : Rule Span). r.name) (rule_read level s at g.read).rule))

    pub name_inside : (a ≤ z) × (z ≤ length s)
    name_inside = let p = low s at in (omega arith, omega arith)

    pub name_room : Splice.Room store free (between s a z)
    name_room =
        let n = name_bytes in
        let m = size_rule g.rule in
        let f = g.fits in
        record { fits = omega arith }

    module _ (named : ℕ) (store₁ : List ℕ) (w : Wrote store free (between s a z) store₁ named) (mark : ℕ) (e₃ : mark ≡ mark_at s (at + 1 + 1)) (brace : ℕ) (e₄ : brace ≡ past_mark s (at + 1 + 1))
        (inner : ℕ) (e₅ : inner ≡ past_bar s (brace + 1)) where
      body_read : Run level s (expr 0 inner) ≡ got (rule_read level s at g.read).body (rule_read level s at g.read).past
      body_read = ap (λ (i : ℕ). Run level s (expr 0 i)) (e₅ ∙ ap (λ (i : ℕ). past_bar s (i + 1)) e₄) ∙ (rule_read level s at g.read).read

      pub body_room : TreeRoom (Run level s (expr 0 inner)) nodes store₁ used named
      body_room =
          let q = (rule_read level s at g.read).rule in
          let c = ap (λ (r : Rule Span). count r.tree) q in
          let d = ap (λ (r : Rule Span). size r.tree) q in
          let m = size_rule g.rule in
          let n = name_bytes in
          let f₁ = g.room in
          let f₂ = g.few in
          let f₃ = g.fits in
          let f₄ = g.low in
          let l = ap length w.now ∙ length-sets store free (between s a z) in
          let k = w.next in
          record {
            tree = (rule_read level s at g.read).body;
            end = (rule_read level s at g.read).past;
            read = body_read;
            room = omega arith;
            few = omega arith;
            fits = omega arith;
            low = omega arith;
          }

      module _ (r : Placed) (nodes₁ store₂ : List ℕ) (b : Built (Run level s (expr 0 inner)) nodes store₁ used named r nodes₁ store₂) where
        tree_is : (rule_read level s at g.read).body ≡ b.tree
        tree_is = cc (body_read, b.read)

        past_is : (rule_read level s at g.read).past ≡ r.next
        past_is = cc (body_read, b.read)

        rule_is : g.rule ≡ made s at b.tree
        rule_is = (rule_read level s at g.read).rule ∙ ap (made s at) tree_is

        pub past_inside : r.next + 1 ≤ max_text
        past_inside =
            let p = past_is in
            let q = (rule_read level s at g.read).next in
            let i = rule_inside in
            omega arith

        pub rule_fits : RuleFits rows index free (z - a) mark (r.used - 1) a z
        rule_fits =
            let c = ap (λ (u : Rule Span). count u.tree) rule_is in
            let p = name_inside in
            let m = mark_small s (at + 1 + 1) mark e₃ in
            let f₁ = g.place in
            let f₂ = g.few in
            let f₃ = g.low in
            let u = b.used_is in
            record { room = f₁; name = omega arith; long = omega arith; kept = omega arith; node = omega arith; from = omega arith; to = omega arith }

        pub rule_built : (rows₁ : List ℕ) → rows₁ ≡ rule_written rows index (free ∷ (z - a) ∷ mark ∷ (r.used - 1) ∷ a ∷ z ∷ [])
            → RuleBuilt (rule_from level s at) nodes rows store index used free (record { next = r.next + 1; used = r.used; free = r.free }) nodes₁ rows₁ store₂
        unfolding rule_record rule_stored
        rule_built rows₁ q =
            let x = word_is s at a z e₁ e₂ in
            let n : z - a ≡ length (word s at) = sym (part_length s a z name_inside.1) ∙ ap length x in
            let k : named ≡ free + length (word s at) = w.next ∙ ap (λ (y : List ℕ). free + length y) x in
            let u : r.used - 1 ≡ used + below b.tree = omega (arith, b.used_is) in
            record {
              rule = made s at b.tree;
              read = g.read ∙ ap (λ (y : Rule Span). ruling y g.end) rule_is ∙ ap (ruling (made s at b.tree)) ((rule_read level s at g.read).next ∙ ap (λ (i : ℕ). i + 1) past_is);
              used_is = b.used_is;
              free_is = omega (arith, b.free_is, length-append (word s at) (stored b.tree));
              table = b.laid.holds ∙ ap (λ (i : ℕ). written nodes used (flat no_line used i b.tree)) k;
              row = q ∙ rw (n, e₃, u, e₁, e₂);
              texts = sets_on store store₁ store₂ (word s at) (stored b.tree) free named (w.now ∙ ap (sets store free) x) b.laid.keeps k;
            }

-- ---- all of them

then_rules_lem : (m : Ruling) (f : Rule Span → ℕ → Ruled) {us : List (Rule Span)} → then_rules m f ≡ rules us → (r : Rule Span) × (n : ℕ) × (m ≡ ruling r n) × (f r n ≡ rules us)
unfolding then_rules
then_rules_lem (ruling r n) f e = (r, n, refl, e)
then_rules_lem (no_rule x) f e = let z : ◌≡◌ {A = ℕ} 0 1 = cc in absurd (omega arith)

with_rule_lem : (r : Rule Span) (m : Ruled) {us : List (Rule Span)} → with_rule r m ≡ rules us → (vs : List (Rule Span)) × (m ≡ rules vs) × (us ≡ r ∷ vs)
with_rule_lem r (rules vs) e = (vs, refl, cc)
with_rule_lem r (unruled x) e = let z : ◌≡◌ {A = ℕ} 0 1 = cc in absurd (omega arith)

pub no_rules : (us vs : List (Rule Span)) → rules us ≡ rules vs → us ≡ vs
no_rules us vs e = cc

module _ (level : Level) (s : List ℕ) where
  -- the next rule of those left, and those after it
  pub record NextRule (k i : ℕ) (us : List (Rule Span)) : Type 0 where
    pub rule : Rule Span
    pub next : ℕ
    pub later : List (Rule Span)
    pub read : rule_from level s i ≡ ruling rule next
    pub rest : rules_up_to level s k next ≡ rules later
    pub are : us ≡ rule ∷ later

  pub next_rule : (k i : ℕ) (us : List (Rule Span)) → i < length (toks s) → is s i 27 ≡ false → rules_up_to level s (suc k) i ≡ rules us → NextRule k i us
  next_rule k i us h f e =
      let (r, n, q, w) = then_rules_lem (rule_from level s i) _ (sym (rules_rule level s k i h f) ∙ e) in
      let (vs, x, y) = with_rule_lem r (rules_up_to level s k n) w in
      record { rule = r; next = n; later = vs; read = q; rest = x; are = y }

  -- what the turns keep: what is left to be written comes to the same as all
  pub record RulesInv (us : List (Rule Span)) (nodes₀ rows₀ store₀ : List ℕ) (i index used free : ℕ) (nodes rows store : List ℕ) : Type 0 where
    pub fuel : ℕ
    pub left : List (Rule Span)
    pub rest : rules_up_to level s fuel i ≡ rules left
    pub enough : length (toks s) ≤ i + fuel
    pub within : i ≤ length (toks s)
    pub few : index ≤ i
    pub many : index + length left ≡ length us
    pub fewer : used + counts left ≡ counts us
    pub bytes : free + length (rules_stored left) ≡ length (rules_stored us)
    pub long : (length nodes ≡ length nodes₀) × (length rows ≡ length rows₀) × (length store ≡ length store₀)
    pub table : written nodes used (nodes_from no_line used free left) ≡ written nodes₀ 0 (nodes_of no_line us)
    pub records : rule_written rows index (records_from used free left) ≡ rule_written rows₀ 0 (records_of us)
    pub texts : sets store free (rules_stored left) ≡ sets store₀ 0 (rules_stored us)

  pub rules_start : (us : List (Rule Span)) (nodes rows store : List ℕ) (i : ℕ) → i ≡ docs s → grammar level s ≡ rules us → RulesInv us nodes rows store i 0 0 0 nodes rows store
  unfolding grammar
  rules_start us nodes rows store i e q =
      split (leb (length (toks s)) (docs s)) _ _ (λ v f. let z : ◌≡◌ {A = ℕ} 0 1 = cc in absurd (omega arith))
      (λ v f.
      let l = leb-false (length (toks s)) (docs s) v in
      record {
        fuel = length (toks s);
        left = us;
        rest = ap (rules_up_to level s (length (toks s))) e ∙ f;
        enough = omega arith;
        within = omega arith;
        few = omega arith;
        many = omega arith;
        fewer = omega arith;
        bytes = omega arith;
        long = (refl, refl, refl);
        table = refl;
        records = refl;
        texts = refl;
      }) q

  module _ (us : List (Rule Span)) (nodes₀ rows₀ store₀ : List ℕ) (i index used free : ℕ) (nodes rows store : List ℕ) (v : RulesInv us nodes₀ rows₀ store₀ i index used free nodes rows store) where
    pub rules_done : length (toks s) ≤ i → GrammarRoom (grammar level s) us nodes₀ rows₀ store₀ → RulesBuilt us nodes₀ rows₀ store₀ nodes rows store
    unfolding written rule_written nodes_from records_from rules_stored
    rules_done h g =
        let e : v.left ≡ [] = no_rules v.left [] (sym v.rest ∙ rules_end level s v.fuel i h) in
        let n = length_nodes no_line 0 0 us in
        let m = length_records 0 0 us in
        record {
          nodes_is = sym (ap (λ (x : List (Rule Span)). written nodes used (nodes_from no_line used free x)) e) ∙ v.table ∙ sets_front nodes₀ (nodes_of no_line us) (omega (arith, g.room));
          rules_is = sym (ap (λ (x : List (Rule Span)). rule_written rows index (records_from used free x)) e) ∙ v.records ∙ sets_front rows₀ (records_of us) (omega (arith, g.rows));
          store_is = sym (ap (λ (x : List (Rule Span)). sets store free (rules_stored x)) e) ∙ v.texts ∙ sets_front store₀ (rules_stored us) g.fits;
        }

    module _ (h : i < length (toks s)) (x : ℕ) (e : x ≡ kind s i) where
      pub rules_doc_more : x ≡ 27 → RulesInv us nodes₀ rows₀ store₀ (i + 1) index used free nodes rows store
      rules_doc_more q = go v.fuel v.rest v.enough
        where
          go : (k : ℕ) → rules_up_to level s k i ≡ rules v.left → length (toks s) ≤ i + k → RulesInv us nodes₀ rows₀ store₀ (i + 1) index used free nodes rows store
          go zero f l = absurd (omega arith)
          go (suc k) f l = record {
            fuel = k;
            left = v.left;
            rest = sym (rules_doc level s k i h (sees s i x 27 e q)) ∙ f;
            enough = omega arith;
            within = omega arith;
            few = omega (arith, v.few);
            many = v.many;
            fewer = v.fewer;
            bytes = v.bytes;
            long = v.long;
            table = v.table;
            records = v.records;
            texts = v.texts;
          }

      module _ (q : x ≡ 27 → ⊥) where
        upcoming : (k : ℕ) × (length (toks s) ≤ i + suc k) × NextRule k i v.left
        upcoming = go v.fuel v.rest v.enough
          where
            go : (k : ℕ) → rules_up_to level s k i ≡ rules v.left → length (toks s) ≤ i + k → (k : ℕ) × (length (toks s) ≤ i + suc k) × NextRule k i v.left
            go zero f l = absurd (omega arith)
            go (suc k) f l = (k, l, next_rule k i v.left h (misses s i x 27 e q) f)

        pub rules_room : GrammarRoom (grammar level s) us nodes₀ rows₀ store₀ → RuleRoom (rule_from level s i) nodes rows store index used free
        unfolding counts rules_stored
        rules_room g =
            let (k, l, n) = upcoming in
            let a = ap (length {A = Rule Span}) n.are in
            let b = ap (counts {P = Span}) n.are in
            let c = ap (λ (y : List (Rule Span)). length (rules_stored y)) n.are ∙ length-append (rule_stored n.rule) (rules_stored n.later) in
            let v₁ = v.many in
            let v₂ = v.fewer in
            let v₃ = v.bytes in
            let v₄ = v.long in
            let g₁ = g.rows in
            let g₂ = g.room in
            let g₃ = g.few in
            let g₄ = g.fits in
            let g₅ = g.low in
            record {
              rule = n.rule;
              end = n.next;
              read = n.read;
              place = omega arith;
              room = omega arith;
              few = omega arith;
              fits = omega arith;
              low = omega arith;
            }

        module _ (short : length s ≤ max_text) (r : RuleEnd) (nodes₁ rows₁ store₁ : List ℕ) (d : RuleBuilt (rule_from level s i) nodes rows store index used free r nodes₁ rows₁ store₁) where
          pub rules_more : (i < r.next) × RulesInv us nodes₀ rows₀ store₀ r.next (index + 1) r.used r.free nodes₁ rows₁ store₁
          unfolding counts rules_stored nodes_from records_from
          rules_more =
              let (k, l, n) = upcoming in
              let p : n.rule ≡ d.rule = cc (n.read, d.read) in
              let o : n.next ≡ r.next = cc (n.read, d.read) in
              let are : v.left ≡ d.rule ∷ n.later = n.are ∙ ap (λ (y : Rule Span). y ∷ n.later) p in
              let a = ap (length {A = Rule Span}) are in
              let b = ap (counts {P = Span}) are in
              let c = ap (λ (y : List (Rule Span)). length (rules_stored y)) are ∙ length-append (rule_stored d.rule) (rules_stored n.later) in
              let w = rule_went level s i d.rule r.next short d.read in
              let v₁ = v.many in
              let v₂ = v.fewer in
              let v₃ = v.bytes in
              let u₁ = d.used_is in
              let u₂ = d.free_is in
              let t₁ = flat no_line used (free + length d.rule.name) d.rule.tree in
              let t₂ = rule_record free (used + below d.rule.tree) d.rule in (
                omega arith,
                record {
                  fuel = k;
                  left = n.later;
                  rest = ap (rules_up_to level s k) (sym o) ∙ n.rest;
                  enough = omega arith;
                  within = omega arith;
                  few = omega (arith, v.few);
                  many = omega arith;
                  fewer = omega arith;
                  bytes = omega arith;
                  long = (
                    ap length d.table ∙ length_written nodes used t₁ ∙ v.long.0,
                    ap length d.row ∙ length_rule_written rows index t₂ ∙ v.long.1,
                    ap length d.texts ∙ length-sets store free (rule_stored d.rule) ∙ v.long.2,
                  );
                  table =
                      written_on nodes nodes₁ _ used (count d.rule.tree) r.used t₁ (nodes_from no_line r.used r.free n.later) d.table refl (length_flat no_line used (free + length d.rule.name) d.rule.tree) u₁
                      ∙ ap (λ (y : ℕ). written nodes used (t₁ ++ nodes_from no_line y r.free n.later)) u₁
                      ∙ ap (λ (y : ℕ). written nodes used (t₁ ++ nodes_from no_line (used + count d.rule.tree) y n.later)) u₂
                      ∙ sym (ap (λ (y : List (Rule Span)). written nodes used (nodes_from no_line used free y)) are) ∙ v.table;
                  records =
                      rule_written_on rows rows₁ _ index 1 (index + 1) t₂ (records_from r.used r.free n.later) d.row refl (length_rule free (used + below d.rule.tree) d.rule) refl
                      ∙ ap (λ (y : ℕ). rule_written rows index (t₂ ++ records_from y r.free n.later)) u₁
                      ∙ ap (λ (y : ℕ). rule_written rows index (t₂ ++ records_from (used + count d.rule.tree) y n.later)) u₂
                      ∙ sym (ap (λ (y : List (Rule Span)). rule_written rows index (records_from used free y)) are) ∙ v.records;
                  texts =
                      sets_on store store₁ _ (rule_stored d.rule) (rules_stored n.later) free r.free d.texts refl u₂
                      ∙ sym (ap (λ (y : List (Rule Span)). sets store free (rules_stored y)) are) ∙ v.texts;
                },
              )
