-- The paths of the functions that check rules and a whole grammar.
use Rattle.std.specs.Prelude.{ℕ, Option, Some, None, Result, Ok, Err}
use Prim.Native.Nat.{ℕ, zero, suc, ◌+◌, ◌-◌, ◌*◌, ◌≤◌, ◌<◌}
use mathlib.Core.Path.{◌≡◌, refl, sym, ap, ◌∙◌}
use mathlib.Core.Bool.{Bool, true, false, not}
use mathlib.Core.List.{List, [], ◌++◌}
use native.Mathlib.Omega.{arith}
use lib.Dec.{leb, eqb}
use lib.ListN.{length, take, drop, length-append}
use borrow.Author.Tests.{le-leb, lt-leb}
use Rattle.text.specs.Booleans.{choose, and}
use Rattle.text.specs.Words.{begins, push}
use Rattle.text.proofs.Booleans.{and_left, choose_false, choose_true, split}
use Rattle.text.specs.Limits.{max_text}
use Rattle.token.specs.Table.{toks, kind, start, end, is, between, word}
use Rattle.token.proofs.Table.{word_is}
use Rattle.table.specs.Tree.{Span, Tree, Rule, count, counts, stored, size, rule_stored, rules_stored}
use Rattle.structure.specs.declared.Level.{Level}
use Rattle.structure.specs.declared.Refusal.{Refusal}
use Rattle.structure.specs.declared.Why.TheVariants.{NotAllowed}
use Rattle.structure.specs.Refusals.{because}
use Rattle.structure.specs.declared.Piece.{Piece}
use Rattle.structure.specs.declared.Counts.{Counts}
use Rattle.structure.specs.Tokens.{across, spells}
use Rattle.structure.specs.Structure.{Parsed, got, refused, want, expr, Run, is_name, silent, mark_at, past_mark, past_bar, Ruled, rules, unruled, with_rule, Ruling, ruling, no_rule, rule_of, then_rules, rule_from, rules_up_to, docs_in, docs, grammar}
use Rattle.structure.specs.Answers.{summary, wanted, rule_summary, summaries}
use Rattle.structure.proofs.Steps.{inside_is, sees, misses, another, spells_in, spells_kind}
use Rattle.structure.proofs.Sizes.{most, word_short}
use Rattle.structure.proofs.Fuel.{Past, went}
use Rattle.structure.proofs.Wants.{piece, rule_counts, wanted_on, wanted_off, good, bad}

-- ---- a name, a mark, a `|`

module _ (s : List ℕ) (i x : ℕ) (e : x ≡ kind s i) where
  pub name_other : (x ≡ 18 → ⊥) → false ≡ is_name s i
  name_other q = sym (ap (λ (b : Bool). and b (not (begins push (word s i)))) (misses s i x 18 e q))

  pub name_by : x ≡ 18 → (a z : ℕ) → a ≡ start s i → z ≡ end s i → (r : Bool) → r ≡ begins push (take (z - a) (drop a s)) → not r ≡ is_name s i
  unfolding between
  name_by q a z f g r h =
      let w = word_is s i a z f g in
      ap not (h ∙ ap (begins push) w) ∙ sym (ap (λ (b : Bool). and b (not (begins push (word s i)))) (sees s i x 18 e q))

  pub mark_silent : (b : Bool) → b ≡ spells silent s i → b ≡ true → 1 ≡ mark_at s i
  unfolding mark_at
  mark_silent b f g = sym (choose_true (spells silent s i) _ _ (sym f ∙ g))

  pub mark_word : x ≡ 18 → (b : Bool) → b ≡ spells silent s i → b ≡ false → 0 ≡ mark_at s i
  unfolding mark_at
  mark_word q b f g =
      sym (choose_false (spells silent s i) _ _ (sym f ∙ g) ∙ choose_false (is s i 16) _ _ (another s i x 18 16 e q (λ h. omega arith)) ∙ choose_false (is s i 17) _ _ (another s i x 18 17 e q (λ h. omega arith))
      ∙ choose_false (is s i 9) _ _ (another s i x 18 9 e q (λ h. omega arith)))

  pub mark_atomic : x ≡ 16 → 2 ≡ mark_at s i
  unfolding mark_at
  mark_atomic q = sym (choose_false (spells silent s i) _ _ (spells_kind silent s i (another s i x 16 18 e q (λ h. omega arith))) ∙ choose_true (is s i 16) _ _ (sees s i x 16 e q))

  pub mark_compound : x ≡ 17 → 3 ≡ mark_at s i
  unfolding mark_at
  mark_compound q =
      sym (choose_false (spells silent s i) _ _ (spells_kind silent s i (another s i x 17 18 e q (λ h. omega arith))) ∙ choose_false (is s i 16) _ _ (another s i x 17 16 e q (λ h. omega arith)) ∙ choose_true (is s i 17) _ _ (sees s i x 17 e q))

  pub mark_non : x ≡ 9 → 4 ≡ mark_at s i
  unfolding mark_at
  mark_non q =
      sym (choose_false (spells silent s i) _ _ (spells_kind silent s i (another s i x 9 18 e q (λ h. omega arith))) ∙ choose_false (is s i 16) _ _ (another s i x 9 16 e q (λ h. omega arith)) ∙ choose_false (is s i 17) _ _ (another s i x 9 17 e q (λ h. omega arith))
      ∙ choose_true (is s i 9) _ _ (sees s i x 9 e q))

  pub mark_none : (x ≡ 18 → ⊥) → (x ≡ 16 → ⊥) → (x ≡ 17 → ⊥) → (x ≡ 9 → ⊥) → 0 ≡ mark_at s i
  unfolding mark_at
  mark_none a b c d =
      sym (choose_false (spells silent s i) _ _ (spells_kind silent s i (misses s i x 18 e a)) ∙ choose_false (is s i 16) _ _ (misses s i x 16 e b) ∙ choose_false (is s i 17) _ _ (misses s i x 17 e c)
      ∙ choose_false (is s i 9) _ _ (misses s i x 9 e d))

  pub bar_here : x ≡ 11 → i + 1 ≡ past_bar s i
  bar_here q = sym (choose_true (is s i 11) _ _ (sees s i x 11 e q))

  pub bar_none : (x ≡ 11 → ⊥) → i ≡ past_bar s i
  bar_none q = sym (choose_false (is s i 11) _ _ (misses s i x 11 e q))

pub name_in : (s : List ℕ) (i : ℕ) (b : Bool) → b ≡ is_name s i → b ≡ true → i < length (toks s)
name_in s i b e q = inside_is s i 18 (omega arith) (and_left (is s i 18) (not (begins push (word s i))) (sym e ∙ q))

pub mark_inside : (s : List ℕ) (i x : ℕ) → x ≡ mark_at s i → (x ≡ 0 → ⊥) → i < length (toks s)
unfolding mark_at
mark_inside s i x e q =
    split (spells silent s i) _ _ (λ a f. spells_in silent s i a)
    (λ a. split (is s i 16) _ _ (λ b f. inside_is s i 16 (omega arith) b)
    (λ b. split (is s i 17) _ _ (λ c f. inside_is s i 17 (omega arith) c) (λ c. split (is s i 9) _ _ (λ d f. inside_is s i 9 (omega arith) d) (λ d f. absurd (q (sym f)))))) (sym e)

by_test : (b : Bool) (i : ℕ) → (i ≤ choose b (λ u. i) (λ u. i + 1)) × (i ≤ choose b (λ u. i + 1) (λ u. i))
by_test true i = (omega arith, omega arith)
by_test false i = (omega arith, omega arith)

pub past_mark_on : (s : List ℕ) (i : ℕ) → i ≤ past_mark s i
past_mark_on s i = (by_test (eqb (mark_at s i) 0) i).0

pub past_bar_on : (s : List ℕ) (i : ℕ) → i ≤ past_bar s i
past_bar_on s i = (by_test (is s i 11) i).1

-- ---- a rule

no_rule_lem : {P : Type 0} {x : Refusal} {r : Rule Span} {n : ℕ} → no_rule x ≡ ruling r n → P
no_rule_lem e = let z : ◌≡◌ {A = ℕ} 0 1 = cc in absurd (omega arith)

pub want_rule : (s : List ℕ) (i k : ℕ) (f : ℕ → Ruling) {r : Rule Span} {n : ℕ} → 0 < k → want no_rule s i k f ≡ ruling r n → (is s i k ≡ true) × (i < length (toks s)) × (f (i + 1) ≡ ruling r n)
unfolding want
want_rule s i k f p e = split (is s i k) _ _ (λ v e₀. (v, inside_is s i k p v, e₀)) (λ v e₀. no_rule_lem e₀) e

pub rule_got : (m : Parsed) (f : Tree Span → ℕ → Ruling) {r : Rule Span} {n : ℕ} → rule_of m f ≡ ruling r n → (t : Tree Span) × (i : ℕ) × (m ≡ got t i) × (f t i ≡ ruling r n)
unfolding rule_of
rule_got (got t i) f e = (t, i, refl, e)
rule_got (refused x) f e = no_rule_lem e

rule_good : (m : Parsed) (f : Tree Span → ℕ → Ruling) {t : Tree Span} {n : ℕ} → m ≡ got t n → rule_of m f ≡ f t n
unfolding rule_of
rule_good m f e = ap (λ (x : Parsed). rule_of x f) e

rule_bad : (m : Parsed) (f : Tree Span → ℕ → Ruling) {x : Refusal} → m ≡ refused x → rule_of m f ≡ no_rule x
unfolding rule_of
rule_bad m f e = ap (λ (x : Parsed). rule_of x f) e

pub size_rule : (r : Rule Span) → length (rule_stored r) ≡ length r.name + size r.tree
unfolding rule_stored
size_rule r = length-append r.name (stored r.tree)

-- where a rule ends, and that it isn't large in a text of legal length
rule_goes : (level : Level) (s : List ℕ) (at : ℕ) (r : Rule Span) (n : ℕ) → rule_from level s at ≡ ruling r n
    → (at + count r.tree < n) × (n ≤ length (toks s)) × (length s ≤ max_text → length (rule_stored r) ≤ most * count r.tree + most)
unfolding rule_from
rule_goes level s at r n e =
    split (is_name s at) _ _
    (λ v e₀.
    let (v₁, p₁, e₁) = want_rule s (at + 1) 1 _ (omega arith) e₀ in
    let (v₂, p₂, e₂) = want_rule s (past_mark s (at + 1 + 1)) 2 _ (omega arith) e₁ in
    let (t, i, e₃, e₄) = rule_got _ _ e₂ in
    let (v₃, p₃, e₅) = want_rule s i 3 _ (omega arith) e₄ in
    let y : i + 1 ≡ n = cc in
    let x : record { name = word s at; mark = mark_at s (at + 1 + 1); tree = t; place = across s at at } ≡ r = cc in
    let c = ap (λ (z : Rule Span). count z.tree) x in
    let d = ap (λ (z : Rule Span). length (rule_stored z)) x in
    let d₁ = size_rule (record { name = word s at; mark = mark_at s (at + 1 + 1); tree = t; place = across s at at }) in
    let g = went level s (expr 0 (past_bar s (past_mark s (at + 1 + 1) + 1))) t i e₃ in
    let h = past_mark_on s (at + 1 + 1) in
    let l = past_bar_on s (past_mark s (at + 1 + 1) + 1) in
    let m = word_short s at in
    let b = g.few in
    (omega arith, omega arith, λ w. let a = g.small w in omega arith))
    (λ v e₀. no_rule_lem e₀) e

-- a rule takes a token at least
pub rule_past : (level : Level) (s : List ℕ) (at : ℕ) (r : Rule Span) (n : ℕ) → rule_from level s at ≡ ruling r n → Past s at n
rule_past level s at r n e = let g = rule_goes level s at r n e in (omega arith, g.1)

pub rule_went : (level : Level) (s : List ℕ) (at : ℕ) (r : Rule Span) (n : ℕ) → length s ≤ max_text → rule_from level s at ≡ ruling r n
    → (at + count r.tree < n) × (n ≤ length (toks s)) × (length (rule_stored r) ≤ most * count r.tree + most)
rule_went level s at r n w e = let (a, b, c) = rule_goes level s at r n e in (a, b, c w)

was_ruled : (m : Ruling) (r : Result Piece Refusal) (n k b : ℕ) → r ≡ rule_summary m → r ≡ Ok (piece n k b) → (u : Rule Span) × (m ≡ ruling u n) × (count u.tree ≡ k) × (length (rule_stored u) ≡ b)
unfolding rule_summary
was_ruled (ruling u i) r n k b e q =
    let h : ◌≡◌ {A = Piece} (piece i (count u.tree) (length (rule_stored u))) (piece n k b) = cc in
    (u, ap (λ (z : Piece). ruling u z.next) h, ap (λ (z : Piece). z.nodes) h, ap (λ (z : Piece). z.bytes) h)
was_ruled (no_rule x) r n k b e q = let z : ◌≡◌ {A = ℕ} 0 1 = cc in absurd (omega arith)

was_unruled : (m : Ruling) (r : Result Piece Refusal) (x : Refusal) → r ≡ rule_summary m → r ≡ Err x → m ≡ no_rule x
unfolding rule_summary
was_unruled (ruling u i) r x e q = let z : ◌≡◌ {A = ℕ} 0 1 = cc in absurd (omega arith)
was_unruled (no_rule y) r x e q = cc

sum_unruled : {m : Ruling} {x : Refusal} → m ≡ no_rule x → Err x ≡ rule_summary m
unfolding rule_summary
sum_unruled e = sym (ap rule_summary e)

sum_ruled : {m : Ruling} {u : Rule Span} {n : ℕ} (k b : ℕ) → m ≡ ruling u n → k ≡ count u.tree → b ≡ length (rule_stored u) → Ok (piece n k b) ≡ rule_summary m
unfolding rule_summary
sum_ruled {u = u} {n = n} k b e q w = ap (λ (x : ℕ). Ok (piece n x b)) q ∙ ap (λ (x : ℕ). Ok (piece n (count u.tree) x)) w ∙ sym (ap rule_summary e)

module _ (level : Level) (s : List ℕ) (at : ℕ) (b : Bool) (e : b ≡ is_name s at) where
  pub rule_unnamed : b ≡ false → (y : Refusal) → y ≡ because NotAllowed (start s at) → Err y ≡ rule_summary (rule_from level s at)
  unfolding rule_from
  rule_unnamed q y z = ap Err z ∙ sum_unruled (choose_false (is_name s at) _ _ (sym e ∙ q))

  module _ (q : b ≡ true) (a : Option ℕ) (f : a ≡ wanted s (at + 1) 1) where
    pub rule_untied : a ≡ None → (y : Refusal) → y ≡ because NotAllowed (start s (at + 1)) → Err y ≡ rule_summary (rule_from level s at)
    unfolding rule_from
    rule_untied g y z = sum_unruled (choose_true (is_name s at) _ _ (sym e ∙ q) ∙ wanted_off no_rule s (at + 1) 1 _ a y f g z)

    module _ (i : ℕ) (g : a ≡ Some i) (p : ℕ) (h : p ≡ past_mark s i) (c : Option ℕ) (l : c ≡ wanted s p 2) where
      to_brace : rule_from level s at
          ≡ want no_rule s p 2
          (λ j. rule_of (Run level s (expr 0 (past_bar s j))) (λ t n. want no_rule s n 3 (λ m. ruling (record { name = word s at; mark = mark_at s i; tree = t; place = across s at at }) m)))
      unfolding rule_from
      to_brace =
          choose_true (is_name s at) _ _ (sym e ∙ q) ∙ wanted_on no_rule s (at + 1) 1 _ a i f g
          ∙ ap
          (λ (x : ℕ). want no_rule s x 2 (λ j. rule_of (Run level s (expr 0 (past_bar s j))) (λ t n. want no_rule s n 3 (λ m. ruling (record { name = word s at; mark = mark_at s i; tree = t; place = across s at at }) m))))
          (sym h)

      pub rule_unbraced : c ≡ None → (y : Refusal) → y ≡ because NotAllowed (start s p) → Err y ≡ rule_summary (rule_from level s at)
      rule_unbraced m y z = sum_unruled (to_brace ∙ wanted_off no_rule s p 2 _ c y l m z)

      module _ (j : ℕ) (m : c ≡ Some j) (t : ℕ) (o : t ≡ past_bar s j) (r : Result Piece Refusal) (u : r ≡ summary (Run level s (expr 0 t))) where
        to_body : rule_from level s at
            ≡ rule_of (Run level s (expr 0 t)) (λ t n. want no_rule s n 3 (λ m. ruling (record { name = word s at; mark = mark_at s i; tree = t; place = across s at at }) m))
        to_body =
            to_brace ∙ wanted_on no_rule s p 2 _ c j l m
            ∙ ap (λ (x : ℕ). rule_of (Run level s (expr 0 x)) (λ t n. want no_rule s n 3 (λ m. ruling (record { name = word s at; mark = mark_at s i; tree = t; place = across s at at }) m))) (sym o)

        pub rule_refused : (x : Refusal) → r ≡ Err x → Err x ≡ rule_summary (rule_from level s at)
        rule_refused x v = sum_unruled (to_body ∙ rule_bad _ _ (bad _ r x u v))

        module _ (n k b₁ : ℕ) (v : r ≡ Ok (piece n k b₁)) (d : Option ℕ) (w : d ≡ wanted s n 3) where
          pub rule_unclosed : d ≡ None → (y : Refusal) → y ≡ because NotAllowed (start s n) → Err y ≡ rule_summary (rule_from level s at)
          rule_unclosed x y z = let (t₁, g₁, c₁, d₁) = good _ r n k b₁ u v in sum_unruled (to_body ∙ rule_good _ _ g₁ ∙ wanted_off no_rule s n 3 _ d y w x z)

          pub rule_read : (z : ℕ) → d ≡ Some z → (y : ℕ) → y ≡ length (word s at) → Ok (piece z k (y + b₁)) ≡ rule_summary (rule_from level s at)
          rule_read z x y h₁ =
              let (t₁, g₁, c₁, d₁) = good _ r n k b₁ u v in
              let d₂ = size_rule (record { name = word s at; mark = mark_at s i; tree = t₁; place = across s at at }) in
              sum_ruled {u = record { name = word s at; mark = mark_at s i; tree = t₁; place = across s at at }} k (y + b₁) (to_body ∙ rule_good _ _ g₁ ∙ wanted_on no_rule s n 3 _ d z w x) (sym c₁) (omega arith)

-- ---- docs at the front

docs_step : (s : List ℕ) (k i : ℕ) → is s i 26 ≡ true → docs_in s (suc k) i ≡ docs_in s k (i + 1)
unfolding docs_in
docs_step s k i e = choose_true (is s i 26) _ _ e

docs_stop : (s : List ℕ) (k i : ℕ) → is s i 26 ≡ false → docs_in s k i ≡ i
unfolding docs_in
docs_stop s zero i e = refl
docs_stop s (suc k) i e = choose_false (is s i 26) _ _ e

pub record DocsInv (s : List ℕ) (i : ℕ) : Type 0 where
  pub within : i ≤ length (toks s)
  pub same : docs s ≡ docs_in s (length (toks s) - i) i

pub docs_more : (s : List ℕ) (i x : ℕ) → x ≡ kind s i → x ≡ 26 → DocsInv s i → (i < length (toks s)) × DocsInv s (i + 1)
docs_more s i x e q v =
    let f = sees s i x 26 e q in
    let m = inside_is s i 26 (omega arith) f in
    let z : length (toks s) - i ≡ suc (length (toks s) - (i + 1)) = omega arith in
    (m, record { within = omega arith; same = v.same ∙ ap (λ (k : ℕ). docs_in s k i) z ∙ docs_step s (length (toks s) - (i + 1)) i f })

pub docs_done : (s : List ℕ) (i x : ℕ) → x ≡ kind s i → (x ≡ 26 → ⊥) → DocsInv s i → i ≡ docs s
docs_done s i x e q v = sym (v.same ∙ docs_stop s (length (toks s) - i) i (misses s i x 26 e q))

-- ---- the rules

-- counts that come before those of what is left
unfoldable pub plus : ℕ → ℕ → ℕ → Result Counts Refusal → Result Counts Refusal
plus a b c (Ok m) = Ok (record { rules = a + m.rules; nodes = b + m.nodes; bytes = c + m.bytes })
plus a b c (Err r) = Err r

rules₃ : (a b c x y z : ℕ) → a ≡ x → b ≡ y → c ≡ z → ◌≡◌ {A = Result Counts Refusal} (Ok (rule_counts a b c)) (Ok (rule_counts x y z))
rules₃ a b c x y z e f g = rw (e, f, g) refl

plus_none : (r : Result Counts Refusal) → plus 0 0 0 r ≡ r
unfolding plus
plus_none (Ok m) = rules₃ (0 + m.rules) (0 + m.nodes) (0 + m.bytes) m.rules m.nodes m.bytes (omega arith) (omega arith) (omega arith)
plus_none (Err r) = refl

plus_plus : (a b c x y z : ℕ) (r : Result Counts Refusal) → plus a b c (plus x y z r) ≡ plus (a + x) (b + y) (c + z) r
unfolding plus
plus_plus a b c x y z (Ok m) = rules₃ (a + (x + m.rules)) (b + (y + m.nodes)) (c + (z + m.bytes)) (a + x + m.rules) (b + y + m.nodes) (c + z + m.bytes) (omega arith) (omega arith) (omega arith)
plus_plus a b c x y z (Err r) = refl

with_sum : (r : Rule Span) (m : Ruled) → summaries (with_rule r m) ≡ plus 1 (count r.tree) (length (rule_stored r)) (summaries m)
unfolding summaries plus counts rules_stored
with_sum r (rules rs) =
    rules₃ (suc (length rs)) (count r.tree + counts rs) (length (rule_stored r ++ rules_stored rs)) (1 + length rs) (count r.tree + counts rs) (length (rule_stored r) + length (rules_stored rs)) (omega arith) refl
    (length-append (rule_stored r) (rules_stored rs))
with_sum r (unruled x) = refl

module _ (level : Level) (s : List ℕ) where
  pub rules_end : (k at : ℕ) → length (toks s) ≤ at → rules_up_to level s k at ≡ rules []
  unfolding rules_up_to
  rules_end zero at h = refl
  rules_end (suc k) at h = choose_true (leb (length (toks s)) at) _ _ (le-leb (length (toks s)) at h)

  pub rules_doc : (k at : ℕ) → at < length (toks s) → is s at 27 ≡ true → rules_up_to level s (suc k) at ≡ rules_up_to level s k (at + 1)
  unfolding rules_up_to
  rules_doc k at h e = choose_false (leb (length (toks s)) at) _ _ (lt-leb (length (toks s)) at h) ∙ choose_true (is s at 27) _ _ e

  pub rules_rule : (k at : ℕ) → at < length (toks s) → is s at 27 ≡ false → rules_up_to level s (suc k) at ≡ then_rules (rule_from level s at) (λ r n. with_rule r (rules_up_to level s k n))
  unfolding rules_up_to
  rules_rule k at h e = choose_false (leb (length (toks s)) at) _ _ (lt-leb (length (toks s)) at h) ∙ choose_false (is s at 27) _ _ e

  pub rule_then : (at k : ℕ) {r : Rule Span} {n : ℕ} → rule_from level s at ≡ ruling r n → then_rules (rule_from level s at) (λ r n. with_rule r (rules_up_to level s k n)) ≡ with_rule r (rules_up_to level s k n)
  unfolding then_rules
  rule_then at k e = ap (λ (x : Ruling). then_rules x (λ r n. with_rule r (rules_up_to level s k n))) e

  pub rule_else : (at k : ℕ) {x : Refusal} → rule_from level s at ≡ no_rule x → then_rules (rule_from level s at) (λ r n. with_rule r (rules_up_to level s k n)) ≡ unruled x
  unfolding then_rules
  rule_else at k e = ap (λ (x : Ruling). then_rules x (λ r n. with_rule r (rules_up_to level s k n))) e

  -- what was counted up to an index
  pub record RulesInv (i a b c : ℕ) : Type 0 where
    pub fuel : ℕ
    pub enough : length (toks s) ≤ i + fuel
    pub within : i ≤ length (toks s)
    pub rules : a ≤ i
    pub nodes : b ≤ i
    pub bytes : c ≤ most * i
    pub same : summaries (grammar level s) ≡ plus a b c (summaries (rules_up_to level s fuel i))

  pub grammar_none : (i : ℕ) → i ≡ docs s → length (toks s) ≤ i → Err (because NotAllowed (length s)) ≡ summaries (grammar level s)
  unfolding grammar summaries
  grammar_none i e h = sym (ap summaries (choose_true (leb (length (toks s)) (docs s)) _ _ (le-leb (length (toks s)) (docs s) (omega arith))))

  pub grammar_start : (i : ℕ) → i ≡ docs s → i < length (toks s) → RulesInv i 0 0 0
  unfolding grammar
  grammar_start i e h = record {
    fuel = length (toks s);
    enough = omega arith;
    within = omega arith;
    rules = omega arith;
    nodes = omega arith;
    bytes = omega arith;
    same =
        ap summaries (choose_false (leb (length (toks s)) (docs s)) _ _ (lt-leb (length (toks s)) (docs s) (omega arith)) ∙ ap (rules_up_to level s (length (toks s))) (sym e))
        ∙ sym (plus_none (summaries (rules_up_to level s (length (toks s)) i)));
  }

  pub grammar_done : (i a b c : ℕ) → length (toks s) ≤ i → RulesInv i a b c → Ok (rule_counts a b c) ≡ summaries (grammar level s)
  unfolding summaries plus counts rules_stored
  grammar_done i a b c h v =
      rules₃ a b c (a + 0) (b + 0) (c + 0) (omega arith) (omega arith) (omega arith) ∙ sym (v.same ∙ ap (λ (m : Ruled). plus a b c (summaries m)) (rules_end v.fuel i h))

  pub grammar_doc : (i a b c x : ℕ) → i < length (toks s) → x ≡ kind s i → x ≡ 27 → RulesInv i a b c → RulesInv (i + 1) a b c
  grammar_doc i a b c x h e q v = go v.fuel v.enough v.same
    where
      go : (k : ℕ) → length (toks s) ≤ i + k → summaries (grammar level s) ≡ plus a b c (summaries (rules_up_to level s k i)) → RulesInv (i + 1) a b c
      go zero l g = absurd (omega arith)
      go (suc k) l g = record {
        fuel = k;
        enough = omega arith;
        within = omega arith;
        rules = omega (arith, v.rules);
        nodes = omega (arith, v.nodes);
        bytes = omega (arith, v.bytes);
        same = g ∙ ap (λ (m : Ruled). plus a b c (summaries m)) (rules_doc k i h (sees s i x 27 e q));
      }

  pub grammar_refused : (i a b c x : ℕ) → i < length (toks s) → x ≡ kind s i → (x ≡ 27 → ⊥) → RulesInv i a b c → (r : Result Piece Refusal) (y : Refusal) → r ≡ rule_summary (rule_from level s i) → r ≡ Err y
      → Err y ≡ summaries (grammar level s)
  unfolding summaries plus
  grammar_refused i a b c x h e q v r y f g = go v.fuel v.enough v.same
    where
      go : (k : ℕ) → length (toks s) ≤ i + k → summaries (grammar level s) ≡ plus a b c (summaries (rules_up_to level s k i)) → Err y ≡ summaries (grammar level s)
      go zero l w = absurd (omega arith)
      go (suc k) l w =
          sym (w ∙ ap (λ (m : Ruled). plus a b c (summaries m)) (rules_rule k i h (misses s i x 27 e q) ∙ rule_else i k (was_unruled (rule_from level s i) r y f g)))

  pub grammar_more : length s ≤ max_text → (i a b c x : ℕ) → i < length (toks s) → x ≡ kind s i → (x ≡ 27 → ⊥) → RulesInv i a b c
      → (r : Result Piece Refusal) (n k₁ b₁ : ℕ) → r ≡ rule_summary (rule_from level s i) → r ≡ Ok (piece n k₁ b₁) → (i < n) × RulesInv n (a + 1) (b + k₁) (c + b₁)
  grammar_more t i a b c x h e q v r n k₁ b₁ f g = go v.fuel v.enough v.same
    where
      go : (k : ℕ) → length (toks s) ≤ i + k → summaries (grammar level s) ≡ plus a b c (summaries (rules_up_to level s k i)) → (i < n) × RulesInv n (a + 1) (b + k₁) (c + b₁)
      go zero l w = absurd (omega arith)
      go (suc k) l w =
          let (u, m, o, p) = was_ruled (rule_from level s i) r n k₁ b₁ f g in
          let y = rule_went level s i u n t m in
          let v₁ = v.rules in
          let v₂ = v.nodes in
          let v₃ = v.bytes in (
            omega arith,
            record {
              fuel = k;
              enough = omega arith;
              within = omega arith;
              rules = omega arith;
              nodes = omega arith;
              bytes = omega arith;
              same =
                  w ∙ ap (λ (m : Ruled). plus a b c (summaries m)) (rules_rule k i h (misses s i x 27 e q) ∙ rule_then i k m) ∙ ap (plus a b c) (with_sum u (rules_up_to level s k n))
                  ∙ plus_plus a b c 1 (count u.tree) (length (rule_stored u)) (summaries (rules_up_to level s k n))
                  ∙ ap (λ (j : ℕ). plus (a + 1) (b + j) (c + length (rule_stored u)) (summaries (rules_up_to level s k n))) o
                  ∙ ap (λ (j : ℕ). plus (a + 1) (b + k₁) (c + j) (summaries (rules_up_to level s k n))) p;
            },
          )
