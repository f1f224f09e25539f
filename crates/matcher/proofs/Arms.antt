-- What the code's branches give is what the definition says: one law for each return of a visit and of a repetition, and for each turn
-- of their loops.
use Rattle.std.specs.Prelude.{ℕ, Option}
use mathlib.Core.Bool.{Bool, true, false}
use Prim.Native.Nat.{ℕ, zero, suc, ◌+◌, ◌-◌, ◌≤◌, ◌<◌}
use mathlib.Core.Path.{◌≡◌, refl, sym, ap, ◌∙◌, subst}
use mathlib.Core.List.{List}
use native.Mathlib.Omega.{arith}
use native.Mathlib.Numerals.{add-one}
use lib.Dec.{leb}
use lib.ListN.{length, drop}
use borrow.Author.Tests.{le-leb, lt-leb}
use Rattle.table.specs.Characters.{choose, within, char_of}
use Rattle.table.specs.Record.{part, nodes_in}
use Rattle.links.specs.declared.Act.{Act}
use Rattle.links.specs.declared.Act.TheVariants.{Text, Range, Any, Call, PosPred, NegPred, Seq, Choice, Repeat, Unfit}
use Rattle.matcher.specs.declared.Outcome.{Outcome}
use Rattle.matcher.specs.declared.Outcome.TheVariants.{Matched, Missed, Over}
use Rattle.links.specs.Program.{linked_at, Leads, Runnable}
use Rattle.matcher.specs.Match.{outcome_by, took, starts, one, any_character, full, repeat, enter, visit}
use Rattle.matcher.proofs.Leaves.{took_true, took_false}
use Rattle.matcher.proofs.Visits.{visit_below, repeat_law, fewer}

-- ---- where a sound program leads

module _ (ns ls st : List ℕ) (i : ℕ) (s : Runnable ns ls st) (h : i < nodes_in ns) {n : Act} (e : n ≡ linked_at ns ls i) where
  pub leads_to : {x : Act} → n ≡ x → Leads (nodes_in ns) (length st) x
  leads_to q = subst (Leads (nodes_in ns) (length st)) (sym e ∙ q) (s.leads i h)

-- ---- after a visit

after_matched : {x m : Outcome} {e l : ℕ} (f : ℕ → ℕ → Outcome) (g : ℕ → Outcome) → x ≡ m → x ≡ Matched e l → outcome_by m f g ≡ f e l
unfolding outcome_by
after_matched f g p q = ap (λ z. outcome_by z f g) (sym p ∙ q)

after_missed : {x m : Outcome} {l : ℕ} (f : ℕ → ℕ → Outcome) (g : ℕ → Outcome) → x ≡ m → x ≡ Missed l → outcome_by m f g ≡ g l
unfolding outcome_by
after_missed f g p q = ap (λ z. outcome_by z f g) (sym p ∙ q)

after_over : {x m : Outcome} (f : ℕ → ℕ → Outcome) (g : ℕ → Outcome) → x ≡ m → x ≡ Over → outcome_by m f g ≡ Over
unfolding outcome_by
after_over f g p q = ap (λ z. outcome_by z f g) (sym p ∙ q)

-- ---- a visit

pub no_depth : (ns ls st line : List ℕ) (depth left i at : ℕ) → depth ≡ 0 → Over ≡ visit (linked_at ns ls) st line depth left i at
unfolding visit
no_depth ns ls st line zero left i at e = refl
no_depth ns ls st line (suc d) left i at e = absurd (omega arith)

pub no_step : (ns ls st line : List ℕ) (depth left i at : ℕ) → left ≡ 0 → Over ≡ visit (linked_at ns ls) st line depth left i at
unfolding visit
no_step ns ls st line zero left i at e = refl
no_step ns ls st line (suc d) zero i at e = refl
no_step ns ls st line (suc d) (suc k) i at e = absurd (omega arith)

entered : (ns ls st line : List ℕ) (depth left i at : ℕ) → (depth ≡ 0 → ⊥) → (left ≡ 0 → ⊥) → {n x : Act} → n ≡ linked_at ns ls i → n ≡ x → visit (linked_at ns ls) st line depth left i at ≡ enter st line x (visit (linked_at ns ls) st line (depth - 1)) (left - 1) at
unfolding visit
entered ns ls st line zero left i at u w e q = absurd (u refl)
entered ns ls st line (suc d) zero i at u w e q = absurd (w refl)
entered ns ls st line (suc d) (suc k) i at u w {n} {x} e q =
    let a : suc d - 1 ≡ d = omega arith in
    let b : suc k - 1 ≡ k = omega arith in
    rw (a, b) (ap (λ z. enter st line z (visit (linked_at ns ls) st line d) k at) (sym e ∙ q))

module _ (ns ls st line : List ℕ) (depth left i at : ℕ) (u : depth ≡ 0 → ⊥) (w : left ≡ 0 → ⊥) {n : Act} (e : n ≡ linked_at ns ls i) where
  abbrev go : ℕ → ℕ → ℕ → Outcome
  go = visit (linked_at ns ls) st line (depth - 1)

  abbrev whole : Outcome
  whole = visit (linked_at ns ls) st line depth left i at

  known : {x : Act} → n ≡ x → whole ≡ enter st line x (visit (linked_at ns ls) st line (depth - 1)) (left - 1) at
  known q = entered ns ls st line depth left i at u w e q

  pub text_is : {f : Bool} {p m : ℕ} {r : Outcome} → n ≡ Text f p m → r ≡ took (starts f (part st p m) (drop at line)) (at + m) (left - 1) → r ≡ whole
  unfolding enter
  text_is z h = h ∙ sym (known z)

  pub range_is : {a b : ℕ} {r : Outcome} → n ≡ Range a b → r ≡ one (within a b) (char_of (drop at line)) at (left - 1) → r ≡ whole
  unfolding enter
  range_is z h = h ∙ sym (known z)

  pub any_is : {r : Outcome} → n ≡ Any → r ≡ one any_character (char_of (drop at line)) at (left - 1) → r ≡ whole
  unfolding enter
  any_is z h = h ∙ sym (known z)

  pub call_is : {c : ℕ} {r : Outcome} → n ≡ Call c → r ≡ go (left - 1) c at → r ≡ whole
  unfolding enter
  call_is z h = h ∙ sym (known z)

  pub repeat_is : {c lo : ℕ} {hi : Option ℕ} {r : Outcome} → n ≡ Repeat c lo hi → r ≡ repeat go c lo hi 0 at (left - 1) → r ≡ whole
  unfolding enter
  repeat_is z h = h ∙ sym (known z)

  pub unfit_is : n ≡ Unfit → Missed (left - 1) ≡ whole
  unfolding enter
  unfit_is z = sym (known z)

  module _ {c : ℕ} {x : Outcome} (z : n ≡ PosPred c) (h : x ≡ go (left - 1) c at) where
    pub pos_matched : {f m : ℕ} → x ≡ Matched f m → Matched at m ≡ whole
    unfolding enter
    pos_matched q = sym (known z ∙ after_matched _ _ h q)

    pub pos_missed : {m : ℕ} → x ≡ Missed m → Missed m ≡ whole
    unfolding enter
    pos_missed q = sym (known z ∙ after_missed _ _ h q)

    pub pos_over : x ≡ Over → Over ≡ whole
    unfolding enter
    pos_over q = sym (known z ∙ after_over _ _ h q)

  module _ {c : ℕ} {x : Outcome} (z : n ≡ NegPred c) (h : x ≡ go (left - 1) c at) where
    pub neg_matched : {f m : ℕ} → x ≡ Matched f m → Missed m ≡ whole
    unfolding enter
    neg_matched q = sym (known z ∙ after_matched _ _ h q)

    pub neg_missed : {m : ℕ} → x ≡ Missed m → Matched at m ≡ whole
    unfolding enter
    neg_missed q = sym (known z ∙ after_missed _ _ h q)

    pub neg_over : x ≡ Over → Over ≡ whole
    unfolding enter
    neg_over q = sym (known z ∙ after_over _ _ h q)

  module _ {a b : ℕ} {x : Outcome} (z : n ≡ Seq a b) (h : x ≡ go (left - 1) a at) where
    pub seq_matched : {f m : ℕ} {r : Outcome} → x ≡ Matched f m → r ≡ go m b f → r ≡ whole
    unfolding enter
    seq_matched q k = k ∙ sym (known z ∙ after_matched _ _ h q)

    pub seq_missed : {m : ℕ} → x ≡ Missed m → Missed m ≡ whole
    unfolding enter
    seq_missed q = sym (known z ∙ after_missed _ _ h q)

    pub seq_over : x ≡ Over → Over ≡ whole
    unfolding enter
    seq_over q = sym (known z ∙ after_over _ _ h q)

  module _ {a b : ℕ} {x : Outcome} (z : n ≡ Choice a b) (h : x ≡ go (left - 1) a at) where
    pub choice_matched : {f m : ℕ} → x ≡ Matched f m → Matched f m ≡ whole
    unfolding enter
    choice_matched q = sym (known z ∙ after_matched _ _ h q)

    pub choice_missed : {m : ℕ} {r : Outcome} → x ≡ Missed m → r ≡ go m b at → r ≡ whole
    unfolding enter
    choice_missed q k = k ∙ sym (known z ∙ after_missed _ _ h q)

    pub choice_over : x ≡ Over → Over ≡ whole
    unfolding enter
    choice_over q = sym (known z ∙ after_over _ _ h q)

-- ---- a repetition

-- after n matches, that end at a place
pub record Round (ns ls st line : List ℕ) (c lo : ℕ) (hi : Option ℕ) (start depth allowed at left n : ℕ) : Type 0 where
  pub few : n + left ≤ allowed
  pub same : repeat (visit (linked_at ns ls) st line depth) c lo hi 0 start allowed ≡ repeat (visit (linked_at ns ls) st line depth) c lo hi n at left

pub round_none : {ns ls st line : List ℕ} {c lo : ℕ} {hi : Option ℕ} {start depth allowed : ℕ} → Round ns ls st line c lo hi start depth allowed start allowed 0
round_none = record { few = omega arith; same = refl }

module _ {ns ls st line : List ℕ} {c lo : ℕ} {hi : Option ℕ} {start depth allowed at left n : ℕ} (t : Round ns ls st line c lo hi start depth allowed at left n) where
  abbrev all : Outcome
  all = repeat (visit (linked_at ns ls) st line depth) c lo hi 0 start allowed

  law : all ≡ choose (full hi n) (λ u. Matched at left) (λ u. outcome_by (visit (linked_at ns ls) st line depth left c at) (λ e l. repeat (visit (linked_at ns ls) st line depth) c lo hi (suc n) e l) (λ l. took (leb lo n) at l))
  law = t.same ∙ repeat_law (visit (linked_at ns ls) st line depth) (visit_below (linked_at ns ls) st line depth) c lo hi n at left

  pub round_full : {b : Bool} → b ≡ full hi n → b ≡ true → Matched at left ≡ all
  round_full p q = sym (law ∙ (rw (sym p ∙ q)))

  module _ {b : Bool} {x : Outcome} (p : b ≡ full hi n) (q : b ≡ false) (h : x ≡ visit (linked_at ns ls) st line depth left c at) where
    next : all ≡ outcome_by (visit (linked_at ns ls) st line depth left c at) (λ e l. repeat (visit (linked_at ns ls) st line depth) c lo hi (suc n) e l) (λ l. took (leb lo n) at l)
    next = law ∙ (rw (sym p ∙ q))

    pub round_more : {e m : ℕ} → x ≡ Matched e m → Round ns ls st line c lo hi start depth allowed e m (n + 1)
    round_more {e} {m} z =
        record {
          few = omega (arith, t.few, fewer (visit (linked_at ns ls) st line depth left c at) left (visit_below (linked_at ns ls) st line depth left c at) (sym h ∙ z));
          same = next ∙ (after_matched _ _ h z ∙ (rw (add-one n)));
        }

    pub round_less : {e m : ℕ} → x ≡ Matched e m → m < left
    round_less {e} {m} z = fewer (visit (linked_at ns ls) st line depth left c at) left (visit_below (linked_at ns ls) st line depth left c at) (sym h ∙ z)

    pub round_enough : {m : ℕ} → x ≡ Missed m → lo ≤ n → Matched at m ≡ all
    round_enough z l = took_true _ _ (le-leb _ _ l) ∙ sym (next ∙ after_missed _ _ h z)

    pub round_short : {m : ℕ} → x ≡ Missed m → n < lo → Missed m ≡ all
    round_short z l = took_false _ _ (lt-leb _ _ l) ∙ sym (next ∙ after_missed _ _ h z)

    pub round_over : x ≡ Over → Over ≡ all
    round_over z = sym (next ∙ after_over _ _ h z)

-- ---- a visit that goes on as another

pub record Held (ns ls st line : List ℕ) (start from depth allowed i at deep left : ℕ) : Type 0 where
  pub inside_is : i < nodes_in ns
  pub low : deep ≤ depth
  pub same : visit (linked_at ns ls) st line depth allowed start from ≡ visit (linked_at ns ls) st line deep left i at

pub held_first : {ns ls st line : List ℕ} {start from depth allowed : ℕ} → start < nodes_in ns → Held ns ls st line start from depth allowed start from depth allowed
held_first h = record { inside_is = h; low = omega arith; same = refl }

pub held_next : {ns ls st line : List ℕ} {start from depth allowed i at deep left : ℕ} (j f m : ℕ) → Held ns ls st line start from depth allowed i at deep left → j < nodes_in ns → visit (linked_at ns ls) st line (deep - 1) m j f ≡ visit (linked_at ns ls) st line deep left i at → Held ns ls st line start from depth allowed j f (deep - 1) m
held_next j f m t h q = record { inside_is = h; low = omega (arith, t.low); same = t.same ∙ sym q }
