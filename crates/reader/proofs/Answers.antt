-- The phases of a reading: what each of them answers, and what it leaves in the lent buffers.
use Rattle.std.specs.Prelude.{ℕ, Option, Some, None, Result, Ok, Err}
use Prim.Native.Nat.{ℕ, ◌*◌, ◌≤◌, ◌<◌}
use mathlib.Core.Path.{◌≡◌, refl, sym, ap, ◌∙◌}
use mathlib.Core.Bool.{false}
use mathlib.Core.List.{List}
use mathlib.Core.Logic.{⊎_elim}
use native.Mathlib.Omega.{arith}
use lib.Dec.{leb, eqb}
use lib.ListN.{length, take, length-take}
use lib.Seq.{take_all}
use borrow.Author.Tests.{le-leb, lt-leb}
use Rattle.text.specs.Booleans.{choose, or}
use Rattle.text.specs.Splice.{fronted}
use Rattle.text.specs.Utf8.{first_bad}
use Rattle.token.specs.Lists.{tokens_of, filled_of}
use Rattle.token.specs.declared.FillError.{FillError}
use Rattle.token.proofs.Lists.{few}
use Rattle.token.proofs.Table.{flat_length}
use Rattle.token.proofs.Fills.{used, filled_all, filled_none, filled_over}
use Rattle.text.proofs.Splices.{length_fronted}
use Rattle.table.specs.Tree.{Span, Rule, counts, rules_stored}
use Rattle.table.specs.Record.{node_size}
use Rattle.table.specs.Flat.{no_line, nodes_of}
use Rattle.table.proofs.Rules.{length_nodes}
use Rattle.structure.specs.declared.Edition.{Edition}
use Rattle.structure.specs.declared.Level.{Level}
use Rattle.structure.specs.declared.Refusal.{Refusal}
use Rattle.structure.specs.declared.Why.{Why}
use Rattle.structure.specs.Refusals.{because}
use Rattle.structure.specs.declared.Why.TheVariants.{TooLong, NotUtf8, NoToken, NotAllowed, TooDeep, Over, Zero, PeekRange, NotScalar, NotPlain, Above, RulesRoom, NodesRoom, StoreRoom}
use Rattle.structure.specs.declared.Counts.{Counts as RuleCounts}
use Rattle.structure.specs.Values.{faults}
use Rattle.structure.specs.Structure.{Ruled, rules, unruled, grammar}
use Rattle.structure.specs.Answers.{summaries}
use Rattle.text.proofs.Tests.{lt_or_ge}
use Rattle.text.proofs.Booleans.{choose_false, choose_true, or_first, or_second}
use Rattle.text.specs.Limits.{max_text}
use Rattle.token.specs.Table.{token_size, flat, room_of, toks, is, Lent}
use Rattle.structure.proofs.Fine.{sound_characters}
use Rattle.structure.proofs.Wants.{rule_counts}
use Rattle.structure.proofs.Stores.{stored_fits}
use Rattle.reader.proofs.Counts.{Counts, judged_counts}
use Rattle.reader.proofs.Lines.{lines_fronted}
use Rattle.reader.specs.Lines.{line_in, with_lines}
use Rattle.reader.specs.Read.{room_for_nodes, room_for_rules, room_by, faulty, checked_by, refused_by, ruled_by, judged_of, listed_of, attempt_of, read_of, left_in, Numbered, number_of, numbered, reported, Leaves, AttemptLeaves}
use Rattle.build.specs.Build.{Scalars}
use Rattle.build.specs.Rules.{GrammarRoom, RulesBuilt, rules_read}

-- ---- room

module _ (k c z n r b : ℕ) where
  pub no_rules_room : r < k → refused_by RulesRoom 0 ≡ room_by k c z n r b
  unfolding room_by
  no_rules_room h = rw (lt-leb k r h)

  module _ (h : k ≤ r) where
    pub no_nodes_room : n < c → refused_by NodesRoom 0 ≡ room_by k c z n r b
    unfolding room_by
    no_nodes_room g = rw (le-leb k r h, lt-leb c n g)

    pub no_store_room : c ≤ n → b < z → refused_by StoreRoom 0 ≡ room_by k c z n r b
    unfolding room_by
    no_store_room g f = rw (le-leb k r h, le-leb c n g, lt-leb z b f)

    pub room : c ≤ n → z ≤ b → Ok (c, k, z) ≡ room_by k c z n r b
    unfolding room_by
    room g f = rw (le-leb k r h, le-leb c n g, le-leb z b f)
    -- what is read has room

-- ---- structure, values, room

counted_refused : (m : Ruled) (r : Result RuleCounts Refusal) (x : Refusal) → r ≡ summaries m → r ≡ Err x → m ≡ unruled x
unfolding summaries
counted_refused (rules us) r x e q = let z : ◌≡◌ {A = ℕ} 0 1 = cc in absurd (omega arith)
counted_refused (unruled y) r x e q = cc

counted_rules_lem : (m : Ruled) (r : Result RuleCounts Refusal) (a b c : ℕ) → r ≡ summaries m → r ≡ Ok (rule_counts a b c)
    → (us : List (Rule Span)) × (m ≡ rules us) × (length us ≡ a) × (counts us ≡ b) × (length (rules_stored us) ≡ c)
unfolding summaries
counted_rules_lem (rules us) r a b c e q =
    let h : ◌≡◌ {A = RuleCounts} (rule_counts (length us) (counts us) (length (rules_stored us))) (rule_counts a b c) = cc in
    (us, refl, ap (λ (z : RuleCounts). z.rules) h, ap (λ (z : RuleCounts). z.nodes) h, ap (λ (z : RuleCounts). z.bytes) h)
counted_rules_lem (unruled y) r a b c e q = let z : ◌≡◌ {A = ℕ} 0 1 = cc in absurd (omega arith)

module _ (edition : Edition) (level : Level) (s : List ℕ) (n r b : ℕ) (c : Result RuleCounts Refusal) (e : c ≡ summaries (grammar level s)) where
  pub judge_refused : (x : Refusal) → c ≡ Err x → Err x ≡ judged_of edition level s n r b
  unfolding judged_of
  judge_refused x q = sym (ap (λ (m : Ruled). ruled_by m (λ us. faulty (faults edition level s) (λ u. room_by (length us) (counts us) (length (rules_stored us)) n r b))) (counted_refused (grammar level s) c x e q))

  module _ (k l z : ℕ) (q : c ≡ Ok (rule_counts k l z)) (f : Option Refusal) (g : f ≡ faults edition level s) where
    pub judge_by : (y : Option Refusal) → f ≡ y → faulty y (λ u. room_by k l z n r b) ≡ judged_of edition level s n r b
    unfolding judged_of
    judge_by y w =
        let (us, m, e₁, e₂, e₃) = counted_rules_lem (grammar level s) c k l z e q in
        sym (ap (λ (m : Ruled). ruled_by m (λ us. faulty (faults edition level s) (λ u. room_by (length us) (counts us) (length (rules_stored us)) n r b))) m
        ∙ ap (λ (x : Option Refusal). faulty x (λ u. room_by (length us) (counts us) (length (rules_stored us)) n r b)) (sym g ∙ w)
        ∙ rw (e₁, e₂, e₃))

    pub judge_room : f ≡ None → (y : Result (ℕ × ℕ × ℕ) Refusal) → y ≡ room_by k l z n r b → y ≡ judged_of edition level s n r b
    judge_room w y h = h ∙ judge_by None w

-- ---- a text whose values are sound

module _ (edition : Edition) (level : Level) (s : List ℕ) where
  -- every string means characters
  pub sound_scalars : faults edition level s ≡ None → Scalars s
  sound_scalars e = record {
    strings = λ i q. sound_characters edition level s e i (or_first (is s i 23) (or (is s i 24) (is s i 25)) q);
    insens = λ i q. sound_characters edition level s e i (or_second (is s i 23) (or (is s i 24) (is s i 25)) (or_first (is s i 24) (is s i 25) q));
  }

-- ---- what is read is built

module _ (edition : Edition) (level : Level) (s ns rs st : List ℕ) where
  pub build_ready : length s ≤ max_text → {x y z : ℕ} → judged_of edition level s (room_for_nodes ns) (room_for_rules rs) (length st) ≡ Ok (x, y, z)
      → Scalars s × GrammarRoom (grammar level s) (rules_read level s) ns rs st
  build_ready h e =
      let c = judged_counts edition level s (room_for_nodes ns) (room_for_rules rs) (length st) e in
      let a = c.nodes_fit in
      let b = c.rules_fit in
      let d = stored_fits s level (rules_read level s) c.read in
      (sound_scalars edition level s c.sound, record { read = c.read; rows = omega arith; room = omega arith; few = omega arith; fits = c.store_fits; low = omega arith })

module _ (level : Level) (s ns rs st : List ℕ) where
  pub read_left : (x y z : ℕ) (ns₁ ns' rs' st' : List ℕ) → x ≡ counts (rules_read level s) → RulesBuilt (rules_read level s) ns rs st ns₁ rs' st'
      → ns' ≡ with_lines (line_in s) ns₁ x → Leaves level s (Ok (x, y, z)) ns rs st ns' rs' st'
  unfolding left_in
  read_left x y z ns₁ ns' rs' st' e b l = record {
    nodes = l ∙ rw (b.nodes_is, e) (lines_fronted (line_in s) (rules_read level s) ns);
    rules = b.rules_is;
    store = b.store_is;
  }

-- a refusal changes nothing
pub kept : (level : Level) (s ns rs st : List ℕ) (r : Refusal) → Leaves level s (Err r) ns rs st ns rs st
unfolding left_in
kept level s ns rs st r = record { nodes = refl; rules = refl; store = refl }

module _ (edition : Edition) (level : Level) (s ns rs st : List ℕ) (x : Result (ℕ × ℕ × ℕ) Refusal) (n r : ℕ) (e : x ≡ judged_of edition level s n r (length st)) (p : n ≡ room_for_nodes ns) (q : r ≡ room_for_rules rs) where
  judged_is : x ≡ judged_of edition level s (room_for_nodes ns) (room_for_rules rs) (length st)
  judged_is = e ∙ ap (λ (k : ℕ). judged_of edition level s k r (length st)) p ∙ ap (λ (k : ℕ). judged_of edition level s (room_for_nodes ns) k (length st)) q

  pub build_kept : (y : Refusal) → x ≡ Err y → (x ≡ judged_of edition level s (room_for_nodes ns) (room_for_rules rs) (length st)) × Leaves level s x ns rs st ns rs st
  build_kept y w = (judged_is, rw w (kept level s ns rs st y))

  module _ {a b c : ℕ} (w : x ≡ Ok (a, b, c)) where
    pub build_room : length s ≤ max_text → Scalars s × GrammarRoom (grammar level s) (rules_read level s) ns rs st
    build_room h = build_ready edition level s ns rs st h (sym judged_is ∙ w)

    counted : Counts edition level s (room_for_nodes ns) (room_for_rules rs) (length st) a b c
    counted = judged_counts edition level s (room_for_nodes ns) (room_for_rules rs) (length st) (sym judged_is ∙ w)

    -- the nodes that get their lines are there
    pub build_nodes : (ns₁ rs' st' : List ℕ) → RulesBuilt (rules_read level s) ns rs st ns₁ rs' st' → node_size * a ≤ length ns₁
    build_nodes ns₁ rs' st' d =
        let us = rules_read level s in
        let l = length_nodes no_line 0 0 us in
        let m = counted.nodes_are in
        let f = counted.nodes_fit in
        omega (arith, ap length d.nodes_is ∙ length_fronted (nodes_of no_line us) ns (omega arith))

    pub build_read : (ns₁ ns' rs' st' : List ℕ) → RulesBuilt (rules_read level s) ns rs st ns₁ rs' st' → ns' ≡ with_lines (line_in s) ns₁ a
        → (Ok (a, b, c) ≡ judged_of edition level s (room_for_nodes ns) (room_for_rules rs) (length st)) × Leaves level s (Ok (a, b, c)) ns rs st ns' rs' st'
    build_read ns₁ ns' rs' st' d l = (sym w ∙ judged_is, read_left level s ns rs st a b c ns₁ ns' rs' st' counted.nodes_are d l)

-- ---- tokens in the table

module _ (m : ℕ) (edition : Edition) (level : Level) (s : List ℕ) (n r b : ℕ) where
  tried_fits : length (toks s) ≤ m → attempt_of m edition level s n r b ≡ Some (listed_of edition level s n r b)
  unfolding attempt_of
  tried_fits h = rw (le-leb (length (toks s)) m h)

  tried_over : m < length (toks s) → attempt_of m edition level s n r b ≡ None
  unfolding attempt_of
  tried_over h = rw (lt-leb (length (toks s)) m h)

  -- what was done is what the text gets
  pub tried_done : {t : Option (Result (ℕ × ℕ × ℕ) Refusal)} {x : Result (ℕ × ℕ × ℕ) Refusal} → t ≡ attempt_of m edition level s n r b → t ≡ Some x → x ≡ listed_of edition level s n r b
  tried_done {t} {x} e q =
      ⊎_elim
      (λ h.
      let w : None ≡ Some x = sym (tried_over h) ∙ sym e ∙ q in
      let z : ◌≡◌ {A = ℕ} 0 1 = cc in
      absurd (omega arith))
      (λ h.
      let w : Some x ≡ Some (listed_of edition level s n r b) = sym q ∙ e ∙ tried_fits h in
      cc)
      (lt_or_ge m (length (toks s)))

  -- as many tokens as bytes are enough
  pub tried_all : {t : Option (Result (ℕ × ℕ × ℕ) Refusal)} → length s ≤ m → t ≡ attempt_of m edition level s n r b → t ≡ None → ⊥
  tried_all {t} h e q =
      let l = few s in
      let w : None ≡ Some (listed_of edition level s n r b) = sym q ∙ e ∙ tried_fits (omega arith) in
      let z : ◌≡◌ {A = ℕ} 0 1 = cc in
      omega arith

module _ (s o₀ : List ℕ) (f : Result ℕ FillError) (e : f ≡ filled_of (room_of o₀) s) where
  pub list_and_read_full : (edition : Edition) (level : Level) (ns rs st : List ℕ) (n r b : ℕ) → f ≡ Err FillError.Full → (None ≡ attempt_of (room_of o₀) edition level s n r b) × AttemptLeaves level s None ns rs st ns rs st
  list_and_read_full edition level ns rs st n r b q = (sym (tried_over (room_of o₀) edition level s n r b (filled_over (room_of o₀) s (sym e ∙ q))), (refl, refl, refl))

  pub list_and_read_stopped : (edition : Edition) (level : Level) (ns rs st : List ℕ) (n r b p : ℕ) → f ≡ Err (FillError.NoToken p) → (y : Result (ℕ × ℕ × ℕ) Refusal) → y ≡ refused_by NoToken p
      → (Some y ≡ attempt_of (room_of o₀) edition level s n r b) × AttemptLeaves level s (Some y) ns rs st ns rs st
  unfolding listed_of
  list_and_read_stopped edition level ns rs st n r b p q y h =
      let w = filled_none (room_of o₀) s p (sym e ∙ q) in
      let z : refused_by NoToken p ≡ listed_of edition level s n r b = sym (ap (λ (x : Option ℕ). checked_by x (refused_by NoToken) (λ u. judged_of edition level s n r b)) w.1) in
      (ap Some (h ∙ z) ∙ sym (tried_fits (room_of o₀) edition level s n r b w.0), rw h (kept level s ns rs st (because NoToken p)))

  module _ (n : ℕ) (q : f ≡ Ok n) where
    all : (length (toks s) ≤ room_of o₀) × (n ≡ length (toks s)) × ((tokens_of s).fault ≡ None)
    all = filled_all (room_of o₀) s n (sym e ∙ q)

    pub list_and_read_filled : (edition : Edition) (level : Level) (x : Result (ℕ × ℕ × ℕ) Refusal) (k r b : ℕ) → x ≡ judged_of edition level s k r b → Some x ≡ attempt_of (room_of o₀) edition level s k r b
    unfolding listed_of
    list_and_read_filled edition level x k r b h =
        let z : x ≡ listed_of edition level s k r b = h ∙ sym (ap (λ (y : Option ℕ). checked_by y (refused_by NoToken) (λ u. judged_of edition level s k r b)) all.2) in
        ap Some z ∙ sym (tried_fits (room_of o₀) edition level s k r b all.0)

    -- the product that is the used part's length is a small number
    pub few_numbers : length s ≤ max_text → n * token_size ≤ 196608
    few_numbers h =
        let z = all.1 in
        let l = few s in
        omega arith

    module _ (o₁ : List ℕ) (h : o₁ ≡ fronted (flat (take (room_of o₀) (toks s))) o₀) where
      held : o₁ ≡ fronted (flat (toks s)) o₀
      held = rw (take_all (room_of o₀) (toks s) all.0) at h

      pub room_in : n * token_size ≤ length o₁
      room_in =
          let z = all.1 in
          let w = all.0 in
          let l = flat_length (toks s) in
          let a = ap length held ∙ length_fronted _ o₀ (omega arith) in
          omega arith

      pub takes : n * token_size ≡ length (take (n * token_size) o₁)
      takes =
          let r = room_in in
          let a = length-take (n * token_size) o₁ in
          omega arith

      pub lent : length s ≤ max_text → Lent s (take (n * token_size) o₁)
      lent l = record { short = l; table = used (toks s) o₀ o₁ n held all.1 }

-- ---- the whole

-- what the promise of `read` says of an answer and of what the buffers hold afterwards
pub record Meets (edition : Edition) (level : Level) (s ns rs st : List ℕ) (r : Result (ℕ × ℕ × ℕ) Refusal) (ns' rs' st' : List ℕ) : Type 0 where
  pub answer : r ≡ read_of edition level s (room_for_nodes ns) (room_for_rules rs) (length st)
  pub report : numbered r ≡ reported edition level s (room_for_nodes ns) (room_for_rules rs) (length st)
  pub left : Leaves level s r ns rs st ns' rs' st'

module _ (edition : Edition) (level : Level) (s ns rs st : List ℕ) where
  met : {r : Result (ℕ × ℕ × ℕ) Refusal} {ns' rs' st' : List ℕ} → r ≡ read_of edition level s (room_for_nodes ns) (room_for_rules rs) (length st) → Leaves level s r ns rs st ns' rs' st' → Meets edition level s ns rs st r ns' rs' st'
  unfolding reported
  met e l = record { answer = e; report = ap numbered e; left = l }

  pub read_long : max_text < length s → (y : Result (ℕ × ℕ × ℕ) Refusal) → y ≡ refused_by TooLong 0 → Meets edition level s ns rs st y ns rs st
  unfolding read_of
  read_long h y w = met (w ∙ sym (choose_false (leb (length s) max_text) _ _ (lt-leb (length s) max_text h))) (rw w (kept level s ns rs st (because TooLong 0)))

  module _ (h : length s ≤ max_text) (c : Option ℕ) (e : c ≡ first_bad s) where
    by_check : {y : Option ℕ} → c ≡ y
        → checked_by y (refused_by NotUtf8) (λ u. listed_of edition level s (room_for_nodes ns) (room_for_rules rs) (length st)) ≡ read_of edition level s (room_for_nodes ns) (room_for_rules rs) (length st)
    unfolding read_of
    by_check q =
        sym (choose_true (leb (length s) max_text) _ _ (le-leb (length s) max_text h)
        ∙ ap (λ (x : Option ℕ). checked_by x (refused_by NotUtf8) (λ u. listed_of edition level s (room_for_nodes ns) (room_for_rules rs) (length st))) (sym e ∙ q))

    pub read_bad : (p : ℕ) → c ≡ Some p → (y : Result (ℕ × ℕ × ℕ) Refusal) → y ≡ refused_by NotUtf8 p → Meets edition level s ns rs st y ns rs st
    read_bad p q y w = met (w ∙ by_check q) (rw w (kept level s ns rs st (because NotUtf8 p)))

    pub read_good : c ≡ None → (r : Result (ℕ × ℕ × ℕ) Refusal) (ns' rs' st' : List ℕ) → r ≡ listed_of edition level s (room_for_nodes ns) (room_for_rules rs) (length st) → Leaves level s r ns rs st ns' rs' st'
        → Meets edition level s ns rs st r ns' rs' st'
    read_good q r ns' rs' st' w l = met (w ∙ by_check q) l

-- number, place and counts decide the answer
why_of : ℕ → Why
why_of n =
    choose (eqb n 1) (λ u. TooLong)
    (λ u. choose (eqb n 2) (λ u. NotUtf8)
    (λ u. choose (eqb n 3) (λ u. NoToken)
    (λ u. choose (eqb n 4) (λ u. NotAllowed)
    (λ u. choose (eqb n 9) (λ u. TooDeep)
    (λ u. choose (eqb n 5) (λ u. Over)
    (λ u. choose (eqb n 6) (λ u. Zero)
    (λ u. choose (eqb n 7) (λ u. PeekRange)
    (λ u. choose (eqb n 8) (λ u. NotScalar)
    (λ u. choose (eqb n 13) (λ u. NotPlain)
    (λ u. choose (eqb n 15) (λ u. Above)
    (λ u. choose (eqb n 12) (λ u. RulesRoom) (λ u. choose (eqb n 10) (λ u. NodesRoom) (λ u. StoreRoom)))))))))))))

why_back : (w : Why) → (why_of (number_of w) ≡ w) × (eqb (number_of w) 0 ≡ false)
unfolding why_of number_of
why_back TooLong = (refl, refl)
why_back NotUtf8 = (refl, refl)
why_back NoToken = (refl, refl)
why_back NotAllowed = (refl, refl)
why_back TooDeep = (refl, refl)
why_back Over = (refl, refl)
why_back Zero = (refl, refl)
why_back PeekRange = (refl, refl)
why_back NotScalar = (refl, refl)
why_back NotPlain = (refl, refl)
why_back Above = (refl, refl)
why_back RulesRoom = (refl, refl)
why_back NodesRoom = (refl, refl)
why_back StoreRoom = (refl, refl)

decoded : Numbered → Result (ℕ × ℕ × ℕ) Refusal
decoded x = choose (eqb x.number 0) (λ u. Ok (x.nodes, x.rules, x.store)) (λ u. refused_by (why_of x.number) x.place)

decode : (r : Result (ℕ × ℕ × ℕ) Refusal) → decoded (numbered r) ≡ r
unfolding decoded numbered
decode (Ok (n, r, b)) = refl
decode (Err r) = let e = why_back r.why in rw e.1 (ap (λ (w : Why). refused_by w r.place) e.0)

pub numbered_one : (r s : Result (ℕ × ℕ × ℕ) Refusal) → numbered r ≡ numbered s → r ≡ s
numbered_one r s e = sym (decode r) ∙ ap decoded e ∙ decode s
