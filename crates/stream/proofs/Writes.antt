-- The two passes over a packet, the end, and calls, in the words of the code.
use Rattle.std.specs.Prelude.{ℕ, Option, Some, None, Ok, Err}
use Prim.Native.Nat.{ℕ, ◌+◌, ◌*◌, ◌≤◌, ◌<◌}
use mathlib.Core.Path.{◌≡◌, refl, sym, ap, ◌∙◌}
use mathlib.Core.Bool.{Bool, true, false}
use mathlib.Core.List.{List, [], ◌++◌}
use native.Mathlib.Nat.{add-zero}
use native.Mathlib.Numerals.{add-one}
use native.Mathlib.Omega.{arith}
use lib.Dec.{eqb, ltb}
use lib.ListN.{length, drop, get_or}
use lib.Seq.{sets}
use borrow.Author.Tests.{ltb-true, lt-ltb}
use Rattle.text.specs.Booleans.{choose, among}
use Rattle.text.proofs.Splices.{sets_append}
use Rattle.text.proofs.Booleans.{choose_by}
use Rattle.token.specs.Lists.{Tok}
use Rattle.token.specs.Table.{flat, room_of}
use Rattle.token.proofs.Table.{flat_append, flat_length, row_fits}
use Rattle.states.specs.declared.Stand.{Stand}
use Rattle.states.specs.declared.Status.{Status}
use Rattle.states.specs.declared.Status.TheVariants.{Open, Held}
use Rattle.states.specs.declared.Feed.{Feed}
use Rattle.stream.specs.declared.Stop.{Stop}
use Rattle.states.specs.Machine.{finish}
use Rattle.states.specs.Utf.{utf_end}
use Rattle.states.specs.Feed.{fits, stand_of, refusals, opened, reported, written, feed_of, feed_in, end_of, end_in}
use Rattle.states.specs.Steps.{Step, Goes, Faults, over_at, step_of, given, ran_of, last_of, begin, fed_of, done_of}
use Rattle.steps.specs.Shapes.{list_of}
use Rattle.stream.specs.Shapes.{ran_by, gives_of, is_good, refusing, standing, Coherent}
use Rattle.states.proofs.Runs.{unless_goes, took}
use Rattle.stream.proofs.Loops.{loop_starts, loop_goes, loop_stops, loop_ends}
use Rattle.states.proofs.Calls.{count_ran}
use Rattle.states.proofs.Keeps.{fitting_begin, fitting_step, test_fitting}
use Rattle.stream.proofs.Sounds.{to_fitting, to_sound}

-- ---- room

module _ (room n a : ℕ) (f : Unit {0} → Option ℕ) where
  room_by : (b : Bool) → ltb n room ≡ b → choose b f (λ u. Some a) ≡ None → (n < room) × (f tt ≡ None)
  room_by true e g = (ltb-true n room e, g)
  room_by false e g = let z : ◌≡◌ {A = ℕ} 0 1 = cc in absurd (omega arith)

  pub has_room : choose (ltb n room) f (λ u. Some a) ≡ None → (n < room) × (f tt ≡ None)
  has_room e = room_by (ltb n room) refl e

-- a record behind n others lies in the list
pub over_room : (l : List ℕ) (n k a b : ℕ) → over_at (room_of l) n (list_of (Some (k, a, b))) ≡ None → n * 3 + 3 ≤ length l
unfolding over_at
over_room l n k a b e = row_fits l n (has_room (room_of l) n a _ e).0

module _ (room n : ℕ) where
  pub over_first : (g h : Option (ℕ × ℕ × ℕ)) → over_at room n (list_of g ++ list_of h) ≡ None → over_at room n (list_of g) ≡ None
  unfolding over_at
  over_first None h e = refl
  over_first (Some (k, a, b)) h e = rw (lt-ltb n room (has_room room n a _ e).0)

  pub over_second : (g h : Option (ℕ × ℕ × ℕ)) → over_at room n (list_of g ++ list_of h) ≡ None → over_at room (n + length (list_of g)) (list_of h) ≡ None
  unfolding over_at
  over_second None h e = rw (add-zero n) e
  over_second (Some (k, a, b)) h e = rw (add-one n) (has_room room n a _ e).1

-- ---- records

-- more records behind some
pub put_more : (l : List ℕ) (n : ℕ) (ts us : List Tok) → sets (sets l (n * 3) (flat ts)) ((n + length ts) * 3) (flat us) ≡ sets l (n * 3) (flat (ts ++ us))
put_more l n ts us =
    let z : (n + length ts) * 3 ≡ n * 3 + length (flat ts) = omega (arith, flat_length ts) in
    rw (flat_append ts us, sets_append l (n * 3) (flat ts) (flat us), z)

-- ---- a turn of a loop over a packet

pub ran_given : (ts : List Tok) (s : Step) → ran_by (given ts s) ≡ ran_by s
ran_given ts (Goes us c) = refl
ran_given ts (Faults n p) = refl

pub good_given : (ts : List Tok) (s : Step) → is_good (given ts s) ≡ is_good s
good_given ts (Goes us c) = refl
good_given ts (Faults n p) = refl

pub gives_given : (ts : List Tok) (s : Step) → is_good s ≡ true → gives_of (given ts s) ≡ ts ++ gives_of s
gives_given ts (Goes us c) e = refl
gives_given ts (Faults n p) e = let z : ◌≡◌ {A = ℕ} 0 1 = cc in absurd (omega arith)

module _ (room : ℕ) (c : Stand) (s : List ℕ) (i : ℕ) (h : i < length s) where
  at_stop : (n p : ℕ) → Faults n p ≡ step_of room c (get_or s i 0) → ran_of room c (drop i s) ≡ Faults n p
  at_stop n p e = loop_stops room s (ran_of room c (drop i s)) [] c i (loop_starts (ran_of room c (drop i s))) n p h (sym e)

  pub at_move : (ts : List Tok) (d : Stand) → Goes ts d ≡ step_of room c (get_or s i 0) → ran_of room c (drop i s) ≡ given ts (ran_of room d (drop (i + 1) s))
  at_move ts d e = loop_goes room s (ran_of room c (drop i s)) [] c i (loop_starts (ran_of room c (drop i s))) ts d h (sym e)

  pub run_stops : (stop : Stop) → Faults stop.number stop.place ≡ step_of room c (get_or s i 0) → Err stop ≡ ran_by (ran_of room c (drop i s))
  run_stops stop e = sym (ap ran_by (at_stop stop.number stop.place e))

  pub run_moves : (ts : List Tok) (d : Stand) → Goes ts d ≡ step_of room c (get_or s i 0) → ran_by (ran_of room d (drop (i + 1) s)) ≡ ran_by (ran_of room c (drop i s))
  run_moves ts d e = sym (ran_given ts (ran_of room d (drop (i + 1) s))) ∙ sym (ap ran_by (at_move ts d e))

  -- a packet that is good has no refusal at any byte
  pub good_goes : (n p : ℕ) → Faults n p ≡ step_of room c (get_or s i 0) → is_good (ran_of room c (drop i s)) ≡ true → ⊥
  good_goes n p e g =
      let z : is_good (ran_of room c (drop i s)) ≡ false = ap is_good (at_stop n p e) in
      let y : ◌≡◌ {A = ℕ} 0 1 = cc in
      omega arith

  pub good_moves : (ts : List Tok) (d : Stand) → Goes ts d ≡ step_of room c (get_or s i 0) → is_good (ran_of room c (drop i s)) ≡ true → is_good (ran_of room d (drop (i + 1) s)) ≡ true
  good_moves ts d e g = sym (good_given ts (ran_of room d (drop (i + 1) s))) ∙ sym (ap is_good (at_move ts d e)) ∙ g

  gives_moves : (ts : List Tok) (d : Stand) → Goes ts d ≡ step_of room c (get_or s i 0) → is_good (ran_of room c (drop i s)) ≡ true
      → gives_of (ran_of room c (drop i s)) ≡ ts ++ gives_of (ran_of room d (drop (i + 1) s))
  gives_moves ts d e g = ap gives_of (at_move ts d e) ∙ gives_given ts (ran_of room d (drop (i + 1) s)) (good_moves ts d e g)

  pub write_moves : (l k : List ℕ) (ts : List Tok) (d : Stand) → Goes ts d ≡ step_of room c (get_or s i 0) → is_good (ran_of room c (drop i s)) ≡ true → d.count ≡ c.count + length ts
      → k ≡ sets l (c.count * 3) (flat ts)
      → sets k (d.count * 3) (flat (gives_of (ran_of room d (drop (i + 1) s)))) ≡ sets l (c.count * 3) (flat (gives_of (ran_of room c (drop i s))))
  write_moves l k ts d e g m f =
      let us : List Tok = gives_of (ran_of room d (drop (i + 1) s)) in
      ap (λ (j : List ℕ). sets j (d.count * 3) (flat us)) f
      ∙ ap (λ (n : ℕ). sets (sets l (c.count * 3) (flat ts)) (n * 3) (flat us)) m
      ∙ put_more l c.count ts us
      ∙ ap (λ (vs : List Tok). sets l (c.count * 3) (flat vs)) (sym (gives_moves ts d e g))

pub ran_end : (room : ℕ) (c : Stand) (s : List ℕ) (i : ℕ) → length s ≤ i → ran_of room c (drop i s) ≡ Goes [] c
ran_end room c s i h = loop_ends room s (ran_of room c (drop i s)) [] c i (loop_starts (ran_of room c (drop i s))) h

module _ (room : ℕ) where
  -- a step that is good: there was room, and the records are counted
  pub step_room : (c : Stand) (x : ℕ) (ts : List Tok) (d : Stand) → Goes ts d ≡ step_of room c x → (over_at room c.count ts ≡ None) × (d.count ≡ c.count + length ts)
  step_room c x ts d e =
      let k = took room c x ts d (sym e) in
      (rw k.gives k.room, rw (k.moved, k.gives))

  pub step_sound : (c : Stand) (x : ℕ) (ts : List Tok) (d : Stand) → Coherent c → Goes ts d ≡ step_of room c x → Coherent d
  step_sound c x ts d h e = to_sound d (fitting_step room c x ts d (to_fitting c h) (sym e))

  pub last_room : (c : Stand) (ts : List Tok) (d : Stand) → Goes ts d ≡ last_of room c → over_at room c.count ts ≡ None
  unfolding last_of
  last_room c ts d e =
      let o = finish c.conf in
      let a = unless_goes 2 (utf_end c.utf) _ ts d (sym e) in
      let b = unless_goes 3 o.fault _ ts d a.1 in
      let f = unless_goes 14 (over_at room c.count o.list) _ ts d b.1 in
      let i : Goes o.list begin ≡ Goes ts d = f.1 in
      let j : o.list ≡ ts = cc in
      rw (← j) f.0

-- ---- calls

abbrev Sounds : Status → Type 0
Sounds q = (c : Stand) → q ≡ Open c → Coherent c

fresh_sound : Sounds (Open begin)
fresh_sound c e = let z : begin ≡ c = cc in rw (← z) (to_sound begin fitting_begin)

pub opened_sound : (f : Feed) → Sounds (opened f)
unfolding opened
opened_sound f =
    choose_by Sounds (eqb f.number 0) _ _
    (λ e. choose_by Sounds (fits (stand_of f)) _ _ (λ t c g. let z : stand_of f ≡ c = cc in rw (← z) (to_sound (stand_of f) (test_fitting f t))) (λ t. fresh_sound))
    (λ e. choose_by Sounds (among refusals f.number) _ _ (λ t c g. let z : ◌≡◌ {A = ℕ} 0 1 = cc in absurd (omega arith)) (λ t. fresh_sound))

module _ (f : Feed) (xs o : List ℕ) where
  module _ (n p k : ℕ) (e : opened f ≡ Held n p k) where
    pub feed_held : refusing n p k ≡ feed_of f xs o
    unfolding feed_of fed_of reported
    feed_held = rw e

    pub feed_held_in : o ≡ feed_in f xs o
    unfolding feed_in fed_of written
    feed_held_in = rw e

    pub end_held : refusing n p k ≡ end_of f o
    unfolding end_of done_of reported
    end_held = rw e

    pub end_held_in : o ≡ end_in f o
    unfolding end_in done_of written
    end_held_in = rw e

  module _ (c : Stand) (e : opened f ≡ Open c) where
    pub feed_refused : (n p : ℕ) → ran_of (room_of o) c xs ≡ Faults n p → refusing n p c.count ≡ feed_of f xs o
    unfolding feed_of fed_of reported
    feed_refused n p g = rw (e, g)

    pub feed_refused_in : (n p : ℕ) → ran_of (room_of o) c xs ≡ Faults n p → o ≡ feed_in f xs o
    unfolding feed_in fed_of written
    feed_refused_in n p g = rw (e, g)

    pub feed_good : (ts : List Tok) (d : Stand) → ran_of (room_of o) c xs ≡ Goes ts d → standing d d.count ≡ feed_of f xs o
    unfolding feed_of fed_of reported
    feed_good ts d g = rw (e, g, count_ran (room_of o) xs c ts d g)

    pub feed_good_in : (ts : List Tok) (d : Stand) → ran_of (room_of o) c xs ≡ Goes ts d → sets o (c.count * 3) (flat (gives_of (ran_of (room_of o) c xs))) ≡ feed_in f xs o
    unfolding feed_in fed_of written
    feed_good_in ts d g = rw (e, g)

    pub end_refused : (n p : ℕ) → Faults n p ≡ last_of (room_of o) c → refusing n p c.count ≡ end_of f o
    unfolding end_of done_of reported
    end_refused n p g = rw (e, ← g)

    pub end_refused_in : (n p : ℕ) → Faults n p ≡ last_of (room_of o) c → o ≡ end_in f o
    unfolding end_in done_of written
    end_refused_in n p g = rw (e, ← g)

    pub end_good : (ts : List Tok) (d : Stand) → Goes ts d ≡ last_of (room_of o) c → standing d (c.count + length ts) ≡ end_of f o
    unfolding end_of done_of reported
    end_good ts d g = rw (e, ← g)

    pub end_good_in : (ts : List Tok) (d : Stand) → Goes ts d ≡ last_of (room_of o) c → sets o (c.count * 3) (flat ts) ≡ end_in f o
    unfolding end_in done_of written
    end_good_in ts d g = rw (e, ← g)

-- what the first pass found
pub ran_refuses : (s : Step) (stop : Stop) → Err stop ≡ ran_by s → s ≡ Faults stop.number stop.place
ran_refuses (Goes ts d) stop e = let z : ◌≡◌ {A = ℕ} 0 1 = cc in absurd (omega arith)
ran_refuses (Faults n p) stop e =
    let f : stop ≡ record { number = n; place = p } = cc in
    ap (λ (z : Stop). Faults z.number z.place) (sym f)

pub record Stood (s : Step) (d : Stand) : Type 0 where
  pub tokens : List Tok
  pub stands : s ≡ Goes tokens d
  pub good : is_good s ≡ true

pub ran_stands : (s : Step) (d : Stand) → Ok d ≡ ran_by s → Stood s d
ran_stands (Goes ts c) d e = record { tokens = ts; stands = cc; good = refl }
ran_stands (Faults n p) d e = let z : ◌≡◌ {A = ℕ} 0 1 = cc in absurd (omega arith)
