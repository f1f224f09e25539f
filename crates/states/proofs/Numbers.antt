-- Calls in numbers: what a call leaves is read as it was; a refused call changes nothing and is repeated; a good end leaves zeros; and
-- any packets in numbers are those packets.
use Rattle.std.specs.Prelude.{ℕ, Option, Some, None}
use Prim.Native.Nat.{ℕ, suc, ◌+◌, ◌*◌}
use mathlib.Core.Path.{◌≡◌, refl, ap}
use mathlib.Core.Bool.{true}
use mathlib.Core.List.{List, [], ◌∷◌}
use mathlib.Core.Logic.{◌⊎◌, inl, inr}
use native.Mathlib.Omega.{arith}
use lib.Dec.{eqb}
use lib.ListN.{length}
use lib.Seq.{sets}
use Rattle.text.specs.Booleans.{among}
use Rattle.text.proofs.Booleans.{choose_by}
use Rattle.token.specs.Lists.{Tok}
use Rattle.token.specs.Table.{flat, room_of}
use Rattle.states.specs.declared.Utf.{Utf}
use Rattle.states.specs.declared.Stand.{Stand}
use Rattle.states.specs.declared.Status.{Status}
use Rattle.states.specs.declared.Status.TheVariants.{Open, Held}
use Rattle.states.specs.declared.Feed.{Feed}
use Rattle.states.specs.declared.Call.{Call}
use Rattle.states.specs.Machine.{Out, step, finish}
use Rattle.states.specs.Utf.{utf_step, utf_end, broken_at}
use Rattle.states.specs.Feed.{fits, numbered, stand_of, refusals, opened, records_of, number_of, unless_held, reported, written, feed_of, feed_in, end_of, end_in}
use Rattle.states.specs.Steps.{Step, Goes, Faults, unless, long_at, refused_at, over_at, moved_to, step_of, ran_of, last_of, begin, moved_by, fed_of, done_of}
use Rattle.states.proofs.Keeps.{Fitting, fitting_begin, test_fitting, fitting_ran, kept_open, kept_held}
use Rattle.states.proofs.Fits.{never}
use Rattle.states.proofs.Runs.{unless_goes, followed_faults}

-- ---- the numbers of refusals, from anywhere

abbrev Named : Step → Type 0
Named z = (n p : ℕ) → z ≡ Faults n p → among refusals n ≡ true

named_unless : (m : ℕ) (k : Option ℕ) (f : Unit {0} → Step) → among refusals m ≡ true → Named (f tt) → Named (unless m k f)
named_unless m None f a h n p e = h n p e
named_unless m (Some q) f a h n p e = let z : m ≡ n = cc in rw (← z) a

named_goes : (ts : List Tok) (c : Stand) → Named (Goes ts c)
named_goes ts c n p e = let z : ◌≡◌ {A = ℕ} 0 1 = cc in absurd (omega arith)

named_step : (r : ℕ) (c : Stand) (x : ℕ) → Named (step_of r c x)
unfolding step_of
named_step r c x =
    let u : Utf = utf_step c.utf c.seen x in
    let o : Out = step c.conf x in
    named_unless 1 (long_at (suc c.seen)) _ refl (named_unless 2 (broken_at u) _ refl (named_unless 3 (refused_at o.next) _ refl (named_unless 14 (over_at r c.count o.gives) _ refl (named_goes o.gives (moved_to c u o)))))

named_last : (r : ℕ) (c : Stand) → Named (last_of r c)
unfolding last_of
named_last r c =
    let ts : List Tok = (finish c.conf).list in
    named_unless 2 (utf_end c.utf) _ refl (named_unless 3 (finish c.conf).fault _ refl (named_unless 14 (over_at r c.count ts) _ refl (named_goes ts begin)))

named_by : (z : Step) (f : Stand → Step) → Named z → ((d : Stand) → Named (f d)) → (n p : ℕ) → (z ≡ Faults n p) ⊎ ((ts : List Tok) × (d : Stand) × (z ≡ Goes ts d) × (f d ≡ Faults n p)) → among refusals n ≡ true
named_by z f h g n p (inl e) = h n p e
named_by z f h g n p (inr e) = g e.1 n p e.3

named_ran : (r : ℕ) (xs : List ℕ) (c : Stand) → Named (ran_of r c xs)
unfolding ran_of
named_ran r [] c n p e = named_goes [] c n p e
named_ran r (x ∷ xs) c n p e = named_by (step_of r c x) (λ d. ran_of r d xs) (named_step r c x) (λ d. named_ran r xs d) n p (followed_faults (step_of r c x) (λ d. ran_of r d xs) n p e)

-- ---- the streams that calls make

abbrev pub Made : Status → Type 0
Made (Open c) = Fitting c
Made (Held n p k) = among refusals n ≡ true

made_opened : (f : Feed) → Made (opened f)
unfolding opened
made_opened f =
    choose_by Made (eqb f.number 0) _ _ (λ e. choose_by Made (fits (stand_of f)) _ _ (λ g. test_fitting f g) (λ g. fitting_begin))
    (λ e. choose_by Made (among refusals f.number) _ _ (λ g. g) (λ g. fitting_begin))

made_moved : (k : ℕ) (z : Step) → Named z → ((ts : List Tok) (d : Stand) → z ≡ Goes ts d → Fitting d) → Made (moved_by k z).next
made_moved k (Goes ts d) h g = g ts d refl
made_moved k (Faults n p) h g = h n p refl

pub made_fed : (r : ℕ) (q : Status) (xs : List ℕ) → Made q → Made (fed_of r q xs).next
unfolding fed_of
made_fed r (Open c) xs m = made_moved c.count (ran_of r c xs) (named_ran r xs c) (λ ts d e. fitting_ran r xs c ts d m e)
made_fed r (Held n p k) xs m = m

-- an end that is not refused
good_end : (r : ℕ) (c : Stand) (ts : List Tok) (d : Stand) → last_of r c ≡ Goes ts d → d ≡ begin
unfolding last_of
good_end r c ts d e =
    let us : List Tok = (finish c.conf).list in
    let a = unless_goes 2 (utf_end c.utf) _ ts d e in
    let b = unless_goes 3 (finish c.conf).fault _ ts d a.1 in
    let f = unless_goes 14 (over_at r c.count us) _ ts d b.1 in
    let g : Goes us begin ≡ Goes ts d = f.1 in
    cc

made_done : (r : ℕ) (q : Status) → Made q → Made (done_of r q).next
unfolding done_of
made_done r (Open c) m = made_moved c.count (last_of r c) (named_last r c) (λ ts d e. rw (good_end r c ts d e) fitting_begin)
made_done r (Held n p k) m = m

not_zero : (n : ℕ) → among refusals n ≡ true → n ≡ 0 → ⊥
not_zero n h e = never (rw e at h)

-- what calls make is read as it was: it always passes the test
pub passes : (q : Status) → Made q → opened (numbered q) ≡ q
passes (Open c) m = kept_open c m
passes (Held n p k) m = kept_held n p k m (not_zero n m)

module _ (f : Feed) (o : List ℕ) where
  pub feed_passes : (xs : List ℕ) → opened (feed_of f xs o).next ≡ (fed_of (room_of o) (opened f) xs).next
  unfolding feed_of reported
  feed_passes xs = passes (fed_of (room_of o) (opened f) xs).next (made_fed (room_of o) (opened f) xs (made_opened f))

  pub end_passes : opened (end_of f o).next ≡ (done_of (room_of o) (opened f)).next
  unfolding end_of reported
  end_passes = passes (done_of (room_of o) (opened f)).next (made_done (room_of o) (opened f) (made_opened f))

-- ---- refused calls

no_zero : {A : Type 0} → (◌≡◌ {A = ℕ} 0 0 → ⊥) → A
no_zero h = absurd (h refl)

gives_none : (k : ℕ) (z : Step) → (number_of (moved_by k z).next ≡ 0 → ⊥) → (moved_by k z).gives ≡ []
gives_none k (Goes ts c) h = no_zero h
gives_none k (Faults n p) h = refl

fed_none : (r : ℕ) (q : Status) (xs : List ℕ) → (number_of (fed_of r q xs).next ≡ 0 → ⊥) → (fed_of r q xs).gives ≡ []
unfolding fed_of
fed_none r (Open c) xs h = gives_none c.count (ran_of r c xs) h
fed_none r (Held n p k) xs h = refl

done_none : (r : ℕ) (q : Status) → (number_of (done_of r q).next ≡ 0 → ⊥) → (done_of r q).gives ≡ []
unfolding done_of
done_none r (Open c) h = gives_none c.count (last_of r c) h
done_none r (Held n p k) h = refl

-- a refused call leaves the list as it found it
module _ (f : Feed) (o : List ℕ) where
  pub refused_keeps : (xs : List ℕ) → ((feed_of f xs o).number ≡ 0 → ⊥) → feed_in f xs o ≡ o
  unfolding feed_of feed_in reported written
  refused_keeps xs h = ap (λ (ts : List Tok). sets o (records_of (opened f) * 3) (flat ts)) (fed_none (room_of o) (opened f) xs h)

  pub refused_end_keeps : ((end_of f o).number ≡ 0 → ⊥) → end_in f o ≡ o
  unfolding end_of end_in reported written
  refused_end_keeps h = ap (λ (ts : List Tok). sets o (records_of (opened f) * 3) (flat ts)) (done_none (room_of o) (opened f) h)

-- and reports no records
none_held : (q : Status) (k : ℕ) → (number_of q ≡ 0 → ⊥) → unless_held q k ≡ 0
none_held (Open c) k h = no_zero h
none_held (Held n p j) k h = refl

module _ (f : Feed) (o : List ℕ) where
  pub refused_none : (xs : List ℕ) → ((feed_of f xs o).number ≡ 0 → ⊥) → (feed_of f xs o).records ≡ 0
  unfolding feed_of reported
  refused_none xs h = none_held (fed_of (room_of o) (opened f) xs).next (records_of (opened f) + length (fed_of (room_of o) (opened f) xs).gives) h

  pub refused_end_none : ((end_of f o).number ≡ 0 → ⊥) → (end_of f o).records ≡ 0
  unfolding end_of reported
  refused_end_none h = none_held (done_of (room_of o) (opened f)).next (records_of (opened f) + length (done_of (room_of o) (opened f)).gives) h

-- what a stream answers that holds a refusal
abbrev pub refusal_of : ℕ → ℕ → ℕ → Call
refusal_of n p k = record { number = n; place = p; records = 0; next = numbered (Held n p k) }

-- every call of it, with any list, which stays
pub record Repeats (f : Feed) (call : Call) : Type 0 where
  pub feeds : (xs o : List ℕ) → feed_of f xs o ≡ call
  pub lists : (xs o : List ℕ) → feed_in f xs o ≡ o
  pub ends : (o : List ℕ) → end_of f o ≡ call
  pub end_lists : (o : List ℕ) → end_in f o ≡ o
  pub same : call.next ≡ f

held_repeats : (n p k : ℕ) → opened (numbered (Held n p k)) ≡ Held n p k → Repeats (numbered (Held n p k)) (refusal_of n p k)
unfolding feed_of feed_in end_of end_in reported written fed_of done_of
held_repeats n p k e =
    record {
      feeds = λ xs o. rw e refl;
      lists = λ xs o. rw e refl;
      ends = λ o. rw e refl;
      end_lists = λ o. rw e refl;
      same = refl;
    }

-- the answer of a call that is refused, and the numbers that it leaves
refused_by_lem : (q : Status) (ts : List Tok) (s : Status) → Made s → (number_of s ≡ 0 → ⊥) → Repeats (numbered s) (reported q (record { gives = ts; next = s }))
unfolding reported
refused_by_lem q ts (Open c) h z = no_zero z
refused_by_lem q ts (Held n p k) h z = held_repeats n p k (passes (Held n p k) h)

module _ (f : Feed) (o : List ℕ) where
  -- after a refused call every call answers the same, number, place and records, and leaves its list
  pub repeats : (xs : List ℕ) → ((feed_of f xs o).number ≡ 0 → ⊥) → Repeats (feed_of f xs o).next (feed_of f xs o)
  unfolding feed_of reported
  repeats xs h =
      let q : Status = opened f in
      refused_by_lem q (fed_of (room_of o) q xs).gives (fed_of (room_of o) q xs).next (made_fed (room_of o) q xs (made_opened f)) h

  pub repeats_end : ((end_of f o).number ≡ 0 → ⊥) → Repeats (end_of f o).next (end_of f o)
  unfolding end_of reported
  repeats_end h =
      let q : Status = opened f in
      refused_by_lem q (done_of (room_of o) q).gives (done_of (room_of o) q).next (made_done (room_of o) q (made_opened f)) h

-- ---- a good end

-- a fresh stream
abbrev pub zeros : Feed
zeros = record { state = 0; start = 0; seen = 0; backslash = 0; kind = 0; depth = 0; utf = 0; sequence = 0; count = 0; number = 0 }

fresh_by : (k : ℕ) (z : Step) → Named z → ((ts : List Tok) (d : Stand) → z ≡ Goes ts d → d ≡ begin) → number_of (moved_by k z).next ≡ 0 → numbered (moved_by k z).next ≡ zeros
fresh_by k (Goes ts d) h g e = rw (g ts d refl)
fresh_by k (Faults n p) h g e = absurd (not_zero n (h n p refl) e)

fresh_done : (r : ℕ) (q : Status) → Made q → number_of (done_of r q).next ≡ 0 → numbered (done_of r q).next ≡ zeros
unfolding done_of
fresh_done r (Open c) m e = fresh_by c.count (last_of r c) (named_last r c) (good_end r c) e
fresh_done r (Held n p k) m e = absurd (not_zero n m e)

-- after a good end all numbers are 0
pub fresh : (f : Feed) (o : List ℕ) → (end_of f o).number ≡ 0 → (end_of f o).next ≡ zeros
unfolding end_of reported
fresh f o e = fresh_done (room_of o) (opened f) (made_opened f) e

pub fresh_opened : opened zeros ≡ Open begin
fresh_opened = passes (Open begin) fitting_begin
