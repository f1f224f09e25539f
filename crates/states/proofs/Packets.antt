-- Any number of packets: an open stream stands behind their text, and a refusal shows at one byte of one of them.
use Prim.Native.Nat.{ℕ}
use mathlib.Core.Path.{◌≡◌, refl, sym, ap, ◌∙◌}
use mathlib.Core.List.{List, [], ◌∷◌, ◌++◌, append-nil, append_assoc}
use native.Mathlib.Omega.{arith}
use lib.ListN.{length}
use Rattle.token.specs.Lists.{Tok}
use Rattle.states.specs.declared.Stand.{Stand}
use Rattle.states.specs.declared.Status.{Status}
use Rattle.states.specs.declared.Status.TheVariants.{Open, Held}
use Rattle.states.specs.Steps.{Step, Goes, Faults, step_of, ran_of, moved_by, Moved, fed_of}
use Rattle.states.specs.Packets.{Packet, joined, fed_all, Spot}
use Rattle.states.proofs.Runs.{gave, stand_at, ran_goes, Stopped, ran_faults}
use Rattle.states.proofs.Shown.{NoneShown, sound_ran}

-- ---- a packet

pub moved_open : (k : ℕ) (z : Step) (c : Stand) → (moved_by k z).next ≡ Open c → z ≡ Goes (moved_by k z).gives c
moved_open k (Goes ts d) c e = let g : d ≡ c = cc in ap (Goes ts) g
moved_open k (Faults n p) c e = let z : ◌≡◌ {A = ℕ} 0 1 = cc in absurd (omega arith)

pub moved_held : (k : ℕ) (z : Step) (n p m : ℕ) → (moved_by k z).next ≡ Held n p m → (z ≡ Faults n p) × (k ≡ m) × ((moved_by k z).gives ≡ [])
moved_held k (Goes ts d) n p m e = let z : ◌≡◌ {A = ℕ} 0 1 = cc in absurd (omega arith)
moved_held k (Faults i j) n p m e = (cc, cc, refl)

no_packets : (q : Status) → (fed_all q []).next ≡ q
unfolding fed_all
no_packets q = refl

-- a held refusal stays, whatever comes
pub stays_held : (ps : List Packet) (n p k : ℕ) → fed_all (Held n p k) ps ≡ record { gives = []; next = Held n p k }
unfolding fed_all fed_of
stays_held [] n p k = refl
stays_held (x ∷ ps) n p k = stays_held ps n p k

-- ---- packets behind a text after which nothing has shown

-- the byte at which a refusal shows: the calls before it were good, and so were the bytes before it; k records stood in the list
pub record Shown (s : List ℕ) (ps : List Packet) (n p k : ℕ) : Type 0 where
  pub spot : Spot ps
  pub opens : (fed_all (Open (stand_at s)) spot.before).next ≡ Open (stand_at (s ++ joined spot.before))
  pub went : List Tok
  pub ran : ran_of spot.packet.room (stand_at (s ++ joined spot.before)) spot.part ≡ Goes went (stand_at (s ++ joined spot.before ++ spot.part))
  pub sound : NoneShown (s ++ joined spot.before ++ spot.part)
  pub fault : step_of spot.packet.room (stand_at (s ++ joined spot.before ++ spot.part)) spot.byte ≡ Faults n p
  pub records : k ≡ length (gave (s ++ joined spot.before))
  pub list : gave (s ++ joined spot.before) ≡ gave s ++ (fed_all (Open (stand_at s)) ps).gives

-- what a packet comes to
data Comes (s : List ℕ) (p : Packet) : Type 0 where
  goes : (ts : List Tok) → fed_of p.room (Open (stand_at s)) p.bytes ≡ record { gives = ts; next = Open (stand_at (s ++ p.bytes)) } → NoneShown (s ++ p.bytes) → gave (s ++ p.bytes) ≡ gave s ++ ts → Comes s p
  stops : (n q : ℕ) → fed_of p.room (Open (stand_at s)) p.bytes ≡ record { gives = []; next = Held n q (length (gave s)) } → Stopped p.room s p.bytes n q → Comes s p

comes_by : (s : List ℕ) (p : Packet) (z : Step) → NoneShown s → ran_of p.room (stand_at s) p.bytes ≡ z → Comes s p
unfolding fed_of
comes_by s p (Goes ts d) h e =
    let g = ran_goes p.room p.bytes s ts d e in
    let f : fed_of p.room (Open (stand_at s)) p.bytes ≡ record { gives = ts; next = Open (stand_at (s ++ p.bytes)) } =
    ap (moved_by (length (gave s))) e ∙ ap (λ (c : Stand). moved_by (length (gave s)) (Goes ts c)) g.0 in
    goes ts f (sound_ran p.room p.bytes s ts d h e) g.1
comes_by s p (Faults n q) h e = stops n q (ap (moved_by (length (gave s))) e) (ran_faults p.room p.bytes s n q e)

comes : (s : List ℕ) (p : Packet) → NoneShown s → Comes s p
comes s p h = comes_by s p (ran_of p.room (stand_at s) p.bytes) h refl

-- behind one packet more
abbrev later : {ps : List Packet} (x : Packet) → Spot ps → Spot (x ∷ ps)
later x w = record { before = x ∷ w.before; packet = w.packet; behind = w.behind; split = ap (λ (z : List Packet). x ∷ z) w.split; part = w.part; byte = w.byte; rest = w.rest; cut = w.cut }

-- what packets come to
pub data Came (s : List ℕ) (ps : List Packet) : Type 0 where
  through : (fed_all (Open (stand_at s)) ps).next ≡ Open (stand_at (s ++ joined ps)) → NoneShown (s ++ joined ps) → gave (s ++ joined ps) ≡ gave s ++ (fed_all (Open (stand_at s)) ps).gives → Came s ps
  shown : (n p k : ℕ) → (fed_all (Open (stand_at s)) ps).next ≡ Held n p k → Shown s ps n p k → Came s ps

abbrev joins : Moved → List Packet → Moved
joins m ps = record { gives = m.gives ++ (fed_all m.next ps).gives; next = (fed_all m.next ps).next }

module _ (s : List ℕ) (x : Packet) (ps : List Packet) where
  abbrev t : List ℕ
  t = s ++ x.bytes

  assoc : (ys : List ℕ) → t ++ ys ≡ s ++ (x.bytes ++ ys)
  assoc ys = append_assoc s x.bytes ys

  first_then : (qs : List Packet) (m : Moved) → fed_of x.room (Open (stand_at s)) x.bytes ≡ m → fed_all (Open (stand_at s)) (x ∷ qs) ≡ joins m qs
  unfolding fed_all
  first_then qs m e = ap (λ (z : Moved). joins z qs) e

  first_is : (m : Moved) → fed_of x.room (Open (stand_at s)) x.bytes ≡ m → fed_all (Open (stand_at s)) (x ∷ ps) ≡ joins m ps
  first_is m e = first_then ps m e

  -- the first packet is refused
  stop_first : (n q : ℕ) → NoneShown s → fed_of x.room (Open (stand_at s)) x.bytes ≡ record { gives = []; next = Held n q (length (gave s)) } → Stopped x.room s x.bytes n q → Came s (x ∷ ps)
  stop_first n q h e d =
      let held : joins (record { gives = []; next = Held n q (length (gave s)) }) ps ≡ record { gives = []; next = Held n q (length (gave s)) } = rw (stays_held ps n q (length (gave s))) refl in
      let all : fed_all (Open (stand_at s)) (x ∷ ps) ≡ record { gives = []; next = Held n q (length (gave s)) } = first_is (record { gives = []; next = Held n q (length (gave s)) }) e ∙ held in
      let nil : s ++ [] ≡ s = append-nil s in
      shown n q (length (gave s)) (ap (λ (m : Moved). m.next) all)
      (record {
        spot = record { before = []; packet = x; behind = ps; split = refl; part = d.before; byte = d.byte; rest = d.behind; cut = d.cut };
        opens = no_packets (Open (stand_at s)) ∙ ap (λ (t : List ℕ). Open (stand_at t)) (sym nil);
        went = d.went;
        ran = rw nil d.went_on;
        sound = rw nil (sound_ran x.room d.before s d.went (stand_at (s ++ d.before)) h d.went_on);
        fault = rw nil d.fault;
        records = rw nil;
        list = rw (nil, all) (sym (append-nil (gave s)));
      })

  -- it goes through, and the others do or don't
  go_on : (ts : List Tok) → fed_of x.room (Open (stand_at s)) x.bytes ≡ record { gives = ts; next = Open (stand_at t) } → gave t ≡ gave s ++ ts → Came t ps → Came s (x ∷ ps)
  go_on ts e g (through f h l) =
      let all = first_is (record { gives = ts; next = Open (stand_at t) }) e in
      through (ap (λ (m : Moved). m.next) all ∙ f ∙ ap (λ (ys : List ℕ). Open (stand_at ys)) (assoc (joined ps))) (rw (assoc (joined ps)) at h)
      (ap gave (sym (assoc (joined ps))) ∙ l ∙ ap (λ (us : List Tok). us ++ (fed_all (Open (stand_at t)) ps).gives) g ∙ append_assoc (gave s) ts _ ∙ ap (λ (m : Moved). gave s ++ m.gives) (sym all))
  go_on ts e g (shown n q k f h) =
      let all = first_is (record { gives = ts; next = Open (stand_at t) }) e in
      let a : t ++ joined h.spot.before ≡ s ++ joined (x ∷ h.spot.before) = assoc (joined h.spot.before) in
      shown n q k (ap (λ (m : Moved). m.next) all ∙ f)
      (record {
        spot = later x h.spot;
        opens = ap (λ (m : Moved). m.next) (first_then h.spot.before (record { gives = ts; next = Open (stand_at t) }) e) ∙ h.opens ∙ ap (λ (z : List ℕ). Open (stand_at z)) a;
        went = h.went;
        ran = rw a at h.ran;
        sound = rw a at h.sound;
        fault = rw a at h.fault;
        records = h.records ∙ ap (λ (z : List ℕ). length (gave z)) a;
        list = ap gave (sym a) ∙ h.list ∙ ap (λ (us : List Tok). us ++ (fed_all (Open (stand_at t)) ps).gives) g ∙ append_assoc (gave s) ts _ ∙ ap (λ (m : Moved). gave s ++ m.gives) (sym all);
      })

came_by : (s : List ℕ) (x : Packet) (ps : List Packet) → NoneShown s → (NoneShown (s ++ x.bytes) → Came (s ++ x.bytes) ps) → Comes s x → Came s (x ∷ ps)
came_by s x ps h rest (goes ts e f g) = go_on s x ps ts e g (rest f)
came_by s x ps h rest (stops n q e d) = stop_first s x ps n q h e d

pub came : (ps : List Packet) (s : List ℕ) → NoneShown s → Came s ps
unfolding fed_all
came [] s h =
    let nil : s ++ [] ≡ s = append-nil s in
    through (ap (λ (t : List ℕ). Open (stand_at t)) (sym nil)) (rw nil h) (ap gave nil ∙ sym (append-nil (gave s)))
came (x ∷ ps) s h = came_by s x ps h (λ f. came ps (s ++ x.bytes) f) (comes s x h)
