-- With one list lent to all calls, 14 is about the token behind as many as there is room for: the list never holds more.
use Rattle.std.specs.Prelude.{Some, None}
use Prim.Native.Nat.{ℕ, suc, ◌+◌, ◌≤◌, ◌<◌}
use mathlib.Core.Path.{◌≡◌, refl, sym, ap, ◌∙◌}
use mathlib.Core.Bool.{Bool, true, false}
use mathlib.Core.List.{List, [], ◌∷◌, ◌++◌}
use mathlib.Core.Logic.{◌⊎◌, inl, inr}
use native.Mathlib.Omega.{arith}
use lib.Dec.{ltb}
use lib.ListN.{length}
use borrow.Author.Tests.{ltb-true}
use Rattle.text.specs.Booleans.{choose}
use Rattle.token.specs.Lists.{Tok, tok, start_of, tokens_of}
use Rattle.states.specs.declared.Stand.{Stand}
use Rattle.states.specs.declared.Status.TheVariants.{Open, Held}
use Rattle.states.specs.Machine.{step, feed}
use Rattle.states.specs.Steps.{Step, Goes, Faults, over_at, step_of, ran_of, begin, Moved, moved_by, fed_of}
use Rattle.states.specs.Packets.{Packet, joined, fed_all, lent, At}
use Rattle.states.specs.Free.{Bytes}
use Rattle.states.proofs.Known.{at_below}
use Rattle.states.proofs.Runs.{took, followed_goes, gave, stand_at}
use Rattle.states.proofs.Packets.{stays_held, Shown}
use Rattle.states.proofs.Promises.{fed_by, open_after, held_after, first_of, goes_on_lem, waits_14}

-- ---- the list never holds more than there is room for

over_good : (room : ℕ) (ts : List Tok) (n : ℕ) → over_at room n ts ≡ None → n ≤ room → n + length ts ≤ room
unfolding over_at
over_good room [] n e h = omega arith
over_good room (t ∷ ts) n e h = over_by room t ts n (ltb n room) refl (λ f g. over_good room ts (suc n) f g) e
  where
    over_by : (room : ℕ) (t : Tok) (ts : List Tok) (n : ℕ) (b : Bool) → ltb n room ≡ b → (over_at room (suc n) ts ≡ None → suc n ≤ room → suc n + length ts ≤ room)
        → choose b (λ u. over_at room (suc n) ts) (λ u. Some (start_of t)) ≡ None → n + suc (length ts) ≤ room
    over_by room t ts n true f g e =
        let h = g e (ltb-true n room f) in
        omega (arith, h)
    over_by room t ts n false f g e = let z : ◌≡◌ {A = ℕ} 0 1 = cc in absurd (omega arith)

module _ (r : ℕ) where
  room_step : (c : Stand) (x : ℕ) (ts : List Tok) (d : Stand) → step_of r c x ≡ Goes ts d → c.count ≤ r → d.count ≤ r
  room_step c x ts d e h =
      let k = took r c x ts d e in
      rw k.moved (over_good r (step c.conf x).gives c.count k.room h)

  room_ran : (xs : List ℕ) (c : Stand) (ts : List Tok) (d : Stand) → ran_of r c xs ≡ Goes ts d → c.count ≤ r → d.count ≤ r
  unfolding ran_of
  room_ran [] c ts d e h =
      let i : c ≡ d = cc in
      rw (← i) h
  room_ran (x ∷ xs) c ts d e h =
      let p = followed_goes (step_of r c x) (λ z. ran_of r z xs) ts d e in
      room_ran xs p.stand p.second d p.two (room_step c x p.first p.stand p.one h)

  -- all lists are that list
  abbrev Rooms : List Packet → Type 0
  Rooms [] = Unit {0}
  Rooms (p ∷ ps) = (p.room ≡ r) × Rooms ps

  rooms_lent : (xss : List (List ℕ)) → Rooms (lent r xss)
  rooms_lent [] = tt
  rooms_lent (xs ∷ xss) = (refl, rooms_lent xss)

  rooms_split : (before : List Packet) (p : Packet) (behind : List Packet) → Rooms (before ++ p ∷ behind) → Rooms before × (p.room ≡ r)
  rooms_split [] p behind h = (tt, h.0)
  rooms_split (q ∷ qs) p behind h = let g = rooms_split qs p behind h.1 in ((h.0, g.0), g.1)

  by_call : (p : Packet) (ps : List Packet) (c d : Stand) → p.room ≡ r → c.count ≤ r → ((e : Stand) → e.count ≤ r → (fed_all (Open e) ps).next ≡ Open d → d.count ≤ r)
      → (z : Step) → ran_of p.room c p.bytes ≡ z → (fed_all (moved_by c.count z).next ps).next ≡ Open d → d.count ≤ r
  by_call p ps c d i h g (Goes ts e) f k = g e (room_ran p.bytes c ts e (rw i at f) h) k
  by_call p ps c d i h g (Faults n q) f k =
      let l : Held n q c.count ≡ Open d = ap (λ (m : Moved). m.next) (sym (stays_held ps n q c.count)) ∙ k in
      let z : ◌≡◌ {A = ℕ} 0 1 = cc in
      absurd (omega arith)

  room_all : (ps : List Packet) (c d : Stand) → Rooms ps → c.count ≤ r → (fed_all (Open c) ps).next ≡ Open d → d.count ≤ r
  unfolding fed_all fed_of
  room_all [] c d i h e =
      let j : c ≡ d = cc in
      rw (← j) h
  room_all (p ∷ ps) c d i h e = by_call p ps c d i.0 h (λ z g f. room_all ps z d i.1 g f) (ran_of p.room c p.bytes) refl e

-- ---- so the token that finds no room is the next

none_given : length (gave []) ≡ 0
unfolding feed
none_given = refl

moved_at : {a b : List ℕ} {i j : ℕ} (t : Tok) → a ≡ b → i ≡ j → At (tokens_of b).list i t → At (tokens_of a).list j t
moved_at t e f h = rw (e, ← f) h

index_is : {r : ℕ} (room index n : ℕ) → room ≡ r → room ≤ index → n ≤ r → (index ≡ room) ⊎ (index ≡ n) → index ≡ r
index_is room index n e o h (inl i) = omega arith
index_is room index n e o h (inr i) = omega arith

module _ (r : ℕ) (xss : List (List ℕ)) (p k : ℕ) (e : (fed_by (lent r xss)).next ≡ Held 14 p k) where
  abbrev ps : List Packet
  ps = lent r xss

  h : Shown [] ps 14 p k
  h = held_after ps 14 p k e

  rooms : Rooms r h.spot.before × (h.spot.packet.room ≡ r)
  rooms = rooms_split r h.spot.before h.spot.packet h.spot.behind (rw h.spot.split at (rooms_lent r xss))

  -- the list has room for what was given before that byte
  room_before : length (gave (joined h.spot.before ++ h.spot.part)) ≤ r
  room_before =
      let none : length (gave []) ≤ r = omega (arith, none_given) in
      let a : length (gave (joined h.spot.before)) ≤ r = room_all r h.spot.before (stand_at []) (stand_at (joined h.spot.before)) rooms.0 none h.opens in
      room_ran r h.spot.part (stand_at (joined h.spot.before)) h.went (stand_at (joined h.spot.before ++ h.spot.part)) (rw rooms.1 at h.ran) a

  -- every continuation has a token that starts there, with one end, behind r others
  pub full_14 : (kind : ℕ) × (end : ℕ) × ((ys : List ℕ) → At (tokens_of (joined ps ++ ys)).list r (tok kind p end))
  full_14 =
      let f = first_of ps 14 p k h in
      let t = f.says.shows_14 refl in
      let i : t.index ≡ r = index_is h.spot.packet.room t.index (length (gave (joined h.spot.before ++ h.spot.part))) rooms.1 t.over room_before t.first in
      (t.kind, t.end, λ ys. moved_at (tok t.kind p t.end) (goes_on_lem ps f.spot ys) i (t.known _))

-- where nothing shows, every token that all continuations have has room
module _ (r : ℕ) (xss : List (List ℕ)) (c : Stand) (e : (fed_by (lent r xss)).next ≡ Open c) where
  list_fits : length (fed_by (lent r xss)).gives ≤ r
  list_fits =
      let o = open_after (lent r xss) c e in
      let a : c.count ≤ r = room_all r (lent r xss) begin c (rooms_lent r xss) (omega arith) e in
      rw (← o.list) (rw o.stands at a)

  pub room_14 : (i : ℕ) (t : Tok) → ((ys : List ℕ) → Bytes ys → At (tokens_of (joined (lent r xss) ++ ys)).list i t) → i < r
  room_14 i t h =
      let b : i < length (fed_by (lent r xss)).gives = at_below (fed_by (lent r xss)).gives i t ((waits_14 (lent r xss) c e i t).0 h) in
      omega (arith, list_fits)
