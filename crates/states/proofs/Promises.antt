-- The theorems, for any packets with any room: the list of a good text, when a refusal shows, and that 3 is the whole text's 3.
use Rattle.std.specs.Prelude.{Some, None}
use Prim.Native.Nat.{ℕ, ◌≤◌, ◌<◌}
use mathlib.Core.Path.{◌≡◌, refl, sym, ap, ◌∙◌}
use mathlib.Core.Bool.{Bool, true, false}
use mathlib.Core.List.{List, [], ◌∷◌, ◌++◌, append-nil, append_assoc}
use mathlib.Core.Logic.{◌⊎◌, inl, inr, ◌↔◌}
use native.Mathlib.Omega.{arith}
use lib.Dec.{eqb}
use lib.ListN.{length}
use borrow.Author.Tests.{eqb-true}
use Rattle.text.specs.Booleans.{or, among}
use Rattle.text.specs.Utf8.{first_bad}
use Rattle.text.specs.Limits.{max_text}
use Rattle.token.specs.Lists.{Tok, tok, tokens_of}
use Rattle.states.specs.declared.Stand.{Stand}
use Rattle.states.specs.declared.Status.{Status}
use Rattle.states.specs.declared.Status.TheVariants.{Open, Held}
use Rattle.states.specs.Machine.{feed, finish, fresh}
use Rattle.states.specs.Steps.{Step, Goes, Faults, begin, last_of, moved_by, Moved, done_of}
use Rattle.states.specs.Feed.{refusals, number_of, place_of}
use Rattle.states.specs.Packets.{Packet, joined, fed_all, Roomy, At, Waits, Full, Spot, text_before, First, Last}
use Rattle.states.specs.Free.{Bytes, Free-1, Free-2, Free-3}
use Rattle.states.proofs.Fits.{never}
use Rattle.states.proofs.Known.{at_below, known, known_only}
use Rattle.states.proofs.Runs.{gave, stand_at, stand_nil}
use Rattle.states.proofs.Shown.{NoneShown, sound_nil, byte_says, sound_waits}
use Rattle.states.proofs.Packets.{moved_open, moved_held, Came, through, shown, Shown, came}
use Rattle.states.proofs.Ends.{list_is, end_goes, end_good, end_says}

-- a stream after some packets
abbrev pub fed_by : List Packet → Moved
fed_by ps = fed_all (Open begin) ps

-- ---- what they come to, from the first byte on

from_begin : (ps : List Packet) → fed_all (Open (stand_at [])) ps ≡ fed_by ps
from_begin ps = rw stand_nil refl

no_held : {A : Type 0} (c : Stand) (n p k : ℕ) → Open c ≡ Held n p k → A
no_held c n p k e = let z : ◌≡◌ {A = ℕ} 0 1 = cc in absurd (omega arith)

module _ (ps : List Packet) where
  pub record Stands (c : Stand) : Type 0 where
    pub stands : c ≡ stand_at (joined ps)
    pub sound : NoneShown (joined ps)
    pub list : gave (joined ps) ≡ (fed_by ps).gives

  open_by : (c : Stand) → (fed_by ps).next ≡ Open c → Came [] ps → Stands c
  unfolding feed
  open_by c e (through f h l) =
      let g : Open (stand_at (joined ps)) ≡ Open c = sym f ∙ ap (λ (m : Moved). m.next) (from_begin ps) ∙ e in
      record { stands = cc; sound = h; list = l ∙ ap (λ (m : Moved). m.gives) (from_begin ps) }
  open_by c e (shown n p k f h) = no_held c n p k (sym e ∙ ap (λ (m : Moved). m.next) (sym (from_begin ps)) ∙ f)

  -- an open stream stands behind the whole text, and gave what it gives
  pub open_after : (c : Stand) → (fed_by ps).next ≡ Open c → Stands c
  open_after c e = open_by c e (came ps [] sound_nil)

  held_by : (n p k : ℕ) → (fed_by ps).next ≡ Held n p k → Came [] ps → Shown [] ps n p k
  held_by n p k e (through f h l) = no_held _ n p k (sym f ∙ ap (λ (m : Moved). m.next) (from_begin ps) ∙ e)
  held_by n p k e (shown i j m f h) =
      let g : Held i j m ≡ Held n p k = sym f ∙ ap (λ (m : Moved). m.next) (from_begin ps) ∙ e in
      let a : i ≡ n = cc in
      let b : j ≡ p = cc in
      let c : m ≡ k = cc in
      rw (← a, ← b, ← c) h

  pub held_after : (n p k : ℕ) → (fed_by ps).next ≡ Held n p k → Shown [] ps n p k
  held_after n p k e = held_by n p k e (came ps [] sound_nil)

-- ---- where a refusal shows

abbrev pub first_of : (ps : List Packet) (n p k : ℕ) → Shown [] ps n p k → First ps n p
first_of ps n p k h =
    record { spot = h.spot; nothing = sound_waits 14 (text_before h.spot) h.sound; says = byte_says h.spot.packet.room (text_before h.spot) h.spot.byte n p h.fault }

-- a refusal shows at a byte before which nothing showed, and there none before it in the order shows
pub order : (ps : List Packet) (n p k : ℕ) → (fed_by ps).next ≡ Held n p k → First ps n p
order ps n p k e = first_of ps n p k (held_after ps n p k e)

joined_append : (ps qs : List Packet) → joined (ps ++ qs) ≡ joined ps ++ joined qs
joined_append [] qs = refl
joined_append (p ∷ ps) qs = ap (λ (xs : List ℕ). p.bytes ++ xs) (joined_append ps qs) ∙ sym (append_assoc p.bytes (joined ps) (joined qs))

-- the text with a byte, and what came behind it
pub text_is : (ps : List Packet) (w : Spot ps) → joined ps ≡ text_before w ++ w.byte ∷ (w.rest ++ joined w.behind)
text_is ps w =
    ap joined w.split ∙ joined_append w.before (w.packet ∷ w.behind) ∙ ap (λ (xs : List ℕ). joined w.before ++ (xs ++ joined w.behind)) w.cut
    ∙ ap (λ (xs : List ℕ). joined w.before ++ xs) (append_assoc w.part (w.byte ∷ w.rest) (joined w.behind)) ∙ sym (append_assoc (joined w.before) w.part _)

-- so with every continuation
pub goes_on_lem : (ps : List Packet) (w : Spot ps) (ys : List ℕ) → joined ps ++ ys ≡ text_before w ++ w.byte ∷ ((w.rest ++ joined w.behind) ++ ys)
goes_on_lem ps w ys = ap (λ (xs : List ℕ). xs ++ ys) (text_is ps w) ∙ append_assoc (text_before w) (w.byte ∷ (w.rest ++ joined w.behind)) ys

module _ (ps : List Packet) (p k : ℕ) where
  -- 1: every continuation is too long
  pub shows_1 : (fed_by ps).next ≡ Held 1 p k → (p ≡ 0) × ((ys : List ℕ) → max_text < length (joined ps ++ ys))
  shows_1 e =
      let f = order ps 1 p k e in
      let s = f.says.shows_1 refl in
      (s.0, λ ys. rw (goes_on_lem ps f.spot ys) (s.1 _))

  -- 2: in every continuation the first bad sequence starts there
  pub shows_2 : (fed_by ps).next ≡ Held 2 p k → (ys : List ℕ) → first_bad (joined ps ++ ys) ≡ Some p
  shows_2 e ys =
      let f = order ps 2 p k e in
      rw (goes_on_lem ps f.spot ys) (f.says.shows_2 refl _)

  -- 3: every continuation has it at that place
  pub shows_3 : (fed_by ps).next ≡ Held 3 p k → (ys : List ℕ) → (tokens_of (joined ps ++ ys)).fault ≡ Some p
  shows_3 e ys =
      let f = order ps 3 p k e in
      rw (goes_on_lem ps f.spot ys) (f.says.shows_3 refl _)

  -- 14: every continuation has a token that starts there, with one end, at an index for which there is no room
  pub shows_14 : (fed_by ps).next ≡ Held 14 p k
      → (f : First ps 14 p) × (t : Full f.spot.packet.room (text_before f.spot) f.spot.byte p) × ((ys : List ℕ) → At (tokens_of (joined ps ++ ys)).list t.index (tok t.kind p t.end))
  shows_14 e =
      let f = order ps 14 p k e in
      let t = f.says.shows_14 refl in
      (f, t, λ ys. rw (goes_on_lem ps f.spot ys) (t.known _))

-- ---- where none shows

module _ (ps : List Packet) (c : Stand) (e : (fed_by ps).next ≡ Open c) where
  waits : Waits 14 (joined ps)
  waits = sound_waits 14 (joined ps) (open_after ps c e).sound

  pub waits_1 : Free-1 (joined ps)
  waits_1 = waits.one (omega arith)

  pub waits_2 : Free-2 (joined ps)
  waits_2 = waits.two (omega arith)

  pub waits_3 : Free-3 (joined ps)
  waits_3 = waits.three (omega arith)

  -- the list has every token that all continuations have, and only those
  pub waits_14 : (i : ℕ) (t : Tok) → ((ys : List ℕ) → Bytes ys → At (tokens_of (joined ps ++ ys)).list i t) ↔ At (fed_by ps).gives i t
  waits_14 i t =
      let l : gave (joined ps) ≡ (fed_by ps).gives = (open_after ps c e).list in
      (λ h. rw l at (known_only (joined ps) i t h), λ h ys b. known (joined ps) ys i t (rw l h))

-- ---- the list, refused or not

module _ (ps : List Packet) where
  abbrev Stays : Type 0
  Stays = (i : ℕ) (t : Tok) → At (fed_by ps).gives i t → (ys : List ℕ) → At (tokens_of (joined ps ++ ys)).list i t

  -- the text behind the calls before the refused one
  behind_calls : (w : Spot ps) (ys : List ℕ) → joined ps ++ ys ≡ joined w.before ++ (w.part ++ w.byte ∷ ((w.rest ++ joined w.behind) ++ ys))
  behind_calls w ys = goes_on_lem ps w ys ∙ append_assoc (joined w.before) w.part _

  -- what stays in the list of a refused stream is what the calls before that one gave
  pub refused_list : (n p k : ℕ) (h : Shown [] ps n p k) → (gave (joined h.spot.before) ≡ (fed_by ps).gives) × (k ≡ length (fed_by ps).gives)
  unfolding feed
  refused_list n p k h =
      let e : gave (joined h.spot.before) ≡ (fed_by ps).gives = h.list ∙ ap (λ (m : Moved). m.gives) (from_begin ps) in
      (e, h.records ∙ ap length e)

  stays_by : (q : Status) → (fed_by ps).next ≡ q → Stays
  stays_by (Open c) e i t h ys = known (joined ps) ys i t (rw (open_after ps c e).list h)
  stays_by (Held n p k) e i t h ys =
      let g = held_after ps n p k e in
      rw (behind_calls g.spot ys) (known (joined g.spot.before) _ i t (rw (refused_list n p k g).0 h))

  -- every token given stands at its index in the list of every continuation
  pub given_stays : (i : ℕ) (t : Tok) → At (fed_by ps).gives i t → (ys : List ℕ) → At (tokens_of (joined ps ++ ys)).list i t
  given_stays = stays_by (fed_by ps).next refl

-- ---- whole texts

-- a stream after some packets and the end
abbrev pub ended : ℕ → List Packet → Moved
ended room ps = done_of room (fed_by ps).next

bad_good : {A : Type 0} (p : ℕ) → Some p ≡ None → A
bad_good p e = let z : ◌≡◌ {A = ℕ} 0 1 = cc in absurd (omega arith)

-- the number of a refusal
pub four : (n : ℕ) → among refusals n ≡ true → (n ≡ 1) ⊎ (n ≡ 2) ⊎ (n ≡ 3) ⊎ (n ≡ 14)
four n e = by_1 (eqb n 1) refl e
  where
    by_14 : (b : Bool) → eqb n 14 ≡ b → or b false ≡ true → (n ≡ 1) ⊎ (n ≡ 2) ⊎ (n ≡ 3) ⊎ (n ≡ 14)
    by_14 true f e = inr (inr (inr (eqb-true n 14 f)))
    by_14 false f e = never e

    by_3 : (b : Bool) → eqb n 3 ≡ b → or b (or (eqb n 14) false) ≡ true → (n ≡ 1) ⊎ (n ≡ 2) ⊎ (n ≡ 3) ⊎ (n ≡ 14)
    by_3 true f e = inr (inr (inl (eqb-true n 3 f)))
    by_3 false f e = by_14 (eqb n 14) refl e

    by_2 : (b : Bool) → eqb n 2 ≡ b → or b (or (eqb n 3) (or (eqb n 14) false)) ≡ true → (n ≡ 1) ⊎ (n ≡ 2) ⊎ (n ≡ 3) ⊎ (n ≡ 14)
    by_2 true f e = inr (inl (eqb-true n 2 f))
    by_2 false f e = by_3 (eqb n 3) refl e

    by_1 : (b : Bool) → eqb n 1 ≡ b → or b (or (eqb n 2) (or (eqb n 3) (or (eqb n 14) false))) ≡ true → (n ≡ 1) ⊎ (n ≡ 2) ⊎ (n ≡ 3) ⊎ (n ≡ 14)
    by_1 true f e = inl (eqb-true n 1 f)
    by_1 false f e = by_2 (eqb n 2) refl e

roomy_at : (n : ℕ) (before : List Packet) (p : Packet) (behind : List Packet) → Roomy n (before ++ p ∷ behind) → n ≤ p.room
roomy_at n [] p behind h = h.0
roomy_at n (q ∷ qs) p behind h = roomy_at n qs p behind h.1

roomy_in : (n : ℕ) (ps before : List Packet) (p : Packet) (behind : List Packet) → ps ≡ before ++ p ∷ behind → Roomy n ps → n ≤ p.room
roomy_in n ps before p behind e h = roomy_at n before p behind (rw e at h)

-- a text that is not too long, is UTF-8, and has no 3
pub record Fine (s : List ℕ) : Type 0 where
  pub short : length s ≤ max_text
  pub utf : first_bad s ≡ None
  pub fault : (tokens_of s).fault ≡ None

module _ (ps : List Packet) where
  abbrev s : List ℕ
  s = joined ps

  text_nil : joined ps ++ [] ≡ s
  text_nil = append-nil s

  -- such a text is refused by 14 only, and not where there is room
  never_held : Fine s → Roomy (length (tokens_of s).list) ps → (n p k : ℕ) → (fed_by ps).next ≡ Held n p k → ⊥
  never_held g h n p k e = by_number (four n (order ps n p k e).says.refusal)
    where
      by_number : (n ≡ 1) ⊎ (n ≡ 2) ⊎ (n ≡ 3) ⊎ (n ≡ 14) → ⊥
      by_number (inl z) =
          let l : max_text < length (joined ps ++ []) = (shows_1 ps p k (rw z at e)).1 [] in
          let m : max_text < length s = rw text_nil at l in
          omega (arith, g.short)
      by_number (inr (inl z)) = bad_good p (sym (shows_2 ps p k (rw z at e) []) ∙ rw text_nil g.utf)
      by_number (inr (inr (inl z))) = bad_good p (sym (shows_3 ps p k (rw z at e) []) ∙ rw text_nil g.fault)
      by_number (inr (inr (inr z))) =
          let t = shows_14 ps p k (rw z at e) in
          let a : At (tokens_of s).list t.1.index (tok t.1.kind p t.1.end) = rw text_nil at (t.2 []) in
          let b : t.1.index < length (tokens_of s).list = at_below (tokens_of s).list t.1.index _ a in
          let r : length (tokens_of s).list ≤ t.0.spot.packet.room = roomy_in (length (tokens_of s).list) ps t.0.spot.before t.0.spot.packet t.0.spot.behind t.0.spot.split h in
          let o : t.0.spot.packet.room ≤ t.1.index = t.1.over in
          omega arith

  pub record Listed (room : ℕ) : Type 0 where
    pub list : (fed_by ps).gives ++ (ended room ps).gives ≡ (tokens_of s).list
    pub fresh : (ended room ps).next ≡ Open begin

  good_by : (room : ℕ) → Fine s → Roomy (length (tokens_of s).list) ps → length (tokens_of s).list ≤ room → (q : Status) → (fed_by ps).next ≡ q → Listed room
  unfolding done_of
  good_by room g h l (Held n p k) e = absurd (never_held g h n p k e)
  good_by room g h l (Open c) e =
      let o = open_after ps c e in
      let z : (fed_by ps).next ≡ Open (stand_at s) = e ∙ ap Open o.stands in
      let d : ended room ps ≡ record { gives = (finish (feed fresh s).next).list; next = Open begin } = ap (done_of room) z ∙ ap (moved_by (length (gave s))) (end_goes room s g.utf g.fault l) in
      record { list = ap (λ (ts : List Tok). ts ++ (ended room ps).gives) (sym o.list) ∙ ap (λ (m : Moved). gave s ++ m.gives) d ∙ list_is s; fresh = ap (λ (m : Moved). m.next) d }

  -- a text with none of 1, 2 and 3, in any packets, with room: the list is that of the whole text, and the end is good
  pub good_list : (room : ℕ) → Fine s → Roomy (length (tokens_of s).list) ps → length (tokens_of s).list ≤ room → Listed room
  good_list room g h l = good_by room g h l (fed_by ps).next refl

  -- ---- the end

  last-moved : (room : ℕ) (c : Stand) → (fed_by ps).next ≡ Open c → ended room ps ≡ moved_by (length (gave s)) (last_of room (stand_at s))
  unfolding done_of
  last-moved room c e = ap (done_of room) (e ∙ ap Open (open_after ps c e).stands)

  -- a refusal that shows at the end only
  pub shows_last : (room : ℕ) (c : Stand) (n p k : ℕ) → (fed_by ps).next ≡ Open c → (ended room ps).next ≡ Held n p k → Last room s n p
  shows_last room c n p k e f = end_says room s n p (moved_held (length (gave s)) (last_of room (stand_at s)) n p k (ap (λ (m : Moved). m.next) (sym (last-moved room c e)) ∙ f)).0

  fine_by : (room : ℕ) (d : Stand) → (ended room ps).next ≡ Open d → (q : Status) → (fed_by ps).next ≡ q → Fine s × Listed room
  unfolding done_of
  fine_by room d f (Held n p k) e = no_held d n p k (sym f ∙ ap (λ (q : Status). (done_of room q).next) e)
  fine_by room d f (Open c) e =
      let o = open_after ps c e in
      let m = last-moved room c e in
      let g : last_of room (stand_at s) ≡ Goes (ended room ps).gives d = rw (← m) at (moved_open (length (gave s)) (last_of room (stand_at s)) d (ap (λ (m : Moved). m.next) (sym m) ∙ f)) in
      let h = end_good room s (ended room ps).gives d g in
      (record { short = o.sound.short; utf = h.utf; fault = h.fault }, record { list = ap (λ (ts : List Tok). ts ++ (ended room ps).gives) (sym o.list) ∙ h.list; fresh = f ∙ ap Open h.fresh })

  -- a good end: the text has none of 1, 2 and 3, the list is that of the whole text, and the stream is fresh
  pub good_end : (room : ℕ) (d : Stand) → (ended room ps).next ≡ Open d → Fine s × Listed room
  good_end room d f = fine_by room d f (fed_by ps).next refl

  -- ---- 3 is the whole text's 3

  -- a stream holds 3 with a place
  abbrev Three : Status → ℕ → Type 0
  Three q p = (number_of q ≡ 3) × (place_of q ≡ p)

  abbrev Same-3 : Status → Type 0
  Same-3 q = (p : ℕ) → Three q p ↔ ((tokens_of s).fault ≡ Some p)

  -- the text has it there
  has : (m n p k : ℕ) → m ≡ 3 → (tokens_of s).fault ≡ Some n → Same-3 (Held m n k)
  has m n p k e f q = (λ h. f ∙ ap Some h.1, λ h. let g : Some n ≡ Some q = sym f ∙ h in (e, cc))

  -- the text has none
  hasn't : (q : Status) → (number_of q ≡ 3 → ⊥) → (tokens_of s).fault ≡ None → Same-3 q
  hasn't q h f p = (λ g. absurd (h g.0), λ g. bad_good p (sym g ∙ f))

  held-3 : length s ≤ max_text → first_bad s ≡ None → (n p k : ℕ) → (fed_by ps).next ≡ Held n p k → (n ≡ 14 → ⊥) → Same-3 (Held n p k)
  held-3 l u n p k e h = by_number (four n (order ps n p k e).says.refusal)
    where
      by_number : (n ≡ 1) ⊎ (n ≡ 2) ⊎ (n ≡ 3) ⊎ (n ≡ 14) → Same-3 (Held n p k)
      by_number (inl z) =
          let m : max_text < length (joined ps ++ []) = (shows_1 ps p k (rw z at e)).1 [] in
          let i : max_text < length s = rw text_nil at m in
          absurd (omega arith)
      by_number (inr (inl z)) = bad_good p (sym (shows_2 ps p k (rw z at e) []) ∙ rw text_nil u)
      by_number (inr (inr (inl z))) = has n p p k z (rw text_nil at (shows_3 ps p k (rw z at e) []))
      by_number (inr (inr (inr z))) = absurd (h z)

  last_3 : (room : ℕ) → first_bad s ≡ None → (z : Step) → last_of room (stand_at s) ≡ z → (number_of (moved_by (length (gave s)) z).next ≡ 14 → ⊥) → Same-3 (moved_by (length (gave s)) z).next
  last_3 room u (Goes ts d) e h = hasn't (Open d) (λ z. omega arith) (end_good room s ts d e).fault
  last_3 room u (Faults n p) e h = by_number (four n (end_says room s n p e).refusal)
    where
      by_number : (n ≡ 1) ⊎ (n ≡ 2) ⊎ (n ≡ 3) ⊎ (n ≡ 14) → Same-3 (Held n p (length (gave s)))
      by_number (inl z) = absurd ((end_says room s n p e).not_1 z)
      by_number (inr (inl z)) = bad_good p (sym ((end_says room s n p e).shows_2 z) ∙ u)
      by_number (inr (inr (inl z))) = has n p p (length (gave s)) z ((end_says room s n p e).shows_3 z)
      by_number (inr (inr (inr z))) = absurd (h z)

  same_by : (room : ℕ) → length s ≤ max_text → first_bad s ≡ None → (q : Status) → (fed_by ps).next ≡ q → (number_of (done_of room q).next ≡ 14 → ⊥) → Same-3 (done_of room q).next
  unfolding done_of
  same_by room l u (Held n p k) e h = held-3 l u n p k e h
  same_by room l u (Open c) e h =
      let z : c ≡ stand_at s = (open_after ps c e).stands in
      rw z (last_3 room u (last_of room (stand_at s)) refl (rw z at h))

  -- where the text is UTF-8 and not too long, and 14 doesn't come: 3 is given exactly if the whole text has it, at the same place
  pub same_3 : (room : ℕ) → length s ≤ max_text → first_bad s ≡ None → (number_of (ended room ps).next ≡ 14 → ⊥)
      → (p : ℕ) → ((number_of (ended room ps).next ≡ 3) × (place_of (ended room ps).next ≡ p)) ↔ ((tokens_of s).fault ≡ Some p)
  same_3 room l u h = same_by room l u (fed_by ps).next refl h
