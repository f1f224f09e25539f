-- Packets fed in numbers, with one list lent to all calls, are the packets of the definitions; so the whole list of a good text stands there.
use Rattle.std.specs.Prelude.{Some, None}
use Prim.Native.Nat.{ℕ, ◌+◌, ◌*◌, ◌/◌, ◌≤◌}
use mathlib.Core.Path.{◌≡◌, refl, sym, ap, ◌∙◌}
use mathlib.Core.List.{List, [], ◌∷◌, ◌++◌, append-nil, append_assoc}
use mathlib.Core.Logic.{◌↔◌}
use native.Mathlib.Nat.{add-zero}
use native.Mathlib.Omega.{arith}
use lib.ListN.{length, length-append}
use lib.Seq.{sets, length-sets}
use Rattle.text.specs.Splice.{fronted}
use Rattle.text.specs.Utf8.{first_bad}
use Rattle.text.specs.Limits.{max_text}
use Rattle.token.specs.Lists.{Tok, tokens_of}
use Rattle.token.specs.Table.{flat, room_of}
use Rattle.token.proofs.Table.{behind, front_is}
use Rattle.states.specs.declared.Stand.{Stand}
use Rattle.states.specs.declared.Feed.{Feed}
use Rattle.states.specs.declared.Call.{Call}
use Rattle.states.specs.declared.Status.{Status}
use Rattle.states.specs.declared.Status.TheVariants.{Open, Held}
use Rattle.states.specs.Steps.{Step, Goes, Faults, step_of, ran_of, begin, Moved, moved_by, fed_of, done_of}
use Rattle.states.specs.Feed.{numbered, opened, records_of, number_of, place_of, unless_held, reported, written, feed_of, feed_in, end_of, end_in}
use Rattle.states.specs.Packets.{joined, fed_all, lent, Roomy, Kept, calls_of}
use Rattle.states.proofs.Keeps.{fitting_begin}
use Rattle.states.proofs.Runs.{took, followed_goes}
use Rattle.states.proofs.Promises.{fed_by, ended, Fine, good_list, same_3}
use Rattle.states.proofs.Numbers.{Made, made_fed, passes, Repeats, zeros}

-- ---- records

count_step : (r : ℕ) (c : Stand) (x : ℕ) (ts : List Tok) (d : Stand) → step_of r c x ≡ Goes ts d → d.count ≡ c.count + length ts
count_step r c x ts d e =
    let k = took r c x ts d e in
    rw (k.moved, k.gives) refl

pub count_ran : (r : ℕ) (xs : List ℕ) (c : Stand) (ts : List Tok) (d : Stand) → ran_of r c xs ≡ Goes ts d → d.count ≡ c.count + length ts
unfolding ran_of
count_ran r [] c ts d e =
    let i : c ≡ d = cc in
    let j : [] ≡ ts = cc in
    rw (← i, ← j) (sym (add-zero c.count))
count_ran r (x ∷ xs) c ts d e =
    let p = followed_goes (step_of r c x) (λ z. ran_of r z xs) ts d e in
    let m = count_step r c x p.first p.stand p.one in
    let n = count_ran r xs p.stand p.second d p.two in
    let l : length ts ≡ length p.first + length p.second = ap length p.all ∙ length-append p.first p.second in
    omega (arith, m, n)

records_by_lem : (k : ℕ) (z : Step) → ((ts : List Tok) (d : Stand) → z ≡ Goes ts d → d.count ≡ k + length ts) → records_of (moved_by k z).next ≡ k + length (moved_by k z).gives
records_by_lem k (Goes ts d) h = h ts d refl
records_by_lem k (Faults n p) h = sym (add-zero k)

records_fed : (r : ℕ) (q : Status) (xs : List ℕ) → records_of (fed_of r q xs).next ≡ records_of q + length (fed_of r q xs).gives
unfolding fed_of
records_fed r (Open c) xs = records_by_lem c.count (ran_of r c xs) (count_ran r xs c)
records_fed r (Held n p k) xs = sym (add-zero k)

-- ---- calls one after the other

-- what is kept by a stream q behind the tokens ts, in a list that was o
abbrev kept_by : Status → List Tok → List ℕ → Kept
kept_by q ts o = record { feed = numbered q; list = sets o 0 (flat ts) }

room_same : (ts : List Tok) (o : List ℕ) → room_of (sets o 0 (flat ts)) ≡ room_of o
room_same ts o = ap (λ (n : ℕ). n / 3) (length-sets o 0 (flat ts))

module _ (o : List ℕ) where
  -- a packet
  call_is : (q : Status) (ts : List Tok) (xs : List ℕ) → Made q → records_of q ≡ length ts
      → ◌≡◌ {A = Kept} (record { feed = (feed_of (numbered q) xs (sets o 0 (flat ts))).next; list = feed_in (numbered q) xs (sets o 0 (flat ts)) }) (kept_by (fed_of (room_of o) q xs).next (ts ++ (fed_of (room_of o) q xs).gives) o)
  unfolding feed_of feed_in reported written
  call_is q ts xs m e =
      let p : opened (numbered q) ≡ q = passes q m in
      rw (p, room_same ts o, e, behind ts (fed_of (room_of o) q xs).gives o) refl

  calls_are : (xss : List (List ℕ)) (q : Status) (ts : List Tok) → Made q → records_of q ≡ length ts
      → calls_of (kept_by q ts o) xss ≡ kept_by (fed_all q (lent (room_of o) xss)).next (ts ++ (fed_all q (lent (room_of o) xss)).gives) o
  unfolding calls_of fed_all
  calls_are [] q ts m e = rw (append-nil ts) refl
  calls_are (xs ∷ xss) q ts m e =
      let n : Moved = fed_of (room_of o) q xs in
      let us : List Tok = ts ++ n.gives in
      let c : records_of n.next ≡ length us = records_fed (room_of o) q xs ∙ ap (λ (k : ℕ). k + length n.gives) e ∙ sym (length-append ts n.gives) in
      ap (λ (k : Kept). calls_of k xss) (call_is q ts xs m e) ∙ calls_are xss n.next us (made_fed (room_of o) q xs m) c
      ∙ ap (λ (vs : List Tok). kept_by (fed_all n.next (lent (room_of o) xss)).next vs o) (append_assoc ts n.gives _)

  -- from zeros on
  pub in_numbers : (xss : List (List ℕ)) → calls_of (record { feed = zeros; list = o }) xss ≡ kept_by (fed_by (lent (room_of o) xss)).next (fed_by (lent (room_of o) xss)).gives o
  in_numbers xss = calls_are xss (Open begin) [] fitting_begin refl

-- ---- a good text

made_all : (r : ℕ) (xss : List (List ℕ)) (q : Status) → Made q → Made (fed_all q (lent r xss)).next
unfolding fed_all
made_all r [] q m = m
made_all r (xs ∷ xss) q m = made_all r xss (fed_of r q xs).next (made_fed r q xs m)

records_all : (r : ℕ) (xss : List (List ℕ)) (q : Status) → records_of (fed_all q (lent r xss)).next ≡ records_of q + length (fed_all q (lent r xss)).gives
unfolding fed_all
records_all r [] q = sym (add-zero (records_of q))
records_all r (xs ∷ xss) q =
    let m : Moved = fed_of r q xs in
    let n : Moved = fed_all m.next (lent r xss) in
    let a : records_of n.next ≡ records_of m.next + length n.gives = records_all r xss m.next in
    let b : records_of m.next ≡ records_of q + length m.gives = records_fed r q xs in
    let c : length (m.gives ++ n.gives) ≡ length m.gives + length n.gives = length-append m.gives n.gives in
    omega arith

roomy_lent : (n r : ℕ) (xss : List (List ℕ)) → n ≤ r → Roomy n (lent r xss)
roomy_lent n r [] h = tt
roomy_lent n r (xs ∷ xss) h = (h, roomy_lent n r xss h)

-- the end of such calls, in numbers and in the list
end_is : (o : List ℕ) (q : Status) (ts : List Tok) → Made q → (end_of (numbered q) (sets o 0 (flat ts)) ≡ reported q (done_of (room_of o) q)) × (end_in (numbered q) (sets o 0 (flat ts)) ≡ written q (done_of (room_of o) q) (sets o 0 (flat ts)))
unfolding end_of end_in
end_is o q ts m =
    let p : opened (numbered q) ≡ q = passes q m in
    (rw (p, room_same ts o) refl, rw (p, room_same ts o) refl)

module _ (xss : List (List ℕ)) (o : List ℕ) where
  abbrev r : ℕ
  r = room_of o

  abbrev s : List ℕ
  s = joined (lent r xss)

  abbrev kept : Kept
  kept = calls_of (record { feed = zeros; list = o }) xss

  abbrev list : List Tok
  list = (tokens_of s).list

  -- the packets of a good text, in numbers, with one list that has room: at the end nothing is refused, all records stand at the list's front
  -- and nothing else was written, and the stream is fresh
  pub good_calls : Fine s → length list ≤ r → (end_of kept.feed kept.list ≡ record { number = 0; place = 0; records = length list; next = zeros }) × (end_in kept.feed kept.list ≡ fronted (flat list) o)
  unfolding reported written
  good_calls g l =
      let q : Status = (fed_by (lent r xss)).next in
      let ts : List Tok = (fed_by (lent r xss)).gives in
      let d : Moved = ended r (lent r xss) in
      let h = good_list (lent r xss) r g (roomy_lent (length list) r xss l) l in
      let e = end_is o q ts (made_all r xss (Open begin) fitting_begin) in
      let n : records_of q ≡ length ts = records_all r xss (Open begin) ∙ omega arith in
      let m : records_of q + length d.gives ≡ length list = ap (λ (k : ℕ). k + length d.gives) n ∙ sym (length-append ts d.gives) ∙ ap length h.list in
      rw (in_numbers o xss) (
        e.0 ∙ (λ i. record { number = number_of (h.fresh i); place = place_of (h.fresh i); records = unless_held (h.fresh i) (m i); next = numbered (h.fresh i) }),
        e.1 ∙ ap (λ (k : ℕ). sets (sets o 0 (flat ts)) (k * 3) (flat d.gives)) n ∙ behind ts d.gives o ∙ ap (λ (us : List Tok). sets o 0 (flat us)) h.list ∙ front_is list o l,
      )

  -- the end's answer is that of the packets and the end
  answer_is : end_of kept.feed kept.list ≡ reported (fed_by (lent r xss)).next (ended r (lent r xss))
  answer_is = rw (in_numbers o xss) (end_is o (fed_by (lent r xss)).next (fed_by (lent r xss)).gives (made_all r xss (Open begin) fitting_begin)).0

  -- 3 in numbers: given exactly if the whole text has it, at the same place
  pub same_calls : length s ≤ max_text → first_bad s ≡ None → ((end_of kept.feed kept.list).number ≡ 14 → ⊥)
      → (p : ℕ) → (((end_of kept.feed kept.list).number ≡ 3) × ((end_of kept.feed kept.list).place ≡ p)) ↔ ((tokens_of s).fault ≡ Some p)
  unfolding reported
  same_calls l u h p =
      let n : (end_of kept.feed kept.list).number ≡ number_of (ended r (lent r xss)).next = ap (λ (c : Call). c.number) answer_is in
      let q : (end_of kept.feed kept.list).place ≡ place_of (ended r (lent r xss)).next = ap (λ (c : Call). c.place) answer_is in
      let g = same_3 (lent r xss) r l u (λ e. h (n ∙ e)) p in
      (λ w. g.0 (sym n ∙ w.0, sym q ∙ w.1), λ w. (n ∙ (g.1 w).0, q ∙ (g.1 w).1))

-- a stream that holds a refusal keeps it through all packets, and so does the list
pub stays : (f : Feed) (call : Call) → Repeats f call → (xss : List (List ℕ)) (o : List ℕ) → calls_of (record { feed = f; list = o }) xss ≡ record { feed = f; list = o }
unfolding calls_of
stays f call h [] o = refl
stays f call h (xs ∷ xss) o =
    let e : (feed_of f xs o).next ≡ f = ap (λ (c : Call). c.next) (h.feeds xs o) ∙ h.same in
    ap (λ (k : Kept). calls_of k xss) (λ i. record { feed = e i; list = h.lists xs o i }) ∙ stays f call h xss o
