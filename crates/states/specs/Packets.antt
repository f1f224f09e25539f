-- Any number of calls, for the theorems: packets one after the other, and what the list has at an index.
use Rattle.std.specs.Prelude.{ℕ, zero, suc, ◌≤◌, ◌<◌, ◌≡◌, true, List, [], ◌∷◌, ◌++◌, ◌⊎◌, length, Some, None}
use Rattle.text.specs.Booleans.{among}
use Rattle.text.specs.Utf8.{first_bad}
use Rattle.text.specs.Limits.{max_text}
use Rattle.token.specs.Lists.{Tok, tok, tokens_of}
use Rattle.states.specs.Free.{Bytes, Free-1, Free-2, Free-3}
use Rattle.states.specs.declared.Status.{Status}
use Rattle.states.specs.declared.Status.TheVariants.{Open, Held}
use Rattle.states.specs.Machine.{feed, fresh}
use Rattle.states.specs.Steps.{Moved, fed_of}
use Rattle.states.specs.declared.Feed.{Feed}
use Rattle.states.specs.Feed.{refusals, feed_of, feed_in}

-- a packet, and how many records the list that is lent with it has room for
pub record Packet : Type 0 where
  pub bytes : List ℕ
  pub room : ℕ

-- the text that came
abbrev pub joined : List Packet → List ℕ
joined [] = []
joined (p ∷ ps) = p.bytes ++ joined ps

-- what all calls give, and the stream after them
unfoldable pub fed_all : Status → List Packet → Moved
fed_all q [] = record { gives = []; next = q }
fed_all q (p ∷ ps) = record { gives = (fed_of p.room q p.bytes).gives ++ (fed_all (fed_of p.room q p.bytes).next ps).gives; next = (fed_all (fed_of p.room q p.bytes).next ps).next }

-- the same list lent with each packet
abbrev pub lent : ℕ → List (List ℕ) → List Packet
lent room [] = []
lent room (xs ∷ xss) = record { bytes = xs; room = room } ∷ lent room xss

-- every list has room for so many records
abbrev pub Roomy : ℕ → List Packet → Type 0
Roomy n [] = Unit {0}
Roomy n (p ∷ ps) = (n ≤ p.room) × Roomy n ps

-- a stream, but for how many records stood in the list when a refusal showed
abbrev pub told : Status → Status
told (Open c) = Open c
told (Held number place n) = Held number place 0

-- the list has this token at this index
abbrev pub At : List Tok → ℕ → Tok → Type 0
At [] i t = ⊥
At (u ∷ us) zero t = u ≡ t
At (u ∷ us) (suc i) t = At us i t

-- ---- the same in numbers

-- what a caller keeps between calls: a stream's numbers, and the list
pub record Kept : Type 0 where
  pub feed : Feed
  pub list : List ℕ

-- packets, each fed with what was kept
unfoldable pub calls_of : Kept → List (List ℕ) → Kept
calls_of k [] = k
calls_of k (xs ∷ xss) = calls_of (record { feed = (feed_of k.feed xs k.list).next; list = feed_in k.feed xs k.list }) xss

-- ---- what shows after a text, and what does not

-- some continuation has no such token at an index
abbrev pub Lacks : List ℕ → ℕ → Tok → Type 0
Lacks s i t = (ys : List ℕ) × Bytes ys × (At (tokens_of (s ++ ys)).list i t → ⊥)

-- none of 1, 2 and 3 that comes before a number shows
pub record Waits (n : ℕ) (s : List ℕ) : Type 0 where
  pub one : 1 < n → Free-1 s
  pub two : 2 < n → Free-2 s
  pub three : 3 < n → Free-3 s

-- 14 at a byte x behind s, where room records have room: every continuation of the byte has a token that starts at p at an index for which
-- there is none, some continuation of s has not, and it is the first: the list is full before it, or was already too short
pub record Full (room : ℕ) (s : List ℕ) (x p : ℕ) : Type 0 where
  pub kind : ℕ
  pub end : ℕ
  pub index : ℕ
  pub known : (ys : List ℕ) → At (tokens_of (s ++ x ∷ ys)).list index (tok kind p end)
  pub unknown : Lacks s index (tok kind p end)
  pub over : room ≤ index
  pub first : (index ≡ room) ⊎ (index ≡ length (feed fresh s).gives)

-- a refusal by number n and place p at a byte x behind s: what it says of every continuation, and no refusal before it in the order shows there
pub record Byte (room : ℕ) (s : List ℕ) (x n p : ℕ) : Type 0 where
  pub refusal : among refusals n ≡ true
  pub shows_1 : n ≡ 1 → (p ≡ 0) × ((ys : List ℕ) → max_text < length (s ++ x ∷ ys))
  pub shows_2 : n ≡ 2 → (ys : List ℕ) → first_bad (s ++ x ∷ ys) ≡ Some p
  pub shows_3 : n ≡ 3 → (ys : List ℕ) → (tokens_of (s ++ x ∷ ys)).fault ≡ Some p
  pub shows_14 : n ≡ 14 → Full room s x p
  pub waits : Waits n (s ++ x ∷ [])

-- a byte of some packets, in its packet
pub record Spot (ps : List Packet) : Type 0 where
  pub before : List Packet
  pub packet : Packet
  pub behind : List Packet
  pub split : ps ≡ before ++ packet ∷ behind
  pub part : List ℕ
  pub byte : ℕ
  pub rest : List ℕ
  pub cut : packet.bytes ≡ part ++ byte ∷ rest

-- the text before it
abbrev pub text_before : {ps : List Packet} → Spot ps → List ℕ
text_before w = joined w.before ++ w.part

-- the byte of some packets at which a refusal shows, before which nothing showed
pub record First (ps : List Packet) (n p : ℕ) : Type 0 where
  pub spot : Spot ps
  pub nothing : Waits 14 (text_before spot)
  pub says : Byte spot.packet.room (text_before spot) spot.byte n p

-- a refusal at the end of a text: what it says of the text, and no refusal before it in the order
pub record Last (room : ℕ) (s : List ℕ) (n p : ℕ) : Type 0 where
  pub refusal : among refusals n ≡ true
  pub not_1 : n ≡ 1 → ⊥
  pub shows_2 : n ≡ 2 → first_bad s ≡ Some p
  pub shows_3 : n ≡ 3 → (tokens_of s).fault ≡ Some p
  pub shows_14 : n ≡ 14 → (kind : ℕ) × (end : ℕ) × (index : ℕ) × At (tokens_of s).list index (tok kind p end) × (room ≤ index)
  pub good_2 : 2 < n → first_bad s ≡ None
  pub good_3 : 3 < n → (tokens_of s).fault ≡ None
