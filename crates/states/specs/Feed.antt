-- Calls in numbers: what a packet or the end answers, and what the lent list holds afterwards.
use Rattle.std.specs.Prelude.{ℕ, ◌+◌, ◌-◌, ◌*◌, Bool, List, [], ◌∷◌, leb, eqb, length}
use Rattle.std.proofs.lemmas.List.Edits.{sets}
use Rattle.text.specs.Booleans.{choose, and, among}
use Rattle.text.specs.Limits.{max_text}
use Rattle.token.specs.Table.{token_size, flat, room_of}
use Rattle.states.specs.declared.State.{State}
use Rattle.states.specs.declared.Stand.{Stand}
use Rattle.states.specs.declared.Status.{Status}
use Rattle.states.specs.declared.Status.TheVariants.{Open, Held}
use Rattle.states.specs.declared.Feed.{Feed}
use Rattle.states.specs.declared.Call.{Call}
use Rattle.states.specs.Keep.{parts_of, state_of, utf_of, utf_code, utf_start, waiting, state_fits, utf_fits}
use Rattle.states.specs.Steps.{begin, Moved, fed_of, done_of}

-- ---- a stream in numbers

abbrev pub numbered : Status → Feed
numbered (Open c) =
    record {
      state = (parts_of c.conf.state).code;
      start = c.conf.start;
      seen = c.seen;
      backslash = (parts_of c.conf.state).backslash;
      kind = (parts_of c.conf.state).kind;
      depth = (parts_of c.conf.state).depth;
      utf = utf_code c.utf;
      sequence = utf_start c.utf;
      count = c.count;
      number = 0;
    }
numbered (Held number place n) =
    record {
      state = 0;
      start = place;
      seen = 0;
      backslash = 0;
      kind = 0;
      depth = 0;
      utf = 0;
      sequence = 0;
      count = n;
      number = number;
    }

-- where a stream with such numbers stands, by its state
abbrev pub stand_by : Feed → State → Stand
stand_by f q =
    record {
      conf = record { state = q; start = f.start; size = f.seen - f.start - waiting q };
      utf = utf_of f.utf f.sequence;
      seen = f.seen;
      count = f.count;
    }

unfoldable pub stand_of : Feed → Stand
stand_of f = stand_by f (state_of f.state f.kind f.backslash f.depth)

-- the numbers of a stream fit one another
unfoldable pub fits : Stand → Bool
fits c =
    and (leb c.seen max_text)
    (and (leb c.conf.start c.seen)
    (and (leb c.count c.conf.start) (and (state_fits c.conf.state c.conf.size) (utf_fits c.utf c.seen))))

-- the numbers of refusals
abbrev pub refusals : List ℕ
refusals = 1 ∷ 2 ∷ 3 ∷ 14 ∷ []

-- numbers from anywhere: those that don't fit one another are taken for a fresh stream
unfoldable pub opened : Feed → Status
opened f =
    choose (eqb f.number 0) (λ u. choose (fits (stand_of f)) (λ u. Open (stand_of f)) (λ u. Open begin))
    (λ u. choose (among refusals f.number) (λ u. Held f.number f.start f.count) (λ u. Open begin))

-- ---- calls

-- the records in the list
abbrev pub records_of : Status → ℕ
records_of (Open c) = c.count
records_of (Held number place n) = n

-- a refusal's number, and its place
abbrev pub number_of : Status → ℕ
number_of (Open c) = 0
number_of (Held number place n) = number

abbrev pub place_of : Status → ℕ
place_of (Open c) = 0
place_of (Held number place n) = place

-- a refusal reports no records
abbrev pub unless_held : Status → ℕ → ℕ
unless_held (Open c) n = n
unless_held (Held number place k) n = 0

-- what a call answers that found a stream q
unfoldable pub reported : Status → Moved → Call
reported q m =
    record {
      number = number_of m.next;
      place = place_of m.next;
      records = unless_held m.next (records_of q + length m.gives);
      next = numbered m.next;
    }

-- and the list: the tokens given are written behind the records that stand there
unfoldable pub written : Status → Moved → List ℕ → List ℕ
written q m o = sets o (records_of q * token_size) (flat m.gives)

-- a packet xs, with the list o lent
unfoldable pub feed_of : Feed → List ℕ → List ℕ → Call
feed_of f xs o = reported (opened f) (fed_of (room_of o) (opened f) xs)

unfoldable pub feed_in : Feed → List ℕ → List ℕ → List ℕ
feed_in f xs o = written (opened f) (fed_of (room_of o) (opened f) xs) o

-- the end
unfoldable pub end_of : Feed → List ℕ → Call
end_of f o = reported (opened f) (done_of (room_of o) (opened f))

unfoldable pub end_in : Feed → List ℕ → List ℕ
end_in f o = written (opened f) (done_of (room_of o) (opened f)) o
