-- What the reader answers, and what it leaves in the lent buffers.
use Rattle.std.specs.Prelude.{ℕ, min, ◌≡◌, List, leb, length, Option, Some, None, Result, Ok, Err}
use Rattle.text.specs.Booleans.{choose}
use Rattle.text.specs.Splice.{fronted}
use Rattle.text.specs.Utf8.{first_bad}
use Rattle.text.specs.Limits.{max_nodes, max_rules, max_text}
use Rattle.token.specs.Lists.{tokens_of}
use Rattle.table.specs.Tree.{Span, Rule, counts, rules_stored}
use Rattle.table.specs.Record.{nodes_in, rules_in}
use Rattle.table.specs.Flat.{nodes_of, records_of}
use Rattle.structure.specs.declared.Edition.{Edition}
use Rattle.structure.specs.declared.Level.{Level}
use Rattle.structure.specs.declared.Refusal.{Refusal}
use Rattle.structure.specs.declared.Why.{Why}
use Rattle.structure.specs.declared.Why.TheVariants.{TooLong, NotUtf8, NoToken, NotAllowed, TooDeep, Over, Zero, PeekRange, NotScalar, NotPlain, Above, RulesRoom, NodesRoom, StoreRoom}
use Rattle.structure.specs.Refusals.{because}
use Rattle.structure.specs.Values.{faults}
use Rattle.structure.specs.Structure.{Ruled, rules, unruled, grammar}
use Rattle.build.specs.Rules.{rules_read}
use Rattle.reader.specs.Lines.{line_in}

-- a text that is refused
abbrev pub refused_by : Why → ℕ → Result (ℕ × ℕ × ℕ) Refusal
refused_by w p = Err (because w p)

-- room is the lower of what is lent and the limit; lent records are whole ones
abbrev pub room_for_nodes : List ℕ → ℕ
room_for_nodes ns = min (nodes_in ns) max_nodes

abbrev pub room_for_rules : List ℕ → ℕ
room_for_rules rs = min (rules_in rs) max_rules

-- k rules of c nodes and z store bytes: 12, 10, 11; else the counts used
unfoldable pub room_by : ℕ → ℕ → ℕ → ℕ → ℕ → ℕ → Result (ℕ × ℕ × ℕ) Refusal
room_by k c z n r b =
    choose (leb k r)
    (λ u. choose (leb c n) (λ u. choose (leb z b) (λ u. Ok (c, k, z)) (λ u. refused_by StoreRoom 0)) (λ u. refused_by NodesRoom 0))
    (λ u. refused_by RulesRoom 0)

abbrev pub room_for : List (Rule Span) → ℕ → ℕ → ℕ → Result (ℕ × ℕ × ℕ) Refusal
room_for us n r b = room_by (length us) (counts us) (length (rules_stored us)) n r b

abbrev pub faulty : Option Refusal → (Unit {0} → Result (ℕ × ℕ × ℕ) Refusal) → Result (ℕ × ℕ × ℕ) Refusal
faulty None f = f tt
faulty (Some r) f = Err r

abbrev pub checked_by : Option ℕ → (ℕ → Result (ℕ × ℕ × ℕ) Refusal) → (Unit {0} → Result (ℕ × ℕ × ℕ) Refusal) → Result (ℕ × ℕ × ℕ) Refusal
checked_by (Some p) f g = f p
checked_by None f g = g tt

abbrev pub ruled_by : Ruled → (List (Rule Span) → Result (ℕ × ℕ × ℕ) Refusal) → Result (ℕ × ℕ × ℕ) Refusal
ruled_by (rules us) f = f us
ruled_by (unruled r) f = Err r

-- 4 and 9; 5, 6, 7, 8, 13 and 15; 12, 10, 11
unfoldable pub judged_of : Edition → Level → List ℕ → ℕ → ℕ → ℕ → Result (ℕ × ℕ × ℕ) Refusal
judged_of edition level s n r b = ruled_by (grammar level s) (λ us. faulty (faults edition level s) (λ u. room_for us n r b))

-- 3 before those
unfoldable pub listed_of : Edition → Level → List ℕ → ℕ → ℕ → ℕ → Result (ℕ × ℕ × ℕ) Refusal
listed_of edition level s n r b = checked_by (tokens_of s).fault (refused_by NoToken) (λ u. judged_of edition level s n r b)

-- by a table of m tokens: it has to hold all before the first 3
unfoldable pub attempt_of : ℕ → Edition → Level → List ℕ → ℕ → ℕ → ℕ → Option (Result (ℕ × ℕ × ℕ) Refusal)
attempt_of m edition level s n r b = choose (leb (length (tokens_of s).list) m) (λ u. Some (listed_of edition level s n r b)) (λ u. None)

-- 1 and 2 before those; each phase covers the whole text first
unfoldable pub read_of : Edition → Level → List ℕ → ℕ → ℕ → ℕ → Result (ℕ × ℕ × ℕ) Refusal
read_of edition level s n r b =
    choose (leb (length s) max_text) (λ u. checked_by (first_bad s) (refused_by NotUtf8) (λ u. listed_of edition level s n r b)) (λ u. refused_by TooLong 0)

-- a success changes only the used part, a refusal nothing
unfoldable pub left_in : Result (ℕ × ℕ × ℕ) Refusal → List ℕ → List ℕ → List ℕ
left_in (Ok (n, r, b)) x o = fronted x o
left_in (Err r) x o = o

-- an answer in the paper's numbers: number, place, and the records and bytes used
pub record Numbered : Type 0 where
  pub number : ℕ
  pub place : ℕ
  pub nodes : ℕ
  pub rules : ℕ
  pub store : ℕ

abbrev pub refusal : ℕ → ℕ → Numbered
refusal n p = record { number = n; place = p; nodes = 0; rules = 0; store = 0 }

-- the number of each reason
unfoldable pub number_of : Why → ℕ
number_of TooLong = 1
number_of NotUtf8 = 2
number_of NoToken = 3
number_of NotAllowed = 4
number_of TooDeep = 9
number_of Over = 5
number_of Zero = 6
number_of PeekRange = 7
number_of NotScalar = 8
number_of NotPlain = 13
number_of Above = 15
number_of RulesRoom = 12
number_of NodesRoom = 10
number_of StoreRoom = 11

unfoldable pub numbered : Result (ℕ × ℕ × ℕ) Refusal → Numbered
numbered (Ok (n, r, b)) = record { number = 0; place = 0; nodes = n; rules = r; store = b }
numbered (Err r) = refusal (number_of r.why) r.place

-- what is to be answered, in those numbers
unfoldable pub reported : Edition → Level → List ℕ → ℕ → ℕ → ℕ → Numbered
reported edition level s n r b = numbered (read_of edition level s n r b)

-- the three buffers afterwards, by the answer
pub record Leaves (level : Level) (s : List ℕ) (r : Result (ℕ × ℕ × ℕ) Refusal) (ns rs st ns' rs' st' : List ℕ) : Type 0 where
  pub nodes : ns' ≡ left_in r (nodes_of (line_in s) (rules_read level s)) ns
  pub rules : rs' ≡ left_in r (records_of (rules_read level s)) rs
  pub store : st' ≡ left_in r (rules_stored (rules_read level s)) st

-- a full table leaves all as it was
abbrev pub AttemptLeaves : Level → List ℕ → Option (Result (ℕ × ℕ × ℕ) Refusal) → List ℕ → List ℕ → List ℕ → List ℕ → List ℕ → List ℕ → Type 0
AttemptLeaves level s (Some r) ns rs st ns' rs' st' = Leaves level s r ns rs st ns' rs' st'
AttemptLeaves level s None ns rs st ns' rs' st' = (ns' ≡ ns) × (rs' ≡ rs) × (st' ≡ st)
