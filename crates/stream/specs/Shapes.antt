-- What the code computes, in the words of the table: a byte ends at most two tokens.
use Rattle.std.specs.Prelude.{ℕ, ◌+◌, ◌≤◌, ◌≡◌, Bool, true, false, List, [], ◌++◌, Result, Ok, Err}
use Rattle.text.specs.Limits.{max_text}
use Rattle.token.specs.Lists.{Tok}
use Rattle.states.specs.declared.Stand.{Stand}
use Rattle.states.specs.declared.Utf.{Utf}
use Rattle.stream.specs.declared.Moved.{Moved}
use Rattle.stream.specs.declared.Stop.{Stop}
use Rattle.states.specs.declared.Status.TheVariants.{Open, Held}
use Rattle.states.specs.declared.Call.{Call}
use Rattle.states.specs.Machine.{Out}
use Rattle.states.specs.Keep.{waiting, state_fits, utf_fits}
use Rattle.steps.specs.Shapes.{list_of}
use Rattle.states.specs.Steps.{Step, Goes, Faults, unless, refused_at, over_at, moved_to}
use Rattle.states.specs.Feed.{numbered}

-- what a byte or the end does
abbrev pub stepped_of : Result Moved Stop → Step
stepped_of (Ok m) = Goes (list_of m.before ++ list_of m.here) m.stand
stepped_of (Err s) = Faults s.number s.place

-- a byte that UTF-8's machine took to u and the tokens' machine to o: 3, then 14
abbrev pub taken_by : ℕ → Stand → Utf → Out → Step
taken_by room c u o = unless 3 (refused_at o.next) (λ _. unless 14 (over_at room c.count o.gives) (λ _. Goes o.gives (moved_to c u o)))

-- where a stream stands after a packet
abbrev pub ran_by : Step → Result Stand Stop
ran_by (Goes ts c) = Ok c
ran_by (Faults n p) = Err (record { number = n; place = p })

-- the tokens that are given, and whether the call is good
abbrev pub gives_of : Step → List Tok
gives_of (Goes ts c) = ts
gives_of (Faults n p) = []

abbrev pub is_good : Step → Bool
is_good (Goes ts c) = true
is_good (Faults n p) = false

-- a stream whose numbers fit one another
pub record Coherent (c : Stand) : Type 0 where
  pub short : c.seen ≤ max_text
  pub sum : c.conf.start + (c.conf.size + waiting c.conf.state) ≡ c.seen
  pub count : c.count ≤ c.conf.start
  pub state : state_fits c.conf.state c.conf.size ≡ true
  pub utf : utf_fits c.utf c.seen ≡ true

-- a call that is refused, with so many records in the list, of which it reports none, and one that is good
abbrev pub refusing : ℕ → ℕ → ℕ → Call
refusing number place n = record { number = number; place = place; records = 0; next = numbered (Held number place n) }

abbrev pub standing : Stand → ℕ → Call
standing c n = record { number = 0; place = 0; records = n; next = numbered (Open c) }
