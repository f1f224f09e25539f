-- The numbers of what the matcher answers: 30 to 34 are its refusals.
use Rattle.std.specs.Prelude.{ℕ, Result, Ok, Err}
use Rattle.replies.specs.declared.Answer.{Answer}
use Rattle.replies.specs.declared.Row.{Row}
use Rattle.replies.specs.declared.RunError.{RunError}
use Rattle.replies.specs.declared.Tally.{Tally}
use Rattle.replies.specs.declared.FindError.{FindError}
use Rattle.replies.specs.declared.Finding.{Finding}

-- an answer's numbers: the number and place of a refusal, 1 if the line matched, the length and the steps
unfoldable pub numbered : Answer → Row
numbered (Answer.Matched e n) = record { number = 0; place = 0; matched = 1; length = e; steps = n }
numbered (Answer.NoMatch n) = record { number = 0; place = 0; matched = 0; length = 0; steps = n }
numbered Answer.FalseTables = record { number = 30; place = 0; matched = 0; length = 0; steps = 0 }
numbered (Answer.Unfit i) = record { number = 31; place = i; matched = 0; length = 0; steps = 0 }
numbered Answer.NoRule = record { number = 32; place = 0; matched = 0; length = 0; steps = 0 }
numbered (Answer.NotUtf8 i) = record { number = 33; place = i; matched = 0; length = 0; steps = 0 }
numbered Answer.Over = record { number = 34; place = 0; matched = 0; length = 0; steps = 0 }

-- a refused call by the number and place that its refusal has as a line's
abbrev pub refused_as : Row → Tally
refused_as r = record { number = r.number; place = r.place; lines = 0; next = 0 }

-- the numbers of a call over lines: the number and place of a refusal, the lines that were run, the place of the next one
unfoldable pub tallied : Result (ℕ × ℕ) RunError → Tally
tallied (Ok (k, p)) = record { number = 0; place = 0; lines = k; next = p }
tallied (Err RunError.FalseTables) = refused_as (numbered Answer.FalseTables)
tallied (Err (RunError.Unfit i)) = refused_as (numbered (Answer.Unfit i))
tallied (Err RunError.NoRule) = refused_as (numbered Answer.NoRule)

-- a refused search by the number and place that its refusal has as a line's
abbrev pub missed_as : Row → Finding
missed_as r = record { number = r.number; place = r.place; rule = 0 }

-- the numbers of a search: the number and place of a refusal, the index of the rule
unfoldable pub finding : Result ℕ FindError → Finding
finding (Ok k) = record { number = 0; place = 0; rule = k }
finding (Err FindError.FalseTables) = missed_as (numbered Answer.FalseTables)
finding (Err FindError.NoRule) = missed_as (numbered Answer.NoRule)
