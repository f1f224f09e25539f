-- The answers: refusals in their order, then what a run gives. Numbers 30 to 34.
use Rattle.std.specs.Prelude.{List, ℕ, ◌-◌, Option, Some, None, Result, Ok, Err}
use Rattle.table.specs.Characters.{first_bad}
use Rattle.table.specs.Record.{root_at}
use Rattle.links.specs.declared.Act.{Act}
use Rattle.matcher.specs.declared.Outcome.{Outcome}
use Rattle.replies.specs.declared.RunError.{RunError}
use Rattle.replies.specs.declared.Answer.{Answer}
use Rattle.replies.specs.declared.Answer.TheVariants.{Matched, NoMatch, FalseTables, Unfit, NoRule, NotUtf8, Over}
use Rattle.links.specs.Program.{program}
use Rattle.links.specs.Ready.{ready_of}
use Rattle.matcher.specs.Match.{visit}

-- the 1,025th nested visit is refused
abbrev pub max_visits : ℕ
max_visits = 1024

-- the steps that were used of k
unfoldable pub reply : ℕ → Outcome → Answer
reply k (Outcome.Matched e l) = Matched e (k - l)
reply k (Outcome.Missed l) = NoMatch (k - l)
reply k Outcome.Over = Over

-- 33 at the bad sequence
abbrev pub line_by : Option ℕ → (Unit {0} → Answer) → Answer
line_by (Some i) f = NotUtf8 i
line_by None f = f tt

-- one line by a program, from a root: 33, then the run
unfoldable pub line_of : (ℕ → Act) → List ℕ → ℕ → ℕ → List ℕ → Answer
line_of prog st root allowance line =
    line_by (first_bad line) (λ u. reply allowance (visit prog st line max_visits allowance root 0))

abbrev pub answer_by : Result (Unit {0}) RunError → (Unit {0} → Answer) → Answer
answer_by (Ok _) f = f tt
answer_by (Err RunError.FalseTables) f = FalseTables
answer_by (Err (RunError.Unfit i)) f = Unfit i
answer_by (Err RunError.NoRule) f = NoRule

-- the answer to a call, for all tables, lines and allowances
unfoldable pub match_of : List ℕ → List ℕ → List ℕ → ℕ → List ℕ → ℕ → Answer
match_of ns rs st start line allowance =
    answer_by (ready_of ns rs st start) (λ u. line_of (program ns rs st) st (root_at rs start) allowance line)
