-- What the program for camera lines writes of a block of them.
use Rattle.std.specs.Prelude.{ℕ, zero, suc, ◌+◌, ◌≤◌, List, [], ◌∷◌, ◌++◌, leb, eqb, length, take, Result, Ok, Err}
use Rattle.text.specs.Booleans.{choose}
use Rattle.text.specs.Splice.{fronted}
use Rattle.table.specs.Record.{root_at}
use Rattle.replies.specs.declared.Answer.{Answer}
use Rattle.replies.specs.declared.RunError.{RunError}
use Rattle.replies.specs.declared.Row.{Row}
use Rattle.links.specs.Program.{program}
use Rattle.matcher.specs.Answers.{line_of}
use Rattle.replies.specs.Replies.{numbered}
use Rattle.links.specs.Ready.{ready_of}
use Rattle.matcher.specs.Lines.{lines, past}
use Rattle.rows.specs.declared.Block.{Block}
use Rattle.rows.specs.declared.Block.TheVariants.{Lines, Refused, NoRoom}
use Rattle.rows.specs.Rows.{row_line, row_refused}

-- the answers to lines, a line for each
unfoldable pub answer_lines : (List ℕ → Answer) → List (List ℕ) → List ℕ
answer_lines f [] = []
answer_lines f (l ∷ ls) = row_line (numbered (f l)) ++ answer_lines f ls

-- how many of them are refusals
unfoldable pub refused_lines : (List ℕ → Answer) → List (List ℕ) → ℕ
refused_lines f [] = 0
refused_lines f (l ∷ ls) = row_refused (numbered (f l)) + refused_lines f ls

-- no more lines are run at once
abbrev pub most_lines : ℕ
most_lines = 1024

-- the bytes that their answers have at most
abbrev pub block_room : ℕ
block_room = 54272

-- the bytes of the answers, the place of the next line, and the refused lines
unfoldable pub ran_block : (List ℕ → Answer) → List ℕ → Block
ran_block f t = Lines (length (answer_lines f (take most_lines (lines t)))) (past most_lines t) (refused_lines f (take most_lines (lines t)))

-- a call's refusal by its numbers
unfoldable pub refused_block : Row → Block
refused_block r = Refused r.number r.place

abbrev pub block_by : Result (Unit {0}) RunError → (Unit {0} → Block) → Block
block_by (Ok _) f = f tt
block_by (Err RunError.FalseTables) f = refused_block (numbered Answer.FalseTables)
block_by (Err (RunError.Unfit i)) f = refused_block (numbered (Answer.Unfit i))
block_by (Err RunError.NoRule) f = refused_block (numbered Answer.NoRule)

-- the answer to a block, for an output of m bytes
unfoldable pub block_of : List ℕ → List ℕ → List ℕ → ℕ → List ℕ → ℕ → ℕ → Block
block_of ns rs st start text allowance m =
    choose (leb block_room m)
    (λ u. block_by (ready_of ns rs st start) (λ u. ran_block (line_of (program ns rs st) st (root_at rs start) allowance) text)) (λ u. NoRoom)

-- what it leaves in the output: the answers at its front
abbrev pub left_in : Result (Unit {0}) RunError → (Unit {0} → List ℕ) → List ℕ → List ℕ
left_in (Ok _) f o = f tt
left_in (Err RunError.FalseTables) f o = o
left_in (Err (RunError.Unfit i)) f o = o
left_in (Err RunError.NoRule) f o = o

unfoldable pub block_in : List ℕ → List ℕ → List ℕ → ℕ → List ℕ → ℕ → List ℕ → List ℕ
block_in ns rs st start text allowance o =
    choose (leb block_room (length o))
    (λ u. left_in (ready_of ns rs st start)
    (λ u. fronted (answer_lines (line_of (program ns rs st) st (root_at rs start) allowance) (take most_lines (lines text))) o) o)
    (λ u. o)

-- the answers lie in an output of m bytes, and the place of the next line in a text of n
abbrev pub Inside : Block → ℕ → ℕ → Type 0
Inside (Lines size next refused) m n = (size ≤ m) × (next ≤ n)
Inside (Refused number place) m n = Unit {0}
Inside NoRoom m n = Unit {0}

-- ---- whole lines

abbrev whole_on : ℕ → ℕ → ℕ
whole_on zero x = choose (eqb x 10) (λ u. 1) (λ u. 0)
whole_on (suc k) x = suc (suc k)

-- the bytes up to the last LF, that one too
unfoldable pub whole_size : List ℕ → ℕ
whole_size [] = 0
whole_size (x ∷ xs) = whole_on (whole_size xs) x
