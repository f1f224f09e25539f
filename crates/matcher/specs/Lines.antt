-- The lines of a text, and an answer for each.
use Rattle.std.specs.Prelude.{List, [], ◌∷◌, ◌++◌, ℕ, zero, suc, ◌/◌, eqb, length, take, Result, Ok, Err}
use Rattle.table.specs.Characters.{choose, and, or, next_is, fronted}
use Rattle.table.specs.Record.{root_at}
use Rattle.replies.specs.declared.Answer.{Answer}
use Rattle.replies.specs.declared.Row.{Row}
use Rattle.replies.specs.declared.RunError.{RunError}
use Rattle.links.specs.Program.{program}
use Rattle.matcher.specs.Answers.{line_of}
use Rattle.replies.specs.Replies.{numbered}
use Rattle.links.specs.Ready.{ready_of}

-- a byte before the first line
abbrev pub onto : ℕ → List (List ℕ) → List (List ℕ)
onto x [] = (x ∷ []) ∷ []
onto x (l ∷ ls) = (x ∷ l) ∷ ls

-- LF ends a line, and a CR right before it belongs to that end; the last line may lack its LF
unfoldable pub lines : List ℕ → List (List ℕ)
lines [] = []
lines (x ∷ xs) =
    choose (eqb x 10) (λ u. [] ∷ lines xs) (λ u. choose (and (eqb x 13) (next_is 10 xs)) (λ u. lines xs) (λ u. onto x (lines xs)))

-- the bytes of the first m lines with their ends
unfoldable pub past : ℕ → List ℕ → ℕ
past m [] = 0
past zero (x ∷ xs) = 0
past (suc m) (x ∷ xs) = suc (past (choose (eqb x 10) (λ u. m) (λ u. suc m)) xs)

-- the numbers in a line's record, in their order
abbrev pub row_size : ℕ
row_size = 5

abbrev pub fields : Row → List ℕ
fields r = r.number ∷ r.place ∷ r.matched ∷ r.length ∷ r.steps ∷ []

-- the records of lines
unfoldable pub rows : (List ℕ → Answer) → List (List ℕ) → List ℕ
rows f [] = []
rows f (l ∷ ls) = fields (numbered (f l)) ++ rows f ls

abbrev pub lines_by : Result (Unit {0}) RunError → (Unit {0} → Result (ℕ × ℕ) RunError) → Result (ℕ × ℕ) RunError
lines_by (Ok _) f = f tt
lines_by (Err e) f = Err e

-- as many lines as there is room for: how many that are, and where the first of the others begins
unfoldable pub ran_over : List ℕ → ℕ → Result (ℕ × ℕ) RunError
ran_over text room = Ok (length (take (room / row_size) (lines text)), past (room / row_size) text)

unfoldable pub lines_of : List ℕ → List ℕ → List ℕ → ℕ → List ℕ → ℕ → Result (ℕ × ℕ) RunError
lines_of ns rs st start text room = lines_by (ready_of ns rs st start) (λ u. ran_over text room)

-- what the lent records hold afterwards: those lines' records in front, the rest as it was
unfoldable pub recorded : (List ℕ → Answer) → List ℕ → List ℕ → List ℕ
recorded f text o = fronted (rows f (take (length o / row_size) (lines text))) o

abbrev pub records_by : Result (Unit {0}) RunError → (Unit {0} → List ℕ) → List ℕ → List ℕ
records_by (Ok _) f o = f tt
records_by (Err e) f o = o

unfoldable pub records_of : List ℕ → List ℕ → List ℕ → ℕ → List ℕ → ℕ → List ℕ → List ℕ
records_of ns rs st start text allowance o =
    records_by (ready_of ns rs st start) (λ u. recorded (line_of (program ns rs st) st (root_at rs start) allowance) text o) o

-- the bytes of the first line, and with its end
unfoldable pub body_size : List ℕ → ℕ
body_size [] = 0
body_size (x ∷ xs) = choose (or (eqb x 10) (and (eqb x 13) (next_is 10 xs))) (λ u. 0) (λ u. suc (body_size xs))

unfoldable pub line_size : List ℕ → ℕ
line_size [] = 0
line_size (x ∷ xs) = choose (eqb x 10) (λ u. 1) (λ u. suc (line_size xs))
