-- What a visit to a node gives. Each visit takes one of the steps that are left, and one of the nested visits that are left.
use Rattle.std.specs.Prelude.{Bool, true, false, ℕ, zero, suc, ◌+◌, List, [], ◌∷◌, eqb, leb, drop, Option, Some, None}
use Rattle.table.specs.Characters.{choose, and, within, char_of}
use Rattle.table.specs.Record.{part}
use Rattle.links.specs.declared.Act.{Act}
use Rattle.links.specs.declared.Act.TheVariants.{Text, Range, Any, Call, PosPred, NegPred, Seq, Choice, Repeat, Unfit}
use Rattle.matcher.specs.declared.Outcome.{Outcome}
use Rattle.matcher.specs.declared.Outcome.TheVariants.{Matched, Missed, Over}

-- go on after a match, with its end and the steps left, or after a miss, with the steps left
unfoldable pub outcome_by : Outcome → (ℕ → ℕ → Outcome) → (ℕ → Outcome) → Outcome
outcome_by (Matched e l) f g = f e l
outcome_by (Missed l) f g = g l
outcome_by Over f g = Over

-- a match up to a place, if the test passed
unfoldable pub took : Bool → ℕ → ℕ → Outcome
took true e l = Matched e l
took false e l = Missed l

-- A to Z as a to z, every other byte as it is
unfoldable pub lower : ℕ → ℕ
lower x = choose (within 65 90 x) (λ u. x + 32) (λ u. x)

-- the same byte, or the same but for ASCII case
abbrev pub alike : Bool → ℕ → ℕ → Bool
alike false x y = eqb x y
alike true x y = eqb (lower x) (lower y)

-- the second list begins with the first
unfoldable pub starts : Bool → List ℕ → List ℕ → Bool
starts f [] ys = true
starts f (x ∷ xs) [] = false
starts f (x ∷ xs) (y ∷ ys) = and (alike f x y) (starts f xs ys)

-- one character for which a test passes
unfoldable pub one : (ℕ → Bool) → Option (ℕ × ℕ) → ℕ → ℕ → Outcome
one f (Some (c, n)) at k = took (f c) (at + n) k
one f None at k = Missed k

abbrev pub any_character : ℕ → Bool
any_character c = true

-- no further match is asked for
unfoldable pub full : Option ℕ → ℕ → Bool
full (Some m) n = leb m n
full None n = false

-- `go k i at` is a visit to node i at a place, with k steps left.
-- After n matches of c that end at a place. Each round takes a step, so there are no more of them than steps: f falls by one a round, and is above k
unfoldable pub rounds : (ℕ → ℕ → ℕ → Outcome) → ℕ → ℕ → Option ℕ → ℕ → ℕ → ℕ → ℕ → Outcome
rounds go c lo hi zero n at k = Over
rounds go c lo hi (suc f) n at k =
    choose (full hi n) (λ u. Matched at k)
    (λ u. outcome_by (go k c at) (λ e l. rounds go c lo hi f (suc n) e l) (λ l. took (leb lo n) at l))

unfoldable pub repeat : (ℕ → ℕ → ℕ → Outcome) → ℕ → ℕ → Option ℕ → ℕ → ℕ → ℕ → Outcome
repeat go c lo hi n at k = rounds go c lo hi (suc k) n at k

-- what is done at a node, once its own step is taken
unfoldable pub enter : List ℕ → List ℕ → Act → (ℕ → ℕ → ℕ → Outcome) → ℕ → ℕ → Outcome
enter st line (Text f p n) go k at = took (starts f (part st p n) (drop at line)) (at + n) k
enter st line (Range a b) go k at = one (within a b) (char_of (drop at line)) at k
enter st line Any go k at = one any_character (char_of (drop at line)) at k
enter st line (Call r) go k at = go k r at
enter st line (PosPred c) go k at = outcome_by (go k c at) (λ e l. Matched at l) (λ l. Missed l)
enter st line (NegPred c) go k at = outcome_by (go k c at) (λ e l. Missed l) (λ l. Matched at l)
enter st line (Seq a b) go k at = outcome_by (go k a at) (λ e l. go l b e) (λ l. Missed l)
enter st line (Choice a b) go k at = outcome_by (go k a at) (λ e l. Matched e l) (λ l. go l b at)
enter st line (Repeat c lo hi) go k at = repeat go c lo hi 0 at k
enter st line Unfit go k at = Missed k

-- with d nested visits and k steps left, node i of a program at a place
unfoldable pub visit : (ℕ → Act) → List ℕ → List ℕ → ℕ → ℕ → ℕ → ℕ → Outcome
visit prog st line zero k i at = Over
visit prog st line (suc d) zero i at = Over
visit prog st line (suc d) (suc k) i at = enter st line (prog i) (visit prog st line d) k at
