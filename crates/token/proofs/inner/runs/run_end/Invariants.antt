-- Invariant: i and the bytes that pass from i on have the sum that `at` and those from `at` on have.
use Rattle.std.proofs.Common.{◌≡◌, ℕ, Bool, List, ◌+◌, ◌<◌, length, drop}
use Rattle.token.specs.Blanks.{run}
use Rattle.token.proofs.inner.runs.run_end.Given as goal

abbrev pub invariant-loop-i : goal.invariant-loop-i
invariant-loop-i g l =
    (p : List ℕ → Bool) → ((i : ℕ) (r : Bool) → i < length l.s → goal.F-post g l.inside i r → r ≡ p (drop i l.s)) → l.i + run p (drop l.i l.s) ≡ l.at + run p (drop l.at l.s)
