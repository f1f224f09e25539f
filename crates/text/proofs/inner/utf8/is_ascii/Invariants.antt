-- The invariant: x is at least each byte so far, and below 128 if all bytes are. So at the end it is below 128 exactly where all are.
use Prim.Native.Nat.{ℕ, ◌≤◌, ◌<◌}
use lib.ListN.{get_or}
use Rattle.text.proofs.Ascii.{Low}
use Rattle.text.proofs.inner.utf8.is_ascii.Given as goal

abbrev pub invariant-loop-b : goal.invariant-loop-b
invariant-loop-b l = ((k : ℕ) → k < l.b-index → get_or l.s k 0 ≤ l.x) × (Low l.s → l.x < 128)
