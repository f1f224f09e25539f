-- Invariant: the bytes of the window that were looked at are above CR if `plain` says so, and if it doesn't, not all of the window are (`Looked`).
use Rattle.token.proofs.Runs.{Looked}
use Rattle.token.proofs.inner.runs.is_plain.Given as goal

abbrev pub invariant-loop-b : goal.invariant-loop-b
invariant-loop-b l = Looked l.s l.at l.b-index l.plain
