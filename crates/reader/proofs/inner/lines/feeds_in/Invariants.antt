-- Invariant: the line at the byte of this turn is the first one and what was counted. Each byte adds 1 if it is LF (`line_more_in`), so no more
-- are counted than were seen.
use Prim.Native.Nat.{◌+◌, ◌≤◌}
use mathlib.Core.Path.{◌≡◌}
use Rattle.reader.specs.Lines.{line_in}
use Rattle.reader.proofs.inner.lines.feeds_in.Given as goal

abbrev pub invariant-loop-b : goal.invariant-loop-b
invariant-loop-b l = (l.n ≤ l.b-index) × (line_in l.text l.at + l.n ≡ line_in l.text (l.at + l.b-index))
