-- Invariant of both loops: the line at i is the first one and what was counted. A window adds what `feeds_in` says, a byte what `line_more_in` does. No
-- line is past the text's length and one (`line_most`), so that the sums fit.
use Prim.Native.Nat.{◌+◌, ◌-◌, ◌≤◌}
use mathlib.Core.Path.{◌≡◌}
use Rattle.reader.specs.Lines.{line_in}
use Rattle.reader.proofs.inner.lines.feeds_between.Given as goal

abbrev pub invariant-loop-i : goal.invariant-loop-i
invariant-loop-i l = (l.i ≤ l.to) × (line_in l.text l.from + l.n ≡ line_in l.text l.i)

abbrev pub decreases-loop-i : goal.decreases-loop-i
decreases-loop-i l = l.to - l.i

abbrev pub invariant-loop-b : goal.invariant-loop-b
invariant-loop-b l = line_in l.text l.from + l.n ≡ line_in l.text (l.i + l.b-index)
