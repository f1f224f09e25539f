-- Invariant: the records before i have their lines, the others are as they were (`Numbering`), and the last leaf's line is known.
use mathlib.Core.Path.{◌≡◌}
use Rattle.reader.specs.Lines.{line_in}
use Rattle.reader.proofs.Lines.{Numbering}
use Rattle.reader.proofs.inner.lines.number_lines.Given as goal

abbrev pub invariant-loop-i : goal.invariant-loop-i
invariant-loop-i l = Numbering (line_in l.text) l.initial.nodes l.nodes l.i × (l.last.line ≡ line_in l.text l.last.at)
