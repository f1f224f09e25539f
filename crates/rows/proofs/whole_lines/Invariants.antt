-- Behind the place there is no LF.
use Rattle.rows.specs.Block.{whole_size}
use lib.ListN.{drop}
use mathlib.Core.Path.{◌≡◌}
use Rattle.rows.proofs.whole_lines.Given as goal

abbrev pub invariant-loop-i : goal.invariant-loop-i
invariant-loop-i l = whole_size (drop l.i l.text) ≡ 0
