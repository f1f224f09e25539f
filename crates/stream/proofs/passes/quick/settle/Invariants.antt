-- Each byte gives at most two tokens, for which the stash has room; the rest is as if it was fed from where the loop stands.
use Rattle.stream.specs.Quick.{Leapt}
use lib.ListN.{length}
use mathlib.Core.Path.{◌≡◌}
use Prim.Native.Nat.{◌+◌}
use Rattle.stream.proofs.passes.quick.settle.Given as goal

abbrev pub invariant-loop-i : goal.invariant-loop-i
invariant-loop-i l = (length l.stash ≡ length l.initial.stash) × (l.n + l.initial.c.count ≡ l.c.count) × Leapt l.room l.initial.c 0 0 l.packet l.initial.stash l.stash l.c l.i
