-- From token to token: each is the law of one token, so what the stash holds and the rest of the packet make up the whole.
use Rattle.std.specs.Prelude.{None}
use Rattle.stream.specs.Quick.{start_at, Leapt}
use Rattle.states.specs.Utf.{broken_at, utf_feed}
use Rattle.states.specs.declared.Utf.TheVariants.{Whole}
use Rattle.text.specs.Limits.{max_text}
use lib.ListN.{length, drop}
use mathlib.Core.Path.{◌≡◌}
use Prim.Native.Nat.{◌+◌, ◌-◌, ◌≤◌}
use Rattle.stream.proofs.passes.quick.leap.Given as goal

abbrev pub invariant-loop-n : goal.invariant-loop-n
invariant-loop-n l = (length l.stash ≡ length l.initial.stash) × (l.n + l.initial.count ≡ l.count + l.m) × (l.seen + (length l.packet - l.at) ≤ max_text) × (broken_at (utf_feed Whole l.seen (drop l.at l.packet)) ≡ None) × Leapt l.room (start_at l.initial.seen l.initial.count) l.i l.m l.packet l.initial.stash l.stash (start_at l.seen l.count) l.at
