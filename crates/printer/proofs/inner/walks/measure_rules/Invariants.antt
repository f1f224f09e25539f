-- What the rules from k on leave of what is left is what all rules leave of the room. Behind the last there is no text to spend, and of
-- nothing nothing is left.
use Rattle.printer.proofs.Rules.{rest}
use Rattle.printer.specs.Answers.{table_text}
use Rattle.text.specs.Splice.{spent}
use mathlib.Core.Path.{◌≡◌}
use Rattle.printer.proofs.inner.walks.measure_rules.Given as goal

abbrev pub invariant-loop-k : goal.invariant-loop-k
invariant-loop-k l = spent l.left (rest l.style l.nodes l.rules l.store l.k) ≡ spent l.room (table_text l.style l.nodes l.rules l.store)
