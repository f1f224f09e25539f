-- As many fields are passed as there were turns.
use mathlib.Core.Path.{◌≡◌}
use Rattle.vectors.specs.Vectors.{past_fields}
use Rattle.vectors.proofs.word.Given as goal

abbrev pub invariant-loop-turn : goal.invariant-loop-turn
invariant-loop-turn l = l.at ≡ past_fields l.s l._turn
