-- The level is `level_of` of the number passed. What `read` promises at the level holds at that one too: `numbers_at` for the answer,
-- `left_at` for what the three buffers are left with.
use Rattle.exports.proofs.Levels.{numbers_at, left_at}
use mathlib.Core.Path.{◌∙◌}
use Rattle.exports.proofs.read_by.Goals as goal

pub returns : goal.returns
returns c = record {
  answered = c.read_numbers.ensures ∙ numbers_at _ _ _ c.level_of-level.ensures _ _ _ _ _ c.read-reading.ensures.report;
  left = left_at _ _ _ c.level_of-level.ensures _ _ _ _ _ c.read-reading.ensures.answer (record { nodes = c.read-reading.ensures.nodes; rules = c.read-reading.ensures.rules; store = c.read-reading.ensures.store });
}
