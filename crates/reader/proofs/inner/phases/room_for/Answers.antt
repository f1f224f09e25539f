use mathlib.Core.Path.{◌∙◌}
use Rattle.reader.proofs.Answers.{no_rules_room, no_nodes_room, no_store_room, room}
use Rattle.reader.proofs.inner.phases.room_for.Goals as goal

pub returns-then-room-taken : goal.returns-then-room-taken
returns-then-room-taken c = c.refused.ensures ∙ no_rules_room _ _ _ _ _ _ c.if-room-taken.true

pub returns-then-room-taken-2 : goal.returns-then-room-taken-2
returns-then-room-taken-2 c = c.refused-then-room-taken-2.ensures ∙ no_nodes_room _ _ _ _ _ _ c.if-room-taken.false c.if-room-taken-2.true

pub returns-then-room-taken-3 : goal.returns-then-room-taken-3
returns-then-room-taken-3 c = c.refused-then-room-taken-3.ensures ∙ no_store_room _ _ _ _ _ _ c.if-room-taken.false c.if-room-taken-2.false c.if-room-taken-3.true

pub returns : goal.returns
returns c = room _ _ _ _ _ _ c.if-room-taken.false c.if-room-taken-2.false c.if-room-taken-3.false
