-- A part that doesn't end behind its start is empty and has no bad escape (`bad_none`). Any other is the slice that is searched (`part_is`).
use Rattle.literal.specs.Escapes.{bad_escape}
use Rattle.token.proofs.Table.{part_is}
use Rattle.structure.proofs.Bytes.{bad_none}
use mathlib.Core.Path.{◌∙◌, ap}
use Rattle.structure.proofs.inner.values.bad_escape_in.Goals as goal

pub returns-then-z-a : goal.returns-then-z-a
returns-then-z-a c = bad_none _ _ _ c.if-z-a.true

pub returns : goal.returns
returns c = c.bad_escape.ensures ∙ ap bad_escape (part_is c.args.text.now c.args.a c.args.z)
