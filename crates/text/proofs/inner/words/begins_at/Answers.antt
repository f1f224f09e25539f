use mathlib.Core.Path.{ap, ◌∙◌}
use native.Mathlib.Omega.{arith}
use lib.ListN.{length}
use Rattle.std.proofs.lemmas.Slice.{between_to_end}
use Rattle.text.specs.Words.{begins}
use Rattle.text.proofs.Runs.{begins_listed}
use Rattle.text.proofs.inner.words.begins_at.Goals as goal

pub returns : goal.returns
returns c =
    let p = c.args.p.now in
    let s = c.args.s.now in
    c.starts_with.ensures.value ∙ (begins_listed p _ ∙ ap (begins p) (between_to_end s c.args.at (length s) (omega arith)))
