use Prim.Native.Nat.{◌+◌}
use mathlib.Core.Path.{ap, ◌∙◌}
use Rattle.table.specs.Check.{is_utf8}
use Rattle.table.proofs.Heavy.{part_utf8, part_is}
use Rattle.table.proofs.inner.texts.NotedTexts.is_utf8.Goals as goal

pub returns : goal.returns
returns c =
    let store = c.args.self.now.store.now in
    c.is_part.ensures ∙ part_utf8 store c.args.p (c.args.p + c.args.n) ∙ ap is_utf8 (part_is store c.args.p c.args.n)
