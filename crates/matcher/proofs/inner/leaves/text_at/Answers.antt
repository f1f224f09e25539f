-- The text was found or not; one that was found ends inside the line.
use Rattle.matcher.proofs.Leaves.{took_true, took_false, text_room}
use native.Mathlib.Omega.{arith}
use mathlib.Core.Path.{sym, ◌∙◌}
use Rattle.matcher.proofs.inner.leaves.text_at.Goals as goal

pub overflow_add-result : goal.overflow_add-result
overflow_add-result c = let h = text_room c.args.fold c.args.store.now c.args.p c.args.n c.args.line.now c.args.at c.requires (sym c.starts_at.ensures ∙ c.if-starts_at.true) in omega arith

pub returns-then-starts_at : goal.returns-then-starts_at
returns-then-starts_at c = took_true _ _ (sym c.starts_at.ensures ∙ c.if-starts_at.true)

pub returns : goal.returns
returns c = took_false _ _ (sym c.starts_at.ensures ∙ c.if-starts_at.false)
