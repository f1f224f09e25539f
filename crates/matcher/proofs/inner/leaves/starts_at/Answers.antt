use Rattle.matcher.proofs.Leaves.{text_past, text_short, same_none, same_more, same_not, same_all}
use native.Mathlib.Omega.{arith}
use mathlib.Core.Path.{sym}
use Rattle.matcher.proofs.inner.leaves.starts_at.Goals as goal

pub returns-then-line-at : goal.returns-then-line-at
returns-then-line-at c = text_past _ _ _ _ _ _ c.requires c.if-line-at.true

pub returns-then-line-at-2 : goal.returns-then-line-at-2
returns-then-line-at-2 c = sym (text_short c.args.fold c.args.store.now c.args.p c.args.n c.args.line.now c.args.at c.requires (omega arith) (omega arith))

pub loop-j-init : goal.loop-j-init
loop-j-init c = same_none _ _ _ _ _ _ (omega arith)

pub returns-then-not-alike : goal.returns-then-not-alike
returns-then-not-alike c = same_not _ _ _ _ _ _ _ c.requires c.loop-j.invariant (omega arith) c.alike.ensures c.if-not-alike.true

pub loop-j-preserved : goal.loop-j-preserved
loop-j-preserved c = same_more _ _ _ _ _ _ _ c.requires c.loop-j.invariant (omega arith) c.alike.ensures c.if-not-alike.false

pub returns : goal.returns
returns c = same_all _ _ _ _ _ _ _ c.loop-j.invariant (omega arith)
