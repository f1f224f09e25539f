-- By the kind of the token: the definition asks for `_`, `@`, `$` and `!` in turn, and a law of Rules for each kind answers all its questions.
use Rattle.structure.proofs.Rules.{mark_silent, mark_word, mark_atomic, mark_compound, mark_non, mark_none}
use Rattle.structure.proofs.inner.rules.mark_at.Goals as goal

pub returns-then-spelled : goal.returns-then-spelled
returns-then-spelled c = mark_silent _ _ _ c.kind_at-k.ensures _ c.spelled.ensures c.if-spelled.true

pub returns-else-spelled : goal.returns-else-spelled
returns-else-spelled c = mark_word _ _ _ c.kind_at-k.ensures c.in-18.is _ c.spelled.ensures c.if-spelled.false

pub returns-in-16 : goal.returns-in-16
returns-in-16 c = mark_atomic _ _ _ c.kind_at-k.ensures c.in-16.is

pub returns-in-17 : goal.returns-in-17
returns-in-17 c = mark_compound _ _ _ c.kind_at-k.ensures c.in-17.is

pub returns-in-9 : goal.returns-in-9
returns-in-9 c = mark_non _ _ _ c.kind_at-k.ensures c.in-9.is

pub returns-in_default : goal.returns-in_default
returns-in_default c = mark_none _ _ _ c.kind_at-k.ensures c.in_default.in_default-own.rest.0.0.0.1 c.in_default.in_default-own.rest.0.0.1 c.in_default.in_default-own.rest.0.1 c.in_default.in_default-own.rest.1
