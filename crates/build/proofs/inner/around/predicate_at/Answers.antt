use Rattle.build.proofs.Loops.{sign_yes, sign_no}
use Rattle.build.proofs.inner.around.predicate_at.Goals as goal

pub returns-then-kind_at-eq-AMPERSAND : goal.returns-then-kind_at-eq-AMPERSAND
returns-then-kind_at-eq-AMPERSAND c = sign_yes _ _ _ c.kind_at.ensures c.if-kind_at-eq-AMPERSAND.true

pub returns : goal.returns
returns c = sign_no _ _ _ c.kind_at.ensures c.if-kind_at-eq-AMPERSAND.false
