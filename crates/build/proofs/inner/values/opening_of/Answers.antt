use Rattle.structure.proofs.Bytes.{opens_two, opens_one}
use Rattle.build.proofs.inner.values.opening_of.Goals as goal

pub returns-then-kind_at-eq-INSENSITIVE_STRING : goal.returns-then-kind_at-eq-INSENSITIVE_STRING
returns-then-kind_at-eq-INSENSITIVE_STRING c = opens_two _ _ _ c.kind_at.ensures c.if-kind_at-eq-INSENSITIVE_STRING.true

pub returns : goal.returns
returns c = opens_one _ _ _ c.kind_at.ensures c.if-kind_at-eq-INSENSITIVE_STRING.false
