use Rattle.build.proofs.Terms.{head_bracket, head_node}
use Rattle.build.proofs.inner.terms.term_start.Goals as goal

pub returns-then-kind_at-eq-OPENING_PAREN : goal.returns-then-kind_at-eq-OPENING_PAREN
returns-then-kind_at-eq-OPENING_PAREN c = head_bracket _ _ _ _ c.if-from-first.false _ c.kind_at.ensures _ c.if-kind_at-eq-OPENING_PAREN.true c.start_at-then-kind_at-eq-OPENING_PAREN.ensures

pub returns : goal.returns
returns c = head_node _ _ _ _ c.if-from-first.false _ c.kind_at.ensures c.if-kind_at-eq-OPENING_PAREN.false
