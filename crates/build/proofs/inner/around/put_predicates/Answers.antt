use Rattle.build.proofs.Loops.{signs_start, signs_over, signs_more}
use Rattle.build.proofs.inner.around.put_predicates.Goals as goal

clauses_answer_table : {A B : Type 0} → A × B → record { answer : A; table : B }
clauses_answer_table h = record { answer = h.0; table = h.1 }

pub loop-i-init : goal.loop-i-init
loop-i-init c = signs_start _ _ _ _ _ _ c.requires.signs_room

pub put_unary-requires : goal.put_unary-requires
put_unary-requires c = signs_over c.args.text.now c.args.nodes.now c.args.at c.args.last c.args.z c.args.used c.requires.lent.short c.requires.signs_room c.loop-i.nodes c.loop-i.i c.loop-i.u c.loop-i.invariant c.loop-i-test.true _ c.start_at-a.ensures

pub loop-i-preserved : goal.loop-i-preserved
loop-i-preserved c = signs_more c.args.text.now c.args.nodes.now c.args.at c.args.last c.args.z c.args.used c.requires.lent.short c.requires.signs_room c.loop-i.nodes c.loop-i.i c.loop-i.u c.loop-i.invariant c.loop-i-test.true _ _ _ c.start_at-a.ensures c.predicate_at.ensures c.put_unary.ensures
