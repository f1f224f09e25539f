-- The questions are asked in the order of their numbers, each once those before it are settled.
use Rattle.links.proofs.Asked.{ready_false, ready_unfit, ready_start, ready_own, ready_known, ready_yes, ready_valid}
use Rattle.table.proofs.Names.{valid_inside}
use Rattle.links.proofs.inner.ready.prepare.Goals as goal
use Rattle.links.proofs.inner.ready.prepare.Goals.{then-rules-start-via-then-rules-start, then-rules-start-via-else-rules-start+then-not-own_names, then-rules-start-via-else-rules-start+else-not-own_names+then-not-link_names}

pub returns-in_default-clause-value : goal.returns-in_default-clause-value
returns-in_default-clause-value c = ready_false _ _ _ _ c.check_tables.ensures (c.in_default.not-Ok tt)

pub returns-in-Some-clause-value : goal.returns-in-Some-clause-value
returns-in-Some-clause-value c = ready_unfit _ _ _ _ c.check_tables.ensures c.in-Ok.is c.first_unfit.ensures c.in-Some.is

pub own_names-requires : goal.own_names-requires
own_names-requires c = valid_inside (ready_valid _ _ _ 0 c.check_tables.ensures c.in-Ok.is)

pub link_names-requires-clause-valid : goal.link_names-requires-clause-valid
link_names-requires-clause-valid c = ready_valid _ _ _ 0 c.check_tables.ensures c.in-Ok.is

pub returns-then-rules-start-clause-value : goal.returns-then-rules-start-clause-value
returns-then-rules-start-clause-value c =
    elim c.then-rules-start.branch [
      | then-rules-start-via-then-rules-start w ↦ ready_start _ _ _ _ c.check_tables.ensures c.in-Ok.is c.first_unfit.ensures c.in_default-first_unfit.is w.if-rules-start.true
      | then-rules-start-via-else-rules-start+then-not-own_names w ↦ ready_own _ _ _ _ c.check_tables.ensures c.in-Ok.is c.first_unfit.ensures c.in_default-first_unfit.is w.own_names.ensures w.if-not-own_names.true
      | then-rules-start-via-else-rules-start+else-not-own_names+then-not-link_names w ↦ ready_known _ _ _ _ c.check_tables.ensures c.in-Ok.is c.first_unfit.ensures c.in_default-first_unfit.is w.link_names.ensures.value w.if-not-link_names.true
    ]

pub returns-clause-value : goal.returns-clause-value
returns-clause-value c = ready_yes _ _ _ _ c.check_tables.ensures c.in-Ok.is c.first_unfit.ensures c.in_default-first_unfit.is c.if-rules-start.false c.own_names.ensures c.if-not-own_names.false c.link_names.ensures.value c.if-not-link_names.false
