-- The tables are asked about first; good ones have their names inside the store.
use Rattle.matcher.proofs.Sought.{found_false, good_inside, found_by_lem, found_nobody}
use Rattle.matcher.proofs.rule_named.Goals as goal

pub returns-in_default : goal.returns-in_default
returns-in_default c = found_false _ _ _ _ c.check_tables.ensures (c.in_default.not-Ok tt)

pub rule_named-named-requires : goal.rule_named-named-requires
rule_named-named-requires c = good_inside _ _ _ c.check_tables.ensures c.in-Ok.is

pub returns-in-Some : goal.returns-in-Some
returns-in-Some c = found_by_lem _ _ _ _ c.check_tables.ensures c.in-Ok.is c.rule_named-named.ensures c.in-Some.is

pub returns-in-None : goal.returns-in-None
returns-in-None c = found_nobody _ _ _ _ c.check_tables.ensures c.in-Ok.is c.rule_named-named.ensures c.in-None.is
