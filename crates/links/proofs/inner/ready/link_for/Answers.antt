-- ANY comes first; a rule that is found has a root that leaves room for one more.
use Rattle.links.proofs.Naming.{link_any, link_rule, link_nobody, rule_below}
use native.Mathlib.Omega.{arith}
use Rattle.links.proofs.inner.ready.link_for.Goals as goal

pub returns-then-is_any : goal.returns-then-is_any
returns-then-is_any c = link_any _ _ _ c.is_any.ensures c.if-is_any.true

pub root_of-requires : goal.root_of-requires
root_of-requires c = rule_below _ _ _ c.is_any.ensures c.if-is_any.false c.rule_named.ensures c.in-Some.is

pub overflow_add-result : goal.overflow_add-result
overflow_add-result c = omega (arith, c.root_of.ensures, c.requires.rooted.low _ (rule_below _ _ _ c.is_any.ensures c.if-is_any.false c.rule_named.ensures c.in-Some.is))

pub overflow_cast-result : goal.overflow_cast-result
overflow_cast-result c = omega (arith, c.root_of.ensures, c.requires.rooted.low _ (rule_below _ _ _ c.is_any.ensures c.if-is_any.false c.rule_named.ensures c.in-Some.is))

pub returns-in-Some : goal.returns-in-Some
returns-in-Some c = link_rule _ _ _ c.is_any.ensures c.if-is_any.false c.rule_named.ensures c.in-Some.is c.root_of.ensures

pub returns-in-None : goal.returns-in-None
returns-in-None c = link_nobody _ _ _ c.is_any.ensures c.if-is_any.false c.rule_named.ensures c.in-None.is
