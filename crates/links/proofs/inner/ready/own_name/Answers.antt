-- The head has the name in the store, and the search for it finds the rule itself or another.
use Rattle.links.proofs.Naming.{own_any, own_by, own_nobody}
use Rattle.table.proofs.Names.{head_name, head_inside}
use native.Mathlib.Omega.{arith}
use Rattle.links.proofs.inner.ready.own_name.Goals as goal

pub overflow_add-e : goal.overflow_add-e
overflow_add-e c = omega (arith, head_inside _ _ _ _ c.head_at-head.ensures c.requires.names_inside c.requires.k_bound)

pub slice_bounds-name-end : goal.slice_bounds-name-end
slice_bounds-name-end c = head_inside _ _ _ _ c.head_at-head.ensures c.requires.names_inside c.requires.k_bound

pub returns-then-is_any : goal.returns-then-is_any
returns-then-is_any c = own_any _ _ _ _ (head_name _ _ _ _ c.head_at-head.ensures) c.is_any.ensures c.if-is_any.true

pub returns-in-Some : goal.returns-in-Some
returns-in-Some c = own_by _ _ _ _ (head_name _ _ _ _ c.head_at-head.ensures) c.is_any.ensures c.if-is_any.false c.rule_named.ensures c.in-Some.is

pub returns-in-None : goal.returns-in-None
returns-in-None c = own_nobody _ _ _ _ (head_name _ _ _ _ c.head_at-head.ensures) c.is_any.ensures c.if-is_any.false c.rule_named.ensures c.in-None.is
