-- The part that is searched is the inside of the literal, so that its bad escape is the definition's, counted from where the inside begins.
-- It stands inside the text (`literal_low`), so that the sum fits.
use Rattle.structure.proofs.Faults.{literal_low}
use native.Mathlib.Omega.{arith}
use Prim.Native.Nat.{◌-◌, ◌+◌}
use mathlib.Core.Path.{ap}
use Rattle.token.proofs.Table.{spans}
use Rattle.structure.proofs.Bytes.{opens_small}
use Rattle.structure.proofs.inner.values.literal_fault.Goals as goal

pub overflow_add-a : goal.overflow_add-a
overflow_add-a c = let p = spans _ _ c.requires.at_in_bounds in let h = c.requires.lent.short in let o = opens_small c.args.text.now c.args.at in omega arith

pub overflow_sub-z : goal.overflow_sub-z
overflow_sub-z c = let p = spans _ _ c.requires.at_in_bounds in omega arith

pub bad_escape_in-bad-requires : goal.bad_escape_in-bad-requires
bad_escape_in-bad-requires c = let p = spans _ _ c.requires.at_in_bounds in omega arith

pub overflow_add-result : goal.overflow_add-result
overflow_add-result c = let k = literal_low _ _ _ _ _ c.requires.skip_value (ap (λ n. n + c.args.skip) c.start_at.ensures) (ap (λ n. n - 1) c.end_at-z.ensures) _ c.bad_escape_in-bad.ensures _ c.in-Some.is in let p = spans _ _ c.requires.at_in_bounds in let h = c.requires.lent.short in let o = opens_small c.args.text.now c.args.at in omega arith
