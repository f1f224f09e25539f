-- The token lies inside the text (`spans`), and the slice from its start to its end has the bytes of the word (`number_is`).
use Rattle.structure.proofs.Faults.{number_is}
use native.Mathlib.Omega.{arith}
use Rattle.token.proofs.Table.{spans}
use Rattle.structure.proofs.inner.values.number_of.Goals as goal

pub slice_bounds-decimal_of-count : goal.slice_bounds-decimal_of-count
slice_bounds-decimal_of-count c = let p = spans _ _ c.requires.at_in_bounds in let h = c.requires.lent.short in omega arith

pub slice_bounds-decimal_of-start : goal.slice_bounds-decimal_of-start
slice_bounds-decimal_of-start c = let p = spans _ _ c.requires.at_in_bounds in let h = c.requires.lent.short in omega arith

pub slice_bounds-decimal_of-end : goal.slice_bounds-decimal_of-end
slice_bounds-decimal_of-end c = let p = spans _ _ c.requires.at_in_bounds in let h = c.requires.lent.short in omega arith

pub returns : goal.returns
returns c = number_is _ _ _ _ 4294967295 _ c.start_at-a.ensures c.end_at-z.ensures c.decimal_of.ensures
