-- The line lies in the output.
use lib.Seq.{length-take-le}
use mathlib.Core.Path.{sym}
use native.Mathlib.Omega.{arith}
use Rattle.arrive.proofs.Puts.{line_within}
use Rattle.arrive.proofs.refuse.Goals as goal

pub slice_bounds-out-end : goal.slice_bounds-out-end
slice_bounds-out-end g c =
    let h = line_within _ _ _ c.refusal-put.ensures.answered c.in-Some.is in
    omega arith

pub slice_bounds-write-end : goal.slice_bounds-write-end
slice_bounds-write-end g c =
    let h = line_within _ _ _ c.refusal-put.ensures.answered c.in-Some.is in
    sym (length-take-le _ _ (omega arith))
