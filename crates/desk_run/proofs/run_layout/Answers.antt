-- The layout's tables lie in the lent buffers.
use Rattle.show.proofs.Layouts.{layout_inside}
use native.Mathlib.Omega.{arith}
use lib.Seq.{length-take-le}
use lib.ListN.{replicate, length-replicate}
use mathlib.Core.Path.{sym}
use Prim.Native.Nat.{ℕ}
use Rattle.desk_run.proofs.run_layout.Goals as goal

pub slice_bounds-nodes-end : goal.slice_bounds-nodes-end
slice_bounds-nodes-end c =
    let h = layout_inside _ _ (replicate 700 0) (replicate 60 0) (replicate 400 0) c.read_layout-layout.ensures.answered c.in-Tables.is in
    omega (arith, h.0, length-replicate {A = ℕ} 700 0)

pub slice_bounds-rule-end : goal.slice_bounds-rule-end
slice_bounds-rule-end c =
    let h = layout_inside _ _ (replicate 700 0) (replicate 60 0) (replicate 400 0) c.read_layout-layout.ensures.answered c.in-Tables.is in
    sym (length-take-le _ _ (omega (arith, h.0, length-replicate {A = ℕ} 700 0)))

pub slice_bounds-rules-end : goal.slice_bounds-rules-end
slice_bounds-rules-end c =
    let h = layout_inside _ _ (replicate 700 0) (replicate 60 0) (replicate 400 0) c.read_layout-layout.ensures.answered c.in-Tables.is in
    omega (arith, h.1.0, length-replicate {A = ℕ} 60 0)

pub slice_bounds-rule-end-in-Tables : goal.slice_bounds-rule-end-in-Tables
slice_bounds-rule-end-in-Tables c =
    let h = layout_inside _ _ (replicate 700 0) (replicate 60 0) (replicate 400 0) c.read_layout-layout.ensures.answered c.in-Tables.is in
    sym (length-take-le _ _ (omega (arith, h.1.0, length-replicate {A = ℕ} 60 0)))

pub slice_bounds-store-end : goal.slice_bounds-store-end
slice_bounds-store-end c =
    let h = layout_inside _ _ (replicate 700 0) (replicate 60 0) (replicate 400 0) c.read_layout-layout.ensures.answered c.in-Tables.is in
    omega (arith, h.1.1, length-replicate {A = ℕ} 400 0)

pub slice_bounds-rule-end-in-Tables-2 : goal.slice_bounds-rule-end-in-Tables-2
slice_bounds-rule-end-in-Tables-2 c =
    let h = layout_inside _ _ (replicate 700 0) (replicate 60 0) (replicate 400 0) c.read_layout-layout.ensures.answered c.in-Tables.is in
    sym (length-take-le _ _ (omega (arith, h.1.1, length-replicate {A = ℕ} 400 0)))
