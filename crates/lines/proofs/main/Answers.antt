-- The layout's tables lie in the lent buffers.
use lib.ListN.{replicate, length-replicate}
use lib.Seq.{length-take-le}
use native.Mathlib.Omega.{arith}
use mathlib.Core.Path.{sym}
use Prim.Native.Nat.{ℕ}
use Rattle.show.proofs.Layouts.{layout_inside}
use Rattle.lines.proofs.main.Goals as goal

pub slice_bounds-nodes-end : goal.slice_bounds-nodes-end
slice_bounds-nodes-end c =
    let h = layout_inside _ _ (replicate 14336 0) (replicate 6144 0) (replicate 65536 0) c.read_layout-layout.ensures.answered c.in-Tables.is in
    omega (arith, h.0, length-replicate {A = ℕ} 14336 0)

pub slice_bounds-run-end : goal.slice_bounds-run-end
slice_bounds-run-end c =
    let h = layout_inside _ _ (replicate 14336 0) (replicate 6144 0) (replicate 65536 0) c.read_layout-layout.ensures.answered c.in-Tables.is in
    sym (length-take-le _ _ (omega (arith, h.0, length-replicate {A = ℕ} 14336 0)))

pub slice_bounds-rules-end : goal.slice_bounds-rules-end
slice_bounds-rules-end c =
    let h = layout_inside _ _ (replicate 14336 0) (replicate 6144 0) (replicate 65536 0) c.read_layout-layout.ensures.answered c.in-Tables.is in
    omega (arith, h.1.0, length-replicate {A = ℕ} 6144 0)

pub slice_bounds-run-end-in-Tables : goal.slice_bounds-run-end-in-Tables
slice_bounds-run-end-in-Tables c =
    let h = layout_inside _ _ (replicate 14336 0) (replicate 6144 0) (replicate 65536 0) c.read_layout-layout.ensures.answered c.in-Tables.is in
    sym (length-take-le _ _ (omega (arith, h.1.0, length-replicate {A = ℕ} 6144 0)))

pub slice_bounds-store-end : goal.slice_bounds-store-end
slice_bounds-store-end c =
    let h = layout_inside _ _ (replicate 14336 0) (replicate 6144 0) (replicate 65536 0) c.read_layout-layout.ensures.answered c.in-Tables.is in
    omega (arith, h.1.1, length-replicate {A = ℕ} 65536 0)

pub slice_bounds-run-end-in-Tables-2 : goal.slice_bounds-run-end-in-Tables-2
slice_bounds-run-end-in-Tables-2 c =
    let h = layout_inside _ _ (replicate 14336 0) (replicate 6144 0) (replicate 65536 0) c.read_layout-layout.ensures.answered c.in-Tables.is in
    sym (length-take-le _ _ (omega (arith, h.1.1, length-replicate {A = ℕ} 65536 0)))
