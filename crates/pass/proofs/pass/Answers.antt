-- The printer's answer decides the case, and then the reader's, which is lent the printed part of `text`. `passed` and `unprinted` make the
-- promise of each return, and `demand` makes demand 3 out of it: a slice of u32 has no wider numbers.
use Rattle.printer.specs.declared.PrintError.{PrintError}
use Rattle.std.proofs.Common.{rules}
use Rattle.std.specs.Prelude.{Err}
use mathlib.Core.Path.{refl, sym, ap, ◌∙◌, ◌≡◌}
use native.Mathlib.Omega.{arith}
use lib.Seq.{length-take-le}
use Rattle.pass.specs.Pass.{new_in}
use Rattle.pass.proofs.Answers.{text_fits, unprinted, passed}
use Rattle.pass.proofs.Demands.{demand}
use Rattle.pass.proofs.pass.Goals as goal

pub slice_bounds-read-end : goal.slice_bounds-read-end
slice_bounds-read-end c = text_fits _ _ _ _ _ c.print-printed.ensures.value c.print-printed.ensures.out_after c.in-Ok.is

pub slice_bounds-read-end-in-Ok : goal.slice_bounds-read-end-in-Ok
slice_bounds-read-end-in-Ok c = sym (length-take-le _ _ (text_fits _ _ _ _ _ c.print-printed.ensures.value c.print-printed.ensures.out_after c.in-Ok.is))

pub returns-in-Ok-reading : goal.returns-in-Ok-reading
returns-in-Ok-reading c =
    let m = passed _ _ _ _ _ _ _ _ _ _ c.print-printed.ensures.value c.print-printed.ensures.out_after _ c.in-Ok.is c.read-reading.ensures.answer c.read-reading.ensures.nodes c.read-reading.ensures.rules c.read-reading.ensures.store c.in-Ok-reading.is in
    record {
      passes = m;
      demand = demand _ _ _ _ _ _ _ _ _ _ (record { at = λ k l. omega (arith, c.shared_slice_known-1.given k) }) m;
    }

pub returns-in-Err : goal.returns-in-Err
returns-in-Err c =
    let m = passed _ _ _ _ _ _ _ _ _ _ c.print-printed.ensures.value c.print-printed.ensures.out_after _ c.in-Ok.is c.read-reading.ensures.answer c.read-reading.ensures.nodes c.read-reading.ensures.rules c.read-reading.ensures.store c.in-Err.is in
    record {
      passes = m;
      demand = demand _ _ _ _ _ _ _ _ _ _ (record { at = λ k l. omega (arith, c.shared_slice_known-1.given k) }) m;
    }

pub returns-in-Err-Shape : goal.returns-in-Err-Shape
unfolding new_in
returns-in-Err-Shape c =
    let q : c.print-printed.result ≡ Err PrintError.Shape = search rules in
    let m = unprinted _ _ _ _ _ _ _ _ _ _ c.print-printed.ensures.value c.print-printed.ensures.out_after _ _ q (λ r. refl) (λ x y. refl) in
    record {
      passes = m;
      demand = demand _ _ _ _ _ _ _ _ _ _ (record { at = λ k l. omega (arith, c.shared_slice_known-1.given k) }) m;
    }

pub returns-in-Err-Node : goal.returns-in-Err-Node
unfolding new_in
returns-in-Err-Node c =
    let q : c.print-printed.result ≡ Err (PrintError.Node c.in-Err-Node.i) = search rules in
    let m = unprinted _ _ _ _ _ _ _ _ _ _ c.print-printed.ensures.value c.print-printed.ensures.out_after _ _ q (λ r. refl) (λ x y. refl) in
    record {
      passes = m;
      demand = demand _ _ _ _ _ _ _ _ _ _ (record { at = λ k l. omega (arith, c.shared_slice_known-1.given k) }) m;
    }

pub returns-in-Err-Rule : goal.returns-in-Err-Rule
unfolding new_in
returns-in-Err-Rule c =
    let q : c.print-printed.result ≡ Err (PrintError.Rule c.in-Err-Rule.k) = search rules in
    let m = unprinted _ _ _ _ _ _ _ _ _ _ c.print-printed.ensures.value c.print-printed.ensures.out_after _ _ q (λ r. refl) (λ x y. refl) in
    record {
      passes = m;
      demand = demand _ _ _ _ _ _ _ _ _ _ (record { at = λ k l. omega (arith, c.shared_slice_known-1.given k) }) m;
    }

pub returns-in-Err-NoRoom : goal.returns-in-Err-NoRoom
unfolding new_in
returns-in-Err-NoRoom c =
    let q : c.print-printed.result ≡ Err PrintError.NoRoom = search rules in
    let m = unprinted _ _ _ _ _ _ _ _ _ _ c.print-printed.ensures.value c.print-printed.ensures.out_after _ _ q (λ r. refl) (λ x y. refl) in
    record {
      passes = m;
      demand = demand _ _ _ _ _ _ _ _ _ _ (record { at = λ k l. omega (arith, c.shared_slice_known-1.given k) }) m;
    }
