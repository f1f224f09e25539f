-- What was written to the front of the stash is the text (`stashed`), so its length decides; copied to the front of the output it stands there (`copied`).
use lib.Seq.{length-take-le}
use native.Mathlib.Omega.{arith}
use mathlib.Core.Path.{refl, sym}
use Rattle.text.proofs.Splices.{wrote_length}
use Rattle.printer.specs.Answers.{print_in}
use Rattle.printer.proofs.Answers.{answer_short, answer_fits, stashed, copied}
use Rattle.printer.proofs.inner.walks.print_by.Goals as goal

pub returns-then-out-n : goal.returns-then-out-n
unfolding print_in
returns-then-out-n c = record {
  value = answer_short _ _ (stashed c.print_fitting-n.ensures c.requires.store_in_bounds).1 c.if-out-n.true;
  out_after = refl;
}

pub slice_bounds-put-end-2 : goal.slice_bounds-put-end-2
slice_bounds-put-end-2 c =
    let t = stashed c.print_fitting-n.ensures c.requires.store_in_bounds in
    sym (length-take-le _ _ (omega (arith, wrote_length c.print_fitting-n.ensures, t.1, c.requires.store_in_bounds)))

pub put-requires : goal.put-requires
put-requires c =
    let t = stashed c.print_fitting-n.ensures c.requires.store_in_bounds in
    record { fits = rw t.0 (omega (arith, t.1, c.if-out-n.false)) }

pub returns : goal.returns
unfolding print_in
returns c =
    let w = copied c.print_fitting-n.ensures c.requires.store_in_bounds c.if-out-n.false c.put.ensures in
    let t = stashed c.print_fitting-n.ensures c.requires.store_in_bounds in
    record {
      value = answer_fits _ _ (omega (arith, t.1, c.if-out-n.false)) w.1;
      out_after = w.0;
    }
