-- What is shown lies in the output.
use native.Mathlib.Omega.{arith}
use Rattle.show.proofs.Shows.{fits_after}
use Rattle.program.proofs.print_input.Goals as goal

pub write_shown-requires : goal.write_shown-requires
write_shown-requires g c = fits_after _ _ _ c.desk-shown.new.out c.desk-shown.ensures.answered (omega arith)
