-- A part of the list that becomes the stash's front is a run of stores.
use Rattle.stream.proofs.Leaps.{copied}
use Rattle.stream.proofs.passes.quick.copy.Goals as goal

pub returns-then-n-gt0 : goal.returns-then-n-gt0
returns-then-n-gt0 c =
    copied c.args.list.now c.args.stash.now _ c.args.at c.args.n c.requires.n_in_bounds (c.requires.n_in_bounds_2 c.if-n-gt0.true) c.copy_from_slice.ensures.after
