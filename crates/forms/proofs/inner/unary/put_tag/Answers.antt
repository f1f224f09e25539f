-- A good tag lies inside the store (`tag_inside`), and the slice from p to p + n is the part that the definition takes.
use Rattle.text.proofs.Splices.{wrote_then}
use Rattle.table.proofs.Texts.{tag_inside, part_between}
use native.Mathlib.Omega.{arith}
use Rattle.forms.specs.Printing.{tag_text}
use Rattle.forms.proofs.inner.unary.put_tag.Goals as goal

pub overflow_add-e : goal.overflow_add-e
overflow_add-e c = omega (arith, tag_inside _ _ _ c.requires.n_value)

pub slice_bounds-put-end : goal.slice_bounds-put-end
slice_bounds-put-end c = omega (arith, tag_inside _ _ _ c.requires.n_value)

pub returns : goal.returns
unfolding tag_text
returns c = wrote_then c.put_byte-a.ensures (wrote_then (rw (part_between c.args.store.now c.args.p c.args.n) at c.put-b.ensures) c.put.ensures)
