use Rattle.rows.proofs.Records.{putting_none, putting_room, putting_more, put_all, refused_one}
use Rattle.text.proofs.Splices.{wrote_length}
use native.Mathlib.Omega.{arith}
use Rattle.rows.proofs.row.put_rows.Goals as goal

clauses_wrote_refused_value_size_bound : {A B C : Type 0} → A × (B × C) → record { wrote : A; refused_value : B; size_bound : C }
clauses_wrote_refused_value_size_bound h = record { wrote = h.0; refused_value = h.1.0; size_bound = h.1.1 }

pub loop-i-init : goal.loop-i-init
loop-i-init c = putting_none _ _ _

pub put_row-at-requires : goal.put_row-at-requires
put_row-at-requires c = putting_room c.loop-i.invariant (omega arith) c.requires.k_in_bounds_2 c.row_at-row.ensures.small

pub overflow_add-refused : goal.overflow_add-refused
overflow_add-refused c = omega (arith, c.loop-i.invariant.few, refused_one _ c.count_refused-refused.ensures)

pub loop-i-preserved : goal.loop-i-preserved
loop-i-preserved c = putting_more c.loop-i.invariant (omega arith) c.row_at-row.ensures.value c.row_at-row.ensures.small c.put_row-at.ensures c.count_refused-refused.ensures

pub shape_of-out : goal.shape_of-out
shape_of-out c = wrote_length c.loop-i.invariant.wrote

pub returns : goal.returns
returns c = clauses_wrote_refused_value_size_bound (put_all c.loop-i.invariant (omega arith))
