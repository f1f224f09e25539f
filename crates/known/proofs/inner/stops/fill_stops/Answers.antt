use Prim.Native.Nat.{◌-◌}
use native.Mathlib.Omega.{arith}
use Rattle.known.proofs.Stops.{filled_start, filled_step, filled_end, next_one, next_two, next_three, next_four, stop_between}
use Rattle.known.proofs.inner.stops.fill_stops.Goals as goal

pub loop-i-init : goal.loop-i-init
loop-i-init c = filled_start _ _ c.requires.stops_len

pub stop_at-stop-requires : goal.stop_at-stop-requires
stop_at-stop-requires c =
    let f = c.loop-i.invariant in
    record {
      i_in_bounds = omega (arith, f.inside);
      s1_value = next_one _ _ _ _ _ _ _ c.loop-i-test.true f;
      s2_value = next_two _ _ _ _ _ _ _ c.loop-i-test.true f;
      s3_value = next_three _ _ _ _ _ _ _ c.loop-i-test.true f;
      s4_value = next_four _ _ _ _ _ _ _ c.loop-i-test.true f;
    }

pub note-requires : goal.note-requires
note-requires c =
    let f = c.loop-i.invariant in
    record {
      i_lt_max_store = omega (arith, f.inside);
      stop_le_max_store = omega (arith, f.inside, c.stop_at-stop.ensures, (stop_between c.args.store.now (c.loop-i.i - 1) (omega (arith, f.inside))).1);
    }

pub loop-i-preserved : goal.loop-i-preserved
loop-i-preserved c = filled_step _ _ _ _ _ _ _ c.loop-i-test.true c.loop-i.invariant _ _ c.requires.store_len_bound c.stop_at-stop.ensures c.note.ensures

pub returns : goal.returns
returns c = filled_end _ _ _ _ _ _ _ c.loop-i-test.false c.loop-i.invariant
