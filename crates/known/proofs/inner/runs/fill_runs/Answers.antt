use Prim.Native.Nat.{◌-◌}
use native.Mathlib.Omega.{arith}
use Rattle.known.proofs.Runs.{filled_start, filled_step, filled_end, next_stop, run_between}
use Rattle.known.proofs.inner.runs.fill_runs.Goals as goal

pub loop-i-init : goal.loop-i-init
loop-i-init c = filled_start _ _ c.requires.runs_len

pub run_at-stop-requires : goal.run_at-stop-requires
run_at-stop-requires c = record {
  t_value = c.requires.t_value;
  i_in_bounds = omega (arith, c.loop-i.invariant.inside);
  next_value = next_stop _ _ _ _ c.loop-i-test.true c.loop-i.invariant;
}

pub note-requires : goal.note-requires
note-requires c =
    let f = c.loop-i.invariant in
    record {
      i_lt_max_store = omega (arith, f.inside, c.requires.store_len_bound);
      stop_le_max_store = omega (arith, f.inside, c.requires.store_len_bound, c.run_at-stop.ensures, (run_between c.args.store.now (c.loop-i.i - 1) (omega (arith, f.inside))).1);
    }

pub loop-i-preserved : goal.loop-i-preserved
loop-i-preserved c = filled_step _ _ _ _ c.loop-i-test.true c.loop-i.invariant _ _ c.requires.store_len_bound c.run_at-stop.ensures c.note.ensures

pub returns : goal.returns
returns c = filled_end _ _ _ _ c.loop-i-test.false c.loop-i.invariant
