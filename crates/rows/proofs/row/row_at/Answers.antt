-- Numbers of 64 bits at five places.
use native.Mathlib.Omega.{arith}
use Rattle.rows.proofs.Records.{record_at}
use Prim.Native.Nat.{◌+◌, ◌*◌}
use Rattle.rows.proofs.row.row_at.Goals as goal

pub returns : goal.returns
returns c =
    let at = 5 * c.args.i in
    record {
      value = record_at c.args.records.now c.args.i;
      small = record {
        number = omega (arith, c.shared_slice_known-1.given at);
        place = omega (arith, c.shared_slice_known-1.given (at + 1));
        length = omega (arith, c.shared_slice_known-1.given (at + 3));
        steps = omega (arith, c.shared_slice_known-1.given (at + 4));
      };
    }
