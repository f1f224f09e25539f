-- Three numbers of 32 bits, of which no line is longer.
use Prim.Native.Nat.{◌+◌, ◌*◌}
use native.Mathlib.Omega.{arith}
use lib.ListN.{get_or}
use Rattle.rows.proofs.Listings.{token_fits, line_at}
use Rattle.rows.proofs.tokens.put_record.Goals as goal

pub put_token-requires : goal.put_token-requires
put_token-requires c =
    let ts = c.args.list.now in
    let k = 3 * c.args.i in
    let f = token_fits (get_or ts k 0) (get_or ts (k + 1) 0) (get_or ts (k + 2) 0) (omega (arith, c.shared_slice_known-1.given k)) (omega (arith, c.shared_slice_known-1.given (k + 1))) (omega (arith, c.shared_slice_known-1.given (k + 2))) in
    record { fits = omega (arith, f, c.requires.longest_token_in_bounds) }

pub returns : goal.returns
returns c =
    let ts = c.args.list.now in
    let k = 3 * c.args.i in
    let f = token_fits (get_or ts k 0) (get_or ts (k + 1) 0) (get_or ts (k + 2) 0) (omega (arith, c.shared_slice_known-1.given k)) (omega (arith, c.shared_slice_known-1.given (k + 1))) (omega (arith, c.shared_slice_known-1.given (k + 2))) in
    record {
      wrote = rw (← line_at ts c.args.i) c.put_token.ensures;
      upper_bound = omega (arith, f, c.put_token.ensures.next);
    }
