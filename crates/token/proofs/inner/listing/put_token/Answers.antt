-- Three stores in a row are the row of the token.
use Prim.Native.Nat.{◌*◌}
use Rattle.token.specs.Table.{token_size}
use Rattle.text.proofs.Splices.{wrote_three}
use lib.ListN.{length-set}
use native.Mathlib.Omega.{arith}
use Rattle.token.proofs.inner.listing.put_token.Goals as goal

pub bounds-tokens-i-2 : goal.bounds-tokens-i-2
bounds-tokens-i-2 c = simp length-set (omega arith)

pub bounds-tokens-i-3 : goal.bounds-tokens-i-3
bounds-tokens-i-3 c = simp length-set (omega arith)

pub returns : goal.returns
returns c = (wrote_three c.args.tokens.now (c.args.n * token_size) c.args.kind c.args.start c.args.end).now
