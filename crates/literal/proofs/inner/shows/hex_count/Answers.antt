use Prim.Native.Nat.{◌+◌, ◌-◌, ◌/◌}
use mathlib.Core.Logic.{⊎_elim}
use native.Mathlib.Omega.{arith}
use lib.Count.{count_leading_zeros}
use Rattle.text.proofs.Tests.{lt_or_ge}
use Rattle.literal.proofs.Hexes.{by_zeros}
use Rattle.literal.proofs.inner.shows.hex_count.Goals as goal

pub returns : goal.returns
returns c =
    let b = by_zeros c.args.c c.requires in
    ⊎_elim (λ l. omega (arith, b.0 l, c.div_ceil.ensures, c.max.ensures)) (λ g. omega (arith, b.1 g, c.div_ceil.ensures, c.max.ensures))
    (lt_or_ge ((32 - count_leading_zeros 32 c.args.c + 3) / 4) 2)
