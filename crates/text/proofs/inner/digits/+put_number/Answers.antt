use Prim.Native.Nat.{◌+◌, ◌/◌, ◌%◌}
use mathlib.Core.List.{[], ◌∷◌}
use mathlib.Core.Path.{◌∙◌}
use native.Mathlib.Omega.{arith}
use Rattle.text.specs.Digits.{decimal}
use Rattle.text.proofs.Decimals.{decimal_one, decimal_more}
use Rattle.text.proofs.Splices.{wrote_then, wrote_length, room_front, room_next}
use Rattle.text.proofs.inner.digits.+put_number.Goals as goal

pub put_byte-requires : goal.put_byte-requires
put_byte-requires t c = rw (decimal_one c.args.n c.if-n-lt10.true) at c.requires

pub returns-then-n-lt10 : goal.returns-then-n-lt10
returns-then-n-lt10 t c = rw (decimal_one c.args.n c.if-n-lt10.true) c.put_byte.ensures

pub put_number-next-requires : goal.put_number-next-requires
put_number-next-requires t c =
    let n = c.args.n in
    (omega arith, room_front (decimal (n / 10)) ((48 + n % 10) ∷ []) (rw (decimal_more n c.if-n-lt10.false) at c.requires))

pub put_byte-requires-2 : goal.put_byte-requires-2
put_byte-requires-2 t c =
    let n = c.args.n in
    room_next ((48 + n % 10) ∷ []) c.put_number-next.ensures (rw (decimal_more n c.if-n-lt10.false) at c.requires)

pub shape_of-out : goal.shape_of-out
shape_of-out t c = wrote_length c.put_byte-2.ensures ∙ wrote_length c.put_number-next.ensures

pub returns : goal.returns
returns t c = rw (decimal_more c.args.n c.if-n-lt10.false) (wrote_then c.put_number-next.ensures c.put_byte-2.ensures)
