use Prim.Native.Nat.{◌-◌, ◌/◌, ◌%◌}
use mathlib.Core.List.{[], ◌∷◌}
use mathlib.Core.Path.{◌∙◌}
use native.Mathlib.Omega.{arith}
use Rattle.text.specs.Digits.{hexes, hex_digit}
use Rattle.text.proofs.Hexes.{hexes_none, hexes_more}
use Rattle.text.proofs.Splices.{wrote_none, wrote_then, wrote_length, room_front, room_next}
use Rattle.text.proofs.inner.digits.+put_hex.Goals as goal

pub returns-then-k-eq0 : goal.returns-then-k-eq0
returns-then-k-eq0 t c = rw (hexes_none _ _ c.if-k-eq0.true) (wrote_none _ _)

pub put_hex-next-requires : goal.put_hex-next-requires
put_hex-next-requires t c =
    let a = c.args in
    let r = rw (hexes_more a.k a.c c.if-k-eq0.false) at c.requires in
    (omega arith, room_front (hexes (a.k - 1) (a.c / 16)) (hex_digit (a.c % 16) ∷ []) r)

pub put_byte-requires : goal.put_byte-requires
put_byte-requires t c =
    let a = c.args in
    let r = rw (hexes_more a.k a.c c.if-k-eq0.false) at c.requires in
    rw c.hex_digit.ensures (room_next (hex_digit (a.c % 16) ∷ []) c.put_hex-next.ensures r)

pub shape_of-out : goal.shape_of-out
shape_of-out t c = wrote_length c.put_byte.ensures ∙ wrote_length c.put_hex-next.ensures

pub returns : goal.returns
returns t c =
    let a = c.args in
    rw (hexes_more a.k a.c c.if-k-eq0.false) (wrote_then c.put_hex-next.ensures (rw c.hex_digit.ensures at c.put_byte.ensures))
