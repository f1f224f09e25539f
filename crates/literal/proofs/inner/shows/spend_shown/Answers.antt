-- By how the character is shown, what is spent is the length of that: two bytes, the character's own, or its hex digits and four more (`length_braced`).
-- There are six digits at most (`fewest`), so that the sum doesn't overflow.
use mathlib.Core.Path.{refl, sym, ◌∙◌}
use Prim.Native.Nat.{◌<◌}
use Rattle.literal.proofs.Hexes.{fewest}
use Rattle.literal.proofs.Printed.{shown_pair, shown_bare, shown_hex, length_braced}
use Rattle.text.proofs.Splices.{spent_size}
use native.Mathlib.Omega.{arith}
use Rattle.literal.proofs.inner.shows.spend_shown.Goals as goal

pub overflow_add-hex_count : goal.overflow_add-hex_count
overflow_add-hex_count c =
    let h : c.args.c < 0x1000000 = omega arith in
    omega (arith, c.hex_count.ensures, (fewest _ h).most)

pub returns-in-Pair : goal.returns-in-Pair
returns-in-Pair c = rw (shown_pair _ _ _ (sym c.show_of-show.ensures ∙ c.in-Pair.is)) (c.spend.ensures ∙ spent_size _ 2 _ refl)

pub returns-in-Bare : goal.returns-in-Bare
returns-in-Bare c = rw (shown_bare _ _ (sym c.show_of-show.ensures ∙ c.in-Bare.is)) c.spend_char.ensures

pub returns-in-Hex : goal.returns-in-Hex
returns-in-Hex c = rw (shown_hex _ _ _ (sym c.show_of-show.ensures ∙ c.in-Hex.is) c.hex_count.ensures) (c.spend-in-Hex.ensures ∙ spent_size _ _ _ (length_braced _ _))
