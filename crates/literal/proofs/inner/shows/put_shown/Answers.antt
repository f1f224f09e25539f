-- By how the character is shown: a backslash and a byte, the character itself, or `\u{`, its hex digits and `}`, one after the other (`wrote_then`).
-- `shown_pair`, `shown_bare` and `shown_hex` say which bytes these are, so that room for what is shown is room for each store.
use mathlib.Core.Path.{refl, sym, ◌∙◌}
use native.Mathlib.Omega.{arith}
use lib.ListN.{length-set}
use Rattle.literal.proofs.Printed.{shown_pair, shown_bare, shown_hex, digits_room, brace_room}
use Rattle.text.proofs.Splices.{wrote_two, wrote_three, wrote_then, wrote_length}
use Rattle.literal.proofs.inner.shows.put_shown.Goals as goal

pub bounds-out-at : goal.bounds-out-at
bounds-out-at c = let r = rw (shown_pair _ _ _ (sym c.show_of-show.ensures ∙ c.in-Pair.is)) at c.requires.room in omega (arith, r.fits)

pub bounds-out-at-in-Pair : goal.bounds-out-at-in-Pair
bounds-out-at-in-Pair c = let r = rw (shown_pair _ _ _ (sym c.show_of-show.ensures ∙ c.in-Pair.is)) at c.requires.room in simp length-set (omega (arith, r.fits))

pub put_char-requires : goal.put_char-requires
put_char-requires c = record {
  c_bound = c.requires.c_bound;
  room = rw (shown_bare _ _ (sym c.show_of-show.ensures ∙ c.in-Bare.is)) at c.requires.room;
}

pub bounds-out-at-in-Hex : goal.bounds-out-at-in-Hex
bounds-out-at-in-Hex c = let r = rw (shown_hex _ _ _ (sym c.show_of-show.ensures ∙ c.in-Hex.is) refl) at c.requires.room in omega (arith, r.fits)

pub bounds-out-at-in-Hex-2 : goal.bounds-out-at-in-Hex-2
bounds-out-at-in-Hex-2 c = let r = rw (shown_hex _ _ _ (sym c.show_of-show.ensures ∙ c.in-Hex.is) refl) at c.requires.room in simp length-set (omega (arith, r.fits))

pub bounds-out-at-in-Hex-3 : goal.bounds-out-at-in-Hex-3
bounds-out-at-in-Hex-3 c = let r = rw (shown_hex _ _ _ (sym c.show_of-show.ensures ∙ c.in-Hex.is) refl) at c.requires.room in simp length-set (omega (arith, r.fits))

pub put_hex-a-requires : goal.put_hex-a-requires
put_hex-a-requires c =
    let e = shown_hex _ _ _ (sym c.show_of-show.ensures ∙ c.in-Hex.is) c.hex_count.ensures in
    digits_room _ _ c.requires.room e (wrote_three _ _ _ _ _)

pub put_byte-requires : goal.put_byte-requires
put_byte-requires c =
    let e = shown_hex _ _ _ (sym c.show_of-show.ensures ∙ c.in-Hex.is) c.hex_count.ensures in
    brace_room _ _ c.requires.room e (wrote_three _ _ _ _ _) c.put_hex-a.ensures

pub returns-in-Pair : goal.returns-in-Pair
returns-in-Pair c = rw (shown_pair _ _ _ (sym c.show_of-show.ensures ∙ c.in-Pair.is)) (wrote_two _ _ _ _)

pub returns-in-Bare : goal.returns-in-Bare
returns-in-Bare c = rw (shown_bare _ _ (sym c.show_of-show.ensures ∙ c.in-Bare.is)) c.put_char.ensures

pub shape_of-out-in-Hex : goal.shape_of-out-in-Hex
shape_of-out-in-Hex c = wrote_length c.put_byte.ensures ∙ (wrote_length c.put_hex-a.ensures ∙ simp length-set)

pub returns-in-Hex : goal.returns-in-Hex
returns-in-Hex c =
    let e = shown_hex _ _ _ (sym c.show_of-show.ensures ∙ c.in-Hex.is) c.hex_count.ensures in
    rw e (wrote_then (wrote_three _ _ _ _ _) (wrote_then c.put_hex-a.ensures c.put_byte.ensures))
