-- The last of k digits goes behind the k - 1 digits of the number's sixteenth (`hexes_more`); k falls at the call.
-- Room for all digits is room for the first ones (`room_front`), and behind them for the last (`room_next`).
use Rattle.text.proofs.inner.digits.+put_hex.Given as goal

abbrev pub decreases-put_hex : goal.decreases-put_hex
decreases-put_hex l = l.k
