-- A number's last digit goes behind those of its tenth (`decimal_more`); the number falls at the call.
-- Room for all digits is room for those of the tenth (`room_front`), and behind them for the last (`room_next`).
use Rattle.text.proofs.inner.digits.+put_number.Given as goal

abbrev pub decreases-put_number : goal.decreases-put_number
decreases-put_number l = l.n
