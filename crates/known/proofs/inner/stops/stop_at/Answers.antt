-- The stop is that of the place after the character (`stop_by`), which has at most four bytes (`stop_four`); a bad sequence stops where it is.
use mathlib.Core.Path.{sym, ◌∙◌}
use Rattle.known.proofs.Stops.{stop_ascii, stop_bad, stop_by, stop_four}
use Rattle.known.proofs.inner.stops.stop_at.Goals as goal

pub returns-then-store-i-lt128 : goal.returns-then-store-i-lt128
returns-then-store-i-lt128 c = c.requires.s1_value ∙ sym (stop_ascii _ _ c.requires.i_in_bounds c.if-store-i-lt128.true)

pub returns-in-1 : goal.returns-in-1
returns-in-1 c = stop_by _ _ _ _ 1 _ c.requires.i_in_bounds (sym c.char_at-sequence.ensures ∙ c.in-Some.is) c.in-1.is c.requires.s1_value

pub returns-in-2 : goal.returns-in-2
returns-in-2 c = stop_by _ _ _ _ 2 _ c.requires.i_in_bounds (sym c.char_at-sequence.ensures ∙ c.in-Some.is) c.in-2.is c.requires.s2_value

pub returns-in-3 : goal.returns-in-3
returns-in-3 c = stop_by _ _ _ _ 3 _ c.requires.i_in_bounds (sym c.char_at-sequence.ensures ∙ c.in-Some.is) c.in-3.is c.requires.s3_value

pub returns-in_default : goal.returns-in_default
returns-in_default c = stop_four _ _ _ _ _ c.requires.i_in_bounds (sym c.char_at-sequence.ensures ∙ c.in-Some.is) c.in_default.in_default-own.rest.0.0.1 c.in_default.in_default-own.rest.0.1 c.in_default.in_default-own.rest.1 c.requires.s4_value

pub returns-in-None : goal.returns-in-None
returns-in-None c = sym (stop_bad _ _ c.requires.i_in_bounds (sym c.char_at-sequence.ensures ∙ c.in-None.is))
