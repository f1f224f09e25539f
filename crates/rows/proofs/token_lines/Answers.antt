-- A third of the list are its records, and each has its bytes in the output, or the lines have no room.
use native.Mathlib.Omega.{arith}
use Rattle.rows.proofs.Listings.{no_room, has_room}
use Rattle.rows.proofs.token_lines.Goals as goal

clauses_answered_written_inside : {A B C : Type 0} → A × (B × C) → record { answered : A; written : B; inside : C }
clauses_answered_written_inside h = record { answered = h.0; written = h.1.0; inside = h.1.1 }

pub returns-then-out-k : goal.returns-then-out-k
returns-then-out-k c = clauses_answered_written_inside (no_room _ _ c.if-out-k.true)

pub put_tokens-requires : goal.put_tokens-requires
put_tokens-requires c = record {
  k_in_bounds = omega arith;
  k_in_bounds_2 = omega (arith, c.if-out-k.false);
}

pub returns : goal.returns
returns c = clauses_answered_written_inside (has_room _ _ c.if-out-k.false c.put_tokens.ensures.wrote c.put_tokens.ensures.upper_bound)
