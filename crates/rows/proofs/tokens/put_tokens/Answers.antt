use native.Mathlib.Omega.{arith}
use Rattle.text.proofs.Splices.{wrote_length}
use Rattle.rows.proofs.Listings.{listing_none, listing_more, list_all}
use Rattle.rows.proofs.tokens.put_tokens.Goals as goal

clauses_wrote_upper_bound : {A B : Type 0} → A × B → record { wrote : A; upper_bound : B }
clauses_wrote_upper_bound h = record { wrote = h.0; upper_bound = h.1 }

pub loop-i-init : goal.loop-i-init
loop-i-init c = listing_none _ _ _

pub put_record-at-requires : goal.put_record-at-requires
put_record-at-requires c = record {
  token_size_in_bounds = omega (arith, c.requires.k_in_bounds);
  longest_token_in_bounds = omega (arith, c.requires.k_in_bounds_2, c.loop-i.invariant.low, wrote_length c.loop-i.invariant.wrote);
}

pub loop-i-preserved : goal.loop-i-preserved
loop-i-preserved c = listing_more c.loop-i.invariant (omega arith) c.put_record-at.ensures.wrote c.put_record-at.ensures.upper_bound

pub shape_of-out : goal.shape_of-out
shape_of-out c = wrote_length c.loop-i.invariant.wrote

pub returns : goal.returns
returns c = clauses_wrote_upper_bound (list_all c.loop-i.invariant (omega arith))
