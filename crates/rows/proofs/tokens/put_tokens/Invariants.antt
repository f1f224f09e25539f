-- Each turn puts the line of one record more.
use Rattle.rows.proofs.Listings.{Listing}
use Rattle.rows.proofs.tokens.put_tokens.Given as goal

abbrev pub invariant-loop-i : goal.invariant-loop-i
invariant-loop-i l = Listing l.list l.k l.initial.out l.out l.i l.at
