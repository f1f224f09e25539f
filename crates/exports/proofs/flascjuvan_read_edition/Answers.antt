-- The edition is `edition_of` of the number passed, and what `read_by` promises of the one holds of the other.
use Rattle.exports.proofs.flascjuvan_read_edition.Goals as goal

pub returns : goal.returns
returns c = record { answered = rw (← c.edition_of-named.ensures) c.read_by.ensures.answered; left = rw (← c.edition_of-named.ensures) c.read_by.ensures.left }
