-- The index falls: a node that isn't false has its children below it (`under`, `left` and `right` of Answers). In each arm the text is a row of
-- parts, which the arm's law (`leaf_parts` and the others there) reads off the matches that led there; the laws of Rows find room for each part,
-- the children's among them, and put them together.
use Rattle.printer.proofs.inner.walks.+write_kind.Given as goal

abbrev pub decreases-write_kind : goal.decreases-write_kind
decreases-write_kind l = l.i
