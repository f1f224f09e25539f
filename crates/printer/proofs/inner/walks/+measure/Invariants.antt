-- The index falls: a node that isn't false has its children below it, and the nodes up to them aren't false either. Each kind has its law of
-- Nodes: `leaf_spent`, `one_spent`, `two_spent`. Of nothing nothing is left, so that it may return early; no such node is unknown.
use Rattle.printer.proofs.inner.walks.+measure.Given as goal

abbrev pub decreases-measure : goal.decreases-measure
decreases-measure l = l.i
