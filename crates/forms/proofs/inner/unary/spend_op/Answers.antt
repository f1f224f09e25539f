-- A good tag lies inside the store, so that its bytes are as many as n says (`length_part`), and four are spent around them.
use Rattle.forms.proofs.Measures.{length_part, spent_tag}
use Rattle.table.proofs.Texts.{tag_inside}
use Rattle.forms.proofs.inner.unary.spend_op.Goals as goal

pub returns-in-NodeTag : goal.returns-in-NodeTag
returns-in-NodeTag c = rw c.in-NodeTag.is (spent_tag _ _ _ (length_part _ _ _ (tag_inside _ _ _ (rw c.in-NodeTag.is at c.requires))) c.spend.ensures c.spend-in-NodeTag.ensures)
