-- The count is what is gone from 262,144, and that is enough: at most 65,536 bytes mean at most four each (`bytes_left`). A part that doesn't
-- end behind its start is empty.
use Rattle.literal.specs.Escapes.{unescaped}
use Rattle.text.specs.Splice.{spent}
use Rattle.token.proofs.Table.{part_is}
use Rattle.structure.proofs.Bytes.{bytes_none, bytes_left}
use mathlib.Core.Path.{◌∙◌, ap}
use Rattle.structure.proofs.inner.tokens.unescaped_bytes.Goals as goal

pub returns-then-z-a : goal.returns-then-z-a
returns-then-z-a c = bytes_none _ _ _ c.if-z-a.true

pub overflow_sub-result : goal.overflow_sub-result
overflow_sub-result c = (bytes_left c.args.text.now c.args.a c.args.z _ c.requires.text_len_bound (c.spend_unescaped-left.ensures ∙ ap (λ l. spent 262144 (unescaped l)) (part_is c.args.text.now c.args.a c.args.z))).0

pub returns : goal.returns
returns c = (bytes_left c.args.text.now c.args.a c.args.z _ c.requires.text_len_bound (c.spend_unescaped-left.ensures ∙ ap (λ l. spent 262144 (unescaped l)) (part_is c.args.text.now c.args.a c.args.z))).1
