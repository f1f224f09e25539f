use native.Mathlib.Omega.{arith}
use Rattle.token.proofs.Table.{word_length}
use Rattle.structure.proofs.inner.tokens.word_bytes.Goals as goal

pub returns : goal.returns
returns c = let l = word_length _ _ _ _ c.start_at-a.ensures c.end_at-z.ensures in omega (arith, c.saturating_sub.ensures)
