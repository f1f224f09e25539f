-- Of a word, PUSH at its front decides: the library's test of it is `begins` (`begins_listed`).
use mathlib.Core.Path.{sym, ◌∙◌}
use mathlib.Core.Bool.{true, false}
use native.Mathlib.Omega.{arith}
use Rattle.text.specs.Words.{push}
use Rattle.text.proofs.Runs.{begins_listed}
use Rattle.known.proofs.Runs.{word_front}
use Rattle.known.proofs.inner.runs.word_part.Goals as goal

pub returns-then-starts_with : goal.returns-then-starts_with
returns-then-starts_with c = sym (word_front _ _ _ c.requires.e_in_bounds (omega (arith, c.if-p-e.false, c.requires.p_le_e)) (sym c.starts_word.ensures ∙ c.if-not-starts_word.false) (sym c.all_in_word.ensures ∙ c.if-not-all_in_word.false) true (sym (begins_listed push _) ∙ (sym c.starts_with.ensures.value ∙ c.if-starts_with.true)))

pub returns-else-starts_with : goal.returns-else-starts_with
returns-else-starts_with c = sym (word_front _ _ _ c.requires.e_in_bounds (omega (arith, c.if-p-e.false, c.requires.p_le_e)) (sym c.starts_word.ensures ∙ c.if-not-starts_word.false) (sym c.all_in_word.ensures ∙ c.if-not-all_in_word.false) false (sym (begins_listed push _) ∙ (sym c.starts_with.ensures.value ∙ c.if-starts_with.false)))
