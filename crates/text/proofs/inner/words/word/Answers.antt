-- Of a word, PUSH at its front decides: the library's test of it is `begins` (`begins_listed`).
use mathlib.Core.Path.{◌≡◌, sym, ◌∙◌}
use mathlib.Core.Bool.{true, false}
use native.Mathlib.Omega.{arith}
use Rattle.std.proofs.lemmas.Grind.{common_steps}
use Rattle.text.specs.Words.{word_of, begins, push}
use Rattle.text.proofs.Runs.{word_at, begins_listed}
use Rattle.text.proofs.inner.words.word.Goals as goal

pub returns-then-starts_with : goal.returns-then-starts_with
unfolding word_of
returns-then-starts_with c =
    let b : begins push c.args.s.now ≡ true = sym (begins_listed push c.args.s.now) ∙ (sym c.starts_with.ensures.value ∙ c.if-starts_with.true) in
    grind (arith, common_steps, word_at)

pub returns-else-starts_with : goal.returns-else-starts_with
unfolding word_of
returns-else-starts_with c =
    let b : begins push c.args.s.now ≡ false = sym (begins_listed push c.args.s.now) ∙ (sym c.starts_with.ensures.value ∙ c.if-starts_with.false) in
    grind (arith, common_steps, word_at)
