-- The word's end less its start is how many bytes of a word the definition counts, so that `word_allowed` is asked about the same word.
use Prim.Native.Nat.{◌-◌}
use mathlib.Core.Path.{◌≡◌, sym, ◌∙◌}
use native.Mathlib.Omega.{arith}
use native.Mathlib.Nat.{add-zero}
use lib.ListN.{drop}
use Rattle.token.specs.Tokens.{word_token}
use Rattle.token.specs.Blanks.{words}
use Rattle.token.proofs.inner.openers.word_at.Goals as goal

pub returns-then-word_allowed : goal.returns-then-word_allowed
unfolding word_token
returns-then-word_allowed c =
    let at = c.args.at in let n : c.word_end-end.result - at ≡ words (drop at c.args.s.now) = omega arith in
    rw (rw n at (sym c.word_allowed.ensures ∙ c.if-word_allowed.true), add-zero, c.word_end-end.ensures)

pub returns : goal.returns
unfolding word_token
returns c =
    let at = c.args.at in let n : c.word_end-end.result - at ≡ words (drop at c.args.s.now) = omega arith in
    rw (rw n at (sym c.word_allowed.ensures ∙ c.if-word_allowed.false), add-zero)
