-- A backslash that begins no escape is told (`char_bad`); behind an escape or a character `quoted_at` looks for the `'`; a broken sequence is no token.
-- An escape has ten bytes at most (`meant`) and a character four (`decoded`), as `quoted_at` asks.
use mathlib.Core.Path.{sym, ◌∙◌}
use native.Mathlib.Omega.{arith}
use Rattle.text.proofs.Decodes.{decoded}
use Rattle.literal.proofs.Escaped.{meant}
use Rattle.token.specs.Tokens.{char_token}
use Rattle.token.proofs.Places.{none}
use Rattle.token.proofs.Strings.{char_bad}
use Rattle.token.proofs.inner.openers.char_at.Goals as goal

pub quoted_at-requires : goal.quoted_at-requires
quoted_at-requires c = record {
  at_in_bounds = c.requires;
  n_bound = omega (arith, (meant _ _ _ (sym c.escape_at.ensures ∙ c.in-Some.is)).ten);
}

pub returns-in-Some : goal.returns-in-Some
unfolding char_token
returns-in-Some c = rw (sym c.next_is.ensures ∙ c.if-next_is.true, sym c.escape_at.ensures ∙ c.in-Some.is) c.quoted_at.ensures

pub returns-in-None : goal.returns-in-None
returns-in-None c = char_bad _ _ (sym c.next_is.ensures ∙ c.if-next_is.true) (sym c.escape_at.ensures ∙ c.in-None.is)

pub quoted_at-requires-in-Some-char_at : goal.quoted_at-requires-in-Some-char_at
quoted_at-requires-in-Some-char_at c = record {
  at_in_bounds = c.requires;
  n_bound = omega (arith, (decoded _ _ _ (sym c.char_at.ensures ∙ c.in-Some-char_at.is)).few);
}

pub returns-in-Some-char_at : goal.returns-in-Some-char_at
unfolding char_token
returns-in-Some-char_at c = rw (sym c.next_is.ensures ∙ c.if-next_is.false, sym c.char_at.ensures ∙ c.in-Some-char_at.is) c.quoted_at-in-Some-char_at.ensures

pub returns-in-None-char_at : goal.returns-in-None-char_at
unfolding char_token
returns-in-None-char_at c = rw (sym c.next_is.ensures ∙ c.if-next_is.false, sym c.char_at.ensures ∙ c.in-None-char_at.is) (none _)
