-- Where all three tests hold.
use Rattle.stream.proofs.Leaps.{between_is, clean_is}
use native.Mathlib.Omega.{arith}
use mathlib.Core.Path.{sym, ◌∙◌}
use Rattle.stream.proofs.passes.quick.may_leap.Goals as goal

pub returns-in-None : goal.returns-in-None
returns-in-None c = λ e.
    record {
      between = between_is c.args.c c.requires (sym c.between.ensures ∙ c.if-not-between.false);
      short = omega (arith, c.requires.short);
      clean = clean_is c.args.c.seen c.args.rest.now (sym c.first_bad.ensures ∙ c.in-None.is);
    }
