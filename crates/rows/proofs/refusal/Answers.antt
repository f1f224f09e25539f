-- The room that was measured says whether the line is put.
use mathlib.Core.Path.{refl, sym, ◌∙◌}
use native.Mathlib.Omega.{arith}
use borrow.Author.Tests.{le-leb, lt-leb}
use Rattle.text.proofs.Splices.{spent_over, spent_fits, wrote_front}
use Rattle.rows.specs.Line.{refusal_put, refusal_in}
use Rattle.rows.proofs.refusal.Goals as goal

pub returns-then-spend_line-eq0 : goal.returns-then-spend_line-eq0
unfolding refusal_put refusal_in
returns-then-spend_line-eq0 c = record {
  answered = rw (lt-leb _ _ (spent_over _ _ (sym c.spend_line.ensures ∙ c.if-spend_line-eq0.true)));
  written = refl;
}

pub put_line-requires : goal.put_line-requires
put_line-requires c =
    let f = spent_fits _ _ (λ z. c.if-spend_line-eq0.false (c.spend_line.ensures ∙ z)) in
    record { fits = omega (arith, f) }

pub returns : goal.returns
unfolding refusal_put refusal_in
returns c =
    let f = spent_fits _ _ (λ z. c.if-spend_line-eq0.false (c.spend_line.ensures ∙ z)) in
    let w = wrote_front c.put_line.ensures f in
    record {
      answered = rw (le-leb _ _ f, w.1);
      written = w.0;
    }
