-- The room that was measured says whether the line is put.
use Rattle.rows.specs.Rows.{row_put, row_in}
use Rattle.text.proofs.Splices.{spent_over, spent_fits, wrote_front}
use borrow.Author.Tests.{le-leb, lt-leb}
use native.Mathlib.Omega.{arith}
use mathlib.Core.Path.{refl, sym, ◌∙◌}
use Rattle.rows.proofs.answer_line.Goals as goal

pub returns-then-spend_row-eq0 : goal.returns-then-spend_row-eq0
unfolding row_put row_in
returns-then-spend_row-eq0 c = record {
  answered = rw (lt-leb _ _ (spent_over _ _ (sym c.spend_row.ensures ∙ c.if-spend_row-eq0.true)));
  written = refl;
}

pub put_row-requires : goal.put_row-requires
put_row-requires c =
    let f = spent_fits _ _ (λ z. c.if-spend_row-eq0.false (c.spend_row.ensures ∙ z)) in
    record { fits = omega (arith, f) }

pub returns : goal.returns
unfolding row_put row_in
returns c =
    let f = spent_fits _ _ (λ z. c.if-spend_row-eq0.false (c.spend_row.ensures ∙ z)) in
    let w = wrote_front c.put_row.ensures f in
    record {
      answered = rw (le-leb _ _ f, w.1);
      written = w.0;
    }
