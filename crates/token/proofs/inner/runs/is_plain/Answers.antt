use Rattle.std.proofs.Common.{◌≡◌, length-take, length-drop, arith}
use Rattle.token.proofs.inner.runs.is_plain.Goals as goal

pub returns : goal.returns
returns c =
    let inv = c.loop-b.invariant in
    let z : c.loop-b.b-index ≡ 16 = omega (arith, inv.inside, simp (length-take, length-drop) at c.loop-b-test.false) in
    record {
      plain = λ e. rw z at (inv.yes e);
      fact = inv.no;
    }
