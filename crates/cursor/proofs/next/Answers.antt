-- The step at the cursor's text and place is what the call gives (`said_step`), clause by clause.
use Rattle.cursor.proofs.Cursors.{said_step}
use Rattle.cursor.proofs.next.Goals as goal

pub returns : goal.returns
returns c =
    let said = said_step c.args.cursor.now c.step_at-step.result c.step_at-step.ensures in
    record {
      answer = said.0;
      numbers = said.1;
      place = said.2;
    }
