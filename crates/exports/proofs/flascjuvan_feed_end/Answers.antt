-- The stream is made of the array's numbers: `ended` carries what `feed_end` promises of it over to `feed_from` of the array.
-- The answer is then the numbers of that call, and the array those of the stream that it leaves.
use mathlib.Core.Path.{ap, ◌∙◌}
use Rattle.states.specs.declared.Call.{Call}
use Rattle.numbers.specs.Numbers.{call_numbers, feed_numbers}
use Rattle.exports.proofs.Feeds.{ended}
use Rattle.exports.proofs.flascjuvan_feed_end.Goals as goal

pub returns : goal.returns
returns c =
    let called = ended _ c.feed_from.ensures (c.feed_end-call.ensures.answer, c.feed_end-call.ensures.held) in
    record {
      answered = c.call_numbers.ensures ∙ ap call_numbers called.0;
      kept = c.feed_numbers.ensures ∙ ap (λ (k : Call). feed_numbers k.next) called.0;
      held = called.1;
    }
