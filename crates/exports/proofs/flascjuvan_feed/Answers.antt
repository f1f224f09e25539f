-- The stream is made of the array's numbers: `fed` carries what `feed_packet` promises of it over to `feed_from` of the array.
-- The answer is then the numbers of that call, and the array those of the stream that it leaves.
use mathlib.Core.Path.{ap, ◌∙◌}
use Rattle.states.specs.declared.Call.{Call}
use Rattle.numbers.specs.Numbers.{call_numbers, feed_numbers}
use Rattle.exports.proofs.Feeds.{fed}
use Rattle.exports.proofs.flascjuvan_feed.Goals as goal

pub returns : goal.returns
returns c =
    let called = fed _ _ c.feed_from.ensures (c.feed_packet-call.ensures.answer, c.feed_packet-call.ensures.held) in
    record {
      answered = c.call_numbers.ensures ∙ ap call_numbers called.0;
      kept = c.feed_numbers.ensures ∙ ap (λ (k : Call). feed_numbers k.next) called.0;
      held = called.1;
    }
