-- Calls of a stream that is made of an array's numbers.
use Prim.Native.Nat.{ℕ}
use mathlib.Core.Path.{◌≡◌, ap, ◌∙◌}
use mathlib.Core.List.{List}
use Rattle.states.specs.declared.Feed.{Feed}
use Rattle.states.specs.declared.Call.{Call}
use Rattle.states.specs.Feed.{feed_of, feed_in, end_of, end_in}

pub fed : (xs o : List ℕ) {f g : Feed} {o' : List ℕ} {c : Call} → f ≡ g → (c ≡ feed_of f xs o) × (o' ≡ feed_in f xs o) → (c ≡ feed_of g xs o) × (o' ≡ feed_in g xs o)
fed xs o e h = (h.0 ∙ ap (λ (k : Feed). feed_of k xs o) e, h.1 ∙ ap (λ (k : Feed). feed_in k xs o) e)

pub ended : (o : List ℕ) {f g : Feed} {o' : List ℕ} {c : Call} → f ≡ g → (c ≡ end_of f o) × (o' ≡ end_in f o) → (c ≡ end_of g o) × (o' ≡ end_in g o)
ended o e h = (h.0 ∙ ap (λ (k : Feed). end_of k o) e, h.1 ∙ ap (λ (k : Feed). end_in k o) e)
