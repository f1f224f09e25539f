-- Texts of ASCII.
use Rattle.std.specs.Prelude.{None}
use Prim.Native.Nat.{ℕ, zero, suc, ◌<◌}
use mathlib.Core.Path.{◌≡◌, refl, ap, ◌∙◌}
use mathlib.Core.List.{List, [], ◌∷◌}
use lib.ListN.{get_or}
use Rattle.text.specs.Scans.{sought, later}
use Rattle.text.specs.Utf8.{seq_look, look_by, first_bad}
use Rattle.text.proofs.Walks.{past_head}
use Rattle.text.proofs.Decodes.{one}
use Rattle.text.proofs.Encodes.{found_read}

-- all bytes are below 128
abbrev pub Low : List ℕ → Type 0
Low xs = (k : ℕ) → get_or xs k 0 < 128

low_sought : (xs : List ℕ) → Low xs → sought seq_look 0 xs ≡ None
unfolding sought
low_sought [] h = refl
low_sought (x ∷ xs) h = past_head seq_look x xs 0 (ap look_by (found_read (one (h zero)))) ∙ ap (later 1) (low_sought xs (λ k. h (suc k)))

pub low_good : (xs : List ℕ) → Low xs → first_bad xs ≡ None
unfolding first_bad
low_good xs h = low_sought xs h
