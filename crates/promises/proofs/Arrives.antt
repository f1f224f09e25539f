-- Tokens as they arrive, beside the reader: 3 is given exactly where the reader gives 3.
use Rattle.std.specs.Prelude.{Some, None}
use Prim.Native.Nat.{ℕ, ◌≤◌}
use mathlib.Core.Path.{◌≡◌}
use mathlib.Core.Logic.{◌↔◌}
use mathlib.Core.List.{List}
use lib.ListN.{length}
use Rattle.text.specs.Limits.{max_text}
use Rattle.text.specs.Utf8.{first_bad}
use Rattle.token.specs.Lists.{tokens_of}
use Rattle.token.specs.Table.{room_of}
use Rattle.structure.specs.declared.Edition.{Edition}
use Rattle.structure.specs.declared.Level.{Level}
use Rattle.structure.specs.declared.Why.TheVariants.{NoToken}
use Rattle.reader.specs.Read.{refused_by, read_of}
use Rattle.states.specs.Feed.{number_of, place_of, end_of}
use Rattle.states.specs.Packets.{Packet, joined, lent, Kept, calls_of}
use Rattle.states.proofs.Numbers.{zeros}
use Rattle.states.proofs.Promises.{ended, same_3}
use Rattle.states.proofs.Calls.{same_calls}
use Rattle.promises.proofs.Places.{reader_3, reads_3}

module _ (edition : Edition) (level : Level) (n r b : ℕ) where
  -- a 3 that is the list's is the reader's
  as_read : {A : Type 0} (s : List ℕ) (p : ℕ) → length s ≤ max_text → first_bad s ≡ None → A ↔ ((tokens_of s).fault ≡ Some p) → A ↔ (read_of edition level s n r b ≡ refused_by NoToken p)
  as_read s p l u h = (λ a. reads_3 edition level s n r b p l u (h.0 a), λ e. h.1 (reader_3 edition level s n r b p e))

  -- packets with any lists, and the end
  pub packets_3 : (ps : List Packet) (room : ℕ) → length (joined ps) ≤ max_text → first_bad (joined ps) ≡ None → (number_of (ended room ps).next ≡ 14 → ⊥)
      → (p : ℕ) → ((number_of (ended room ps).next ≡ 3) × (place_of (ended room ps).next ≡ p)) ↔ (read_of edition level (joined ps) n r b ≡ refused_by NoToken p)
  packets_3 ps room l u h p = as_read (joined ps) p l u (same_3 ps room l u h p)

  module _ (xss : List (List ℕ)) (o : List ℕ) where
    abbrev s : List ℕ
    s = joined (lent (room_of o) xss)

    abbrev kept : Kept
    kept = calls_of (record { feed = zeros; list = o }) xss

    -- the same of the entry points' own numbers, with one list
    pub calls_3 : length s ≤ max_text → first_bad s ≡ None → ((end_of kept.feed kept.list).number ≡ 14 → ⊥)
        → (p : ℕ) → (((end_of kept.feed kept.list).number ≡ 3) × ((end_of kept.feed kept.list).place ≡ p)) ↔ (read_of edition level s n r b ≡ refused_by NoToken p)
    calls_3 l u h p = as_read s p l u (same_calls xss o l u h p)
