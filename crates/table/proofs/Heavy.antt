-- Laws of texts that are judged by what is known of the store.
use Rattle.std.specs.Prelude.{ℕ, Option, Some, None}
use Prim.Native.Nat.{ℕ, ◌+◌}
use mathlib.Core.Path.{◌≡◌, refl, ◌∙◌}
use mathlib.Core.List.{List}
use lib.ListN.{take, drop}
use Rattle.text.specs.Utf8.{first_bad}
use Rattle.known.specs.Stops as Known
use Rattle.known.proofs.Cuts.{drop_take}
use Rattle.table.specs.Record.{part}
use Rattle.table.specs.Check.{is_through, is_utf8}
use Rattle.table.proofs.Texts.{part_between}

same : (x : Option ℕ) → Known.is_through x ≡ is_through x
same None = refl
same (Some i) = refl

pub part_utf8 : (st : List ℕ) (p e : ℕ) → Known.is_part st p e ≡ is_utf8 (drop p (take e st))
unfolding Known.is_part is_utf8
part_utf8 st p e = same (first_bad (drop p (take e st)))

pub part_is : (st : List ℕ) (p n : ℕ) → drop p (take (p + n) st) ≡ part st p n
part_is st p n = drop_take p (p + n) st ∙ part_between st p n
