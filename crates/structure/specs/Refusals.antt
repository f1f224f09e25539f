-- A refusal is a reason and a place.
use Rattle.std.specs.Prelude.{ℕ, Option, Some}
use Rattle.structure.specs.declared.Why.{Why}
use Rattle.structure.specs.declared.Refusal.{Refusal}

abbrev pub because : Why → ℕ → Refusal
because w p = record { why = w; place = p }

abbrev pub fault_by : Why → ℕ → Option Refusal
fault_by w p = Some (because w p)
