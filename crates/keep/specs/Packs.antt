-- A state in numbers, as the code has it.
use Rattle.states.specs.Keep.{Parts, parts}
use Rattle.keep.specs.declared.Packed.{Packed}

abbrev pub parts_by : Packed → Parts
parts_by p = parts p.code p.kind p.backslash p.depth
