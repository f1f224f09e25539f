-- By the kind of the token, a law of Faults for each. What `literal_fault` is told of the opening bytes, 2 for kind 24 and 1 for the two other
-- literals, is what the definition takes (`opens_two`, `opens_one`).
use Rattle.std.specs.Prelude.{None}
use Rattle.structure.proofs.Faults.{value_word, value_number, value_minus, value_quoted, value_insens, value_none}
use mathlib.Core.Logic.{inl, inr, ⊎_elim}
use native.Mathlib.Omega.{arith}
use Rattle.structure.proofs.Bytes.{opens_one, opens_two}
use Rattle.structure.proofs.inner.values.fault_at.Goals as goal

pub literal_fault-requires : goal.literal_fault-requires
literal_fault-requires c = record {
  lent = c.requires.lent;
  at_in_bounds = c.requires.at_in_bounds;
  skip_value = opens_one _ _ _ c.kind_at-k.ensures (λ h. ⊎_elim (λ q. omega arith) (λ q. omega arith) c.in-23.is);
}

pub literal_fault-requires-in-24 : goal.literal_fault-requires-in-24
literal_fault-requires-in-24 c = record {
  lent = c.requires.lent;
  at_in_bounds = c.requires.at_in_bounds;
  skip_value = opens_two _ _ _ c.kind_at-k.ensures c.in-24.is;
}

pub returns-in-18 : goal.returns-in-18
returns-in-18 c = value_word _ _ _ _ _ _ c.kind_at-k.ensures _ c.in-18.is c.word_fault.ensures

pub returns-in-20 : goal.returns-in-20
returns-in-20 c = value_number _ _ _ _ _ _ c.kind_at-k.ensures _ c.in-20.is c.number_fault.ensures

pub returns-in-21 : goal.returns-in-21
returns-in-21 c = value_minus _ _ _ _ _ _ c.kind_at-k.ensures _ c.in-21.is c.peek_fault.ensures

pub returns-in-23 : goal.returns-in-23
returns-in-23 c = value_quoted _ _ _ _ _ _ c.kind_at-k.ensures _ c.in-23.is c.literal_fault.ensures

pub returns-in-24 : goal.returns-in-24
returns-in-24 c = value_insens _ _ _ _ _ _ c.kind_at-k.ensures _ c.in-24.is c.literal_fault-in-24.ensures

pub returns-in_default : goal.returns-in_default
returns-in_default c = let r = c.in_default.in_default-own.rest in value_none _ _ _ _ _ _ c.kind_at-k.ensures None r.0.0.0.0.1 r.0.0.0.1 r.0.0.1 (λ q. r.0.1 (inl q)) r.1 (λ q. r.0.1 (inr q))
