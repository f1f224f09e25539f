-- A reading at a level, told of an equal one.
use Rattle.std.specs.Prelude.{ℕ, Result}
use Prim.Native.Nat.{ℕ}
use mathlib.Core.Path.{◌≡◌, ap, ◌∙◌}
use mathlib.Core.List.{List}
use Rattle.structure.specs.declared.Edition.{Edition}
use Rattle.structure.specs.declared.Level.{Level}
use Rattle.structure.specs.declared.Refusal.{Refusal}
use Rattle.reader.specs.Read.{read_of, numbered, reported, Leaves}
use Rattle.numbers.specs.Numbers.{read_numbers}

module _ (o : Edition) (l m : Level) (e : l ≡ m) (s : List ℕ) (n r b : ℕ) (x : Result (ℕ × ℕ × ℕ) Refusal) where
  pub numbers_at : numbered x ≡ reported o l s n r b → read_numbers (numbered x) ≡ read_numbers (reported o m s n r b)
  numbers_at h = ap read_numbers h ∙ ap (λ (k : Level). read_numbers (reported o k s n r b)) e

  pub left_at : {ns rs st ns' rs' st' : List ℕ} → x ≡ read_of o l s n r b → Leaves l s x ns rs st ns' rs' st' → Leaves m s (read_of o m s n r b) ns rs st ns' rs' st'
  left_at q h = rw (← e, ← q) h
