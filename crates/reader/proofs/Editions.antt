-- The editions side by side, in what is answered: where an edition doesn't give 15, its answer is that of the first. (That the first never gives it is
-- `first_numbers` of Reasons.)
use Rattle.std.specs.Prelude.{ℕ, Option, Some, None, Result}
use Prim.Native.Nat.{ℕ}
use mathlib.Core.Path.{◌≡◌, refl, ap}
use mathlib.Core.Bool.{Bool, true, false}
use mathlib.Core.List.{List}
use lib.Dec.{leb}
use lib.ListN.{length}
use Rattle.text.specs.Booleans.{choose}
use Rattle.text.specs.Limits.{max_text}
use Rattle.text.specs.Utf8.{first_bad}
use Rattle.token.specs.Lists.{tokens_of}
use Rattle.table.specs.Tree.{Span, Rule}
use Rattle.structure.specs.declared.Edition.{Edition}
use Rattle.structure.specs.declared.Edition.TheVariants.{First}
use Rattle.structure.specs.declared.Level.{Level}
use Rattle.structure.specs.declared.Why.TheVariants.{NotUtf8, NoToken, Above}
use Rattle.structure.specs.Refusals.{fault_by}
use Rattle.structure.specs.Values.{faults}
use Rattle.structure.specs.Structure.{Ruled, rules, unruled, grammar}
use Rattle.structure.proofs.Editions.{second_adds}
use Rattle.structure.specs.declared.Refusal.{Refusal}
use Rattle.reader.specs.Read.{room_for, faulty, checked_by, refused_by, ruled_by, judged_of, listed_of, read_of}

-- an answer is another one, unless it is 15
abbrev Alike : Result (ℕ × ℕ × ℕ) Refusal → Result (ℕ × ℕ × ℕ) Refusal → Type 0
Alike a b = ((p : ℕ) → a ≡ refused_by Above p → ⊥) → a ≡ b

by_fault : (f g : Option Refusal) (x : Unit {0} → Result (ℕ × ℕ × ℕ) Refusal) → (((p : ℕ) → f ≡ fault_by Above p → ⊥) → f ≡ g) → Alike (faulty f x) (faulty g x)
by_fault f g x k h = ap (λ y. faulty y x) (k (λ p e. h p (ap (λ y. faulty y x) e)))

by_rules : (m : Ruled) (x y : List (Rule Span) → Result (ℕ × ℕ × ℕ) Refusal) → ((us : List (Rule Span)) → Alike (x us) (y us)) → Alike (ruled_by m x) (ruled_by m y)
by_rules (rules us) x y k h = k us h
by_rules (unruled r) x y k h = refl

by_check : (c : Option ℕ) (w : ℕ → Result (ℕ × ℕ × ℕ) Refusal) (x y : Unit {0} → Result (ℕ × ℕ × ℕ) Refusal) → Alike (x tt) (y tt) → Alike (checked_by c w x) (checked_by c w y)
by_check (Some p) w x y k h = refl
by_check None w x y k h = k h

by_length : (b : Bool) (x y z : Unit {0} → Result (ℕ × ℕ × ℕ) Refusal) → Alike (x tt) (y tt) → Alike (choose b x z) (choose b y z)
by_length true x y z k h = k h
by_length false x y z k h = refl

module _ (edition : Edition) (level : Level) (s : List ℕ) (n r b : ℕ) where
  judged_alike : Alike (judged_of edition level s n r b) (judged_of First level s n r b)
  unfolding judged_of
  judged_alike =
      by_rules (grammar level s) _ _ (λ us. by_fault (faults edition level s) (faults First level s) (λ u. room_for us n r b) (second_adds edition level s))

  listed_alike : Alike (listed_of edition level s n r b) (listed_of First level s n r b)
  unfolding listed_of
  listed_alike = by_check (tokens_of s).fault (refused_by NoToken) _ _ judged_alike

  -- where an edition doesn't refuse a text by 15, its answer is that of the first
  pub read_adds : ((p : ℕ) → read_of edition level s n r b ≡ refused_by Above p → ⊥) → read_of edition level s n r b ≡ read_of First level s n r b
  unfolding read_of
  read_adds = by_length (leb (length s) max_text) _ _ _ (by_check (first_bad s) (refused_by NotUtf8) _ _ listed_alike)
