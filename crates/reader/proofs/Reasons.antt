-- Past the list of tokens a text is refused by structure, by a value or for want of room, and for nothing else.
use Rattle.std.specs.Prelude.{ℕ, Option, Some, None, Result, Ok, Err}
use Prim.Native.Nat.{ℕ, ◌≤◌}
use mathlib.Core.Path.{◌≡◌, refl}
use mathlib.Core.Logic.{◌⊎◌, inl, inr, ⊎_elim}
use mathlib.Core.List.{List}
use native.Mathlib.Omega.{arith}
use lib.Dec.{leb}
use lib.ListN.{length}
use Rattle.text.specs.Limits.{max_text}
use Rattle.text.specs.Utf8.{first_bad}
use Rattle.token.specs.Lists.{tokens_of}
use Rattle.text.proofs.Booleans.{choose_by}
use Rattle.table.specs.Tree.{Span, Rule}
use Rattle.structure.specs.declared.Edition.{Edition}
use Rattle.structure.specs.declared.Edition.TheVariants.{First}
use Rattle.structure.specs.declared.Level.{Level}
use Rattle.structure.specs.declared.Why.{Why}
use Rattle.structure.specs.declared.Why.TheVariants.{TooLong, NotUtf8, NoToken, NotAllowed, TooDeep, Over, Zero, PeekRange, NotScalar, NotPlain, Above, RulesRoom, NodesRoom, StoreRoom}
use Rattle.structure.specs.declared.Refusal.{Refusal}
use Rattle.structure.specs.Values.{faults}
use Rattle.structure.specs.Structure.{Ruled, rules, unruled, grammar}
use Rattle.structure.proofs.Reasons.{OfStructure, OfValues, grammar_why, faults_why}
use Rattle.reader.specs.Read.{room_by, faulty, checked_by, refused_by, ruled_by, judged_of, listed_of, read_of, number_of}

-- 12, 10 and 11
abbrev pub OfRoom : Why → Type 0
OfRoom w = (w ≡ RulesRoom) ⊎ (w ≡ NodesRoom) ⊎ (w ≡ StoreRoom)

module _ (edition : Edition) where
  abbrev Judged : Result (ℕ × ℕ × ℕ) Refusal → Type 0
  Judged (Ok (n, r, b)) = Unit {0}
  Judged (Err r) = OfStructure r.why ⊎ OfValues edition r.why ⊎ OfRoom r.why

  by_room : (k c z n r b : ℕ) → Judged (room_by k c z n r b)
  unfolding room_by
  by_room k c z n r b =
      choose_by Judged (leb k r) _ _
      (λ e. choose_by Judged (leb c n) _ _
      (λ e. choose_by Judged (leb z b) _ _ (λ e. tt) (λ e. inr (inr (inr (inr refl))))) (λ e. inr (inr (inr (inl refl)))))
      (λ e. inr (inr (inl refl)))

  by_fault : (f : Option Refusal) (g : Unit {0} → Result (ℕ × ℕ × ℕ) Refusal) → ((r : Refusal) → f ≡ Some r → OfValues edition r.why) → Judged (g tt) → Judged (faulty f g)
  by_fault None g h x = x
  by_fault (Some r) g h x = inr (inl (h r refl))

  by_rules : (m : Ruled) (g : List (Rule Span) → Result (ℕ × ℕ × ℕ) Refusal) → ((r : Refusal) → m ≡ unruled r → OfStructure r.why) → ((us : List (Rule Span)) → Judged (g us)) → Judged (ruled_by m g)
  by_rules (rules us) g h x = x us
  by_rules (unruled r) g h x = inl (h r refl)

  module _ (level : Level) (s : List ℕ) (n r b : ℕ) where
    judged : Judged (judged_of edition level s n r b)
    unfolding judged_of
    judged = by_rules (grammar level s) _ (grammar_why s level) (λ us. by_fault (faults edition level s) _ (faults_why edition level s) (by_room _ _ _ n r b))

    pub judged_why : (x : Refusal) → judged_of edition level s n r b ≡ Err x → OfStructure x.why ⊎ OfValues edition x.why ⊎ OfRoom x.why
    judged_why x e = rw e at judged

-- the numbers of reasons
pub number_range : (w : Why) → (1 ≤ number_of w) × (number_of w ≤ 15)
unfolding number_of
number_range TooLong = (omega arith, omega arith)
number_range NotUtf8 = (omega arith, omega arith)
number_range NoToken = (omega arith, omega arith)
number_range NotAllowed = (omega arith, omega arith)
number_range TooDeep = (omega arith, omega arith)
number_range Over = (omega arith, omega arith)
number_range Zero = (omega arith, omega arith)
number_range PeekRange = (omega arith, omega arith)
number_range NotScalar = (omega arith, omega arith)
number_range NotPlain = (omega arith, omega arith)
number_range Above = (omega arith, omega arith)
number_range RulesRoom = (omega arith, omega arith)
number_range NodesRoom = (omega arith, omega arith)
number_range StoreRoom = (omega arith, omega arith)

-- ---- the first edition: no number above 13

abbrev Low : Why → Type 0
Low w = number_of w ≤ 13

low_structure : (w : Why) → OfStructure w → Low w
unfolding number_of
low_structure w (inl e) = rw e (omega arith)
low_structure w (inr e) = rw e (omega arith)

low_values : (w : Why) → OfValues First w → Low w
unfolding number_of
low_values w (inl e) = rw e (omega arith)
low_values w (inr (inl e)) = rw e (omega arith)
low_values w (inr (inr (inl e))) = rw e (omega arith)
low_values w (inr (inr (inr (inl e)))) = rw e (omega arith)
low_values w (inr (inr (inr (inr (inl e))))) = rw e (omega arith)
low_values w (inr (inr (inr (inr (inr (o, e)))))) = let z : ◌≡◌ {A = ℕ} 0 1 = cc in absurd (omega arith)

low_room : (w : Why) → OfRoom w → Low w
unfolding number_of
low_room w (inl e) = rw e (omega arith)
low_room w (inr (inl e)) = rw e (omega arith)
low_room w (inr (inr e)) = rw e (omega arith)

abbrev LowReading : Result (ℕ × ℕ × ℕ) Refusal → Type 0
LowReading (Ok (n, r, b)) = Unit {0}
LowReading (Err x) = Low x.why

low_check : (w : Why) (c : Option ℕ) (g : Unit {0} → Result (ℕ × ℕ × ℕ) Refusal) → Low w → LowReading (g tt) → LowReading (checked_by c (refused_by w) g)
low_check w (Some p) g h x = h
low_check w None g h x = x

module _ (level : Level) (s : List ℕ) (n r b : ℕ) where
  low_judged : (a : Result (ℕ × ℕ × ℕ) Refusal) → judged_of First level s n r b ≡ a → LowReading a
  low_judged (Ok (x, y, z)) e = tt
  low_judged (Err x) e =
      ⊎_elim (low_structure x.why) (λ h. ⊎_elim (low_values x.why) (low_room x.why) h) (judged_why First level s n r b x e)

  low_read : LowReading (read_of First level s n r b)
  unfolding read_of listed_of number_of
  low_read =
      choose_by LowReading (leb (length s) max_text) _ _
      (λ e. low_check NotUtf8 (first_bad s) _ (omega arith) (low_check NoToken (tokens_of s).fault _ (omega arith) (low_judged (judged_of First level s n r b) refl))) (λ e. omega arith)

  pub first_numbers : (x : Refusal) → read_of First level s n r b ≡ Err x → (1 ≤ number_of x.why) × (number_of x.why ≤ 13)
  first_numbers x e = ((number_range x.why).0, rw e at low_read)
