-- What a reading says of values: one that succeeded has numbers in their bounds, and one refused for a value is refused for the first of the trees that is wrong.
-- No other phase gives the numbers of values, so the refusal is that of `faults`.
use Rattle.std.specs.Prelude.{ℕ, Option, Some, None, Result, Ok, Err}
use Prim.Native.Nat.{ℕ}
use mathlib.Core.Path.{◌≡◌, refl, sym, ap, ◌∙◌}
use mathlib.Core.Bool.{true, false}
use mathlib.Core.Logic.{inl, inr}
use mathlib.Core.List.{List, [], ◌∷◌}
use native.Mathlib.Omega.{arith}
use lib.Dec.{leb}
use lib.ListN.{length}
use Rattle.text.specs.Booleans.{among}
use Rattle.text.specs.Limits.{max_text}
use Rattle.text.specs.Utf8.{first_bad}
use Rattle.text.proofs.Booleans.{choose_by}
use Rattle.token.specs.Lists.{tokens_of}
use Rattle.table.specs.Tree.{Span, Rule}
use Rattle.structure.specs.declared.Edition.{Edition}
use Rattle.structure.specs.declared.Level.{Level}
use Rattle.structure.specs.declared.Why.{Why}
use Rattle.structure.specs.declared.Why.TheVariants.{TooLong, NotUtf8, NoToken, RulesRoom, NodesRoom, StoreRoom}
use Rattle.structure.specs.declared.Refusal.{Refusal}
use Rattle.structure.specs.Values.{faults}
use Rattle.structure.specs.Structure.{Ruled, rules, unruled, grammar}
use Rattle.structure.specs.Counts.{counted_rules}
use Rattle.structure.specs.Held.{FirstWrong}
use Rattle.structure.proofs.Reasons.{OfStructure, OfValues, grammar_why}
use Rattle.structure.proofs.Judged.{first_wrong}
use Rattle.structure.proofs.Fair.{sound_counted}
use Rattle.build.specs.Rules.{ruled_of, rules_read}
use Rattle.reader.specs.Read.{number_of, room_by, faulty, checked_by, refused_by, ruled_by, judged_of, listed_of, read_of}
use Rattle.reader.proofs.Counts.{read_counts}

-- 5, 6, 7, 8, 13 and 15, and no other number
values_numbers : (edition : Edition) (w : Why) → OfValues edition w → among (5 ∷ 6 ∷ 7 ∷ 8 ∷ 13 ∷ 15 ∷ []) (number_of w) ≡ true
unfolding number_of
values_numbers edition w (inl e) = rw e
values_numbers edition w (inr (inl e)) = rw e
values_numbers edition w (inr (inr (inl e))) = rw e
values_numbers edition w (inr (inr (inr (inl e)))) = rw e
values_numbers edition w (inr (inr (inr (inr (inl e))))) = rw e
values_numbers edition w (inr (inr (inr (inr (inr (o, e)))))) = rw e

not_values : {P : Type 0} (edition : Edition) (w : Why) → among (5 ∷ 6 ∷ 7 ∷ 8 ∷ 13 ∷ 15 ∷ []) (number_of w) ≡ false → OfValues edition w → P
not_values edition w e v =
    let f = values_numbers edition w v in
    let z : ◌≡◌ {A = ℕ} 0 1 = cc in
    absurd (omega arith)

not_structure : {P : Type 0} (edition : Edition) (w : Why) → OfStructure w → OfValues edition w → P
unfolding number_of
not_structure edition w (inl e) v = not_values edition w (rw e) v
not_structure edition w (inr e) v = not_values edition w (rw e) v

module _ (edition : Edition) (level : Level) (s : List ℕ) (n r b : ℕ) where
  abbrev Told : Result (ℕ × ℕ × ℕ) Refusal → Type 0
  Told (Ok (x, y, z)) = Unit {0}
  Told (Err x) = OfValues edition x.why → FirstWrong edition level s (rules_read level s) x

  by_room : (k c z : ℕ) → Told (room_by k c z n r b)
  unfolding room_by number_of
  by_room k c z =
      choose_by Told (leb k r) _ _
      (λ e. choose_by Told (leb c n) _ _ (λ e. choose_by Told (leb z b) _ _ (λ e. tt) (λ e. not_values edition StoreRoom refl)) (λ e. not_values edition NodesRoom refl)) (λ e. not_values edition RulesRoom refl)

  by_fault : (us : List (Rule Span)) → grammar level s ≡ rules us → (f : Option Refusal) (g : Unit {0} → Result (ℕ × ℕ × ℕ) Refusal) → faults edition level s ≡ f → Told (g tt) → Told (faulty f g)
  by_fault us h None g e x = x
  by_fault us h (Some y) g e x = λ v. first_wrong edition level s (rules_read level s) y (h ∙ ap rules (sym (ap ruled_of h))) e

  by_rules : (m : Ruled) (g : List (Rule Span) → Result (ℕ × ℕ × ℕ) Refusal) → grammar level s ≡ m → ((us : List (Rule Span)) → grammar level s ≡ rules us → Told (g us)) → Told (ruled_by m g)
  by_rules (rules us) g e x = x us e
  by_rules (unruled y) g e x = not_structure edition y.why (grammar_why s level y e)

  by_check : (w : Why) (c : Option ℕ) (g : Unit {0} → Result (ℕ × ℕ × ℕ) Refusal) → among (5 ∷ 6 ∷ 7 ∷ 8 ∷ 13 ∷ 15 ∷ []) (number_of w) ≡ false → Told (g tt) → Told (checked_by c (refused_by w) g)
  by_check w (Some p) g e x = not_values edition w e
  by_check w None g e x = x

  told : Told (read_of edition level s n r b)
  unfolding read_of listed_of judged_of number_of
  told =
      choose_by Told (leb (length s) max_text) _ _
      (λ e. by_check NotUtf8 (first_bad s) _ refl
      (by_check NoToken (tokens_of s).fault _ refl (by_rules (grammar level s) _ refl (λ us e. by_fault us e (faults edition level s) _ refl (by_room _ _ _)))))
      (λ e. not_values edition TooLong refl)

  -- a text that is refused by 5, 6, 7, 8, 13 or 15
  pub read_wrong : (x : Refusal) → read_of edition level s n r b ≡ Err x → OfValues edition x.why → FirstWrong edition level s (rules_read level s) x
  read_wrong x e = rw e at told

  -- a text that is read
  pub read_counted : (x y z : ℕ) → read_of edition level s n r b ≡ Ok (x, y, z) → counted_rules (rules_read level s) ≡ true
  read_counted x y z e =
      let c = read_counts edition level s n r b e in
      sound_counted edition level s (rules_read level s) c.read c.sound
