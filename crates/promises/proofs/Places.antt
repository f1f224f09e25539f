-- Where the reader's 3 stands: only the list of tokens gives one, and its place is known.
use Rattle.std.specs.Prelude.{ℕ, Option, Some, None, Result}
use Prim.Native.Nat.{ℕ, ◌≤◌}
use mathlib.Core.Path.{◌≡◌, refl, ap}
use mathlib.Core.Logic.{inl, inr, ⊎_elim}
use mathlib.Core.List.{List}
use native.Mathlib.Omega.{arith}
use lib.Dec.{leb}
use lib.ListN.{length}
use borrow.Author.Tests.{le-leb}
use Rattle.text.specs.Limits.{max_text}
use Rattle.text.specs.Utf8.{first_bad}
use Rattle.text.proofs.Booleans.{choose_by}
use Rattle.token.specs.Lists.{tokens_of, past_last}
use Rattle.token.specs.Faults.{FaultFrom}
use Rattle.token.proofs.Faults.{text_place}
use Rattle.structure.specs.declared.Edition.{Edition}
use Rattle.structure.specs.declared.Level.{Level}
use Rattle.structure.specs.declared.Why.{Why}
use Rattle.structure.specs.declared.Why.TheVariants.{NotUtf8, NoToken}
use Rattle.structure.specs.Refusals.{because}
use Rattle.structure.proofs.Reasons.{OfStructure, OfValues}
use Rattle.structure.specs.declared.Refusal.{Refusal}
use Rattle.reader.specs.Read.{number_of, numbered, refused_by, checked_by, judged_of, listed_of, read_of}
use Rattle.reader.proofs.Reasons.{OfRoom, judged_why}

-- neither structure nor a value nor room gives 3
not_structure : {w : Why} → OfStructure w → w ≡ NoToken → ⊥
not_structure (inl q) e = let z : ◌≡◌ {A = ℕ} 0 1 = cc in omega arith
not_structure (inr q) e = let z : ◌≡◌ {A = ℕ} 0 1 = cc in omega arith

not_values : {edition : Edition} {w : Why} → OfValues edition w → w ≡ NoToken → ⊥
not_values (inl q) e = let z : ◌≡◌ {A = ℕ} 0 1 = cc in omega arith
not_values (inr (inl q)) e = let z : ◌≡◌ {A = ℕ} 0 1 = cc in omega arith
not_values (inr (inr (inl q))) e = let z : ◌≡◌ {A = ℕ} 0 1 = cc in omega arith
not_values (inr (inr (inr (inl q)))) e = let z : ◌≡◌ {A = ℕ} 0 1 = cc in omega arith
not_values (inr (inr (inr (inr (inl q))))) e = let z : ◌≡◌ {A = ℕ} 0 1 = cc in omega arith
not_values (inr (inr (inr (inr (inr (o, q)))))) e = let z : ◌≡◌ {A = ℕ} 0 1 = cc in omega arith

not_room : {w : Why} → OfRoom w → w ≡ NoToken → ⊥
not_room (inl q) e = let z : ◌≡◌ {A = ℕ} 0 1 = cc in omega arith
not_room (inr (inl q)) e = let z : ◌≡◌ {A = ℕ} 0 1 = cc in omega arith
not_room (inr (inr q)) e = let z : ◌≡◌ {A = ℕ} 0 1 = cc in omega arith

module _ (edition : Edition) (level : Level) (s : List ℕ) (n r b : ℕ) where
  not_judged : (p : ℕ) → judged_of edition level s n r b ≡ refused_by NoToken p → ⊥
  not_judged p e =
      ⊎_elim (λ h. not_structure h refl) (λ h. ⊎_elim (λ h. not_values h refl) (λ h. not_room h refl) h) (judged_why edition level s n r b (because NoToken p) e)

  module _ (p : ℕ) where
    by_list : (c : Option ℕ) → checked_by c (refused_by NoToken) (λ u. judged_of edition level s n r b) ≡ refused_by NoToken p → c ≡ Some p
    unfolding numbered
    by_list (Some q) e = ap (λ (x : Result (ℕ × ℕ × ℕ) Refusal). Some (numbered x).place) e
    by_list None e = absurd (not_judged p e)

    by_utf8 : (c : Option ℕ) → checked_by c (refused_by NotUtf8) (λ u. listed_of edition level s n r b) ≡ refused_by NoToken p → (tokens_of s).fault ≡ Some p
    unfolding listed_of numbered number_of
    by_utf8 None e = by_list (tokens_of s).fault e
    by_utf8 (Some q) e = let z : ◌≡◌ {A = ℕ} 2 3 = ap (λ (x : Result (ℕ × ℕ × ℕ) Refusal). (numbered x).number) e in absurd (omega arith)

    -- the reader's 3 is that of the text's list of tokens
    pub reader_3 : read_of edition level s n r b ≡ refused_by NoToken p → (tokens_of s).fault ≡ Some p
    unfolding read_of numbered number_of
    reader_3 =
        choose_by (λ (x : Result (ℕ × ℕ × ℕ) Refusal). x ≡ refused_by NoToken p → (tokens_of s).fault ≡ Some p) (leb (length s) max_text) _ _ (λ _ e. by_utf8 (first_bad s) e)
        (λ _ e.
        let z : ◌≡◌ {A = ℕ} 1 3 = ap (λ (x : Result (ℕ × ℕ × ℕ) Refusal). (numbered x).number) e in
        absurd (omega arith))

    -- and stands where what follows the last token begins, or at its bad escape
    pub reader_place : read_of edition level s n r b ≡ refused_by NoToken p → FaultFrom s (past_last s) p
    reader_place e = text_place s p (reader_3 e)

    -- and the other way: where nothing comes before it, the list's 3 is the reader's
    pub reads_3 : length s ≤ max_text → first_bad s ≡ None → (tokens_of s).fault ≡ Some p → read_of edition level s n r b ≡ refused_by NoToken p
    unfolding read_of listed_of
    reads_3 l u e = rw (le-leb (length s) max_text l, u, e) refl
