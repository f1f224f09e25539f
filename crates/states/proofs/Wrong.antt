-- Wrong programs, each shut out by a promise.
use Prim.Native.Nat.{ℕ}
use mathlib.Core.Path.{◌≡◌, refl, sym, ap, ◌∙◌}
use mathlib.Core.List.{List, [], ◌∷◌}
use native.Mathlib.Omega.{arith}
use lib.ListN.{get_or}
use Rattle.text.specs.Classes.{class_of}
use Rattle.token.specs.Tokens.{one_kind}
use Rattle.states.specs.Machine.{class_row, push_row}
use Rattle.states.specs.Utf.{utf_lead}
use Rattle.states.specs.Keep.{lit_of, state_of, utf_of}
use Rattle.states.specs.declared.Feed.{Feed}
use Rattle.states.specs.declared.Call.{Call}
use Rattle.states.specs.Steps.{long_at, refused_at, over_at, step_of, ran_of, last_of, fed_of, done_of}
use Rattle.states.specs.Feed.{stand_of, fits, opened, reported, written, feed_of, feed_in, end_of}
use Rattle.states.proofs.Numbers.{zeros}

-- room for two records
abbrev list : List ℕ
list = 7 ∷ 7 ∷ 7 ∷ 7 ∷ 7 ∷ 7 ∷ []

-- PUSHx; a=% ; C3; the word a
abbrev push_x : List ℕ
push_x = 80 ∷ 85 ∷ 83 ∷ 72 ∷ 120 ∷ []

abbrev faulty : List ℕ
faulty = 97 ∷ 61 ∷ 37 ∷ []

abbrev half : List ℕ
half = 0xc3 ∷ []

abbrev word : List ℕ
word = 97 ∷ []

-- what the definitions say of them
record Facts : Type 0 where
  push : (feed_of zeros push_x list).number ≡ 3
  kept : get_or (feed_in zeros faulty list) 0 0 ≡ 7
  early : (feed_of zeros half list).number ≡ 3
  unknown : (feed_of zeros word list).records ≡ 0
  last : (end_of (feed_of zeros word list).next list).records ≡ 1

facts : Facts
unfolding feed_of feed_in end_of reported written opened stand_of state_of utf_of fits lit_of fed_of done_of ran_of step_of last_of long_at refused_at over_at class_row class_of one_kind push_row utf_lead
facts = record { push = refl; kept = refl; early = refl; unknown = refl; last = refl }

module _ (f : Feed → List ℕ → Call) (meets : (q : Feed) (xs : List ℕ) → f q xs ≡ feed_of q xs list) where
  -- one that judges PUSH only when the text ends
  pub push_late : (f zeros push_x).number ≡ 0 → ⊥
  push_late e =
      let n : ◌≡◌ {A = ℕ} 3 0 = sym facts.push ∙ ap (λ (c : Call). c.number) (sym (meets zeros push_x)) ∙ e in
      omega arith

  -- one that waits for a character to be whole
  pub waits_for_character : (f zeros half).number ≡ 0 → ⊥
  waits_for_character e =
      let n : ◌≡◌ {A = ℕ} 3 0 = sym facts.early ∙ ap (λ (c : Call). c.number) (sym (meets zeros half)) ∙ e in
      omega arith

  -- one that gives a word whose end isn't known
  pub word_early : (f zeros word).records ≡ 1 → ⊥
  word_early e =
      let n : ◌≡◌ {A = ℕ} 0 1 = sym facts.unknown ∙ ap (λ (c : Call). c.records) (sym (meets zeros word)) ∙ e in
      omega arith

-- one that writes the tokens before a fault, of a packet that is refused
pub writes_refused : (f : List ℕ → List ℕ) → ((xs : List ℕ) → f xs ≡ feed_in zeros xs list) → get_or (f faulty) 0 0 ≡ 18 → ⊥
writes_refused f meets e =
    let n : ◌≡◌ {A = ℕ} 7 18 = sym facts.kept ∙ ap (λ (o : List ℕ). get_or o 0 0) (sym (meets faulty)) ∙ e in
    omega arith

-- one that loses the token that stands at the end
pub loses_last : (f : Feed → Call) → ((q : Feed) → f q ≡ end_of q list) → (f (feed_of zeros word list).next).records ≡ 0 → ⊥
loses_last f meets e =
    let n : ◌≡◌ {A = ℕ} 1 0 = sym facts.last ∙ ap (λ (c : Call). c.records) (sym (meets (feed_of zeros word list).next)) ∙ e in
    omega arith
