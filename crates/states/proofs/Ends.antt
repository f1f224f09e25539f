-- What the end of a text says.
use Rattle.std.specs.Prelude.{Some, None}
use Prim.Native.Nat.{ℕ, suc, ◌+◌, ◌≤◌}
use mathlib.Core.Path.{◌≡◌, refl, sym, ap, ◌∙◌}
use mathlib.Core.List.{List, [], ◌∷◌, ◌++◌}
use mathlib.Core.Logic.{◌⊎◌, inl, inr}
use native.Mathlib.Omega.{arith}
use lib.ListN.{length, length-append}
use borrow.Author.Tests.{lt-ltb}
use Rattle.text.specs.Utf8.{first_bad}
use Rattle.token.specs.Lists.{Tok, tok, Tokens, tokens_of}
use Rattle.states.specs.declared.Stand.{Stand}
use Rattle.states.specs.declared.Utf.TheVariants.{Whole}
use Rattle.states.specs.Machine.{feed, finish, fresh}
use Rattle.states.specs.Utf.{utf_end, utf_feed}
use Rattle.states.specs.Steps.{Step, Goes, Faults, unless, over_at, begin, last_of}
use Rattle.states.specs.Packets.{Last}
use Rattle.states.proofs.Main.{machine}
use Rattle.states.proofs.Utfs.{machine_2}
use Rattle.states.proofs.Known.{at_right}
use Rattle.states.proofs.Runs.{unless_goes, unless_faults, gave, stand_at}
use Rattle.states.proofs.Shown.{Over, over_bad}

-- the tokens and the fault at the end
abbrev ending : List ℕ → Tokens
ending s = finish (feed fresh s).next

fault_is : (s : List ℕ) → (ending s).fault ≡ (tokens_of s).fault
fault_is s = ap (λ (r : Tokens). r.fault) (machine s)

pub list_is : (s : List ℕ) → gave s ++ (ending s).list ≡ (tokens_of s).list
list_is s = ap (λ (r : Tokens). r.list) (machine s)

utf_is : (s : List ℕ) → utf_end (utf_feed Whole 0 s) ≡ first_bad s
utf_is s = sym (machine_2 s)

over_enough : (room : ℕ) (ts : List Tok) (n : ℕ) → n + length ts ≤ room → over_at room n ts ≡ None
unfolding over_at
over_enough room [] n h = refl
over_enough room (t ∷ ts) n h = rw (lt-ltb n room (omega arith)) (over_enough room ts (suc n) (omega arith))

module _ (r : ℕ) (s : List ℕ) where
  -- a good text, and room
  pub end_goes : first_bad s ≡ None → (tokens_of s).fault ≡ None → length (tokens_of s).list ≤ r → last_of r (stand_at s) ≡ Goes (ending s).list begin
  unfolding last_of
  end_goes u f h =
      let l : length (gave s) + length (ending s).list ≤ r = rw (← length-append (gave s) (ending s).list, list_is s) h in
      rw (utf_is s ∙ u, fault_is s ∙ f, over_enough r (ending s).list (length (gave s)) l)

  pub record Ended (ts : List Tok) (d : Stand) : Type 0 where
    pub utf : first_bad s ≡ None
    pub fault : (tokens_of s).fault ≡ None
    pub fresh : d ≡ begin
    pub list : gave s ++ ts ≡ (tokens_of s).list

  -- a good end
  pub end_good : (ts : List Tok) (d : Stand) → last_of r (stand_at s) ≡ Goes ts d → Ended ts d
  unfolding last_of
  end_good ts d e =
      let a = unless_goes 2 (utf_end (utf_feed Whole 0 s)) _ ts d e in
      let b = unless_goes 3 (ending s).fault _ ts d a.1 in
      let c = unless_goes 14 (over_at r (length (gave s)) (ending s).list) _ ts d b.1 in
      let g : Goes (ending s).list begin ≡ Goes ts d = c.1 in
      let z : (ending s).list ≡ ts = cc in
      record { utf = sym (utf_is s) ∙ a.0; fault = sym (fault_is s) ∙ b.0; fresh = cc; list = ap (λ (us : List Tok). gave s ++ us) (sym z) ∙ list_is s }

  is-2 : (p : ℕ) → utf_end (utf_feed Whole 0 s) ≡ Some p → Last r s 2 p
  is-2 p e =
      record {
        refusal = refl;
        not_1 = λ z. omega arith;
        shows_2 = λ z. sym (utf_is s) ∙ e;
        shows_3 = λ z. absurd (omega arith);
        shows_14 = λ z. absurd (omega arith);
        good_2 = λ z. absurd (omega arith);
        good_3 = λ z. absurd (omega arith);
      }

  is-3 : (p : ℕ) → utf_end (utf_feed Whole 0 s) ≡ None → (ending s).fault ≡ Some p → Last r s 3 p
  is-3 p u e =
      record {
        refusal = refl;
        not_1 = λ z. omega arith;
        shows_2 = λ z. absurd (omega arith);
        shows_3 = λ z. sym (fault_is s) ∙ e;
        shows_14 = λ z. absurd (omega arith);
        good_2 = λ z. sym (utf_is s) ∙ u;
        good_3 = λ z. absurd (omega arith);
      }

  is-14 : (p : ℕ) → utf_end (utf_feed Whole 0 s) ≡ None → (ending s).fault ≡ None → Over r (length (gave s)) p (ending s).list → Last r s 14 p
  is-14 p u f o =
      record {
        refusal = refl;
        not_1 = λ z. omega arith;
        shows_2 = λ z. absurd (omega arith);
        shows_3 = λ z. absurd (omega arith);
        shows_14 = λ z. (o.kind, o.end, length (gave s) + o.index, rw (← list_is s) (at_right (gave s) (ending s).list o.index (tok o.kind p o.end) o.is), o.full);
        good_2 = λ z. sym (utf_is s) ∙ u;
        good_3 = λ z. sym (fault_is s) ∙ f;
      }

  by_14 : (n p : ℕ) → utf_end (utf_feed Whole 0 s) ≡ None → (ending s).fault ≡ None → ((14 ≡ n) × (over_at r (length (gave s)) (ending s).list ≡ Some p)) ⊎ ((over_at r (length (gave s)) (ending s).list ≡ None) × (Goes (ending s).list begin ≡ Faults n p)) → Last r s n p
  by_14 n p u f (inl h) = let e : 14 ≡ n = h.0 in rw (← e) (is-14 p u f (over_bad r (ending s).list (length (gave s)) p h.1))
  by_14 n p u f (inr h) = let e : Goes (ending s).list begin ≡ Faults n p = h.1 in let z : ◌≡◌ {A = ℕ} 0 1 = cc in absurd (omega arith)

  abbrev roomed : Step
  roomed = unless 14 (over_at r (length (gave s)) (ending s).list) (λ _. Goes (ending s).list begin)

  by_3 : (n p : ℕ) → utf_end (utf_feed Whole 0 s) ≡ None → ((3 ≡ n) × ((ending s).fault ≡ Some p)) ⊎ (((ending s).fault ≡ None) × (roomed ≡ Faults n p)) → Last r s n p
  by_3 n p u (inl h) = let e : 3 ≡ n = h.0 in rw (← e) (is-3 p u h.1)
  by_3 n p u (inr h) = by_14 n p u h.0 (unless_faults 14 (over_at r (length (gave s)) (ending s).list) _ n p h.1)

  by_2 : (n p : ℕ) → ((2 ≡ n) × (utf_end (utf_feed Whole 0 s) ≡ Some p)) ⊎ ((utf_end (utf_feed Whole 0 s) ≡ None) × (unless 3 (ending s).fault (λ _. roomed) ≡ Faults n p)) → Last r s n p
  by_2 n p (inl h) = let e : 2 ≡ n = h.0 in rw (← e) (is-2 p h.1)
  by_2 n p (inr h) = by_3 n p h.0 (unless_faults 3 (ending s).fault _ n p h.1)

  -- a refused end
  pub end_says : (n p : ℕ) → last_of r (stand_at s) ≡ Faults n p → Last r s n p
  unfolding last_of
  end_says n p e = by_2 n p (unless_faults 2 (utf_end (utf_feed Whole 0 s)) _ n p e)
