-- A loop over a packet: what was given so far, and the run of what is left, are the whole run.
use Prim.Native.Nat.{ℕ, ◌+◌, ◌≤◌, ◌<◌}
use mathlib.Core.Path.{◌≡◌, refl, ap, ◌∙◌}
use mathlib.Core.List.{List, [], ◌++◌, append-nil}
use lib.ListN.{length, get_or, drop}
use Rattle.text.proofs.Tests.{at_byte, at_end}
use Rattle.token.specs.Lists.{Tok}
use Rattle.states.specs.declared.Stand.{Stand}
use Rattle.states.specs.Steps.{Step, Goes, Faults, step_of, given, followed, ran_of}
use Rattle.states.proofs.Cuts.{given_given}

-- before the first byte
pub loop_starts : (z : Step) → z ≡ given [] z
loop_starts (Goes ts c) = refl
loop_starts (Faults n p) = refl

module _ (r : ℕ) (xs : List ℕ) (z : Step) (ts : List Tok) (c : Stand) (i : ℕ) (so_far : z ≡ given ts (ran_of r c (drop i xs))) where
  first_byte : i < length xs → ran_of r c (drop i xs) ≡ followed (step_of r c (get_or xs i 0)) (λ d. ran_of r d (drop (i + 1) xs))
  unfolding ran_of
  first_byte h = rw (at_byte xs i h) refl

  -- a byte that goes on
  pub loop_goes : (us : List Tok) (d : Stand) → i < length xs → step_of r c (get_or xs i 0) ≡ Goes us d → z ≡ given (ts ++ us) (ran_of r d (drop (i + 1) xs))
  loop_goes us d h e = so_far ∙ ap (given ts) (first_byte h ∙ ap (λ (y : Step). followed y (λ d. ran_of r d (drop (i + 1) xs))) e) ∙ given_given ts us (ran_of r d (drop (i + 1) xs))

  -- a byte that is refused
  pub loop_stops : (n p : ℕ) → i < length xs → step_of r c (get_or xs i 0) ≡ Faults n p → z ≡ Faults n p
  loop_stops n p h e = so_far ∙ ap (given ts) (first_byte h ∙ ap (λ (y : Step). followed y (λ d. ran_of r d (drop (i + 1) xs))) e)

  -- no byte is left
  pub loop_ends : length xs ≤ i → z ≡ Goes ts c
  unfolding ran_of
  loop_ends h = so_far ∙ rw (at_end xs i h) (ap (λ (us : List Tok). Goes us c) (append-nil ts))
