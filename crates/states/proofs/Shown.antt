-- What each of the four checks at a byte says of the text: shown, in every continuation; not shown, in some continuation not.
use Rattle.std.specs.Prelude.{ℕ, Option, Some, None}
use Prim.Native.Nat.{ℕ, suc, ◌+◌, ◌≤◌, ◌<◌}
use mathlib.Core.Path.{◌≡◌, refl, sym, ap, ◌∙◌}
use mathlib.Core.Bool.{Bool, true, false}
use mathlib.Core.List.{List, [], ◌∷◌, ◌++◌, append-nil}
use mathlib.Core.Logic.{◌⊎◌, inl, inr}
use native.Mathlib.Omega.{arith}
use lib.Dec.{ltb, eqb}
use lib.ListN.{length, length-append}
use lib.Seq.{append_snoc}
use borrow.Author.Tests.{ltb-true, ltb-false}
use Rattle.text.specs.Booleans.{choose}
use Rattle.text.proofs.Booleans.{choose_by}
use Rattle.text.specs.Limits.{max_text}
use Rattle.token.specs.Lists.{Tok, tok, start_of}
use Rattle.states.specs.declared.State.TheVariants.{Refused}
use Rattle.states.specs.declared.Conf.{Conf}
use Rattle.states.specs.declared.Utf.{Utf}
use Rattle.states.specs.declared.Utf.TheVariants.{Whole, Mid, Broke}
use Rattle.states.specs.declared.Stand.{Stand}
use Rattle.states.specs.Machine.{feed, fresh}
use Rattle.states.specs.Utf.{utf_feed, broken_at}
use Rattle.states.specs.Keep.{code_of, refused_code}
use Rattle.states.specs.Steps.{Step, Goes, Faults, unless, long_at, refused_at, over_at, moved_to, step_of, ran_of}
use Rattle.states.specs.Packets.{At, Waits, Full, Byte}
use Rattle.states.specs.Free.{Free-1, Free-2, Free-3}
use Rattle.states.proofs.Main.{refused_3}
use Rattle.states.proofs.Waits.{complete_3}
use Rattle.states.proofs.Utfs.{refused_2, complete_2}
use Rattle.states.proofs.Fits.{code_refused}
use Rattle.states.proofs.Keeps.{long_good, refused_good}
use Rattle.states.proofs.Bytes.{no_bytes}
use Rattle.states.proofs.Known.{at_right, known, unknown}
use Rattle.states.proofs.Runs.{unless_faults, followed_goes, gave, stand_at, took, stands_one, out_at, utf_at, next_one, gave_one, utf_one, length_one}

-- ---- the checks

no_good : {A : Type 0} (p : ℕ) → None ≡ Some p → A
no_good p e = let z : ◌≡◌ {A = ℕ} 0 1 = cc in absurd (omega arith)

long_bad : (n p : ℕ) → long_at n ≡ Some p → (max_text < n) × (p ≡ 0)
unfolding long_at
long_bad n p = choose_by (λ k. k ≡ Some p → (max_text < n) × (p ≡ 0)) (ltb max_text n) _ _ (λ e g. (ltb-true max_text n e, cc)) (λ e g. no_good p g)

broken_bad : (u : Utf) (p : ℕ) → broken_at u ≡ Some p → u ≡ Broke p
broken_bad Whole p e = no_good p e
broken_bad (Mid t s) p e = no_good p e
broken_bad (Broke q) p e = let z : q ≡ p = cc in ap Broke z

broken_good : (u : Utf) → broken_at u ≡ None → (p : ℕ) → u ≡ Broke p → ⊥
broken_good u g p e = no_good p (sym g ∙ ap broken_at e)

refused_bad : (c : Conf) (p : ℕ) → refused_at c ≡ Some p → (c.state ≡ Refused) × (c.start ≡ p)
unfolding refused_at
refused_bad c p = choose_by (λ k. k ≡ Some p → (c.state ≡ Refused) × (c.start ≡ p)) (eqb (code_of c.state) refused_code) _ _ (λ e g. (code_refused c.state e, cc)) (λ e g. no_good p g)

-- the first for which there is no room: the list is full before it, or was too short already
pub record Over (room n p : ℕ) (ts : List Tok) : Type 0 where
  pub kind : ℕ
  pub end : ℕ
  pub index : ℕ
  pub is : At ts index (tok kind p end)
  pub full : room ≤ n + index
  pub first : (n + index ≡ room) ⊎ (index ≡ 0)

over_here : (room n p : ℕ) (t : Tok) (ts : List Tok) → room ≤ n → start_of t ≡ p → Over room n p (t ∷ ts)
over_here room n p (tok k a b) ts h e =
    let z : a ≡ p = e in
    record { kind = k; end = b; index = 0; is = ap (λ (q : ℕ). tok k q b) z; full = omega arith; first = inr refl }

over_next : (room n p : ℕ) (t : Tok) (ts : List Tok) → n < room → Over room (suc n) p ts → Over room n p (t ∷ ts)
over_next room n p t ts h o =
    let f : room ≤ suc n + o.index = o.full in
    record { kind = o.kind; end = o.end; index = suc o.index; is = o.is; full = omega arith; first = inl (first_by o.first) }
  where
    first_by : (suc n + o.index ≡ room) ⊎ (o.index ≡ 0) → n + suc o.index ≡ room
    first_by (inl e) = omega arith
    first_by (inr e) = let f : room ≤ suc n + o.index = o.full in omega arith

over_by : (room n p : ℕ) (t : Tok) (ts : List Tok) (b : Bool) → ltb n room ≡ b → (over_at room (suc n) ts ≡ Some p → Over room (suc n) p ts)
    → choose b (λ u. over_at room (suc n) ts) (λ u. Some (start_of t)) ≡ Some p → Over room n p (t ∷ ts)
over_by room n p t ts true f h e = over_next room n p t ts (ltb-true n room f) (h e)
over_by room n p t ts false f h e = over_here room n p t ts (ltb-false n room f) (cc)

pub over_bad : (room : ℕ) (ts : List Tok) (n p : ℕ) → over_at room n ts ≡ Some p → Over room n p ts
unfolding over_at
over_bad room [] n p e = no_good p e
over_bad room (t ∷ ts) n p e = over_by room n p t ts (ltb n room) refl (λ g. over_bad room ts (suc n) p g) e

-- ---- after a text

-- nothing has shown: 1, 2 and 3 alike
pub record NoneShown (s : List ℕ) : Type 0 where
  pub short : length s ≤ max_text
  pub whole : broken_at (utf_feed Whole 0 s) ≡ None
  pub going : refused_at (feed fresh s).next ≡ None

pub sound_nil : NoneShown []
unfolding feed utf_feed refused_at
sound_nil = record { short = omega arith; whole = refl; going = refl }

pub free_1 : (s : List ℕ) → length s ≤ max_text → Free-1 s
free_1 s h = ([], no_bytes, rw (append-nil s) h)

pub free_2 : (s : List ℕ) → broken_at (utf_feed Whole 0 s) ≡ None → Free-2 s
free_2 s g = complete_2 s (broken_good (utf_feed Whole 0 s) g)

pub free_3 : (s : List ℕ) → refused_at (feed fresh s).next ≡ None → Free-3 s
free_3 s g = complete_3 s (λ e. refused_good (feed fresh s).next g (ap code_of e))

-- ---- at a byte

module _ (r : ℕ) (s : List ℕ) (x : ℕ) where
  sound_one : long_at (suc (length s)) ≡ None → broken_at (utf_at s x) ≡ None → refused_at (out_at s x).next ≡ None → NoneShown (s ++ x ∷ [])
  sound_one a b c =
      record {
        short = rw (length_one s x) (long_good (suc (length s)) a);
        whole = rw (utf_one s x) b;
        going = rw (next_one s x) c;
      }

  pub sound_step : (ts : List Tok) (d : Stand) → step_of r (stand_at s) x ≡ Goes ts d → NoneShown (s ++ x ∷ [])
  sound_step ts d e = let h = took r (stand_at s) x ts d e in sound_one h.short h.sound h.going

  is_long : (p : ℕ) → long_at (suc (length s)) ≡ Some p → Byte r s x 1 p
  is_long p e =
      let h = long_bad (suc (length s)) p e in
      let l : max_text < suc (length s) = h.0 in
      record {
        refusal = refl;
        shows_1 = λ z. (h.1, λ ys. rw (length-append s (x ∷ ys)) (omega arith));
        shows_2 = λ z. absurd (omega arith);
        shows_3 = λ z. absurd (omega arith);
        shows_14 = λ z. absurd (omega arith);
        waits = record { one = λ z. absurd (omega arith); two = λ z. absurd (omega arith); three = λ z. absurd (omega arith) };
      }

  -- from the text with its byte to the byte and what follows
  moved_on : (ys : List ℕ) → (s ++ x ∷ []) ++ ys ≡ s ++ x ∷ ys
  moved_on ys = append_snoc s x ys

  is_broken : (p : ℕ) → long_at (suc (length s)) ≡ None → broken_at (utf_at s x) ≡ Some p → Byte r s x 2 p
  is_broken p a e =
      let u : utf_feed Whole 0 (s ++ x ∷ []) ≡ Broke p = utf_one s x ∙ broken_bad (utf_at s x) p e in
      record {
        refusal = refl;
        shows_1 = λ z. absurd (omega arith);
        shows_2 = λ z ys. rw (moved_on ys) at (refused_2 (s ++ x ∷ []) ys p u);
        shows_3 = λ z. absurd (omega arith);
        shows_14 = λ z. absurd (omega arith);
        waits = record { one = λ z. free_1 (s ++ x ∷ []) (rw (length_one s x) (long_good (suc (length s)) a)); two = λ z. absurd (omega arith); three = λ z. absurd (omega arith) };
      }

  is_refused : (p : ℕ) → long_at (suc (length s)) ≡ None → broken_at (utf_at s x) ≡ None → refused_at (out_at s x).next ≡ Some p → Byte r s x 3 p
  is_refused p a b e =
      let h = refused_bad (out_at s x).next p e in
      let q : (feed fresh (s ++ x ∷ [])).next.state ≡ Refused = ap (λ (c : Conf). c.state) (next_one s x) ∙ h.0 in
      let w : (feed fresh (s ++ x ∷ [])).next.start ≡ p = ap (λ (c : Conf). c.start) (next_one s x) ∙ h.1 in
      record {
        refusal = refl;
        shows_1 = λ z. absurd (omega arith);
        shows_2 = λ z. absurd (omega arith);
        shows_3 = λ z ys. rw (moved_on ys) at (refused_3 (s ++ x ∷ []) ys q) ∙ ap Some w;
        shows_14 = λ z. absurd (omega arith);
        waits = record { one = λ z. free_1 (s ++ x ∷ []) (rw (length_one s x) (long_good (suc (length s)) a)); two = λ z. free_2 (s ++ x ∷ []) (rw (utf_one s x) b); three = λ z. absurd (omega arith) };
      }

  full_of : (p : ℕ) → Over r (length (gave s)) p (out_at s x).gives → Full r s x p
  full_of p o =
      let i : ℕ = length (gave s) + o.index in
      let t : Tok = tok o.kind p o.end in
      let g : At (gave (s ++ x ∷ [])) i t = rw (gave_one s x) (at_right (gave s) (out_at s x).gives o.index t o.is) in
      record {
        kind = o.kind;
        end = o.end;
        index = i;
        known = λ ys. rw (moved_on ys) at (known (s ++ x ∷ []) ys i t g);
        unknown = unknown s i t (omega arith);
        over = o.full;
        first = first_by o.first;
      }
    where
      first_by : (length (gave s) + o.index ≡ r) ⊎ (o.index ≡ 0) → (length (gave s) + o.index ≡ r) ⊎ (length (gave s) + o.index ≡ length (gave s))
      first_by (inl e) = inl e
      first_by (inr e) = inr (omega arith)

  is_full_lem : (p : ℕ) → long_at (suc (length s)) ≡ None → broken_at (utf_at s x) ≡ None → refused_at (out_at s x).next ≡ None → over_at r (length (gave s)) (out_at s x).gives ≡ Some p → Byte r s x 14 p
  is_full_lem p a b c e =
      let h = sound_one a b c in
      record {
        refusal = refl;
        shows_1 = λ z. absurd (omega arith);
        shows_2 = λ z. absurd (omega arith);
        shows_3 = λ z. absurd (omega arith);
        shows_14 = λ z. full_of p (over_bad r (out_at s x).gives (length (gave s)) p e);
        waits = record { one = λ z. free_1 (s ++ x ∷ []) h.short; two = λ z. free_2 (s ++ x ∷ []) h.whole; three = λ z. free_3 (s ++ x ∷ []) h.going };
      }

  -- by the number that the checks came to
  is : (m n p : ℕ) → m ≡ n → Byte r s x m p → Byte r s x n p
  is m n p e h = rw (← e) h

  by_room : (n p : ℕ) → long_at (suc (length s)) ≡ None → broken_at (utf_at s x) ≡ None → refused_at (out_at s x).next ≡ None
      → ((14 ≡ n) × (over_at r (length (gave s)) (out_at s x).gives ≡ Some p)) ⊎ ((over_at r (length (gave s)) (out_at s x).gives ≡ None) × (Goes (out_at s x).gives (moved_to (stand_at s) (utf_at s x) (out_at s x)) ≡ Faults n p)) → Byte r s x n p
  by_room n p a b c (inl h) = is 14 n p h.0 (is_full_lem p a b c h.1)
  by_room n p a b c (inr h) = let e : Goes (out_at s x).gives (moved_to (stand_at s) (utf_at s x) (out_at s x)) ≡ Faults n p = h.1 in let z : ◌≡◌ {A = ℕ} 0 1 = cc in absurd (omega arith)

  abbrev Rest : ℕ → ℕ → Option ℕ → Step → Type 0
  Rest n p k z = (k ≡ None) × (z ≡ Faults n p)

  abbrev roomed : Step
  roomed = unless 14 (over_at r (length (gave s)) (out_at s x).gives) (λ _. Goes (out_at s x).gives (moved_to (stand_at s) (utf_at s x) (out_at s x)))

  by_token : (n p : ℕ) → long_at (suc (length s)) ≡ None → broken_at (utf_at s x) ≡ None
      → ((3 ≡ n) × (refused_at (out_at s x).next ≡ Some p)) ⊎ Rest n p (refused_at (out_at s x).next) roomed → Byte r s x n p
  by_token n p a b (inl h) = is 3 n p h.0 (is_refused p a b h.1)
  by_token n p a b (inr h) = by_room n p a b h.0 (unless_faults 14 (over_at r (length (gave s)) (out_at s x).gives) _ n p h.1)

  abbrev tokened : Step
  tokened = unless 3 (refused_at (out_at s x).next) (λ _. roomed)

  by_utf : (n p : ℕ) → long_at (suc (length s)) ≡ None → ((2 ≡ n) × (broken_at (utf_at s x) ≡ Some p)) ⊎ Rest n p (broken_at (utf_at s x)) tokened → Byte r s x n p
  by_utf n p a (inl h) = is 2 n p h.0 (is_broken p a h.1)
  by_utf n p a (inr h) = by_token n p a h.0 (unless_faults 3 (refused_at (out_at s x).next) _ n p h.1)

  by_length : (n p : ℕ) → ((1 ≡ n) × (long_at (suc (length s)) ≡ Some p)) ⊎ Rest n p (long_at (suc (length s))) (unless 2 (broken_at (utf_at s x)) (λ _. tokened)) → Byte r s x n p
  by_length n p (inl h) = is 1 n p h.0 (is_long p h.1)
  by_length n p (inr h) = by_utf n p h.0 (unless_faults 2 (broken_at (utf_at s x)) _ n p h.1)

  -- a byte that is refused
  pub byte_says : (n p : ℕ) → step_of r (stand_at s) x ≡ Faults n p → Byte r s x n p
  unfolding step_of
  byte_says n p e = by_length n p (unless_faults 1 (long_at (suc (length s))) _ n p e)

-- ---- runs

pub sound_ran : (r : ℕ) (xs s : List ℕ) (ts : List Tok) (d : Stand) → NoneShown s → ran_of r (stand_at s) xs ≡ Goes ts d → NoneShown (s ++ xs)
unfolding ran_of
sound_ran r [] s ts d h e = rw (append-nil s) h
sound_ran r (x ∷ xs) s ts d h e =
    let p = followed_goes (step_of r (stand_at s) x) (λ c. ran_of r c xs) ts d e in
    let t : ran_of r (stand_at (s ++ x ∷ [])) xs ≡ Goes p.second d = ap (λ (c : Stand). ran_of r c xs) (sym (stands_one r s x p.first p.stand p.one)) ∙ p.two in
    rw (append_snoc s x xs) at (sound_ran r xs (s ++ x ∷ []) p.second d (sound_step r s x p.first p.stand p.one) t)

-- where nothing has shown, all three wait
pub sound_waits : (n : ℕ) (s : List ℕ) → NoneShown s → Waits n s
sound_waits n s h = record { one = λ z. free_1 s h.short; two = λ z. free_2 s h.whole; three = λ z. free_3 s h.going }
