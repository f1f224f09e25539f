-- What the code's contracts ask, from what the numbers of a stream say, and a step in the words of the code.
use Rattle.std.specs.Prelude.{ℕ, Option, Some, None, Ok}
use Prim.Native.Nat.{ℕ, suc, ◌+◌, ◌≤◌}
use mathlib.Core.Path.{◌≡◌, sym, ap, ◌∙◌}
use mathlib.Core.List.{List, ◌++◌}
use native.Mathlib.Numerals.{add-one}
use native.Mathlib.Omega.{arith}
use lib.ListN.{length}
use Rattle.token.specs.Lists.{Tok, Tokens}
use Rattle.states.specs.declared.Utf.{Utf}
use Rattle.states.specs.declared.Stand.{Stand}
use Rattle.steps.specs.declared.Row.{Row}
use Rattle.steps.specs.declared.Finish.{Finish}
use Rattle.states.specs.Machine.{Out, step, finish}
use Rattle.states.specs.Utf.{utf_step, utf_end, broken_at}
use Rattle.states.specs.Steps.{Step, Goes, Faults, unless, long_at, refused_at, over_at, moved_to, step_by, step_of, last_of, begin}
use Rattle.steps.specs.Shapes.{list_of, out_of, finish_by}
use Rattle.stream.specs.Shapes.{taken_by, stepped_of, Coherent}
use Rattle.states.proofs.Keeps.{Fitting}

-- ---- a sound stream

pub to_fitting : (c : Stand) → Coherent c → Fitting c
to_fitting c h = record { short = h.short; fit = record { sum = h.sum; count = h.count; state = h.state }; sound = h.utf }

pub to_sound : (c : Stand) → Fitting c → Coherent c
to_sound c h = record { short = h.short; sum = h.fit.sum; count = h.fit.count; state = h.fit.state; utf = h.sound }

pub many_small : (g : Option (ℕ × ℕ × ℕ)) → length (list_of g) ≤ 1
many_small None = omega arith
many_small (Some (k, a, b)) = omega arith

two_long : (g : Option (ℕ × ℕ × ℕ)) (ts : List Tok) → length (list_of g ++ ts) ≡ length (list_of g) + length ts
two_long None ts = omega arith
two_long (Some (k, a, b)) ts = omega arith

pub many_two : (k m n : ℕ) (g h : Option (ℕ × ℕ × ℕ)) → m ≡ length (list_of g) → n ≡ length (list_of h) → k + m + n ≡ k + length (list_of g ++ list_of h)
many_two k m n g h v w = let l : length (list_of g ++ list_of h) ≡ length (list_of g) + length (list_of h) = two_long g (list_of h) in omega arith

-- ---- a number that is none of the first n

-- ---- a step

unless_bad : (n : ℕ) (k : Option ℕ) (f : Unit {0} → Step) (p : ℕ) → k ≡ Some p → unless n k f ≡ Faults n p
unless_bad n k f p e = rw e

unless_good : (n : ℕ) (k : Option ℕ) (f : Unit {0} → Step) → k ≡ None → unless n k f ≡ f tt
unless_good n k f e = rw e

module _ (room : ℕ) (c : Stand) (x p : ℕ) where
  pub stops_1 : long_at (suc c.seen) ≡ Some p → Faults 1 p ≡ step_of room c x
  unfolding step_of
  stops_1 e = sym (unless_bad 1 (long_at (suc c.seen)) _ p e)

  pub stops_2 : (u : Utf) → long_at (suc c.seen) ≡ None → u ≡ utf_step c.utf c.seen x → broken_at u ≡ Some p → Faults 2 p ≡ step_of room c x
  unfolding step_of
  stops_2 u e f g =
      let h : step_by room c u (step c.conf x) ≡ step_of room c x = ap (λ (v : Utf). step_by room c v (step c.conf x)) f in
      sym (unless_bad 2 (broken_at u) _ p g) ∙ sym (unless_good 1 (long_at (suc c.seen)) _ e) ∙ h

-- UTF-8 took the byte
pub stops_later : (room : ℕ) (c : Stand) (x : ℕ) (u : Utf) (o : Out) → long_at (suc c.seen) ≡ None → u ≡ utf_step c.utf c.seen x → broken_at u ≡ None → o ≡ step c.conf x → taken_by room c u o ≡ step_of room c x
unfolding step_of
stops_later room c x u o e f g h =
    sym (unless_good 1 (long_at (suc c.seen)) _ e ∙ unless_good 2 (broken_at u) _ g) ∙ ap (λ (v : Utf). step_by room c v o) f ∙ ap (step_by room c (utf_step c.utf c.seen x)) h

module _ (room : ℕ) (c : Stand) (u : Utf) (r : Row) where
  pub takes_3 : (p : ℕ) → refused_at r.conf ≡ Some p → Faults 3 p ≡ taken_by room c u (out_of r)
  takes_3 p h = sym (unless_bad 3 (refused_at r.conf) _ p h)

  module _ (h : refused_at r.conf ≡ None) where
    pub takes_14 : (p : ℕ) → over_at room c.count (out_of r).gives ≡ Some p → Faults 14 p ≡ taken_by room c u (out_of r)
    takes_14 p k = sym (unless_good 3 (refused_at r.conf) _ h ∙ unless_bad 14 (over_at room c.count (out_of r).gives) _ p k)

    pub takes_on : (m n : ℕ) → m ≡ length (list_of r.before) → n ≡ length (list_of r.here) → over_at room c.count (out_of r).gives ≡ None
        → stepped_of (Ok (record { before = r.before; here = r.here; stand = record { conf = r.conf; utf = u; seen = c.seen + 1; count = c.count + m + n } })) ≡ taken_by room c u (out_of r)
    takes_on m n v w k =
        let s : c.count + m + n ≡ c.count + length (out_of r).gives = many_two c.count m n r.before r.here v w in
        let i : c.seen + 1 ≡ suc c.seen = add-one c.seen in
        let d : record { conf = r.conf; utf = u; seen = c.seen + 1; count = c.count + m + n } ≡ moved_to c u (out_of r) = (λ z. record { conf = r.conf; utf = u; seen = i z; count = s z }) in
        ap (Goes (out_of r).gives) d ∙ sym (unless_good 3 (refused_at r.conf) _ h ∙ unless_good 14 (over_at room c.count (out_of r).gives) _ k)

-- ---- the end

module _ (room : ℕ) (c : Stand) where
  pub last_2 : (p : ℕ) → utf_end c.utf ≡ Some p → Faults 2 p ≡ last_of room c
  unfolding last_of
  last_2 p e = sym (unless_bad 2 (utf_end c.utf) _ p e)

  module _ (e : utf_end c.utf ≡ None) (f : Finish) (o : finish_by f ≡ finish c.conf) where
    abbrev behind : Tokens → Step
    behind t = unless 3 t.fault (λ _. unless 14 (over_at room c.count t.list) (λ _. Goes t.list begin))

    last_by : behind (finish_by f) ≡ last_of room c
    unfolding last_of
    last_by = ap behind o ∙ sym (unless_good 2 (utf_end c.utf) (λ _. behind (finish c.conf)) e)

    pub last_3 : (p : ℕ) → f.fault ≡ Some p → Faults 3 p ≡ last_of room c
    last_3 p g = sym (unless_bad 3 f.fault _ p g) ∙ last_by

    pub last_14 : (p : ℕ) → f.fault ≡ None → over_at room c.count (list_of f.token) ≡ Some p → Faults 14 p ≡ last_of room c
    last_14 p g h = sym (unless_bad 14 (over_at room c.count (list_of f.token)) _ p h) ∙ sym (unless_good 3 f.fault _ g) ∙ last_by

    pub last_goes : f.fault ≡ None → over_at room c.count (list_of f.token) ≡ None → Goes (list_of f.token) begin ≡ last_of room c
    last_goes g h = sym (unless_good 14 (over_at room c.count (list_of f.token)) _ h) ∙ sym (unless_good 3 f.fault _ g) ∙ last_by
