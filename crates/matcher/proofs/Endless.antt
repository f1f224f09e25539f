-- An endless repetition comes to nothing: where its child matches and takes nothing, each round is followed by the same round, so that no run
-- is ever complete, and a call that comes to it answers 34 at every allowance.
use Rattle.std.specs.Prelude.{ℕ, Option, Some, None, Ok}
use mathlib.Core.Bool.{true}
use mathlib.Core.List.{List}
use mathlib.Core.Path.{◌≡◌, refl, subst}
use Prim.Native.Nat.{ℕ, suc}
use native.Mathlib.Omega.{arith}
use Rattle.table.specs.Characters.{first_bad}
use Rattle.table.specs.Record.{root_at}
use Rattle.links.specs.declared.Act.{Act}
use Rattle.links.specs.declared.Act.TheVariants.{Repeat}
use Rattle.replies.specs.declared.Answer.TheVariants.{Over}
use Rattle.links.specs.Program.{program}
use Rattle.matcher.specs.Match.{full}
use Rattle.matcher.specs.Runs.{Verdict, up_to, Task, node, inner, more, Runs, visited, text, range, any, call, pos, pos_not, neg, neg_not, seq, seq_not, choice, choice_not, repeated, unfit, filled, again, ended}
use Rattle.matcher.specs.Answers.{match_of}
use Rattle.links.specs.Ready.{ready_of}
use Rattle.matcher.proofs.Exact.{runs_once}
use Rattle.matcher.proofs.Counted.{over_exactly_if}

never : ◌≡◌ {A = ℕ} 0 1 → ⊥
never z = omega arith

never_full : (hi : Option ℕ) (k : ℕ) → hi ≡ None → full hi k ≡ true → ⊥
unfolding full
never_full (Some m) k e f = never (cc)
never_full None k e f = never (cc)

module _ (prog : ℕ → Act) (st line : List ℕ) where
  -- a child that matches at a place and takes nothing there
  module _ (d c lo at m : ℕ) (h : Runs prog st line d (node c) at (up_to at) m) where
    -- tasks that are its repetition without end
    abbrev Stuck : ℕ → Task → Type 0
    Stuck f (node i) = (f ≡ suc d) × (prog i ≡ Repeat c lo None)
    Stuck f (inner x) = (f ≡ d) × (x ≡ Repeat c lo None)
    Stuck f (more b l hi k) = (f ≡ d) × (b ≡ c) × (hi ≡ None)

    -- its every visit at that place gives the same
    child : {f b p : ℕ} {v : Verdict} {i : ℕ} → f ≡ d → b ≡ c → p ≡ at → Runs prog st line f (node b) p v i → v ≡ up_to at
    child {f = f} {b = b} {p = p} {v = v} {i = i} x y z r =
        let a = subst (λ k. Runs prog st line k (node b) p v i) x r in
        let u = subst (λ k. Runs prog st line d (node k) p v i) y a in
        (runs_once prog st line d c at (subst (λ k. Runs prog st line d (node c) k v i) z u) h).0

    stuck : {f : ℕ} {t : Task} {p : ℕ} {v : Verdict} {n : ℕ} → Runs prog st line f t p v n → Stuck f t → p ≡ at → ⊥
    stuck (visited {d = g} r) s q = let e : g ≡ d = omega (arith, s.0) in stuck r (e, s.1) q
    stuck text s q = let z = s.1 in never (cc)
    stuck range s q = let z = s.1 in never (cc)
    stuck any s q = let z = s.1 in never (cc)
    stuck (call r) s q = let z = s.1 in never (cc)
    stuck (pos r) s q = let z = s.1 in never (cc)
    stuck (pos_not r) s q = let z = s.1 in never (cc)
    stuck (neg r) s q = let z = s.1 in never (cc)
    stuck (neg_not r) s q = let z = s.1 in never (cc)
    stuck (seq r u) s q = let z = s.1 in never (cc)
    stuck (seq_not r) s q = let z = s.1 in never (cc)
    stuck (choice r) s q = let z = s.1 in never (cc)
    stuck (choice_not r u) s q = let z = s.1 in never (cc)
    stuck (repeated {c = b} {hi = hi} r) s q =
        let z = s.1 in
        let x : b ≡ c = cc in
        let y : hi ≡ None = cc in
        stuck r (s.0, x, y) q
    stuck unfit s q = let z = s.1 in never (cc)
    stuck (filled {hi = hi} {k = k} f) s q = never_full hi k s.2 f
    stuck (again {e = e} g r u) s q =
        let o = child s.0 s.1 q r in
        let z : e ≡ at = cc in
        stuck u s z
    stuck (ended g r) s q = let o = child s.0 s.1 q r in never (cc)

  -- a repetition without end of such a child comes to nothing
  pub endless : {d c lo at m n : ℕ} {v : Verdict} → Runs prog st line d (node c) at (up_to at) m → Runs prog st line d (inner (Repeat c lo None)) at v n → ⊥
  endless {d = d} {c = c} {lo = lo} {at = at} {m = m} h r = stuck d c lo at m h r (refl, refl) refl

-- a rule that is such a repetition is 34 at every allowance
pub endless_over : (ns rs st : List ℕ) (start : ℕ) (line : List ℕ) → ready_of ns rs st start ≡ Ok tt → first_bad line ≡ None → {c lo m : ℕ} → program ns rs st (root_at rs start) ≡ Repeat c lo None
    → Runs (program ns rs st) st line 1023 (node c) 0 (up_to 0) m → (a : ℕ) → match_of ns rs st start line a ≡ Over
endless_over ns rs st start line y u {c = c} {lo = lo} {m = m} w h a =
    over_exactly_if ns rs st start line y u a (λ v n r. absurd (stuck (program ns rs st) st line 1023 c lo 0 m h r (refl, w) refl))
