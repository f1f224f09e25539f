-- What a call's answer means, over the definition without allowance: a length or a none is given exactly where a run of the starting rule's
-- root comes to it within the allowance, and 34 exactly where no run does.
use Rattle.std.specs.Prelude.{None, Ok}
use mathlib.Core.List.{List}
use mathlib.Core.Path.{◌≡◌, refl, sym, ap, ◌∙◌}
use Prim.Native.Nat.{ℕ, ◌+◌, ◌-◌, ◌≤◌, ◌<◌}
use native.Mathlib.Omega.{arith}
use Rattle.table.specs.Characters.{first_bad}
use Rattle.table.specs.Record.{root_at}
use Rattle.links.specs.declared.Act.{Act}
use Rattle.matcher.specs.declared.Outcome.{Outcome}
use Rattle.replies.specs.declared.RunError.{RunError}
use Rattle.replies.specs.declared.Answer.{Answer}
use Rattle.replies.specs.declared.Answer.TheVariants.{Matched, NoMatch, Over}
use Rattle.links.specs.Program.{program}
use Rattle.matcher.specs.Match.{visit}
use Rattle.matcher.specs.Runs.{Verdict, up_to, none, give, node, Runs}
use Rattle.matcher.specs.Answers.{max_visits, reply, line_by, line_of, answer_by, match_of}
use Rattle.links.specs.Ready.{ready_of}
use Rattle.matcher.proofs.Visits.{Below, visit_below}
use Rattle.matcher.proofs.Exact.{act, complete, sound, runs_once, over_needs, needs_over}

-- a verdict after n steps, as an answer
abbrev pub said : Verdict → ℕ → Answer
said (up_to e) n = Matched e n
said none n = NoMatch n

said_reply : (k n : ℕ) (v : Verdict) → n ≤ k → reply k (give v (k - n)) ≡ said v n
unfolding reply
said_reply k n (up_to e) h = ap (Matched e) (omega arith)
said_reply k n none h = ap NoMatch (omega arith)

-- where an answer is a verdict's, the visit gave that verdict
record Given (k : ℕ) (x : Outcome) (v : Verdict) (n : ℕ) : Type 0 where
  left : ℕ
  gave : x ≡ give v left
  sum : n ≡ k - left
  fewer : left < k

said_given : (k : ℕ) (x : Outcome) (v : Verdict) (n : ℕ) → Below k x → reply k x ≡ said v n → Given k x v n
unfolding reply
said_given k (Outcome.Matched e l) (up_to f) n b q = let p : e ≡ f = cc in let s : k - l ≡ n = cc in record { left = l; gave = ap (λ z. Outcome.Matched z l) p; sum = omega arith; fewer = b }
said_given k (Outcome.Matched e l) none n b q = let z : ◌≡◌ {A = ℕ} 0 1 = cc in absurd (omega arith)
said_given k (Outcome.Missed l) (up_to f) n b q = let z : ◌≡◌ {A = ℕ} 0 1 = cc in absurd (omega arith)
said_given k (Outcome.Missed l) none n b q = let s : k - l ≡ n = cc in record { left = l; gave = refl; sum = omega arith; fewer = b }
said_given k Outcome.Over (up_to f) n b q = let z : ◌≡◌ {A = ℕ} 0 1 = cc in absurd (omega arith)
said_given k Outcome.Over none n b q = let z : ◌≡◌ {A = ℕ} 0 1 = cc in absurd (omega arith)

over_given : (k : ℕ) (x : Outcome) → reply k x ≡ Over → x ≡ Outcome.Over
unfolding reply
over_given k (Outcome.Matched e l) q = let z : ◌≡◌ {A = ℕ} 0 1 = cc in absurd (omega arith)
over_given k (Outcome.Missed l) q = let z : ◌≡◌ {A = ℕ} 0 1 = cc in absurd (omega arith)
over_given k Outcome.Over q = refl

-- for tables and lines of which none of 30 to 33 is given
module _ (ns rs st : List ℕ) (start : ℕ) (line : List ℕ) (ready : ready_of ns rs st start ≡ Ok tt) (utf8 : first_bad line ≡ None) where
  abbrev prog : ℕ → Act
  prog = program ns rs st

  abbrev root : ℕ
  root = root_at rs start

  -- a run of the starting rule over the line
  abbrev Run : Verdict → ℕ → Type 0
  Run v n = Runs (program ns rs st) st line max_visits (node (root_at rs start)) 0 v n

  answer_is : (a : ℕ) → match_of ns rs st start line a ≡ reply a (visit (program ns rs st) st line max_visits a (root_at rs start) 0)
  unfolding match_of line_of
  answer_is a =
      ap (λ z. answer_by z (λ u. line_of (program ns rs st) st (root_at rs start) a line)) ready
      ∙ ap (λ z. line_by z (λ u. reply a (visit (program ns rs st) st line max_visits a (root_at rs start) 0))) utf8

  -- a run within the allowance is answered, with its steps
  pub counted_if : (a : ℕ) (v : Verdict) (n : ℕ) → Run v n → n ≤ a → match_of ns rs st start line a ≡ said v n
  unfolding act
  counted_if a v n r l =
      let z : n + (a - n) ≡ a = omega arith in
      answer_is a ∙ ap (reply a) (rw z at (complete (program ns rs st) st line r (a - n))) ∙ said_reply a n v l

  -- and what is answered is a run within the allowance
  pub counted : (a : ℕ) (v : Verdict) (n : ℕ) → match_of ns rs st start line a ≡ said v n → Run v n × (n ≤ a)
  counted a v n q =
      let g = said_given a (visit (program ns rs st) st line max_visits a (root_at rs start) 0) v n (visit_below (program ns rs st) st line max_visits a (root_at rs start) 0) (sym (answer_is a) ∙ q) in
      let c = sound (program ns rs st) st line max_visits a (root_at rs start) 0 v g.left g.gave in
      let s : c.steps ≡ n = omega (arith, c.sum, g.sum) in
      (rw s at c.runs, omega (arith, g.sum))

  -- 34 exactly where every run needs more steps than allowed, as where there is none
  pub over_exactly : (a : ℕ) → match_of ns rs st start line a ≡ Over → (v : Verdict) (n : ℕ) → Run v n → a < n
  over_exactly a q v n r =
      over_needs (program ns rs st) st line max_visits (root_at rs start) 0 a (over_given a (visit (program ns rs st) st line max_visits a (root_at rs start) 0) (sym (answer_is a) ∙ q)) v n r

  pub over_exactly_if : (a : ℕ) → ((v : Verdict) (n : ℕ) → Run v n → a < n) → match_of ns rs st start line a ≡ Over
  unfolding reply
  over_exactly_if a h = answer_is a ∙ ap (reply a) (needs_over (program ns rs st) st line max_visits (root_at rs start) 0 a h)

  -- a larger allowance never alters a length or a none already given
  pub larger : (a b : ℕ) (v : Verdict) (n : ℕ) → a ≤ b → match_of ns rs st start line a ≡ said v n → match_of ns rs st start line b ≡ said v n
  larger a b v n h q = let r = counted a v n q in counted_if b v n r.0 (omega (arith, r.1))

  -- two runs agree in verdict and steps
  pub once : (u v : Verdict) (m n : ℕ) → Run u m → Run v n → (u ≡ v) × (m ≡ n)
  once u v m n r s = runs_once (program ns rs st) st line max_visits (root_at rs start) 0 r s
