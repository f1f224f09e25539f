-- Laws of the answers: what a line's run gives, and what a call gives once its tables were asked about.
use Rattle.std.specs.Prelude.{ℕ, Option, Some, None, Result, Ok, Err}
use mathlib.Core.List.{List}
use mathlib.Core.Path.{◌≡◌, sym, ap, ◌∙◌, subst}
use Prim.Native.Nat.{ℕ, ◌-◌, ◌<◌}
use native.Mathlib.Omega.{arith}
use lib.ListN.{length}
use Rattle.table.specs.Characters.{first_bad}
use Rattle.table.specs.Record.{nodes_in, rules_in, root_at}
use Rattle.table.specs.Check.{Valid}
use Rattle.table.proofs.Tables.{sound_at}
use Rattle.links.specs.declared.Act.{Act}
use Rattle.matcher.specs.declared.Outcome.{Outcome}
use Rattle.replies.specs.declared.Answer.{Answer}
use Rattle.replies.specs.declared.Answer.TheVariants.{Matched, NoMatch, FalseTables, Unfit, NoRule, NotUtf8, Over}
use Rattle.replies.specs.declared.RunError.{RunError}
use Rattle.links.specs.Program.{program, linked_at, Linked, Runnable}
use Rattle.matcher.specs.Match.{visit}
use Rattle.matcher.specs.Answers.{max_visits, reply, line_by, line_of, answer_by, match_of}
use Rattle.links.specs.Ready.{ready_of}
use Rattle.matcher.specs.Lines.{lines_by, ran_over, lines_of, recorded, records_by, records_of}
use Rattle.matcher.proofs.Visits.{Below, visit_below}
use Rattle.links.proofs.Naming.{linked_program, sound_links}
use Rattle.links.proofs.Asked.{ready_allows}

-- ---- a line

module _ (prog : ℕ → Act) (st : List ℕ) (root allowance : ℕ) (line : List ℕ) {y : Option ℕ} (f : y ≡ first_bad line) where
  by_fault : {z : Option ℕ} → y ≡ z → line_of prog st root allowance line ≡ line_by z (λ u. reply allowance (visit prog st line max_visits allowance root 0))
  unfolding line_of
  by_fault q = ap (λ z. line_by z (λ u. reply allowance (visit prog st line max_visits allowance root 0))) (sym f ∙ q)

  pub line_bad : {i : ℕ} → y ≡ Some i → NotUtf8 i ≡ line_of prog st root allowance line
  line_bad q = sym (by_fault q)

  module _ (n : y ≡ None) {x : Outcome} (w : x ≡ visit prog st line max_visits allowance root 0) where
    ran : {z : Outcome} → x ≡ z → line_of prog st root allowance line ≡ reply allowance z
    ran q = by_fault n ∙ ap (reply allowance) (sym w ∙ q)

    pub line_matched : {e l : ℕ} → x ≡ Outcome.Matched e l → Matched e (allowance - l) ≡ line_of prog st root allowance line
    unfolding reply
    line_matched q = sym (ran q)

    pub line_missed : {l : ℕ} → x ≡ Outcome.Missed l → NoMatch (allowance - l) ≡ line_of prog st root allowance line
    unfolding reply
    line_missed q = sym (ran q)

    pub line_over : x ≡ Outcome.Over → Over ≡ line_of prog st root allowance line
    unfolding reply
    line_over q = sym (ran q)

under : (prog : ℕ → Act) (st line : List ℕ) (d k i at : ℕ) {x : Outcome} → x ≡ visit prog st line d k i at → Below k x
under prog st line d k i at q = subst (Below k) (sym q) (visit_below prog st line d k i at)

module _ (prog : ℕ → Act) (st line : List ℕ) (d k i at : ℕ) {x : Outcome} (w : x ≡ visit prog st line d k i at) where
  pub matched_under : {e l : ℕ} → x ≡ Outcome.Matched e l → l < k
  matched_under q = subst (Below k) q (under prog st line d k i at w)

  pub missed_under : {l : ℕ} → x ≡ Outcome.Missed l → l < k
  missed_under q = subst (Below k) q (under prog st line d k i at w)

-- ---- a call

module _ (ns rs st : List ℕ) (start : ℕ) {r : Result (Unit {0}) RunError} (e : r ≡ ready_of ns rs st start) where
  pub call_there : r ≡ Ok tt → start < rules_in rs
  call_there q = (ready_allows ns rs st start e q).there

  module _ (q : r ≡ Ok tt) (ls : List ℕ) (l : Linked ns rs st ls) where
    valid : Valid ns rs st
    valid = (ready_allows ns rs st start e q).valid

    pub call_sound : Runnable ns ls st
    call_sound = sound_links ns rs st valid ls l

    pub call_root : {root : ℕ} → root ≡ root_at rs start → root < nodes_in ns
    call_root {root} g = omega (arith, (sound_at valid start (call_there q)).rooted)

    same_program : linked_at ns ls ≡ program ns rs st
    same_program = linked_program ns rs st ls valid.whole_nodes l

  module _ (line : List ℕ) (allowance : ℕ) where
    answered : {z : Result (Unit {0}) RunError} → r ≡ z → match_of ns rs st start line allowance ≡ answer_by z (λ u. line_of (program ns rs st) st (root_at rs start) allowance line)
    unfolding match_of
    answered q = ap (λ z. answer_by z (λ u. line_of (program ns rs st) st (root_at rs start) allowance line)) (sym e ∙ q)

    pub answer_yes : (q : r ≡ Ok tt) (ls : List ℕ) → Linked ns rs st ls → {root : ℕ} {x : Answer} → root ≡ root_at rs start → x ≡ line_of (linked_at ns ls) st root allowance line → x ≡ match_of ns rs st start line allowance
    answer_yes q ls l {root} {x} g w =
        w ∙ ap (λ p. line_of p st root allowance line) (same_program q ls l) ∙ ap (λ k. line_of (program ns rs st) st k allowance line) g ∙ sym (answered q)

    pub answer_false : r ≡ Err RunError.FalseTables → FalseTables ≡ match_of ns rs st start line allowance
    answer_false q = sym (answered q)

    pub answer_unfit : {i : ℕ} → r ≡ Err (RunError.Unfit i) → Unfit i ≡ match_of ns rs st start line allowance
    answer_unfit q = sym (answered q)

    pub answer_none : r ≡ Err RunError.NoRule → NoRule ≡ match_of ns rs st start line allowance
    answer_none q = sym (answered q)

  module _ (text : List ℕ) (allowance : ℕ) (o : List ℕ) where
    ran_is : {z : Result (Unit {0}) RunError} → r ≡ z → lines_of ns rs st start text (length o) ≡ lines_by z (λ u. ran_over text (length o))
    unfolding lines_of
    ran_is q = ap (λ z. lines_by z (λ u. ran_over text (length o))) (sym e ∙ q)

    abbrev by_lines : List ℕ
    by_lines = recorded (line_of (program ns rs st) st (root_at rs start) allowance) text o

    left_is : {z : Result (Unit {0}) RunError} → r ≡ z → records_of ns rs st start text allowance o ≡ records_by z (λ u. by_lines) o
    unfolding records_of
    left_is q = ap (λ z. records_by z (λ u. by_lines) o) (sym e ∙ q)

    pub lines_yes : (q : r ≡ Ok tt) (ls : List ℕ) → Linked ns rs st ls → {root : ℕ} {x : Result (ℕ × ℕ) RunError} {o' : List ℕ} → root ≡ root_at rs start → x ≡ ran_over text (length o) → o' ≡ recorded (line_of (linked_at ns ls) st root allowance) text o
        → (x ≡ lines_of ns rs st start text (length o)) × (o' ≡ records_of ns rs st start text allowance o)
    lines_yes q ls l {root} {x} {o'} g w v = (
      w ∙ sym (ran_is q),
      v ∙ ap (λ p. recorded (line_of p st root allowance) text o) (same_program q ls l) ∙ ap (λ k. recorded (line_of (program ns rs st) st k allowance) text o) g ∙ sym (left_is q),
    )

    pub lines_refused : {x : RunError} → r ≡ Err x → (Err x ≡ lines_of ns rs st start text (length o)) × (o ≡ records_of ns rs st start text allowance o)
    lines_refused q = (sym (ran_is q), sym (left_is q))
