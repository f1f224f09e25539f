-- The matching definition with no allowance: what a visit comes to, in how many steps. An endless repetition comes to nothing.
use Rattle.std.specs.Prelude.{◌≡◌, Bool, true, false, List, ℕ, suc, ◌+◌, leb, drop, Option, Some, None}
use Rattle.table.specs.Characters.{within, char_of}
use Rattle.table.specs.Record.{part}
use Rattle.links.specs.declared.Act.{Act}
use Rattle.links.specs.declared.Act.TheVariants.{Text, Range, Any, Call, PosPred, NegPred, Seq, Choice, Repeat, Unfit}
use Rattle.matcher.specs.declared.Outcome.{Outcome}
use Rattle.matcher.specs.declared.Outcome.TheVariants.{Matched, Missed}
use Rattle.matcher.specs.Match.{starts, any_character, full}

-- a match up to a place, or none
pub data Verdict : Type 0 where
  up_to : ℕ → Verdict
  none : Verdict

abbrev pub give : Verdict → ℕ → Outcome
give (up_to e) l = Matched e l
give none l = Missed l

abbrev pub tested : Bool → ℕ → Verdict
tested true e = up_to e
tested false e = none

-- one character for which a test passes
abbrev pub tested_one : (ℕ → Bool) → Option (ℕ × ℕ) → ℕ → Verdict
tested_one f (Some (c, n)) at = tested (f c) (at + n)
tested_one f None at = none

-- a visit to a node; what is done there once its step is counted; the rest of a repetition of c after k matches
pub data Task : Type 0 where
  node : ℕ → Task
  inner : Act → Task
  more : ℕ → ℕ → Option ℕ → ℕ → Task

-- `Runs d t at v n`: with at most d nested visits, the task at a place comes to v in n steps
pub data Runs (prog : ℕ → Act) (st line : List ℕ) : ℕ → Task → ℕ → Verdict → ℕ → Type 0 where
  visited : {d i at : ℕ} {v : Verdict} {n : ℕ} → Runs prog st line d (inner (prog i)) at v n → Runs prog st line (suc d) (node i) at v (suc n)
  text : {f : Bool} {d p n at : ℕ} → Runs prog st line d (inner (Text f p n)) at (tested (starts f (part st p n) (drop at line)) (at + n)) 0
  range : {d a b at : ℕ} → Runs prog st line d (inner (Range a b)) at (tested_one (within a b) (char_of (drop at line)) at) 0
  any : {d at : ℕ} → Runs prog st line d (inner Any) at (tested_one any_character (char_of (drop at line)) at) 0
  call : {d r at : ℕ} {v : Verdict} {n : ℕ} → Runs prog st line d (node r) at v n → Runs prog st line d (inner (Call r)) at v n
  pos : {d c at e n : ℕ} → Runs prog st line d (node c) at (up_to e) n → Runs prog st line d (inner (PosPred c)) at (up_to at) n
  pos_not : {d c at n : ℕ} → Runs prog st line d (node c) at none n → Runs prog st line d (inner (PosPred c)) at none n
  neg : {d c at e n : ℕ} → Runs prog st line d (node c) at (up_to e) n → Runs prog st line d (inner (NegPred c)) at none n
  neg_not : {d c at n : ℕ} → Runs prog st line d (node c) at none n → Runs prog st line d (inner (NegPred c)) at (up_to at) n
  seq : {d a b at e m : ℕ} {v : Verdict} {n : ℕ} → Runs prog st line d (node a) at (up_to e) m → Runs prog st line d (node b) e v n → Runs prog st line d (inner (Seq a b)) at v (m + n)
  seq_not : {d a b at m : ℕ} → Runs prog st line d (node a) at none m → Runs prog st line d (inner (Seq a b)) at none m
  choice : {d a b at e m : ℕ} → Runs prog st line d (node a) at (up_to e) m → Runs prog st line d (inner (Choice a b)) at (up_to e) m
  choice_not : {d a b at m : ℕ} {v : Verdict} {n : ℕ} → Runs prog st line d (node a) at none m → Runs prog st line d (node b) at v n → Runs prog st line d (inner (Choice a b)) at v (m + n)
  repeated : {d c lo : ℕ} {hi : Option ℕ} {at : ℕ} {v : Verdict} {n : ℕ} → Runs prog st line d (more c lo hi 0) at v n → Runs prog st line d (inner (Repeat c lo hi)) at v n
  unfit : {d at : ℕ} → Runs prog st line d (inner Unfit) at none 0
  filled : {d c lo : ℕ} {hi : Option ℕ} {k at : ℕ} → full hi k ≡ true → Runs prog st line d (more c lo hi k) at (up_to at) 0
  again : {d c lo : ℕ} {hi : Option ℕ} {k at e m : ℕ} {v : Verdict} {n : ℕ} → full hi k ≡ false → Runs prog st line d (node c) at (up_to e) m → Runs prog st line d (more c lo hi (suc k)) e v n → Runs prog st line d (more c lo hi k) at v (m + n)
  ended : {d c lo : ℕ} {hi : Option ℕ} {k at m : ℕ} → full hi k ≡ false → Runs prog st line d (node c) at none m → Runs prog st line d (more c lo hi k) at (tested (leb lo k) at) m
