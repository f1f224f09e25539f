-- Six stores at RULE_SIZE * index and the five places behind it are one rule record written (`put_rule_is`). Each keeps the table's length.
use Rattle.records.proofs.Patches.{put_rule_is}
use lib.ListN.{length-set}
use native.Mathlib.Omega.{arith}
use mathlib.Core.Path.{refl}
use Rattle.records.proofs.inner.rules.put_rule.Goals as goal

-- src/inner/rules.rt:23:5
pub bounds-rules-i-2 : goal.bounds-rules-i-2
bounds-rules-i-2 c = simp length-set (omega arith)

-- src/inner/rules.rt:24:5
pub bounds-rules-i-3 : goal.bounds-rules-i-3
bounds-rules-i-3 c = simp length-set (omega arith)

-- src/inner/rules.rt:25:5
pub bounds-rules-i-4 : goal.bounds-rules-i-4
bounds-rules-i-4 c = simp length-set (omega arith)

-- src/inner/rules.rt:26:5
pub bounds-rules-i-5 : goal.bounds-rules-i-5
bounds-rules-i-5 c = simp length-set (omega arith)

-- src/inner/rules.rt:27:5
pub bounds-rules-i-6 : goal.bounds-rules-i-6
bounds-rules-i-6 c = simp length-set (omega arith)

-- src/inner/rules.rt:8:1
pub returns : goal.returns
returns c = put_rule_is _ _ _ _ _ _ _ _ _ refl
