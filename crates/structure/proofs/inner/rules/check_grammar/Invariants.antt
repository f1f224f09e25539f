-- Invariant (`RulesInv`): the whole grammar's counts are those so far and those of the rules from i on; and so far there are at most i rules,
-- i nodes and i times `most` bytes, so that no sum overflows. A doc or a rule takes a token at least: the tokens left fall.
use Rattle.structure.proofs.Rules.{RulesInv}
use lib.ListN.{length}
use Prim.Native.Nat.{◌-◌}
use Rattle.token.specs.Table.{toks}
use Rattle.structure.proofs.inner.rules.check_grammar.Given as goal

abbrev pub invariant-loop-i : goal.invariant-loop-i
invariant-loop-i l = RulesInv l.level l.text l.i l.rules l.count l.size

abbrev pub decreases-loop-i : goal.decreases-loop-i
decreases-loop-i l = length (toks l.text) - l.i
