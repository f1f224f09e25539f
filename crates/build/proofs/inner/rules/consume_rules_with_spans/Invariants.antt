-- The loop keeps RulesInv: the rules that are left are read from token i on, and their records and texts, put behind those in the buffers, make up those of all.
-- A doc comment takes one token (`rules_doc_more`), a rule one at least (`rules_more`): the tokens left fall. At the end no rule is left (`rules_done`).
use Rattle.build.proofs.Rules.{RulesInv}
use Rattle.build.specs.Rules.{rules_read}
use lib.ListN.{length}
use Prim.Native.Nat.{◌-◌}
use Rattle.token.specs.Table.{toks}
use Rattle.build.proofs.inner.rules.consume_rules_with_spans.Given as goal

abbrev pub invariant-loop-i : goal.invariant-loop-i
invariant-loop-i l = RulesInv l.level l.text (rules_read l.level l.text) l.initial.nodes l.initial.rules l.initial.store l.i l.index l.used l.free l.nodes l.rules l.store

abbrev pub decreases-loop-i : goal.decreases-loop-i
decreases-loop-i l = length (toks l.text) - l.i
