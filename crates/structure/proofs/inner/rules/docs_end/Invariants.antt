-- Invariant (`DocsInv`): the docs of the text end where those from i on end. Each turn takes one token, so that the tokens left fall; at a
-- token that is no doc they end.
use Rattle.structure.proofs.Rules.{DocsInv}
use lib.ListN.{length}
use Prim.Native.Nat.{◌-◌}
use Rattle.token.specs.Table.{toks}
use Rattle.structure.proofs.inner.rules.docs_end.Given as goal

abbrev pub invariant-loop-i : goal.invariant-loop-i
invariant-loop-i l = DocsInv l.text l.i

abbrev pub decreases-loop-i : goal.decreases-loop-i
decreases-loop-i l = length (toks l.text) - l.i
