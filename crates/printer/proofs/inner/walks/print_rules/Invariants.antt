-- To write the rules from k on at the index at hand comes to the same as to write all of them at the first (`Same`), so that there is room
-- for the next. Behind the last there is nothing to write.
use Rattle.printer.proofs.Rules.{rest}
use Rattle.text.proofs.Walks.{Same}
use Rattle.printer.specs.Answers.{table_text}
use Rattle.printer.proofs.inner.walks.print_rules.Given as goal

abbrev pub invariant-loop-k : goal.invariant-loop-k
invariant-loop-k l = Same l.initial.out l.at (table_text l.style l.nodes l.rules l.store) l.out l.a (rest l.style l.nodes l.rules l.store l.k)
