-- What is left to be done after k lines is the same work over the rest of the text and of the records.
use Rattle.links.specs.Program.{linked_at}
use Rattle.matcher.specs.Answers.{line_of}
use Rattle.matcher.proofs.Rows.{Done}
use Rattle.matcher.proofs.inner.lines.run_lines.Given as goal

abbrev pub invariant-loop-k : goal.invariant-loop-k
invariant-loop-k l = Done (line_of (linked_at l.nodes l.links) l.store l.root l.allowance) l.text l.initial.records l.m l.records l.k l.at
