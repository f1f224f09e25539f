-- No text is longer than its bound (`table_fits`): where that fits, the text is written from 0 on (`wrote_front`), and else it is at most the bound's bytes.
use native.Mathlib.Omega.{arith}
use Rattle.text.proofs.Splices.{wrote_front}
use Rattle.printer.specs.Answers.{print_in}
use Rattle.printer.proofs.Bounds.{sound_kinds, table_fits}
use Rattle.printer.proofs.Answers.{answer_fits}
use Rattle.printer.proofs.inner.walks.print_valid.Goals as goal

pub table_most-most-requires : goal.table_most-most-requires
table_most-most-requires c = record {
  nodes_bound = c.requires.few_nodes;
  rules_bound = c.requires.few_rules;
  kinds = sound_kinds _ _ c.requires.nodes;
}

pub print_fitting-requires : goal.print_fitting-requires
print_fitting-requires c =
    let f = table_fits c.args.style _ _ _ c.table_most-most.ensures.narrow c.requires in
    record {
      valid = c.requires;
      room = record { fits = omega (arith, f, c.table_most-most.ensures.value, c.if-most-out.true) };
    }

pub returns-then-most-out : goal.returns-then-most-out
unfolding print_in
returns-then-most-out c =
    let f = table_fits c.args.style _ _ _ c.table_most-most.ensures.narrow c.requires in
    let w = wrote_front c.print_fitting.ensures (omega (arith, f, c.table_most-most.ensures.value, c.if-most-out.true)) in
    record {
      value = answer_fits _ _ (omega (arith, f, c.table_most-most.ensures.value, c.if-most-out.true)) w.1;
      out_after = w.0;
    }

pub print_tight-requires : goal.print_tight-requires
print_tight-requires c =
    let f = table_fits c.args.style _ _ _ c.table_most-most.ensures.narrow c.requires in
    record {
      valid = c.requires;
      store_len_bound = omega (arith, f, c.table_most-most.ensures.value);
    }
