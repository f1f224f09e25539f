-- By what the check of the tables says. Good ones are valid, which `print_valid` asks for; a fault is handed on, and the output is
-- left alone. `answer_is` makes both promises about the answer, in words and in numbers, out of one equation.
use Rattle.std.specs.Prelude.{Err}
use Rattle.std.proofs.lemmas.Result.{err_from_is_err_and}
use mathlib.Core.Path.{refl, sym, ◌∙◌, ap}
use Rattle.table.proofs.Tables.{tables_valid}
use Rattle.printer.specs.Answers.{print_in}
use Rattle.printer.proofs.Answers.{answer_is}
use Rattle.printer.proofs.print.Goals as goal

pub print_valid-requires : goal.print_valid-requires
print_valid-requires c = tables_valid _ _ _ (sym c.check_tables.ensures ∙ c.in_ok-check_tables.was)

pub returns : goal.returns
returns c =
    let a = answer_is _ _ _ _ _ (sym c.check_tables.ensures ∙ c.in_ok-check_tables.was) c.print_valid.ensures.value in
    record {
      value = a.0;
      result_value = a.1;
      out_after = c.print_valid.ensures.out_after;
    }

pub returns-in_err-check_tables : goal.returns-in_err-check_tables
unfolding print_in
returns-in_err-check_tables c =
    let p = err_from_is_err_and c.from_residual.result c.from_residual.ensures.1 in
    let a = answer_is _ _ _ _ _ (sym c.check_tables.ensures ∙ c.in_err-check_tables.was) (p.1 ∙ ap Err p.2) in
    record {
      value = a.0;
      result_value = a.1;
      out_after = rw p.1 refl;
    }
