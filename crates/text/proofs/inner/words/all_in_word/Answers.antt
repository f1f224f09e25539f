use mathlib.Core.Path.{◌∙◌}
use Rattle.std.proofs.Common.{rules, tests}
use Rattle.std.proofs.lemmas.Iterator.{YieldsList-from_slice}
use Rattle.std.proofs.lemmas.Iterator.Search.{all_from_yields_List}
use Rattle.text.specs.Words.{in_word}
use Rattle.text.proofs.Runs.{all_listed}
use Rattle.text.proofs.inner.words.all_in_word.Goals as goal

pub returns : goal.returns
returns c = all_from_yields_List in_word _ _ c.all.result c.all.ensures.ran (YieldsList-from_slice c.args.s.now cc) (λ x b q k. search (rules, tests)) ∙ all_listed in_word c.args.s.now
