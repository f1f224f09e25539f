-- A part is what lies between its two ends (`part_between`), and UTF-8 where no sequence of it is bad.
use mathlib.Core.Path.{sym, ap, ◌∙◌}
use Rattle.text.specs.Utf8.{first_bad}
use Rattle.table.specs.Check.{is_utf8, is_through}
use Rattle.table.proofs.Texts.{part_between}
use Rattle.table.proofs.inner.texts.ScannedTexts.is_utf8.Goals as goal

pub returns-in-None : goal.returns-in-None
unfolding is_utf8
returns-in-None c =
    sym (ap is_through (ap first_bad (sym (part_between c.args.self.now.store.now c.args.p c.args.n)) ∙ sym c.first_bad.ensures ∙ c.in-None.is))

pub returns-in_default : goal.returns-in_default
unfolding is_utf8
returns-in_default c =
    sym (ap is_through (ap first_bad (sym (part_between c.args.self.now.store.now c.args.p c.args.n)) ∙ sym c.first_bad.ensures ∙ c.in_default.is))
