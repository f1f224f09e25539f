-- A backslash begins an escape. At any other byte the definition asks what UTF-8's machine asks of a first byte, so that `lead` may answer (`chr_else`):
-- Whole is Quote, Mid is More, Broke is a refusal.
use mathlib.Core.Path.{sym, ◌∙◌, ap}
use borrow.Author.Tests.{ne_eqb}
use Rattle.states.specs.declared.Utf.TheVariants.{Whole, Mid}
use Rattle.steps.proofs.Turns.{chr_else, char_by}
use Rattle.steps.proofs.inner.transitions.texts.character.Goals as goal

pub returns-in-Whole : goal.returns-in-Whole
returns-in-Whole c = rw c.go-in-Whole.ensures (chr_else c.args.a c.args.x Whole (ne_eqb _ 92 c.if-x-eq92.false) (sym c.in-Whole.is ∙ c.lead.ensures))

pub returns-in-Mid : goal.returns-in-Mid
returns-in-Mid c = rw c.go-in-Mid.ensures (chr_else c.args.a c.args.x (Mid _ _) (ne_eqb _ 92 c.if-x-eq92.false) (sym c.in-Mid.is ∙ c.lead.ensures))

pub returns-in-Broke : goal.returns-in-Broke
returns-in-Broke c = rw c.refuse.ensures (sym (ap (char_by c.args.a) c.in-Broke.is) ∙ chr_else c.args.a c.args.x c.lead.result (ne_eqb _ 92 c.if-x-eq92.false) c.lead.ensures)
