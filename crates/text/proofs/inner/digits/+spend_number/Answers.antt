use Prim.Native.Nat.{◌+◌, ◌%◌, ◌/◌, ℕ}
use mathlib.Core.List.{List, [], ◌∷◌}
use mathlib.Core.Path.{ap, refl, ◌∙◌}
use Rattle.text.specs.Splice.{spent}
use Rattle.text.specs.Digits.{decimal}
use Rattle.text.proofs.Decimals.{decimal_one, decimal_more}
use Rattle.text.proofs.Splices.{spent_size, spent_append}
use Rattle.text.proofs.inner.digits.+spend_number.Goals as goal

pub returns-then-n-lt10 : goal.returns-then-n-lt10
returns-then-n-lt10 t c = rw (decimal_one c.args.n c.if-n-lt10.true) (c.spend.ensures ∙ spent_size _ 1 _ refl)

pub returns : goal.returns
returns t c =
    let n = c.args.n in
    let last : List ℕ = (48 + n % 10) ∷ [] in
    rw (decimal_more n c.if-n-lt10.false) (c.spend-2.ensures ∙ (spent_size _ 1 last refl ∙ (ap (λ (l : ℕ). spent l last) c.spend_number.ensures ∙ spent_append _ (decimal (n / 10)) last)))
