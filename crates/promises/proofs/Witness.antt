-- The premises of demand 3 can be met: tables with every kind of node and every mark are `Narrow`, and `Printable` in both
-- styles; those that the plain reader takes are too. All of it is computed.
use Prim.Native.Nat.{ℕ, zero, suc}
use mathlib.Core.Path.{◌≡◌, refl}
use mathlib.Core.Bool.{true, false}
use mathlib.Core.List.{List, [], ◌∷◌}
use native.Mathlib.Omega.{arith}
use lib.ListN.{get_or}
use borrow.Author.Tests.{leb-true}
use Rattle.text.specs.Booleans.{all}
use Rattle.text.proofs.Booleans.{and_true}
use Rattle.table.specs.Record.{rules_of}
use Rattle.forms.specs.declared.Style.TheVariants.{Full, Short}
use Rattle.printer.specs.Bounds.{Narrow}
use Rattle.promises.specs.Styled.{marked}
use Rattle.promises.specs.Marked.{depth, depths}
use Rattle.structure.specs.declared.Edition.TheVariants.{Second}
use Rattle.structure.specs.Counts.{small}
use Rattle.promises.specs.Round.{wraps_pass, rules_pass, Ordered, pushing, holds_push_literal, Printable}
use Rattle.promises.specs.Witness.{every, unpushed, nodes_held, rules_held, store_held, every_kind, every_mark}
use Rattle.promises.proofs.Opened.{opened}
use Rattle.promises.proofs.Deep.{table_most_lem}

-- ---- numbers

small_at : (ns : List ℕ) → all small ns ≡ true → (k : ℕ) → small (get_or ns k 0) ≡ true
unfolding all
small_at [] h k = refl
small_at (n ∷ ns) h zero = (and_true (small n) (all small ns) h).0
small_at (n ∷ ns) h (suc k) = small_at ns (and_true (small n) (all small ns) h).1 k

-- a list that was looked through is narrow
pub all_narrow : (ns : List ℕ) → all small ns ≡ true → Narrow ns
all_narrow ns h = record { at = λ k l. omega (arith, leb-true (get_or ns k 0) 4294967295 (small_at ns h k)) }

-- ---- every kind

pub every_kind_lem : every_kind (nodes_held every) ≡ true
unfolding opened
every_kind_lem = refl

pub every_mark_lem : every_mark (rules_held every) ≡ true
unfolding opened
every_mark_lem = refl

pub every_narrow : Narrow (nodes_held every)
unfolding opened
every_narrow = all_narrow (nodes_held every) refl

pub every_full : Printable Full (nodes_held every) (rules_held every) (store_held every)
unfolding opened rules_pass wraps_pass depths depth marked
every_full =
    let most = table_most_lem Full (nodes_held every) (rules_held every) (store_held every) refl every_narrow refl in
    record { good = refl; some = omega arith; nonzeros = refl; short = omega arith; shallow = omega arith }

pub every_short : Printable Short (nodes_held every) (rules_held every) (store_held every)
unfolding opened rules_pass wraps_pass depths depth marked
every_short =
    let most = table_most_lem Short (nodes_held every) (rules_held every) (store_held every) refl every_narrow refl in
    record { good = refl; some = omega arith; nonzeros = refl; short = omega arith; shallow = omega arith }

-- no minimum is above its maximum
pub every_ordered : Ordered Second (rules_of (nodes_held every) (rules_held every) (store_held every))
unfolding opened rules_pass wraps_pass
every_ordered = refl

-- ---- none that plain refuses

pub none_pushes : holds_push_literal (rules_of (nodes_held unpushed) (rules_held unpushed) (store_held unpushed)) ≡ false
unfolding opened holds_push_literal pushing
none_pushes = refl

pub unpushed_narrow : Narrow (nodes_held unpushed)
unfolding opened
unpushed_narrow = all_narrow (nodes_held unpushed) refl

pub unpushed_full : Printable Full (nodes_held unpushed) (rules_held unpushed) (store_held unpushed)
unfolding opened rules_pass wraps_pass depths depth marked
unpushed_full =
    let most = table_most_lem Full (nodes_held unpushed) (rules_held unpushed) (store_held unpushed) refl unpushed_narrow refl in
    record { good = refl; some = omega arith; nonzeros = refl; short = omega arith; shallow = omega arith }

pub unpushed_short : Printable Short (nodes_held unpushed) (rules_held unpushed) (store_held unpushed)
unfolding opened rules_pass wraps_pass depths depth marked
unpushed_short =
    let most = table_most_lem Short (nodes_held unpushed) (rules_held unpushed) (store_held unpushed) refl unpushed_narrow refl in
    record { good = refl; some = omega arith; nonzeros = refl; short = omega arith; shallow = omega arith }

pub unpushed_ordered : Ordered Second (rules_of (nodes_held unpushed) (rules_held unpushed) (store_held unpushed))
unfolding opened rules_pass wraps_pass
unpushed_ordered = refl
