-- Numbers a caller sees: what the printer answers, and what it leaves in the lent output.
use Rattle.std.specs.Prelude.{ℕ, List, leb, length, Result, Ok, Err}
use Rattle.text.specs.Booleans.{choose}
use Rattle.text.specs.Splice.{fronted}
use Rattle.table.specs.declared.TableError.{TableError}
use Rattle.table.specs.Record.{rules_of}
use Rattle.table.specs.Check.{tables}
use Rattle.forms.specs.declared.Style.{Style}
use Rattle.printer.specs.declared.PrintError.{PrintError}
use Rattle.printer.specs.declared.PrintError.TheVariants.{Shape, Node, Rule, NoRoom}
use Rattle.forms.specs.Printing.{printed_rules}

-- the text of tables: that of their rules
unfoldable pub table_text : Style → List ℕ → List ℕ → List ℕ → List ℕ
table_text style ns rs st = printed_rules style (rules_of ns rs st)

-- a fault of the tables, as the printer tells it
abbrev pub false_tables : TableError → PrintError
false_tables TableError.Shape = Shape
false_tables (TableError.Node i) = Node i
false_tables (TableError.Rule i) = Rule i

abbrev pub answer_by : Result (Unit {0}) TableError → (Unit {0} → Result ℕ PrintError) → Result ℕ PrintError
answer_by (Ok _) f = f tt
answer_by (Err e) f = Err (false_tables e)

-- a text for an output of n bytes: the number of bytes used, or no room
unfoldable pub room_of : List ℕ → ℕ → Result ℕ PrintError
room_of x n = choose (leb (length x) n) (λ u. Ok (length x)) (λ u. Err NoRoom)

-- the answer for an output of n bytes: the first fault of the tables, then room
unfoldable pub print_of : Style → List ℕ → List ℕ → List ℕ → ℕ → Result ℕ PrintError
print_of style ns rs st n = answer_by (tables ns rs st) (λ u. room_of (table_text style ns rs st) n)

-- what it leaves in the output: a success changes only what it reports as used
unfoldable pub print_in : Style → List ℕ → List ℕ → List ℕ → List ℕ → Result ℕ PrintError → List ℕ
print_in style ns rs st o (Ok n) = fronted (table_text style ns rs st) o
print_in style ns rs st o (Err e) = o

-- an answer's number and place, and the bytes used
pub record Numbered : Type 0 where
  pub number : ℕ
  pub place : ℕ
  pub used : ℕ

unfoldable pub numbered : Result ℕ PrintError → Numbered
numbered (Ok n) = record { number = 0; place = 0; used = n }
numbered (Err Shape) = record { number = 20; place = 0; used = 0 }
numbered (Err (Node i)) = record { number = 21; place = i; used = 0 }
numbered (Err (Rule i)) = record { number = 22; place = i; used = 0 }
numbered (Err NoRoom) = record { number = 23; place = 0; used = 0 }

abbrev pub report_by : Result (Unit {0}) TableError → (Unit {0} → Numbered) → Numbered
report_by (Ok _) f = f tt
report_by (Err TableError.Shape) f = record { number = 20; place = 0; used = 0 }
report_by (Err (TableError.Node i)) f = record { number = 21; place = i; used = 0 }
report_by (Err (TableError.Rule i)) f = record { number = 22; place = i; used = 0 }

-- 20, 21 and 22 by the tables, then 23 where the text is longer than the lent output, else 0 and the bytes used
unfoldable pub reported : Style → List ℕ → List ℕ → List ℕ → ℕ → Numbered
reported style ns rs st n =
    report_by (tables ns rs st)
    (λ u. choose (leb (length (table_text style ns rs st)) n)
    (λ u. record { number = 0; place = 0; used = length (table_text style ns rs st) })
    (λ u. record { number = 23; place = 0; used = 0 }))
