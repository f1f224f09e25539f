-- What the programs desk and short write of a text: it is read, and printed in a style.
use Rattle.std.specs.Prelude.{ℕ, ◌≤◌, ◌≡◌, ◌⊎◌, List, eqb, length}
use Rattle.text.specs.Limits.{max_rules, max_store}
use Rattle.text.specs.Booleans.{choose}
use Rattle.text.specs.Splice.{fronted}
use Rattle.table.specs.Tree.{rules_stored}
use Rattle.table.specs.Flat.{nodes_of, records_of}
use Rattle.structure.specs.declared.Edition.TheVariants.{First}
use Rattle.structure.specs.declared.Level.TheVariants.{Tagged}
use Rattle.reader.specs.Read as Read
use Rattle.reader.specs.Lines.{line_in}
use Rattle.build.specs.Rules as Built
use Rattle.forms.specs.declared.Style.{Style}
use Rattle.printer.specs.Answers as Answers
use Rattle.show.specs.declared.Answer.{Answer}
use Rattle.show.specs.declared.Shown.{Shown}
use Rattle.show.specs.declared.Shown.TheVariants.{Text}
use Rattle.rows.specs.Line.{refusal_put, refusal_in}
use Rattle.show.specs.Shown.{refused_by}

-- the reading at the tagged level, with room for 2,048 nodes, 1,024 rules and 65,536 store bytes
unfoldable pub reading : List ℕ → Read.Numbered
reading s = Read.reported First Tagged s 2048 max_rules max_store

-- the printing of a text's rules in a style, to an output of m bytes
unfoldable pub printing : Style → List ℕ → ℕ → Answers.Numbered
printing style s m =
    Answers.reported style (nodes_of (line_in s) (Built.rules_read Tagged s)) (records_of (Built.rules_read Tagged s)) (rules_stored (Built.rules_read Tagged s)) m

-- the text that they are printed as
unfoldable pub printed_text : Style → List ℕ → List ℕ
printed_text style s =
    Answers.table_text style (nodes_of (line_in s) (Built.rules_read Tagged s)) (records_of (Built.rules_read Tagged s)) (rules_stored (Built.rules_read Tagged s))

-- bytes printed, or a refusal
unfoldable pub printed : Answers.Numbered → Answer
printed p = choose (eqb p.number 0) (λ u. Answer.Printed p.used) (λ u. Answer.Refused p.number p.place)

-- the refusal of the reading; else what the printing of its rules gives
unfoldable pub answer_of : Style → List ℕ → ℕ → Answer
answer_of style s m =
    choose (eqb (reading s).number 0) (λ u. printed (printing style s m)) (λ u. Answer.Refused (reading s).number (reading s).place)

-- what the printing leaves in the output: a refused text leaves it alone
unfoldable pub answer_in : Style → List ℕ → List ℕ → Answer → List ℕ
answer_in style s o (Answer.Printed n) = fronted (printed_text style s) o
answer_in style s o (Answer.Refused n p) = o

-- what is answered for an output of m bytes: the text's bytes, or those of the refusal's line
unfoldable pub shown_by : Answer → ℕ → Shown
shown_by (Answer.Printed n) m = Text n
shown_by (Answer.Refused n p) m = refused_by (refusal_put n p m)

unfoldable pub desk_of : Style → List ℕ → ℕ → Shown
desk_of style s m = shown_by (answer_of style s m) m

-- what it leaves in the output: the text, or the refusal's line, at its front
unfoldable pub left_by : Style → List ℕ → List ℕ → Answer → List ℕ
left_by style s o (Answer.Printed n) = fronted (printed_text style s) o
left_by style s o (Answer.Refused n p) = refusal_in n p o (refusal_put n p (length o))

unfoldable pub desk_in : Style → List ℕ → List ℕ → List ℕ
desk_in style s o = left_by style s o (answer_of style s (length o))

-- a refusal's number that is one of the reader's, or 23
abbrev pub Tellable : ℕ → Type 0
Tellable n = ((1 ≤ n) × (n ≤ 13)) ⊎ (n ≡ 23)

-- the desk refuses a text, and writes the line of such a number
pub record LineWritten (style : Style) (s o : List ℕ) : Type 0 where
  pub number : ℕ
  pub place : ℕ
  pub told : Tellable number
  pub answer : desk_of style s (length o) ≡ refused_by (refusal_put number place (length o))
  pub left : desk_in style s o ≡ refusal_in number place o (refusal_put number place (length o))
