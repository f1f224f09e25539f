-- What a pass answers, what it leaves in the lent buffers, and what demand 3 says of it.
use Rattle.std.specs.Prelude.{ℕ, ◌≤◌, ◌≡◌, Bool, true, false, List, map, length, Result, Ok, Err}
use Rattle.text.specs.Splice.{fronted}
use Rattle.table.specs.Tree.{Rule, Nowhere, aside_rule, counts, rules_stored, Same}
use Rattle.table.specs.Record.{rules_of}
use Rattle.table.specs.Flat.{nodes_of, records_of}
use Rattle.forms.specs.declared.Style.{Style}
use Rattle.structure.specs.declared.Edition.{Edition}
use Rattle.structure.specs.declared.Level.{Level}
use Rattle.structure.specs.declared.Level.TheVariants.{Tagged, Plain}
use Rattle.structure.specs.declared.Why.TheVariants.{NotPlain}
use Rattle.structure.specs.Refusals.{because}
use Rattle.printer.specs.declared.PrintError.{PrintError}
use Rattle.printer.specs.Answers as Printer
use Rattle.printer.specs.Answers.{table_text, print_of, print_in}
use Rattle.structure.specs.declared.Refusal.{Refusal}
use Rattle.reader.specs.Read as Reader
use Rattle.reader.specs.Read.{room_for_nodes, room_for_rules, room_by, read_of}
use Rattle.reader.specs.Lines.{line_in}
use Rattle.build.specs.Rules.{rules_read}
use Rattle.promises.specs.Pieces.{rules_pieces, first_push_literal}
use Rattle.promises.specs.Styled.{marked_rules}
use Rattle.promises.specs.Round.{Ordered, holds_push_literal, seen, rules_left, Printable, ReadAs}
use Rattle.pass.specs.declared.Passed.{Passed}

-- what the reader says of a text of k bytes
abbrev pub back_by : ℕ → Result (ℕ × ℕ × ℕ) Refusal → Passed
back_by k (Ok (n, r, b)) = Passed.Read k n r b
back_by k (Err f) = Passed.Unread k f

-- what the printer says, and where it printed, what the reader does
abbrev pub pass_by : Result ℕ PrintError → Result (ℕ × ℕ × ℕ) Refusal → Passed
pass_by (Ok k) a = back_by k a
pass_by (Err PrintError.Shape) a = Passed.Shape
pass_by (Err (PrintError.Node i)) a = Passed.Node i
pass_by (Err (PrintError.Rule i)) a = Passed.Rule i
pass_by (Err PrintError.NoRoom) a = Passed.NoRoom

-- the answer for a text of at most m bytes and room for n nodes, r rules and b store bytes
unfoldable pub pass_of : Style → Edition → Level → List ℕ → List ℕ → List ℕ → ℕ → ℕ → ℕ → ℕ → Passed
pass_of style edition level ns rs st m n r b = pass_by (print_of style ns rs st m) (read_of edition level (table_text style ns rs st) n r b)

-- what it leaves where the text goes: what the printer leaves there, so the printed text even where the reader refuses it
unfoldable pub text_in : Style → List ℕ → List ℕ → List ℕ → List ℕ → List ℕ
text_in style ns rs st o = print_in style ns rs st o (print_of style ns rs st (length o))

-- what it leaves where a new table goes: it is changed only where the text was read, and only in the used part
unfoldable pub new_in : Passed → List ℕ → List ℕ → List ℕ
new_in (Passed.Read k n r b) x o = fronted x o
new_in (Passed.Unread k f) x o = o
new_in Passed.Shape x o = o
new_in (Passed.Node i) x o = o
new_in (Passed.Rule i) x o = o
new_in Passed.NoRoom x o = o

-- an answer in the paper's numbers: number, place, the bytes of the text, and the records and bytes used of the new tables
pub record Numbered : Type 0 where
  pub number : ℕ
  pub place : ℕ
  pub text : ℕ
  pub nodes : ℕ
  pub rules : ℕ
  pub store : ℕ

-- the printer's numbers, and the reader's of a text of k bytes
abbrev pub of_printer : Printer.Numbered → Numbered
of_printer x = record { number = x.number; place = x.place; text = x.used; nodes = 0; rules = 0; store = 0 }

abbrev pub of_reader : ℕ → Reader.Numbered → Numbered
of_reader k x = record { number = x.number; place = x.place; text = k; nodes = x.nodes; rules = x.rules; store = x.store }

unfoldable pub numbered : Passed → Numbered
numbered (Passed.Read k n r b) = of_reader k (Reader.numbered (Ok (n, r, b)))
numbered (Passed.Unread k f) = of_reader k (Reader.numbered (Err f))
numbered Passed.Shape = of_printer (Printer.numbered (Err PrintError.Shape))
numbered (Passed.Node i) = of_printer (Printer.numbered (Err (PrintError.Node i)))
numbered (Passed.Rule i) = of_printer (Printer.numbered (Err (PrintError.Rule i)))
numbered Passed.NoRoom = of_printer (Printer.numbered (Err PrintError.NoRoom))

-- what is to be answered, in those numbers
unfoldable pub reported : Style → Edition → Level → List ℕ → List ℕ → List ℕ → ℕ → ℕ → ℕ → ℕ → Numbered
reported style edition level ns rs st m n r b = numbered (pass_of style edition level ns rs st m n r b)

-- what `pass` promises of its answer, of where the text goes, and of the new tables
pub record Passes (style : Style) (edition : Edition) (level : Level) (ns rs st o ns₀ rs₀ st₀ : List ℕ) (a : Passed) (o' ns' rs' st' : List ℕ) : Type 0 where
  pub answer : a ≡ pass_of style edition level ns rs st (length o) (room_for_nodes ns₀) (room_for_rules rs₀) (length st₀)
  pub report : numbered a ≡ reported style edition level ns rs st (length o) (room_for_nodes ns₀) (room_for_rules rs₀) (length st₀)
  pub text : o' ≡ text_in style ns rs st o
  pub nodes : ns' ≡ new_in a (nodes_of (line_in (table_text style ns rs st)) (rules_read level (table_text style ns rs st))) ns₀
  pub rules : rs' ≡ new_in a (records_of (rules_read level (table_text style ns rs st))) rs₀
  pub store : st' ≡ new_in a (rules_stored (rules_read level (table_text style ns rs st))) st₀

-- ---- demand 3

-- the plain reader refuses these rules, since they hold a PUSH_LITERAL
abbrev pub barred : {P : Type 0} → Level → List (Rule P) → Bool
barred Tagged us = false
barred Plain us = holds_push_literal us

-- the rules that come back of tables, spans aside: as a style groups them and a level sees them
abbrev pub rules_back : Style → Level → List ℕ → List ℕ → List ℕ → List (Rule Nowhere)
rules_back style level ns rs st = seen style level (map aside_rule (rules_of ns rs st))

-- where their text has its first PUSH_LITERAL
abbrev pub pushes_at : Style → List ℕ → List ℕ → List ℕ → ℕ
pushes_at style ns rs st = first_push_literal (rules_pieces (marked_rules style (rules_of ns rs st)))

-- the room that rules want, in three buffers
abbrev pub room_in : {P : Type 0} → List (Rule P) → List ℕ → List ℕ → List ℕ → Result (ℕ × ℕ × ℕ) Refusal
room_in us ns rs st = room_by (length us) (counts us) (length (rules_stored us)) (room_for_nodes ns) (room_for_rules rs) (length st)

-- what comes back of tables. Unless the level bars them: their text is read as those rules; the answer is that of those rules, whatever room
-- there is; and where they are read, the used parts of the new tables stand for them. Else the first PUSH_LITERAL is refused
pub record Back (style : Style) (edition : Edition) (level : Level) (ns rs st ns₀ rs₀ st₀ : List ℕ) (a : Passed) (ns' rs' st' : List ℕ) : Type 0 where
  pub text : barred level (rules_of ns rs st) ≡ false → ReadAs edition level (table_text style ns rs st) (rules_back style level ns rs st)
  pub answer : barred level (rules_of ns rs st) ≡ false → a ≡ back_by (length (table_text style ns rs st)) (room_in (rules_back style level ns rs st) ns₀ rs₀ st₀)
  pub tables : barred level (rules_of ns rs st) ≡ false → (k n r b : ℕ) → a ≡ Passed.Read k n r b → Same (rules_left n r b ns' rs' st') (rules_back style level ns rs st)
  pub refused : barred level (rules_of ns rs st) ≡ true → a ≡ Passed.Unread (length (table_text style ns rs st)) (because NotPlain (pushes_at style ns rs st))

-- demand 3 of a call: so it is for printable tables whose text has room, and that have no minimum above its maximum where the edition asks it
abbrev pub Demand : Style → Edition → Level → (ns rs st o ns₀ rs₀ st₀ : List ℕ) → Passed → (ns' rs' st' : List ℕ) → Type 0
Demand style edition level ns rs st o ns₀ rs₀ st₀ a ns' rs' st' =
    Printable style ns rs st → Ordered edition (rules_of ns rs st) → length (table_text style ns rs st) ≤ length o → Back style edition level ns rs st ns₀ rs₀ st₀ a ns' rs' st'
