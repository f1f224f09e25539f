-- Programs that read and print, as functions of what they are lent, and what it is for one of them to meet the promises.
use Rattle.std.specs.Prelude.{ℕ, ◌*◌, ◌≡◌, List, map, length, take, Result}
use contract.Lifetimes.{Lfts}
use Rattle.std.specs.Borrow.{Bor, MutBor}
use denote.Triple.Entry.{Args}
use denote.Triple.Clauses.{at_exit}
use Rattle.table.specs.Tree.{Span, Tree, Rule, Nowhere, aside, rules_stored}
use Rattle.table.specs.Record.{node_size, rule_size, rules_of}
use Rattle.table.specs.Flat.{nodes_of, records_of}
use Rattle.forms.specs.declared.Style.{Style}
use Rattle.printer.specs.declared.PrintError.{PrintError}
use Rattle.printer.specs.Answers.{print_of, print_in}
use Rattle.printer.specs.contracts.print.{ended as print-ended}
use Rattle.printer.proofs.print.Reads.{Learnt as PrintLearnt}
use Rattle.structure.specs.declared.Edition.{Edition}
use Rattle.structure.specs.declared.Level.{Level}
use Rattle.structure.specs.declared.Refusal.{Refusal}
use Rattle.reader.specs.Read.{room_for_nodes, room_for_rules, read_of, left_in, numbered}
use Rattle.reader.specs.contracts.read.{ended as read-ended}
use Rattle.reader.proofs.read.Reads.{Learnt as ReadLearnt}
use Rattle.reader.specs.Lines.{line_in}
use Rattle.build.specs.Rules.{rules_read}

-- three tables
pub record Tables : Type 0 where
  pub nodes : List ℕ
  pub rules : List ℕ
  pub store : List ℕ

-- the tables of rules, with the lines of places
abbrev pub tables_of : (ℕ → ℕ) → List (Rule Span) → Tables
tables_of line us = record { nodes = nodes_of line us; rules = records_of us; store = rules_stored us }

-- the trees in tables, spans aside
abbrev pub trees_in : Tables → List (Tree Nowhere)
trees_in t = map (λ (r : Rule Span). aside r.tree) (rules_of t.nodes t.rules t.store)

-- what a call of `read` gives: its answer, and the lent tables afterwards
pub record Readout : Type 0 where
  pub answer : Result (ℕ × ℕ × ℕ) Refusal
  pub left : Tables

-- what a call of `print` gives: its answer, and the lent output afterwards
pub record Printout : Type 0 where
  pub answer : Result ℕ PrintError
  pub output : List ℕ

-- a program: reading a text into lent tables, printing tables to a lent output
pub record Program : Type 0 where
  pub read : Edition → Level → List ℕ → Tables → Readout
  pub print : Style → Tables → List ℕ → Printout

-- shared references to tables, and what they refer to
pub record Lent : Type 0 where
  pub nodes : Bor (List ℕ)
  pub rules : Bor (List ℕ)
  pub store : Bor (List ℕ)

abbrev pub held_by : Lent → Tables
held_by l = record { nodes = l.nodes.now; rules = l.rules.now; store = l.store.now }

-- references to tables that a call may change
pub record LentMut : Type 0 where
  pub nodes : MutBor (List ℕ)
  pub rules : MutBor (List ℕ)
  pub store : MutBor (List ℕ)

abbrev pub held_by_mut : LentMut → Tables
held_by_mut l = record { nodes = l.nodes.now; rules = l.rules.now; store = l.store.now }

-- what a caller of `reader::read` learns, of an answer and of what the lent tables are left at
abbrev pub Reads : Edition → Level → Bor (List ℕ) → LentMut → Readout → Type 0
Reads edition level text lent o =
    (κs : Lfts 4) →
    let a : Args read-ended.signature κs = (text, (edition, (level, (lent.nodes, (lent.rules, (lent.store, tt)))))) in
    ReadLearnt κs a o.answer (at_exit read-ended κs a (tt, (tt, (tt, (o.left.nodes, (o.left.rules, (o.left.store, tt)))))))

-- what a caller of `printer::print` learns, of an answer and of what the lent output is left at
abbrev pub Prints : Style → Lent → MutBor (List ℕ) → Printout → Type 0
Prints style lent out o =
    (κs : Lfts 4) →
    let a : Args print-ended.signature κs = (style, (lent.nodes, (lent.rules, (lent.store, (out, tt))))) in
    PrintLearnt κs a o.answer (at_exit print-ended κs a (tt, (tt, (tt, (tt, (o.output, tt))))))

-- a program that meets the promises: every call of it is as a caller of `read` or `print` learns
pub record Meets (p : Program) : Type 0 where
  pub reads : (edition : Edition) (level : Level) (text : Bor (List ℕ)) (lent : LentMut) → Reads edition level text lent (p.read edition level text.now (held_by_mut lent))
  pub prints : (style : Style) (lent : Lent) (out : MutBor (List ℕ)) → Prints style lent out (p.print style (held_by lent) out.now)

-- the program that the definitions are
abbrev pub defined : Program
defined = record {
  read = λ edition level s t.
      let r = read_of edition level s (room_for_nodes t.nodes) (room_for_rules t.rules) (length t.store) in
      let x = tables_of (line_in s) (rules_read level s) in
      record {
        answer = r;
        left = record { nodes = left_in r x.nodes t.nodes; rules = left_in r x.rules t.rules; store = left_in r x.store t.store };
      };
  print = λ style t o.
      let r = print_of style t.nodes t.rules t.store (length o) in
      record { answer = r; output = print_in style t.nodes t.rules t.store o r };
}

-- what a reading reports as used, and the trees in it
abbrev pub used_of : Readout → Tables
used_of o =
    let n = numbered o.answer in
    record {
      nodes = take (node_size * n.nodes) o.left.nodes;
      rules = take (rule_size * n.rules) o.left.rules;
      store = take n.store o.left.store;
    }

abbrev pub trees_of : Readout → List (Tree Nowhere)
trees_of o = trees_in (used_of o)

-- a reading that is no refusal
abbrev pub Succeeds : Readout → Type 0
Succeeds o = (numbered o.answer).number ≡ 0
