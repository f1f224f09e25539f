-- What a writer of records asks of a lent table, and what it leaves in it. Node and rule records are two sizes.
use Rattle.std.specs.Prelude.{ℕ, ◌+◌, ◌*◌, ◌≤◌, ◌<◌, ◌≡◌, List, length}
use Rattle.std.proofs.lemmas.List.Edits.{sets}
use Rattle.table.specs.Tree.{Span, Tree, count, ends_at, starts_at}
use Rattle.table.specs.Record.{node_size, rule_size}
use Rattle.table.specs.Flat.{no_line, flat}

-- a table of node records with numbers stored from the record f on
unfoldable pub written : List ℕ → ℕ → List ℕ → List ℕ
written l f vs = sets l (node_size * f) vs

-- and a table of rule records
unfoldable pub rule_written : List ℕ → ℕ → List ℕ → List ℕ
rule_written l k vs = sets l (rule_size * k) vs

-- what a number of 32 bits can be
abbrev pub most : ℕ
most = 4294967295

-- a node record fits a table, and its numbers fit 32 bits; the line, which is 0 yet, does
pub record Fits (table : List ℕ) (f a z p q r : ℕ) : Type 0 where
  pub room : node_size * f + node_size ≤ length table
  pub from : a ≤ most
  pub to : z ≤ most
  pub first : p ≤ most
  pub second : q ≤ most
  pub third : r ≤ most

-- a rule record fits a table, and its numbers fit 32 bits
pub record RuleFits (table : List ℕ) (k offset size mark root a z : ℕ) : Type 0 where
  pub room : rule_size * k + rule_size ≤ length table
  pub name : offset ≤ most
  pub long : size ≤ most
  pub kept : mark ≤ most
  pub node : root ≤ most
  pub from : a ≤ most
  pub to : z ≤ most

-- a node record over the one before it fits
pub record Over (table : List ℕ) (f a z : ℕ) : Type 0 where
  pub room : node_size * f + node_size ≤ length table
  pub from : a ≤ most
  pub to : z ≤ most
  pub few : f ≤ most
  pub after : 0 < f

-- the end of the node that was written last is z now, whatever the tree
pub record EndMoved (table : List ℕ) (used z : ℕ) (table' : List ℕ) : Type 0 where
  pub long : length table' ≡ length table
  pub same : (o : List ℕ) (t : Tree Span) (f at : ℕ) → used ≡ f + count t → table ≡ written o f (flat no_line f at t) → table' ≡ written o f (flat no_line f at (ends_at t z))

-- and so for its start
pub record StartMoved (table : List ℕ) (used a : ℕ) (table' : List ℕ) : Type 0 where
  pub long : length table' ≡ length table
  pub same : (o : List ℕ) (t : Tree Span) (f at : ℕ) → used ≡ f + count t → table ≡ written o f (flat no_line f at t) → table' ≡ written o f (flat no_line f at (starts_at t a))
