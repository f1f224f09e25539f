-- Tables that meet the premises of printing and reading back: those of two texts, made by the reader's own definitions.
use Rattle.std.specs.Prelude.{ℕ, zero, suc, ◌*◌, Bool, true, false, List, eqb, get_or}
use Prim.Native.String.{String}
use Rattle.text.specs.Booleans.{and, or}
use Rattle.table.specs.Tree.{Span, Rule, rules_stored}
use Rattle.table.specs.Record.{node_size, nodes_in, rules_in, mark_at}
use Rattle.table.specs.Flat.{nodes_of, records_of}
use Rattle.structure.specs.declared.Level.TheVariants.{Tagged}
use Rattle.reader.specs.Lines.{line_in}
use Rattle.build.specs.Rules.{rules_read}
use Rattle.promises.specs.Twelve.{ascii}

-- a text with every kind of node and every mark, its chains grouped to the left and to the right
abbrev pub every : String
every =
    "r = { \"s\" ~ ^\"i\" ~ 'a'..'z' }\nq = _{ &r ~ !r | PEEK[-1..] ~ (PEEK[0..2] ~ r?) }\np = @{ r* ~ r+ ~ r{1} }\no = ${ r{0,} | (r{,7} | r{0,4294967295}) }\nn = !{ PUSH(r) ~ PUSH_LITERAL(\"\\u{e9}\") ~ #t = r }"

-- and one that the plain reader takes: every kind but PUSH_LITERAL
abbrev pub unpushed : String
unpushed =
    "r = { \"s\" ~ ^\"i\" ~ 'a'..'z' }\nq = _{ &r ~ !r | PEEK[-1..] ~ (PEEK[0..2] ~ r?) }\np = @{ r* ~ r+ ~ r{1} }\no = ${ r{0,} | (r{,7} | r{0,4294967295}) }\nn = !{ PUSH(r) ~ #t = r }"

-- the rules of a text, and their tables
abbrev pub held : String → List (Rule Span)
held s = rules_read Tagged (ascii s)

abbrev pub nodes_held : String → List ℕ
nodes_held s = nodes_of (line_in (ascii s)) (held s)

abbrev pub rules_held : String → List ℕ
rules_held s = records_of (held s)

abbrev pub store_held : String → List ℕ
store_held s = rules_stored (held s)

-- some number below n has a property, and all have it
abbrev pub some_below : ℕ → (ℕ → Bool) → Bool
some_below zero f = false
some_below (suc n) f = or (f n) (some_below n f)

abbrev pub all_below : ℕ → (ℕ → Bool) → Bool
all_below zero f = true
all_below (suc n) f = and (f n) (all_below n f)

-- some node of a table is of a kind, and some rule has a mark
abbrev pub has_kind : List ℕ → ℕ → Bool
has_kind ns k = some_below (nodes_in ns) (λ i. eqb (get_or ns (node_size * i) 0) k)

abbrev pub has_mark : List ℕ → ℕ → Bool
has_mark rs m = some_below (rules_in rs) (λ k. eqb (mark_at rs k) m)

-- some node is of each kind, 1 to 19, and some rule has each mark, 0 to 4
abbrev pub every_kind : List ℕ → Bool
every_kind ns = all_below 19 (λ k. has_kind ns (suc k))

abbrev pub every_mark : List ℕ → Bool
every_mark rs = all_below 5 (has_mark rs)
