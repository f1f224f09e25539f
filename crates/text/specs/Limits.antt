-- What a text, its tables and its brackets may come to.
use Rattle.std.specs.Prelude.{ℕ}

-- the bytes of a text
abbrev pub max_text : ℕ
max_text = 65536

-- the nodes, the rules and the store's bytes of tables
abbrev pub max_nodes : ℕ
max_nodes = 4096

abbrev pub max_rules : ℕ
max_rules = 1024

abbrev pub max_store : ℕ
max_store = 65536

-- the brackets that may be open at once
abbrev pub max_open : ℕ
max_open = 1024
