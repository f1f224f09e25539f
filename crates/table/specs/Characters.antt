use Rattle.std.specs.Prelude.{ℕ, Option, Some, None}
-- Characters, tests and limits, for crates that see the tables alone: passed on.
unfoldable pub use Rattle.text.specs.Utf8.{char_of, first_bad}
pub use Rattle.text.specs.Booleans.{choose, and, or, within, next_is}
unfoldable pub use Rattle.text.specs.Splice.{fronted}
pub use Rattle.text.specs.Limits.{max_nodes}
