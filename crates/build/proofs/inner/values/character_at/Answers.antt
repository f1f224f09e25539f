-- A character token has its two quotes (`char_long`), so that the bytes between them are a slice of the text.
-- That slice is the inside of the literal, and what `meant` says of it is the character (`character_is`).
use Rattle.build.proofs.Worths.{character_is}
use Rattle.build.proofs.Parts.{char_long}
use native.Mathlib.Omega.{arith}
use Rattle.token.proofs.Table.{low}
use Rattle.build.proofs.inner.values.character_at.Goals as goal

pub overflow_add-a : goal.overflow_add-a
overflow_add-a c =
    let below = low c.args.text.now c.args.at in
    let short = c.requires.lent.short in
    omega (arith, below, short, c.start_at-a.ensures)

pub overflow_sub-z : goal.overflow_sub-z
overflow_sub-z c =
    let long = char_long _ _ c.requires.at_value in
    omega (arith, long, c.end_at-z.ensures)

pub slice_bounds-meant-count : goal.slice_bounds-meant-count
slice_bounds-meant-count c =
    let long = char_long _ _ c.requires.at_value in
    omega (arith, long, c.start_at-a.ensures, c.end_at-z.ensures)

pub slice_bounds-meant-start : goal.slice_bounds-meant-start
slice_bounds-meant-start c =
    let long = char_long _ _ c.requires.at_value in
    omega (arith, long, c.start_at-a.ensures, c.end_at-z.ensures)

pub slice_bounds-meant-end : goal.slice_bounds-meant-end
slice_bounds-meant-end c =
    let below = low c.args.text.now c.args.at in
    omega (arith, below, c.end_at-z.ensures)

pub returns : goal.returns
returns c = character_is _ _ _ _ c.requires.at_value c.start_at-a.ensures c.end_at-z.ensures _ c.meant.ensures
