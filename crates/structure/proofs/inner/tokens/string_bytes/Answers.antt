-- The inside of a literal begins behind 2 bytes for kind 24, else behind 1, and ends before the last one (`string_bytes`). Where the token ends
-- at 0 the string is empty (`string_none`); elsewhere there is a byte to take off.
use native.Mathlib.Omega.{arith}
use Rattle.token.proofs.Table.{low}
use Rattle.structure.proofs.Bytes.{string_none, string_bytes, opens_one, opens_two}
use Rattle.structure.proofs.inner.tokens.string_bytes.Goals as goal

pub returns-then-z-eq0 : goal.returns-then-z-eq0
returns-then-z-eq0 c = string_none _ _ _ c.end_at-z.ensures c.if-z-eq0.true

pub overflow_add-a : goal.overflow_add-a
overflow_add-a c = let l = low c.args.text.now c.args.at in let h = c.requires.short in omega arith

pub unescaped_bytes-requires : goal.unescaped_bytes-requires
unescaped_bytes-requires c =
    let l = low c.args.text.now c.args.at in
    record {
      text_len_bound = c.requires.short;
      z_in_bounds = omega arith;
    }

pub returns-then-kind_at-eq-INSENSITIVE_STRING : goal.returns-then-kind_at-eq-INSENSITIVE_STRING
returns-then-kind_at-eq-INSENSITIVE_STRING c = string_bytes _ _ 2 _ _ _ (opens_two _ _ _ c.kind_at.ensures c.if-kind_at-eq-INSENSITIVE_STRING.true) (omega arith) (let h = c.end_at-z.ensures in omega arith) c.unescaped_bytes.ensures

pub overflow_add-a-2 : goal.overflow_add-a-2
overflow_add-a-2 c = let l = low c.args.text.now c.args.at in let h = c.requires.short in omega arith

pub unescaped_bytes-requires-2 : goal.unescaped_bytes-requires-2
unescaped_bytes-requires-2 c =
    let l = low c.args.text.now c.args.at in
    record {
      text_len_bound = c.requires.short;
      z_in_bounds = omega arith;
    }

pub returns : goal.returns
returns c = string_bytes _ _ 1 _ _ _ (opens_one _ _ _ c.kind_at.ensures c.if-kind_at-eq-INSENSITIVE_STRING.false) (omega arith) (let h = c.end_at-z.ensures in omega arith) c.unescaped_bytes-2.ensures
