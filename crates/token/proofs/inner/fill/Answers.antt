use Rattle.token.proofs.Fills.{fill_start, fill_length, fill_end, fill_none, fill_full, fill_room, fill_more}
use native.Mathlib.Omega.{arith}
use Rattle.token.proofs.inner.fill.Goals as goal

clauses_answer_held : {A B : Type 0} → A × B → record { answer : A; held : B }
clauses_answer_held h = record { answer = h.0; held = h.1 }

pub loop-place-init : goal.loop-place-init
loop-place-init c = fill_start _ _

pub shape_of-tokens-in-End : goal.shape_of-tokens-in-End
shape_of-tokens-in-End c = fill_length c.loop-place.invariant

pub returns-in-End : goal.returns-in-End
returns-in-End c = clauses_answer_held (fill_end c.loop-place.invariant c.near_token-token.ensures c.in-End.is)

pub shape_of-tokens-in-NoToken : goal.shape_of-tokens-in-NoToken
shape_of-tokens-in-NoToken c = fill_length c.loop-place.invariant

pub returns-in-NoToken : goal.returns-in-NoToken
returns-in-NoToken c = clauses_answer_held (fill_none c.loop-place.invariant c.near_token-token.ensures c.in-NoToken.is)

pub shape_of-tokens-then-room-n : goal.shape_of-tokens-then-room-n
shape_of-tokens-then-room-n c = fill_length c.loop-place.invariant

pub returns-then-room-n : goal.returns-then-room-n
returns-then-room-n c = clauses_answer_held (fill_full c.loop-place.invariant c.near_token-token.ensures c.in-Found.is c.if-room-n.true)

pub overflow_cast-start : goal.overflow_cast-start
overflow_cast-start c =
    let t = fill_room c.loop-place.invariant c.near_token-token.ensures c.in-Found.is c.if-room-n.false c.requires.s_len_bound in
    omega arith

pub overflow_cast-end : goal.overflow_cast-end
overflow_cast-end c =
    let t = fill_room c.loop-place.invariant c.near_token-token.ensures c.in-Found.is c.if-room-n.false c.requires.s_len_bound in
    omega arith

pub put_token-requires : goal.put_token-requires
put_token-requires c = (fill_room c.loop-place.invariant c.near_token-token.ensures c.in-Found.is c.if-room-n.false c.requires.s_len_bound).row

pub overflow_add-n : goal.overflow_add-n
overflow_add-n c =
    let t = fill_room c.loop-place.invariant c.near_token-token.ensures c.in-Found.is c.if-room-n.false c.requires.s_len_bound in
    omega arith

pub loop-place-smaller : goal.loop-place-smaller
loop-place-smaller c = (fill_room c.loop-place.invariant c.near_token-token.ensures c.in-Found.is c.if-room-n.false c.requires.s_len_bound).less

pub loop-place-preserved : goal.loop-place-preserved
loop-place-preserved c = fill_more c.loop-place.invariant c.near_token-token.ensures c.in-Found.is c.if-room-n.false (rw c.from.ensures at c.put_token.ensures)
