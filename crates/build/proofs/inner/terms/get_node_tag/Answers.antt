-- Three returns: no tag stands here (`no_tag`), a tag that plain drops (`plain_tag`), a tag whose bytes behind the `#` go into the store (`tagged_tag`).
-- A tag is a token of the list, which has 65536 at most, so that two further on is no overflow (`tag_inside`).
use native.Mathlib.Omega.{arith}
use Rattle.build.proofs.Terms.{no_tag, tag_inside, plain_tag, tag_bytes_lem, tagged_tag}
use Rattle.token.proofs.Table.{sizes}
use Rattle.build.proofs.inner.terms.get_node_tag.Goals as goal

clauses_past_stored : {A B : Type 0} → A × B → record { past : A; stored : B }
clauses_past_stored h = record { past = h.0; stored = h.1 }

clauses_a_le_z_room : {A B : Type 0} → A × B → record { a_le_z : A; room : B }
clauses_a_le_z_room h = record { a_le_z = h.0; room = h.1 }

pub returns-then-kind_at-ne-TAG : goal.returns-then-kind_at-ne-TAG
returns-then-kind_at-ne-TAG c = clauses_past_stored (no_tag _ _ _ _ _ c.kind_at.ensures c.args.level c.if-kind_at-ne-TAG.true)

pub overflow_add-a : goal.overflow_add-a
overflow_add-a c =
    let t = tag_inside c.args.text.now c.args.store.now c.args.at c.args.free _ c.kind_at.ensures c.if-kind_at-ne-TAG.false in
    let h = c.requires.lent.short in
    omega arith

pub put_bytes-end-requires : goal.put_bytes-end-requires
put_bytes-end-requires c = clauses_a_le_z_room (tag_bytes_lem _ _ _ _ _ c.kind_at.ensures c.if-kind_at-ne-TAG.false _ _ c.start_at-a.ensures c.end_at-z.ensures c.in-Tagged.is c.requires.room)

pub overflow_add-result : goal.overflow_add-result
overflow_add-result c =
    let t = tag_inside c.args.text.now c.args.store.now c.args.at c.args.free _ c.kind_at.ensures c.if-kind_at-ne-TAG.false in
    let n = sizes _ _ c.requires.lent in
    omega arith

pub overflow_add-result-in-Tagged : goal.overflow_add-result-in-Tagged
overflow_add-result-in-Tagged c =
    let t = tag_inside c.args.text.now c.args.store.now c.args.at c.args.free _ c.kind_at.ensures c.if-kind_at-ne-TAG.false in
    let n = sizes _ _ c.requires.lent in
    omega arith

pub overflow_add-result-in-Plain : goal.overflow_add-result-in-Plain
overflow_add-result-in-Plain c =
    let t = tag_inside c.args.text.now c.args.store.now c.args.at c.args.free _ c.kind_at.ensures c.if-kind_at-ne-TAG.false in
    let n = sizes _ _ c.requires.lent in
    omega arith

pub overflow_add-result-in-Plain-2 : goal.overflow_add-result-in-Plain-2
overflow_add-result-in-Plain-2 c =
    let t = tag_inside c.args.text.now c.args.store.now c.args.at c.args.free _ c.kind_at.ensures c.if-kind_at-ne-TAG.false in
    let n = sizes _ _ c.requires.lent in
    omega arith

pub returns-in-Tagged : goal.returns-in-Tagged
returns-in-Tagged c = clauses_past_stored (tagged_tag _ _ _ _ _ c.kind_at.ensures c.if-kind_at-ne-TAG.false _ _ c.start_at-a.ensures c.end_at-z.ensures c.in-Tagged.is _ _ c.put_bytes-end.ensures)

pub returns-in-Plain : goal.returns-in-Plain
returns-in-Plain c = clauses_past_stored (plain_tag _ _ _ _ _ c.kind_at.ensures c.if-kind_at-ne-TAG.false c.in-Plain.is)
