use native.Mathlib.Omega.{arith}
use Rattle.build.proofs.Loops.{post_past, post_over, posts_more, posts_sound, posts_done}
use Rattle.build.proofs.inner.around.put_postfixes.Goals as goal

pub suffix_at-suffix-requires : goal.suffix_at-suffix-requires
suffix_at-suffix-requires c = record {
  lent = c.requires.lent;
  accepted = posts_sound _ _ _ _ _ _ c.requires.lent.short c.requires.posts_room _ _ _ _ c.loop-op.invariant;
}

pub overflow_sub-n : goal.overflow_sub-n
overflow_sub-n c =
    let p = post_past c.args.text.now c.args.nodes.now c.args.at c.args.used c.args.from c.args.to c.requires.lent.short c.requires.posts_room c.loop-op.nodes c.loop-op.i c.loop-op.u c.loop-op.z c.loop-op.invariant _ c.suffix_at-suffix.ensures _ _ c.in-Some.is in
    omega arith

pub put_unary-requires : goal.put_unary-requires
put_unary-requires c = post_over c.args.text.now c.args.nodes.now c.args.at c.args.used c.args.from c.args.to c.requires.lent.short c.requires.posts_room c.loop-op.nodes c.loop-op.i c.loop-op.u c.loop-op.z c.loop-op.invariant _ c.suffix_at-suffix.ensures _ _ c.in-Some.is _ c.end_at-z.ensures

pub overflow_add-u : goal.overflow_add-u
overflow_add-u c =
    let o = post_over c.args.text.now c.args.nodes.now c.args.at c.args.used c.args.from c.args.to c.requires.lent.short c.requires.posts_room c.loop-op.nodes c.loop-op.i c.loop-op.u c.loop-op.z c.loop-op.invariant _ c.suffix_at-suffix.ensures _ _ c.in-Some.is _ c.end_at-z.ensures in
    let f = o.few in
    omega arith

pub loop-op-smaller : goal.loop-op-smaller
loop-op-smaller c =
    let p = post_past c.args.text.now c.args.nodes.now c.args.at c.args.used c.args.from c.args.to c.requires.lent.short c.requires.posts_room c.loop-op.nodes c.loop-op.i c.loop-op.u c.loop-op.z c.loop-op.invariant _ c.suffix_at-suffix.ensures _ _ c.in-Some.is in
    omega arith

pub loop-op-preserved : goal.loop-op-preserved
loop-op-preserved c = posts_more c.args.text.now c.args.nodes.now c.args.at c.args.used c.args.from c.args.to c.requires.lent.short c.requires.posts_room c.loop-op.nodes c.loop-op.i c.loop-op.u c.loop-op.z c.loop-op.invariant _ c.suffix_at-suffix.ensures _ _ c.in-Some.is _ _ c.end_at-z.ensures c.put_unary.ensures

pub returns-in-None : goal.returns-in-None
returns-in-None c = posts_done c.args.text.now c.args.nodes.now c.args.at c.args.used c.args.from c.args.to c.requires.lent.short c.requires.posts_room c.loop-op.nodes c.loop-op.i c.loop-op.u c.loop-op.z c.loop-op.invariant _ c.suffix_at-suffix.ensures c.in-None.is
