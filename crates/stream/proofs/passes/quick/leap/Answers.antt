use Rattle.stream.proofs.Leaps.{all_left, inside, clean_on, leapt_none, leapt_same, over_yes, sound_between, leap_turn}
use Rattle.stream.specs.Quick.{start_at, Free}
use Rattle.token.specs.Table.{room_of}
use lib.ListN.{length, drop, length-drop, length-set}
use mathlib.Core.Path.{◌∙◌, ap, refl, ◌≡◌}
use native.Mathlib.Omega.{arith}
use Rattle.stream.proofs.passes.quick.leap.Goals as goal

pub slice_bounds-may_leap-count : goal.slice_bounds-may_leap-count
slice_bounds-may_leap-count c = omega (arith, c.requires.i_in_bounds)

pub slice_bounds-may_leap-start : goal.slice_bounds-may_leap-start
slice_bounds-may_leap-start c = omega (arith, c.requires.i_in_bounds)

pub slice_bounds-may_leap-end : goal.slice_bounds-may_leap-end
slice_bounds-may_leap-end c = omega (arith, c.requires.i_in_bounds)

pub may_leap-requires : goal.may_leap-requires
may_leap-requires c = c.requires.coherent

pub returns-then-not-may_leap : goal.returns-then-not-may_leap
returns-then-not-may_leap c = leapt_none c.args.room c.args.from c.args.i c.args.m c.args.packet.now c.args.stash.now c.requires.coherent c.requires.i_in_bounds c.requires.m_bound

pub loop-n-init : goal.loop-n-init
loop-n-init c =
    let s = c.args in
    let f : Free s.from (drop s.i s.packet.now) = rw (all_left s.packet.now s.i) at (c.may_leap.ensures c.if-not-may_leap.false) in
    let l = length-drop s.i s.packet.now in
    (refl, omega arith, omega (arith, f.short), f.clean, leapt_none s.room (start_at s.from.seen s.from.count) s.i s.m s.packet.now s.stash.now (sound_between s.from c.requires.coherent) c.requires.i_in_bounds c.requires.m_bound)

pub overflow_sub-start : goal.overflow_sub-start
overflow_sub-start c =
    let h = rw c.in-Some.is at c.ahead.ensures in
    let g = inside c.args.packet.now c.loop-n.at c.in-Some.kind c.in-Some.start c.in-Some.end h in
    omega (arith, g.0, g.1, g.2, h.inside, c.loop-n.invariant.2)

pub overflow_add-seen : goal.overflow_add-seen
overflow_add-seen c =
    let h = rw c.in-Some.is at c.ahead.ensures in
    let g = inside c.args.packet.now c.loop-n.at c.in-Some.kind c.in-Some.start c.in-Some.end h in
    omega (arith, g.0, g.1, g.2, h.inside, c.loop-n.invariant.2)

pub overflow_sub-end : goal.overflow_sub-end
overflow_sub-end c =
    let h = rw c.in-Some.is at c.ahead.ensures in
    let g = inside c.args.packet.now c.loop-n.at c.in-Some.kind c.in-Some.start c.in-Some.end h in
    omega (arith, g.0, g.1, g.2, h.inside, c.loop-n.invariant.2)

pub token-token-requires : goal.token-token-requires
token-token-requires c =
    let h = rw c.in-Some.is at c.ahead.ensures in
    let g = inside c.args.packet.now c.loop-n.at c.in-Some.kind c.in-Some.start c.in-Some.end h in
    record {
      kind_bound = omega (arith, g.3);
      a_bound = omega (arith, g.0, g.1, g.2, h.inside, c.loop-n.invariant.2);
      b_bound = omega (arith, g.0, g.1, g.2, h.inside, c.loop-n.invariant.2);
    }

pub put-requires : goal.put-requires
put-requires c =
    let w = c.loop-n in
    let l : length w.stash ≡ length c.args.stash.now = w.invariant.0 in
    rw (l, c.token-token.ensures) (over_yes (room_of c.args.stash.now) _ w.n (omega arith))

pub overflow_sub-seen : goal.overflow_sub-seen
overflow_sub-seen c =
    let h = rw c.in-Some.is at c.ahead.ensures in
    let g = inside c.args.packet.now c.loop-n.at c.in-Some.kind c.in-Some.start c.in-Some.end h in
    omega (arith, g.0, g.1, g.2, h.inside, c.loop-n.invariant.2)

pub loop-n-preserved : goal.loop-n-preserved
loop-n-preserved c =
    let h = rw c.in-Some.is at c.ahead.ensures in
    let g = inside c.args.packet.now c.loop-n.at c.in-Some.kind c.in-Some.start c.in-Some.end h in
    let o = rw c.token-token.ensures at c.put.ensures in
    let l = simp length-set at (ap length o) in
    (l ∙ c.loop-n.invariant.0, omega (arith, c.loop-n.invariant.1), omega (arith, g.0, g.1, g.2, c.loop-n.invariant.2), clean_on c.args.packet.now c.loop-n.at c.in-Some.kind c.in-Some.start c.in-Some.end h c.loop-n.seen c.loop-n.invariant.3, leap_turn c.args.room (start_at c.args.from.seen c.args.from.count) c.args.i c.args.m c.args.packet.now c.args.stash.now c.loop-n.stash _ c.loop-n.seen c.loop-n.count c.loop-n.at c.in-Some.kind c.in-Some.start c.in-Some.end c.loop-n.n c.loop-n.invariant.4 c.loop-n.invariant.1 h c.loop-n.invariant.2 (omega arith) c.loop-n.invariant.3 (omega arith) o)

pub shape_of-stash : goal.shape_of-stash
shape_of-stash c = c.loop-n.invariant.0

pub returns : goal.returns
returns c =
    let f = c.may_leap.ensures c.if-not-may_leap.false in
    leapt_same c.args.room c.args.from (start_at c.args.from.seen c.args.from.count) _ (start_at c.loop-n.seen c.loop-n.count) c.args.i c.args.m c.args.packet.now c.args.stash.now c.loop-n.stash c.loop-n.at f.between c.start_at.ensures c.loop-n.invariant.4
