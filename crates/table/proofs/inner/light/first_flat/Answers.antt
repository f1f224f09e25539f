-- Each return is a law of Children: `last_out`, `left_out`, `told_first`. A left child that passed the tests so far has an entry (`left_in`).
use native.Mathlib.Omega.{arith}
use lib.ListN.{length}
use borrow.Author.Rules.{rules}
use Rattle.table.proofs.Children.{last_out, left_out, left_in, told_first}
use Rattle.table.proofs.inner.light.first_flat.Goals as goal

pub returns-then-last-one : goal.returns-then-last-one
returns-then-last-one c =
    let place = c.args.place.now in
    last_out place.nodes.now c.args.texts.now.store.now place.i c.args.one c.args.two c.requires {x = c.if-two-eq1.last} (search rules) c.if-last-one.true

pub returns-then-p-two : goal.returns-then-p-two
returns-then-p-two c =
    let place = c.args.place.now in
    left_out place.nodes.now c.args.texts.now.store.now place.i place.firsts_are c.args.one c.args.two c.requires {x = c.if-two-eq1.last} (search rules) c.if-last-one.false c.from.ensures c.if-p-two.true

pub bounds-place-p : goal.bounds-place-p
bounds-place-p c =
    let place = c.args.place.now in
    left_in place.nodes.now c.args.texts.now.store.now place.i place.firsts_are c.args.one c.args.two c.requires {x = c.if-two-eq1.last} (search rules) c.if-last-one.false c.from.ensures c.if-p-two.false {n = length place.firsts.now} (omega arith) (omega arith)

pub returns : goal.returns
returns c =
    let place = c.args.place.now in
    told_first place.nodes.now c.args.texts.now.store.now place.i place.firsts_are c.args.one c.args.two c.requires {x = c.if-two-eq1.last} (search rules) c.if-last-one.false c.from.ensures c.if-p-two.false c.from-2.ensures
