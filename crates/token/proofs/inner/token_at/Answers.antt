use Prim.Native.Nat.{◌<◌}
use mathlib.Core.Path.{refl, sym, ◌∙◌}
use native.Mathlib.Omega.{arith}
use Rattle.token.proofs.Places.{at_over, at_space, at_blank, at_word, at_number, at_one, at_opener, at_next, next_past, at_none}
use Rattle.token.proofs.inner.token_at.Goals as goal

pub loop-i-init : goal.loop-i-init
loop-i-init c = refl

pub loop-i-preserved-then-b-eq32 : goal.loop-i-preserved-then-b-eq32
loop-i-preserved-then-b-eq32 c = sym (at_space _ _ c.loop-i-test.true c.if-b-eq32.true) ∙ c.loop-i.invariant

pub loop-i-preserved-in-1 : goal.loop-i-preserved-in-1
loop-i-preserved-in-1 c = sym (at_blank _ _ c.loop-i-test.true _ c.class-c.ensures c.in-1.is) ∙ c.loop-i.invariant

pub returns-in-2 : goal.returns-in-2
returns-in-2 c = at_word _ _ c.loop-i-test.true _ c.class-c.ensures c.in-2.is _ c.word_at.ensures ∙ c.loop-i.invariant

pub returns-in-3 : goal.returns-in-3
returns-in-3 c = at_number _ _ c.loop-i-test.true _ c.class-c.ensures c.in-3.is _ c.digits_end-end.ensures ∙ c.loop-i.invariant

pub returns-in-4 : goal.returns-in-4
returns-in-4 c = at_one _ _ c.loop-i-test.true _ c.class-c.ensures c.in-4.is _ c.one_kind.ensures ∙ c.loop-i.invariant

pub returns-then-next-i : goal.returns-then-next-i
returns-then-next-i c = at_opener _ _ c.loop-i-test.true _ c.class-c.ensures c.in-5.is _ c.opener_blank_end-next.ensures c.if-next-i.true _ c.opener_at.ensures ∙ c.loop-i.invariant

pub loop-i-smaller : goal.loop-i-smaller
loop-i-smaller c = let p : c.loop-i.i < c.opener_blank_end-next.result = next_past c.args.s.now _ c.loop-i-test.true c.class-c.result c.class-c.ensures c.in-5.is _ c.opener_blank_end-next.ensures c.if-next-i.false in omega arith

pub loop-i-preserved : goal.loop-i-preserved
loop-i-preserved c = sym (at_next _ _ c.loop-i-test.true _ c.class-c.ensures c.in-5.is _ c.opener_blank_end-next.ensures c.if-next-i.false) ∙ c.loop-i.invariant

pub returns-in_default : goal.returns-in_default
returns-in_default c = at_none _ _ c.loop-i-test.true _ c.class-c.ensures c.in_default.in_default-own.rest.0.0.0.0.1 c.in_default.in_default-own.rest.0.0.0.1 c.in_default.in_default-own.rest.0.0.1 c.in_default.in_default-own.rest.0.1 c.in_default.in_default-own.rest.1 ∙ c.loop-i.invariant

pub returns : goal.returns
returns c = at_over _ _ c.loop-i-test.false ∙ c.loop-i.invariant
