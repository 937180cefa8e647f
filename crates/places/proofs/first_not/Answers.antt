-- `places::first_not` meets its contract. Assumes nothing.
use native.Mathlib.Omega.{arith}
use mathlib.Core.Path.{refl, sym}
use Rattle.model.specs.Refusals.{each_of}
use Rattle.model.proofs.First.{first-at, first_past}
use Rattle.model.proofs.Loops.{begins, goes_on, stops, ends}
use Rattle.places.proofs.first_not.Goals as goal

pub loop-i-init : goal.loop-i-init
loop-i-init g c = λ b h. begins (each_of 0 c.args.count b) c.args.count refl

pub loop-i-preserved : goal.loop-i-preserved
loop-i-preserved g c =
    λ b h. goes_on (each_of 0 c.args.count b) c.args.count _ (c.loop-i.invariant b h) c.loop-i-test.true _ (h _ _ c.loop-i-test.true c.test.ensures) c.if-not-test.false

pub returns-then-not-test : goal.returns-then-not-test
returns-then-not-test g c =
    λ b h. let stopped = stops (each_of 0 c.args.count b) c.args.count _ (c.loop-i.invariant b h) c.loop-i-test.true _ (h _ _ c.loop-i-test.true c.test.ensures) c.if-not-test.true in
    sym (first-at b c.args.count _ stopped c.loop-i-test.true)

pub returns : goal.returns
returns g c =
    λ b h. sym (first_past b c.args.count _ (ends (each_of 0 c.args.count b) c.args.count _ (c.loop-i.invariant b h) (omega arith)) (omega arith))
