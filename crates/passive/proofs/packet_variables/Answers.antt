-- `passive::packet_variables` meets its contract. Assumes nothing.
use Rattle.std.proofs.Common.{rules}
use native.Mathlib.Omega.{arith}
use Rattle.blocks.proofs.Accepted.{few-fields}
use Rattle.passive.proofs.Formed.{none_numbered, more_numbered}
use Rattle.passive.proofs.packet_variables.Goals as goal

pub loop-i-init : goal.loop-i-init
loop-i-init c = none_numbered _ (search rules)

pub loop-i-preserved : goal.loop-i-preserved
loop-i-preserved c = more_numbered _ _ c.loop-i.invariant (search rules)

pub overflow_cast-result : goal.overflow_cast-result
overflow_cast-result c = let few = few-fields _ _ c.args.p.now.accepted in search rules

pub returns-clause-current_value : goal.returns-clause-current_value
returns-clause-current_value c =
    let few = few-fields _ _ c.args.p.now.accepted in c.loop-i.invariant.first _ (omega (arith, c.loop-i-test.false))
