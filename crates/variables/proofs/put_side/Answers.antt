-- `variables::put_side` meets its contract. Assumes nothing.
use Rattle.std.proofs.Common.{rules}
use Rattle.variables.proofs.Equations.{begins, goes_on}
use Rattle.variables.proofs.put_side.Goals as goal

pub loop-i-init : goal.loop-i-init
loop-i-init c = begins

pub loop-i-preserved : goal.loop-i-preserved
loop-i-preserved c = goes_on c.requires c.loop-i.invariant (search rules) c.start-s.ensures c.put_equation-tied.ensures c.put_equation-tied.auto.nodes
