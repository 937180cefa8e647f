-- `uses::count_children` meets its contract: the children of the nodes before `i` are counted. Assumes nothing.
use native.Mathlib.Omega.{arith}
use mathlib.Core.Path.{◌≡◌}
use Rattle.model.specs.Blocks.{N}
use Rattle.uses.proofs.Counts.{joined-none, joined-next}
use Rattle.uses.proofs.count_children.Goals as goal

pub loop-i-init : goal.loop-i-init
loop-i-init c = joined-none _

pub loop-i-preserved : goal.loop-i-preserved
loop-i-preserved c = joined-next _ _ c.loop-i.invariant (rw c.node.ensures at c.count_node.ensures)

pub returns : goal.returns
returns c = let e : c.loop-i.i ≡ N c.args.p.now = omega arith in rw e at c.loop-i.invariant
