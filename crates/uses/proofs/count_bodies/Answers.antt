-- `uses::count_bodies` meets its contract: the bodies of the actions before `k` are counted. Assumes nothing.
use Rattle.uses.proofs.Counts.{each-none, each-next}
use Rattle.uses.proofs.count_bodies.Goals as goal

pub loop-k-init : goal.loop-k-init
loop-k-init c = each-none _

pub loop-k-preserved : goal.loop-k-preserved
loop-k-preserved c = each-next _ _ c.loop-k.invariant (rw c.body.ensures at c.count.ensures)
