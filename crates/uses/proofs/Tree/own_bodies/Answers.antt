-- `uses::Tree::own_bodies` meets its contract: the bodies of the actions before `k` belong to their actions. Assumes nothing.
use native.Mathlib.Omega.{arith}
use Rattle.uses.proofs.Owners.{owned_body}
use Rattle.uses.proofs.Tree.own_bodies.Goals as goal

pub loop-k-preserved : goal.loop-k-preserved
loop-k-preserved c =
    let tree = c.args.self.now in
    owned_body _ tree.nodes tree.used_once c.loop-k.k (omega arith) c.loop-k.invariant (rw c.body.ensures at c.own.ensures)
