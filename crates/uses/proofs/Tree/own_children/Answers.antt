-- `uses::Tree::own_children` meets its contract: the children of the nodes from `i` on belong to their parents' owners. Assumes nothing.
use Prim.Native.Nat.{◌-◌}
use native.Mathlib.Omega.{arith}
use Rattle.uses.proofs.Owners.{owned_node}
use Rattle.uses.proofs.Tree.own_children.Goals as goal

pub loop-i-preserved : goal.loop-i-preserved
loop-i-preserved c =
    let tree = c.args.self.now in
    let i = c.loop-i.i in
    owned_node _ tree.nodes tree.used_once i (i - 1) (omega arith) (omega arith) c.loop-i.invariant (rw c.node.ensures at c.own_node.ensures)
