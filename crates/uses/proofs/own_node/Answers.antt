-- `uses::own_node` meets its contract. Assumes nothing.
use native.Mathlib.Omega.{arith}
use Rattle.uses.proofs.Owners.{gives_none, gives_next}
use Rattle.uses.proofs.own_node.Goals as goal
use Rattle.uses.proofs.own_node.Goals.{in-Some, in_default}

pub loop-child-init : goal.loop-child-init
loop-child-init c = gives_none

pub loop-child-preserved : goal.loop-child-preserved
loop-child-preserved c = elim c.match-child.branch [
  | in-Some w ↦ rw w.owners-is (gives_next c.children-words.result c.loop-child.child-index (omega arith) w.in-Some.is c.loop-child.invariant w.own.ensures)
  | in_default w ↦ rw w.owners-is (gives_next c.children-words.result c.loop-child.child-index (omega arith) w.in_default.is c.loop-child.invariant gives_none)
]
