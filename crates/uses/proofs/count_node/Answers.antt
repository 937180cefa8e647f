-- `uses::count_node` meets its contract. Assumes nothing.
use native.Mathlib.Omega.{arith}
use Rattle.uses.proofs.Counts.{adds_none, adds_next}
use Rattle.uses.proofs.count_node.Goals as goal
use Rattle.uses.proofs.count_node.Goals.{in-Some, in_default}

pub loop-child-preserved : goal.loop-child-preserved
loop-child-preserved c = elim c.match-child.branch [
  | in-Some w ↦ rw w.counts-is (adds_next c.children-words.result c.loop-child.child-index (omega arith) w.in-Some.is c.loop-child.invariant w.count.ensures)
  | in_default w ↦ rw w.counts-is (adds_next c.children-words.result c.loop-child.child-index (omega arith) w.in_default.is c.loop-child.invariant adds_none)
]
