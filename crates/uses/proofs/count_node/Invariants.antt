-- The invariants of `uses::count_node`. Assumes nothing.
use lib.ListN.{take}
use Rattle.uses.specs.Counts.{all_there, Adds}
use Rattle.uses.proofs.count_node.Given as goal

abbrev pub invariant-loop-child : goal.invariant-loop-child
invariant-loop-child l = Adds (all_there (take l.child-index l.child-items)) l.fn.counts l.counts
