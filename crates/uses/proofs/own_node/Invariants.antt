-- The invariants of `uses::own_node`. Assumes nothing.
use lib.ListN.{take}
use Rattle.uses.specs.Counts.{all_there}
use Rattle.uses.specs.Owners.{Gives}
use Rattle.uses.proofs.own_node.Given as goal

abbrev pub invariant-loop-child : goal.invariant-loop-child
invariant-loop-child l = Gives (all_there (take l.child-index l.child-items)) l.fn.owner l.fn.owners l.owners
