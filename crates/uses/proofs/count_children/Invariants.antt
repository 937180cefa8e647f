-- The invariants of `uses::count_children`. Assumes nothing.
use Rattle.model.specs.Lists.{joined}
use Rattle.model.specs.Blocks.{pipeline_node}
use Rattle.model.specs.Nodes.{children}
use Rattle.uses.specs.Counts.{Adds}
use Rattle.uses.proofs.count_children.Given as goal

abbrev pub invariant-loop-i : goal.invariant-loop-i
invariant-loop-i l = Adds (joined (λ j. children (pipeline_node l.p j)) l.i) l.initial.counts l.counts
