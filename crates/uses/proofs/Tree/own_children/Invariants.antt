-- The invariants of `uses::Tree::own_children`. Assumes nothing.
use Rattle.model.specs.Blocks.{A}
use Rattle.uses.specs.Owners.{Owned}
use Rattle.uses.proofs.Tree.own_children.Given as goal

abbrev pub invariant-loop-i : goal.invariant-loop-i
invariant-loop-i l = Owned l.p (A l.p) l.i l.owners
