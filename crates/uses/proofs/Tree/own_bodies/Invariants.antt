-- The invariants of `uses::Tree::own_bodies`. Assumes nothing.
use Rattle.model.specs.Blocks.{N}
use Rattle.uses.specs.Owners.{Owned}
use Rattle.uses.proofs.Tree.own_bodies.Given as goal

abbrev pub invariant-loop-k : goal.invariant-loop-k
invariant-loop-k l = Owned l.p l.k (N l.p) l.owners
