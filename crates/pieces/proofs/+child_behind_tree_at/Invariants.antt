-- The measure of the cycle of calls goes by the node's number, which falls at each child. Assumes nothing.
use Prim.Native.Nat.{◌+◌, ◌*◌}
use Rattle.pieces.proofs.Expressions.{child_depth}
use Rattle.pieces.proofs.+child_behind_tree_at.Given as goal

abbrev pub decreases-child_behind : goal.decreases-child_behind
decreases-child_behind l = child_depth l.role l.x

abbrev pub decreases-tree_at : goal.decreases-tree_at
decreases-tree_at l = 2 * l.n + 1
