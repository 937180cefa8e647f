-- The measure of the cycle of calls is the node's number, which falls at each call. Assumes nothing.
use Rattle.values.proofs.+bits_at_truth_at.Given as goal

abbrev pub decreases-bits_at : goal.decreases-bits_at
decreases-bits_at l = l.n

abbrev pub decreases-truth_at : goal.decreases-truth_at
decreases-truth_at l = l.n
