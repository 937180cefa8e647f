-- `bits::lowest` meets its contract: the mask of ones is the remainder. Assumes nothing.
use lib.Bits.{and_mask}
use Rattle.bits.proofs.lowest.Goals as goal

pub returns : goal.returns
returns c = rw c.ones.ensures.value (and_mask _ _)
