-- `states::assign` meets its contract. Assumes nothing.
use Rattle.states.proofs.Leaves.{assigned}
use Rattle.states.proofs.assign.Goals as goal

pub returns : goal.returns
returns c = search assigned
