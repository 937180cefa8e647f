-- `lister::heading` meets its contract. Assumes nothing.
use Rattle.lister.proofs.Written.{heading_grows}
use Rattle.lister.proofs.heading.Goals as goal

pub returns-clause-grows : goal.returns-clause-grows
returns-clause-grows c = search heading_grows
