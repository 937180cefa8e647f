-- `lister::number` meets its contract. Assumes nothing.
use Rattle.text.proofs.Pieces.{grows_more}
use Rattle.lister.proofs.number.Goals as goal

pub returns-clause-grows : goal.returns-clause-grows
returns-clause-grows c = search grows_more
