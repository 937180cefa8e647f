-- `lister::line` meets its contract. Assumes nothing.
use Rattle.lister.proofs.Written.{line_grows}
use Rattle.lister.proofs.line.Goals as goal

pub returns-clause-grows : goal.returns-clause-grows
returns-clause-grows c = search line_grows
