-- `lister::form` meets its contract. Assumes nothing.
use Rattle.text.proofs.Pieces.{grows_more}
use Rattle.lister.proofs.form.Goals as goal

pub returns : goal.returns
returns c = rw c.in_ok-form.ensures.text (grows_more c.heading.ensures.grows c.lines.ensures)
