-- `lister::passive_form` meets its contract. Assumes nothing.
use Rattle.std.proofs.Common.{rules}
use Rattle.std.proofs.lemmas.Result.{err_from_is_err_and}
use Rattle.model.specs.Listing.{block_room, width_room}
use Rattle.lister.proofs.Told.{zeros, load-refused, forms}
use Rattle.lister.proofs.passive_form.Goals as goal

pub returns-in_err-blocks : goal.returns-in_err-blocks
returns-in_err-blocks c =
    let p = err_from_is_err_and c.from_residual.result c.from_residual.ensures.1 in
    rw (p.1, p.2) (load-refused c.args.file.now (zeros block_room) (zeros block_room) c.in_err-blocks.ensures)

pub returns : goal.returns
returns c =
    forms c.args.file.now (zeros block_room) (zeros block_room) c.in_ok-blocks.ensures (search rules) (search rules) (search rules) (zeros width_room) _ c.passify.ensures (search rules)
