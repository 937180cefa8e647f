-- `passive::passify` meets its contract. Assumes nothing.
use Rattle.std.proofs.lemmas.Result.{err_from_is_err_and}
use Rattle.passive.proofs.Formed.{check-refused}
use Rattle.passive.proofs.passify.Goals as goal

pub returns-in_err-program : goal.returns-in_err-program
returns-in_err-program c =
    let q = err_from_is_err_and c.from_residual.result c.from_residual.ensures.1 in
    rw (q.1, q.2) (check-refused _ _ _ _ _ c.in_err-program.ensures.answers)

pub returns : goal.returns
returns c = rw (c.in_ok-program.ensures.blocks.0, c.in_ok-program.ensures.blocks.1) at c.passify_checked.ensures
