-- `records::load` meets its contract. Assumes nothing.
use Rattle.std.proofs.lemmas.Result.{err_from_is_err_and}
use Rattle.records.proofs.Answered.{loads_fault}
use Rattle.records.proofs.load.Goals as goal

pub returns-in_err-end_of : goal.returns-in_err-end_of
returns-in_err-end_of c = let p = err_from_is_err_and c.from_residual.result c.from_residual.ensures.1 in rw (p.1, p.2) (loads_fault _ _ _ c.scan-s.result _ c.in_err-end_of.ensures)
