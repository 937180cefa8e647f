-- `runner::lookup_part` meets its contract. Assumes nothing.
use Rattle.runner.proofs.Answered.{lookup_refuses}
use Rattle.runner.proofs.lookup_part.Goals as goal

pub returns-in-Err-clause-value : goal.returns-in-Err-clause-value
returns-in-Err-clause-value c = lookup_refuses _ _ _ _ c.in-Err.ensures c.args.table
