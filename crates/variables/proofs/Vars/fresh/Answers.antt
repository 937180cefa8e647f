-- `variables::Vars::fresh` meets its contract. Assumes nothing.
use Rattle.variables.proofs.Widths.{fresh_holds}
use Rattle.variables.proofs.Vars.fresh.Goals as goal

pub returns-clause-holds : goal.returns-clause-holds
returns-clause-holds c = λ lent s h. fresh_holds h _ c.requires.f_bound c.width.ensures c.put_width.ensures
