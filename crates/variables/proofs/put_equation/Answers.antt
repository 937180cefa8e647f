-- `variables::put_equation` meets its contract. Assumes nothing.
use Rattle.variables.proofs.Equations.{same_variable, one_equation}
use Rattle.variables.proofs.put_equation.Goals as goal

pub returns-then-own-joined : goal.returns-then-own-joined
returns-then-own-joined c = same_variable c.if-own-joined.true

pub returns : goal.returns
returns c = one_equation c.if-own-joined.false (rw c.equation-five.ensures at c.put_nodes.ensures)
