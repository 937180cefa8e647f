-- The measure is the node's number, and a node of the program is above every body's. Assumes nothing.
use Rattle.actions.specs.Scopes.{in_body}
use Rattle.runs.proofs.Steps.{depth}
use Rattle.runs.proofs.+run_at.Given as goal

abbrev pub decreases-run_at : goal.decreases-run_at
decreases-run_at l = depth (in_body l.scope) l.p.now.pipeline l.n
