-- `variables::join_fields` meets its contract. Assumes nothing.
use Rattle.std.proofs.Common.{rules}
use Rattle.variables.proofs.Rules.{goes_on, ends}
use Rattle.variables.proofs.join_fields.Goals as goal

pub loop-i-preserved : goal.loop-i-preserved
loop-i-preserved c = goes_on c.loop-i.invariant (search rules) c.joined-z.ensures c.numbered-next.ensures c.numbered-next.auto.widths

pub returns : goal.returns
returns c = ends c.loop-i.invariant (search rules)
