-- `variables::put_choice` meets its contract. Assumes nothing.
use Rattle.variables.proofs.Choices.{choice}
use Rattle.variables.proofs.put_choice.Goals as goal

pub returns : goal.returns
returns c = choice _ _ _ _ _ c.put_side-x.ensures c.put_side-x.auto.nodes c.start-s.ensures c.put_side-y.ensures c.put_side-y.auto.nodes c.start-e.ensures c.of_kind.ensures c.put_node.ensures
