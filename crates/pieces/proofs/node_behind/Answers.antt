-- `pieces::node_behind` meets its contract. Assumes nothing.
use mathlib.Core.List.{[], ◌∷◌}
use Rattle.pieces.proofs.Pieces.{lent_behind}
use Rattle.pieces.proofs.node_behind.Goals as goal

pub returns-clause-behind : goal.returns-clause-behind
returns-clause-behind c = lent_behind c.start-s.ensures (λ _. _ ∷ []) c.put_node.ensures
