-- `forms::pair_behind` meets its contract. Assumes nothing.
use Rattle.forms.proofs.pair_behind.Goals as goal

pub returns-clause-behind : goal.returns-clause-behind
returns-clause-behind c = rw c.of_kind-pair.ensures at c.node_behind.ensures.behind
