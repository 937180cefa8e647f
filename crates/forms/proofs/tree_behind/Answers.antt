-- `forms::tree_behind` meets its contract. Assumes nothing.
use Rattle.forms.proofs.tree_behind.Goals as goal

pub returns-clause-behind : goal.returns-clause-behind
returns-clause-behind c = rw (← c.fields-current.ensures.value) c.child_behind.ensures.behind
