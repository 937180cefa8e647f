-- `forms::tested_at` meets its contract. Assumes nothing.
use mathlib.Core.Path.{refl}
use Rattle.forms.proofs.Writes.{test_writes}
use Rattle.forms.proofs.tested_at.Goals as goal

pub returns : goal.returns
returns c = λ area. test_writes c.tree_behind-x.ensures.behind c.tree_behind-x.auto.nodes c.requires.test (rw c.of_kind.ensures at c.node_behind.ensures.behind) refl area
