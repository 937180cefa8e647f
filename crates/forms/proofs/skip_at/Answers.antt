-- `forms::skip_at` meets its contract. Assumes nothing.
use mathlib.Core.Path.{refl}
use Rattle.forms.proofs.Writes.{skip_writes}
use Rattle.forms.proofs.skip_at.Goals as goal

pub returns : goal.returns
returns c = λ p area. skip_writes (rw c.of_kind.ensures at c.node_behind.ensures.behind) refl area
