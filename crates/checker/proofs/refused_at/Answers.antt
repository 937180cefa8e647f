-- `checker::refused_at` meets its contract. Assumes nothing.
use Rattle.checker.proofs.Judged.{passes}
use Rattle.checker.proofs.refused_at.Goals as goal

pub returns-in-None : goal.returns-in-None
returns-in-None g c = λ row e named. passes row e c.in-None.is
