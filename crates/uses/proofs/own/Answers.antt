-- `uses::own` meets its contract. Assumes nothing.
use Rattle.uses.proofs.Owners.{gives_past}
use Rattle.uses.proofs.own.Goals as goal

pub returns-else-at-lt1024 : goal.returns-else-at-lt1024
returns-else-at-lt1024 c = gives_past _ _ _ c.if-at-lt1024.false
