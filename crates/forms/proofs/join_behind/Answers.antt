-- `forms::join_behind` meets its contract. Assumes nothing.
use Rattle.forms.proofs.Writes.{join-behind}
use Rattle.forms.proofs.join_behind.Goals as goal

pub returns-clause-joined_behind : goal.returns-clause-joined_behind
returns-clause-joined_behind c = join-behind c.args.p.now.pipeline c.args.before c.args.left c.args.right c.start-s.ensures c.join.ensures.joins
