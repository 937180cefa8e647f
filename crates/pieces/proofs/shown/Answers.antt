-- `pieces::shown` meets its contract. Assumes nothing.
use Rattle.pieces.proofs.Expressions.{shows_field, shows_parameter, shows_other}
use Rattle.pieces.proofs.shown.Goals as goal

pub returns-in-Field : goal.returns-in-Field
returns-in-Field c = cc (shows_field c.args.current.now c.args.given.now c.args.n c.requires c.in-Field.is)

pub returns-in-Parameter : goal.returns-in-Parameter
returns-in-Parameter c = cc (shows_parameter c.args.current.now c.args.given.now c.args.n c.requires c.in-Parameter.is)

pub returns-in_default : goal.returns-in_default
returns-in_default c = shows_other c.args.current.now c.args.given.now c.args.n c.requires c.in_default.not-Field c.in_default.not-Parameter
