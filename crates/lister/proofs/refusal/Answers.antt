-- `lister::refusal` meets its contract. Assumes nothing.
use Rattle.lister.proofs.Written.{refusal_grows}
use Rattle.lister.proofs.refusal.Goals as goal

pub returns : goal.returns
returns c = refusal_grows c.args.why _ _ c.number.ensures c.place.ensures c.put.ensures c.number-2.ensures.grows c.put-2.ensures c.number-3.ensures.grows
