-- `nodes::Setting::sort_of` meets its contract. Assumes nothing.
use lib.ListN.{get_or}
use Rattle.model.specs.Nodes.{sort_of}
use Rattle.model.specs.declared.Sort.{Sort}
use Rattle.nodes.proofs.Setting.sort_of.Goals as goal

pub returns : goal.returns
unfolding sort_of
returns c before p q t = cc (c.sort_by.ensures (λ i. get_or before i Sort.Malformed) p q t)
