-- `pieces::put_nodes` meets its contract. Assumes nothing.
use Rattle.std.proofs.Common.{rules}
use Rattle.pieces.proofs.Pieces.{put-all}
use Rattle.pieces.proofs.put_nodes.Goals as goal

pub returns : goal.returns
returns c = put-all c.args.nodes.now c.write_nodes.ensures (search rules) (λ h. search rules) (λ h. search rules)
