-- `pieces::put_node` meets its contract. Assumes nothing.
use Rattle.std.proofs.Common.{rules}
use Rattle.pieces.proofs.Pieces.{put-node}
use Rattle.pieces.proofs.put_node.Goals as goal

pub returns : goal.returns
returns c = put-node c.args.n c.put_room.ensures (search rules)
