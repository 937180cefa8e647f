-- The invariants of `lister::lines`. Assumes nothing.
use Prim.Native.Nat.{◌+◌, ◌*◌, ◌≤◌}
use Rattle.model.specs.Lists.{each}
use Rattle.model.specs.Blocks.{plain_node}
use Rattle.model.specs.Listing.{node_lines}
use Rattle.text.specs.Adds.{Grows}
use Rattle.lister.specs.Lines.{line_room}
use Rattle.lister.proofs.lines.Given as goal

-- the lines of the nodes so far are written
abbrev pub invariant-loop-i : goal.invariant-loop-i
invariant-loop-i l = record {
  grows : Grows (node_lines 0 (each (plain_node l.nodes) l.i)) l.initial.out l.out;
  upper_bound : l.out.end ≤ l.initial.out.end + line_room * l.i;
}
