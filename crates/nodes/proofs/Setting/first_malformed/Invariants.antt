-- The invariants of `nodes::Setting::first_malformed`. Assumes nothing.
use Rattle.nodes.proofs.Kept.{Kept}
use Rattle.nodes.proofs.Setting.first_malformed.Given as goal

abbrev pub invariant-loop-i : goal.invariant-loop-i
invariant-loop-i l = Kept l.self.stage l.self.widths.now l.self.tables l.nodes l.codes l.i
