-- `runs::run_whole` meets its contract. Assumes nothing.
use Rattle.runs.proofs.Whole.{root_runs}
use Rattle.runs.proofs.run_whole.Goals as goal

pub run_at-requires : goal.run_at-requires
run_at-requires c = root_runs _ _ _ c.args.p.now.accepted c.requires _ c.start.ensures _ c.root-root.ensures
