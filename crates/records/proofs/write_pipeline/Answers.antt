-- `records::write_pipeline` meets its contract. Assumes nothing.
use Rattle.records.proofs.Blocks.{wrote-all}
use Rattle.records.proofs.write_pipeline.Goals as goal

pub returns : goal.returns
returns c = wrote-all _ c.args.s _ c.requires.area_has_room _ c.counts-head.ensures _ _ _ _ _ _ _ _ _ _ _ c.put.ensures c.copy_run-fields.ensures c.copy_run-nodes.ensures c.copy_run-actions.ensures c.copy_run-tables.ensures c.copy_run.ensures
