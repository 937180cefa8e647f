-- A proof by computation says `unfolding compute`, which opens every definition that computes. Assumes nothing.
use Rattle.model.specs.Lists
use Rattle.model.specs.Bytes
use Rattle.model.specs.Blocks
use Rattle.model.specs.Files
use Rattle.model.specs.Nodes
use Rattle.model.specs.Trees
use Rattle.model.specs.Tables
use Rattle.model.specs.Runs
use Rattle.model.specs.Passive
use Rattle.model.specs.Emit
use Rattle.model.specs.Condition
use Rattle.model.specs.Walk
use Rattle.model.specs.Refusals
use Rattle.model.specs.Calls
use Rattle.model.specs.Listing

unfoldable pub compute : Unit {0}
unfolding Lists.each Lists.build Lists.joined Lists.every Lists.exists Lists.first_not Lists.those Lists.times Bytes.digits Blocks.words Files.marked_by Files.record_there Files.records_from Files.held Files.words_of Files.count_of Nodes.kind_in Nodes.sort_of Trees.trees Trees.bits_of Trees.truth_of Tables.matches Tables.placed Tables.ordered Tables.tried Tables.first_that Runs.run Runs.pipeline_run Passive.renamed Passive.renamed_test Passive.joined_vars Passive.new_widths Passive.equations Passive.join Passive.passify Passive.key_tests Passive.chain_form Passive.passive_by Emit.emit_value Emit.emit_test Emit.emit_equations Emit.emit Emit.passive_form Condition.entries_of Condition.condition_of Condition.evaluated Condition.bits_words Walk.equal Walk.goes_on Walk.goes_wrong Walk.walk_on Walk.walk_wrong Refusals.judge Refusals.counts_well Refusals.pipeline_sorts Refusals.action_well Refusals.call_well Refusals.table_well Refusals.uses Refusals.gathered Refusals.under_each Refusals.placed_well Refusals.pair_well Refusals.rule_well Refusals.check_rows Calls.load Calls.check Calls.lookup Calls.run Calls.confirm Calls.passify Calls.condition Calls.evaluate Calls.condition_truth Calls.extract Listing.node_lines Listing.listing
compute = tt
