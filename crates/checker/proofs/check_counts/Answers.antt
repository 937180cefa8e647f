-- `checker::check_counts` meets its contract. Assumes nothing.
use mathlib.Core.Path.{refl, sym, ◌∙◌}
use Rattle.model.proofs.Accepted.{Counts, counts}
use Rattle.checker.proofs.Judged.{fails-once}
use Rattle.checker.proofs.check_counts.Goals as goal
use Rattle.checker.proofs.check_counts.Goals.{Then-counts_well}

within-limits : (c : Then-counts_well) → Counts c.args.pipeline.now c.args.rules.now
within-limits c = counts _ _ (sym c.counts_well.ensures ∙ c.if-counts_well.true)

pub new-requires : goal.new-requires
new-requires c = (within-limits c).pipeline_words

pub invariant_of-result : goal.invariant_of-result
invariant_of-result c =
    let h = within-limits (goal.at.invariant_of-result c).Then-counts_well in
    rw c.new.ensures (record { nodes = h.most_nodes; actions = h.most_actions })

pub returns-else-counts_well-clause-judged : goal.returns-else-counts_well-clause-judged
returns-else-counts_well-clause-judged c = record { at = 0; first = fails-once _ (sym c.counts_well.ensures ∙ c.if-counts_well.false); names = refl }
