-- `passive::form_in` meets its contract. Assumes nothing.
use Rattle.blocks.proofs.Accepted.{few-fields}
use Rattle.actions.proofs.Actions.{root-statement}
use Rattle.passive.proofs.Formed.{few-first, form-counts, form_leaves}
use Rattle.passive.proofs.form_in.Goals as goal

pub invariant_of-first : goal.invariant_of-first
invariant_of-first c = record { few_variables = λ _. few-first (few-fields _ _ c.args.p.now.accepted) c.packet_variables.ensures.next_value }

pub statement_at-requires : goal.statement_at-requires
statement_at-requires c = record { statement = rw c.root-root.ensures (root-statement _ _ c.args.p.now.accepted) }

pub returns-clause-counts : goal.returns-clause-counts
returns-clause-counts c =
    form-counts c.args.p.now.pipeline c.args.p.now.rules c.args.p.now.accepted c.args.widths.now _ c.packet_variables.ensures.current_value c.packet_variables.ensures.next_value _ c.widths.ensures c.put_room.ensures c.put_room.auto.out
    (rw c.root-root.ensures at c.statement_at.ensures)

pub returns-clause-leaves : goal.returns-clause-leaves
returns-clause-leaves c =
    form_leaves c.args.p.now.pipeline c.args.p.now.rules c.args.p.now.accepted c.args.widths.now _ c.packet_variables.ensures.current_value c.packet_variables.ensures.next_value _ c.widths.ensures c.put_room.ensures c.put_room.auto.out
    (rw c.root-root.ensures at c.statement_at.ensures)
