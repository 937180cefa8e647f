-- The functions of the cycle meet their contracts. Assumes nothing.
use Prim.Native.Nat.{ℕ}
use native.Mathlib.Omega.{arith}
use Rattle.std.specs.Prelude.{Some, None}
use Rattle.model.specs.Passive.{Origin}
use Rattle.actions.proofs.Read.{havoc-field}
use Rattle.values.proofs.Others.{Skips}
use Rattle.forms.proofs.Writes.{sequence_writes, choice_writes}
use Rattle.forms.proofs.Steps.{Here, body_asks, body_is, same-rule, no-rule, next_of_table, chain_below, chain_is, of_rule, rest_asks, default_is, assign_asks, assume_asks, assert_asks, sequence_asks, choice_asks, apply_asks, assign_is, havoc_is, sequence_is, choice_is, apply_is, assume_gives, assert_gives, rest_gives}
use Rattle.forms.proofs.+statements.Goals as goal
use Rattle.forms.proofs.+statements.Goals.{statement_at-After-kind_in}

-- what is known where the node has been read
here : (t : ℕ) (c : statement_at-After-kind_in t)
    → Here c.args.p.now.pipeline c.args.p.now.rules c.args.scope c.args.n t c.node-read.result c.kind_in.result
here t c =
    record {
      start = c.decreases;
      read = record { statement = c.requires.statement; words = c.node-read.ensures; is_kind = c.kind_in.ensures };
    }

pub chain_at-rest_at-right-requires : goal.chain_at-rest_at-right-requires
chain_at-rest_at-right-requires t c = rest_asks c.args.p.now.pipeline c.args.p.now.rules c.requires.t_bound c.requires.of_table c.in-Some.is c.decreases

pub chain_at-statement_at-requires : goal.chain_at-statement_at-requires
chain_at-statement_at-requires t c = body_asks c.args.p.now.pipeline c.args.p.now.rules c.args.p.now.accepted c.requires.t_bound None (no-rule c.args.p.now.rules) c.action_of-action.result c.action_of-action.ensures (omega (arith, c.decreases))

pub chain_at-returns-in-Some : goal.chain_at-returns-in-Some
chain_at-returns-in-Some t c =
    rw (← chain_is c.args.p.now.pipeline c.args.p.now.rules c.args.t _ (of_rule c.args.p.now.pipeline c.args.p.now.rules c.requires.t_bound c.requires.of_table c.in-Some.is c.decreases) c.in-Some.is)
    (choice_writes Origin.of_chain c.rule_at-left.ensures c.rule_at-left.auto.nodes c.beside.ensures.at_value c.beside.ensures.vars_value c.rest_at-right.ensures c.rest_at-right.auto.nodes c.join_behind.ensures.onward c.join_behind.ensures.joined_behind)

pub chain_at-returns-in-None : goal.chain_at-returns-in-None
chain_at-returns-in-None t c =
    rw (← default_is c.args.p.now.pipeline c.args.p.now.rules c.args.t c.in-None.is, ← body_is c.args.p.now.pipeline c.args.p.now.rules c.args.p.now.accepted c.requires.t_bound None (no-rule c.args.p.now.rules) c.action_of-action.result c.action_of-action.ensures)
    c.statement_at.ensures

pub choice_at-returns : goal.choice_at-returns
choice_at-returns t c =
    choice_writes Origin.of_pipeline c.statement_at-left.ensures c.statement_at-left.auto.nodes c.beside.ensures.at_value c.beside.ensures.vars_value c.statement_at-right.ensures
    c.statement_at-right.auto.nodes c.join_behind.ensures.onward c.join_behind.ensures.joined_behind

pub rest_at-chain_at-rest-requires : goal.rest_at-chain_at-rest-requires
rest_at-chain_at-rest-requires t c = (chain_below c.args.p.now.pipeline c.args.p.now.rules c.args.t c.args.i c.requires.of_table c.decreases c.next.ensures, (c.requires.t_bound, next_of_table _ _ _ c.next.ensures))

pub rest_at-pair_behind-requires-clause-left_some : goal.rest_at-pair_behind-requires-clause-left_some
rest_at-pair_behind-requires-clause-left_some t c = (c.guard_at-guard.ensures c.args.widths.now).some

pub rest_at-returns : goal.rest_at-returns
rest_at-returns t c =
    sequence_writes (c.guard_at-guard.ensures c.args.widths.now) c.guard_at-guard.auto.nodes (rw c.next.ensures at c.chain_at-rest.ensures) c.chain_at-rest.auto.nodes
    c.pair_behind.ensures.behind c.pair_behind.ensures.vars_value

pub rule_at-statement_at-body-requires : goal.rule_at-statement_at-body-requires
rule_at-statement_at-body-requires t c = body_asks c.args.p.now.pipeline c.args.p.now.rules c.args.p.now.accepted c.requires.t_bound (Some c.args.i) (same-rule c.args.p.now.rules c.requires.i_bound) c.action_of-action.result c.action_of-action.ensures (omega (arith, c.decreases))

pub rule_at-pair_behind-requires-clause-left_some : goal.rule_at-pair_behind-requires-clause-left_some
rule_at-pair_behind-requires-clause-left_some t c = (c.guard_at-guard.ensures c.args.widths.now).some

pub rule_at-returns : goal.rule_at-returns
rule_at-returns t c =
    sequence_writes (c.guard_at-guard.ensures c.args.widths.now) c.guard_at-guard.auto.nodes
    (rw (body_is c.args.p.now.pipeline c.args.p.now.rules c.args.p.now.accepted c.requires.t_bound (Some c.args.i) (same-rule c.args.p.now.rules c.requires.i_bound) c.action_of-action.result c.action_of-action.ensures) at c.statement_at-body.ensures)
    c.statement_at-body.auto.nodes c.pair_behind.ensures.behind c.pair_behind.ensures.vars_value

pub sequence_at-returns : goal.sequence_at-returns
sequence_at-returns t c =
    sequence_writes c.statement_at-left.ensures c.statement_at-left.auto.nodes c.statement_at-right.ensures c.statement_at-right.auto.nodes
    c.pair_behind.ensures.behind c.pair_behind.ensures.vars_value

pub statement_at-assign_at-requires-clause-f_bound : goal.statement_at-assign_at-requires-clause-f_bound
statement_at-assign_at-requires-clause-f_bound t c = (assign_asks (here t (goal.at.statement_at-assign_at-requires-clause-f_bound t c).After-kind_in) c.in-Assign.is).0

pub statement_at-assign_at-requires-clause-value_bound : goal.statement_at-assign_at-requires-clause-value_bound
statement_at-assign_at-requires-clause-value_bound t c = (assign_asks (here t (goal.at.statement_at-assign_at-requires-clause-value_bound t c).After-kind_in) c.in-Assign.is).1.0

pub statement_at-assign_at-requires-clause-value : goal.statement_at-assign_at-requires-clause-value
statement_at-assign_at-requires-clause-value t c = rw c.given-given.ensures (assign_asks (here t (goal.at.statement_at-assign_at-requires-clause-value t c).After-kind_in) c.in-Assign.is).1.1

pub statement_at-havoc_at-requires-clause-f_bound : goal.statement_at-havoc_at-requires-clause-f_bound
statement_at-havoc_at-requires-clause-f_bound t c = havoc-field (here t (goal.at.statement_at-havoc_at-requires-clause-f_bound t c).After-kind_in).read c.in-Havoc.is

pub statement_at-tested_at-requires-clause-t_bound : goal.statement_at-tested_at-requires-clause-t_bound
statement_at-tested_at-requires-clause-t_bound t c = (assume_asks (here t (goal.at.statement_at-tested_at-requires-clause-t_bound t c).After-kind_in) c.in-Assume.is).0

pub statement_at-tested_at-requires-clause-test : goal.statement_at-tested_at-requires-clause-test
statement_at-tested_at-requires-clause-test t c = rw c.given-given.ensures (assume_asks (here t (goal.at.statement_at-tested_at-requires-clause-test t c).After-kind_in) c.in-Assume.is).1

pub statement_at-tested_at-requires-in-Assert-clause-t_bound : goal.statement_at-tested_at-requires-in-Assert-clause-t_bound
statement_at-tested_at-requires-in-Assert-clause-t_bound t c = (assert_asks (here t (goal.at.statement_at-tested_at-requires-in-Assert-clause-t_bound t c).After-kind_in) c.in-Assert.is).0

pub statement_at-tested_at-requires-in-Assert-clause-test : goal.statement_at-tested_at-requires-in-Assert-clause-test
statement_at-tested_at-requires-in-Assert-clause-test t c = rw c.given-given.ensures (assert_asks (here t (goal.at.statement_at-tested_at-requires-in-Assert-clause-test t c).After-kind_in) c.in-Assert.is).1

pub statement_at-sequence_at-requires : goal.statement_at-sequence_at-requires
statement_at-sequence_at-requires t c = sequence_asks (here t (goal.at.statement_at-sequence_at-requires t c).After-kind_in) c.in-Sequence.is

pub statement_at-choice_at-requires : goal.statement_at-choice_at-requires
statement_at-choice_at-requires t c = choice_asks (here t (goal.at.statement_at-choice_at-requires t c).After-kind_in) c.in-Choice.is

pub statement_at-chain_at-requires : goal.statement_at-chain_at-requires
statement_at-chain_at-requires t c = apply_asks (here t (goal.at.statement_at-chain_at-requires t c).After-kind_in) c.in-Apply.is c.next.ensures

pub statement_at-returns-in-Assign : goal.statement_at-returns-in-Assign
statement_at-returns-in-Assign t c = rw (← assign_is (here t (goal.at.statement_at-returns-in-Assign t c).After-kind_in) c.in-Assign.is) (rw c.given-given.ensures at c.assign_at.ensures)

pub statement_at-returns-in-Havoc : goal.statement_at-returns-in-Havoc
statement_at-returns-in-Havoc t c = rw (← havoc_is (here t (goal.at.statement_at-returns-in-Havoc t c).After-kind_in) c.in-Havoc.is) c.havoc_at.ensures

pub statement_at-returns-in-Assume : goal.statement_at-returns-in-Assume
statement_at-returns-in-Assume t c = assume_gives (here t (goal.at.statement_at-returns-in-Assume t c).After-kind_in) c.in-Assume.is (rw c.given-given.ensures at (c.tested_at.ensures c.args.widths.now))

pub statement_at-returns-in-Assert : goal.statement_at-returns-in-Assert
statement_at-returns-in-Assert t c = assert_gives (here t (goal.at.statement_at-returns-in-Assert t c).After-kind_in) c.in-Assert.is (rw c.given-given.ensures at (c.tested_at-in-Assert.ensures c.args.widths.now))

pub statement_at-returns-in-Sequence : goal.statement_at-returns-in-Sequence
statement_at-returns-in-Sequence t c = rw (← sequence_is (here t (goal.at.statement_at-returns-in-Sequence t c).After-kind_in) c.in-Sequence.is) c.sequence_at.ensures

pub statement_at-returns-in-Choice : goal.statement_at-returns-in-Choice
statement_at-returns-in-Choice t c = rw (← choice_is (here t (goal.at.statement_at-returns-in-Choice t c).After-kind_in) c.in-Choice.is) c.choice_at.ensures

pub statement_at-returns-in-Apply : goal.statement_at-returns-in-Apply
statement_at-returns-in-Apply t c = rw (← apply_is (here t (goal.at.statement_at-returns-in-Apply t c).After-kind_in) c.in-Apply.is c.next.ensures) c.chain_at.ensures

pub statement_at-returns-in_default : goal.statement_at-returns-in_default
statement_at-returns-in_default t c =
    let o : Skips c.kind_in.result = record { assign = c.in_default.not-Assign; havoc = c.in_default.not-Havoc; assume = c.in_default.not-Assume; assert = c.in_default.not-Assert; sequence = c.in_default.not-Sequence; choice = c.in_default.not-Choice; apply = c.in_default.not-Apply } in
    rest_gives (here t (goal.at.statement_at-returns-in_default t c).After-kind_in) o (c.skip_at.ensures c.args.p.now.pipeline c.args.widths.now)
