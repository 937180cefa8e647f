-- `runs::run_at` meets its contract. Assumes nothing.
use Rattle.runs.proofs.Steps.{left_asks, right_asks, side_asks, body_asks, leaves}
use Rattle.runs.proofs.+run_at.Goals as goal

pub run_at-requires : goal.run_at-requires
run_at-requires t c = left_asks _ _ _ _ _ _ c.requires.statement c.node-node.ensures c.kind_in.ensures t c.decreases c.in-Sequence.is _ c.requires.within

pub run_at-requires-in-Passed : goal.run_at-requires-in-Passed
run_at-requires-in-Passed t c = right_asks _ _ _ _ _ _ c.requires.statement c.node-node.ensures c.kind_in.ensures t c.decreases c.in-Sequence.is _ c.in_ok-e-in-Sequence.ensures.within

pub run_at-requires-in-Choice : goal.run_at-requires-in-Choice
run_at-requires-in-Choice t c =
    side_asks _ _ _ _ _ _ c.requires.statement c.node-node.ensures c.kind_in.ensures _ c.requires.within _ _ c.next_side.ensures c.in-Choice.is _ c.in_ok-side-in-Choice.was _ c.taken.ensures t c.decreases

-- from an apply a run goes into the body of what is called,
-- and never back
pub run_at-requires-in-Apply : goal.run_at-requires-in-Apply
run_at-requires-in-Apply t c = body_asks _ _ _ _ _ _ c.requires.statement c.node-node.ensures c.kind_in.ensures _ c.requires.within c.in-Apply.is _ c.applied-action.ensures t c.decreases

pub returns-in-Assign : goal.returns-in-Assign
returns-in-Assign t c = search leaves

pub returns-in-Assume : goal.returns-in-Assume
returns-in-Assume t c = search leaves

pub returns-in-Assert : goal.returns-in-Assert
returns-in-Assert t c = search leaves
