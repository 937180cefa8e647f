-- The measure falls at each child, at each rule of a chain, and from the program to a chain and to a body. Assumes nothing.
use Rattle.actions.specs.Scopes.{in_body}
use Rattle.forms.proofs.Steps.{chain_depth, pair_depth, rest_depth, rule_depth, statement_depth}
use Rattle.forms.proofs.+statements.Given as goal

abbrev pub decreases-statement_at : goal.decreases-statement_at
decreases-statement_at l = statement_depth (in_body l.scope) l.p.now.pipeline l.p.now.rules l.n

abbrev pub decreases-sequence_at : goal.decreases-sequence_at
decreases-sequence_at l = pair_depth (in_body l.scope) l.p.now.pipeline l.p.now.rules l.a l.b

abbrev pub decreases-choice_at : goal.decreases-choice_at
decreases-choice_at l = pair_depth (in_body l.scope) l.p.now.pipeline l.p.now.rules l.a l.b

abbrev pub decreases-chain_at : goal.decreases-chain_at
decreases-chain_at l = chain_depth l.p.now.pipeline l.p.now.rules l.t l.hit

abbrev pub decreases-rule_at : goal.decreases-rule_at
decreases-rule_at l = rule_depth l.p.now.pipeline

abbrev pub decreases-rest_at : goal.decreases-rest_at
decreases-rest_at l = rest_depth l.p.now.pipeline l.p.now.rules l.t l.i
