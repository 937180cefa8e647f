-- `variables::join` meets its contract. Assumes nothing.
use Rattle.variables.proofs.Choices.{few-after, joins}
use Rattle.variables.proofs.join.Goals as goal

pub invariant_of-result : goal.invariant_of-result
invariant_of-result c = record {
  few_variables = few-after c.args.p.now c.args.before c.args.left c.args.left_vars c.args.right c.join_vars-vars.result c.join_vars-vars.ensures c.put_join.ensures (c.requires.few_fields) (c.args.right.few_variables c.if-right-gt-LIMIT.false);
}

pub returns-clause-joins : goal.returns-clause-joins
returns-clause-joins c = λ lent b l r eb el h.
    joins c.args.p.now c.args.before c.args.left c.args.left_vars c.args.right c.join_vars-vars.result c.join_vars-vars.ensures c.put_join.ensures lent b l r eb el h _
