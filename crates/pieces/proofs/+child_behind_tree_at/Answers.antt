-- Each child's piece is that of a node below, and the node's own piece is made of its children's. Assumes nothing.
use Rattle.std.proofs.Common.{arith, ℕ}
use Rattle.pieces.proofs.Expressions.{Here, first_asks, second_asks, third_asks, child_gives, tree-emitted}
use Rattle.pieces.proofs.+child_behind_tree_at.Goals as goal
use Rattle.pieces.proofs.+child_behind_tree_at.Goals.{tree_at-After-roles-roles}

-- what is known where the node has been read
here : (t : ℕ) (c : tree_at-After-roles-roles t) → Here c.args.p.now c.args.given.now c.args.n t c.node-read.result c.kind_in-kind.result c.roles-roles.result
here t c =
    record {
      start = c.decreases;
      sound = c.requires.sound;
      below = c.requires.n_bound;
      good = c.requires.expression;
      words = c.node-read.ensures;
      is_kind = c.kind_in-kind.ensures;
      are = c.roles-roles.ensures;
    }

pub child_behind-returns-in-Child-clause-behind : goal.child_behind-returns-in-Child-clause-behind
child_behind-returns-in-Child-clause-behind t c = (child_gives _ _ _ _ _ c.in-Child.is c.requires.child_there c.start-s.ensures c.tree_at.ensures).0

pub child_behind-returns-in-Child-clause-lower_bound :
    goal.child_behind-returns-in-Child-clause-lower_bound
child_behind-returns-in-Child-clause-lower_bound t c = (child_gives _ _ _ _ _ c.in-Child.is c.requires.child_there c.start-s.ensures c.tree_at.ensures).1

pub tree_at-child_behind-a-requires : goal.tree_at-child_behind-a-requires
tree_at-child_behind-a-requires t c = first_asks (here t (goal.at.tree_at-child_behind-a-requires t c).After-roles-roles) (omega arith)

pub tree_at-child_behind-b-requires : goal.tree_at-child_behind-b-requires
tree_at-child_behind-b-requires t c = second_asks (here t (goal.at.tree_at-child_behind-b-requires t c).After-roles-roles) c.child_behind-a.ensures.behind.onward

pub tree_at-child_behind-c-requires : goal.tree_at-child_behind-c-requires
tree_at-child_behind-c-requires t c = third_asks (here t (goal.at.tree_at-child_behind-c-requires t c).After-roles-roles) (omega (arith, c.child_behind-b.ensures.behind.onward, c.child_behind-a.ensures.behind.onward))

pub tree_at-returns : goal.tree_at-returns
tree_at-returns t c = tree-emitted (here t (goal.at.tree_at-returns t c).After-roles-roles) _ c.child_behind-a.ensures.behind c.child_behind-a.auto.out c.child_behind-b.ensures.behind c.child_behind-b.auto.out c.child_behind-c.ensures.behind c.child_behind-c.auto.out c.shown.ensures c.placed-own.ensures c.node_behind.ensures.behind
