-- What is emitted behind both sides of a choice. Assumes nothing: these are definitions.
use Rattle.std.specs.Prelude.{ℕ, ◌-◌, ◌≤◌, List, ◌++◌}
use Rattle.model.specs.Blocks.{widths}
use Rattle.model.specs.Passive.{Vars, vars, next, new_where_differs, joined_vars, new_widths}
use Rattle.model.specs.Emit.{past, form_limit}
use Rattle.model.specs.declared.Node.{Node}
use Rattle.pieces.specs.Pieces.{Emitted}
use Rattle.variables.specs.declared.place.Made.{Made}
use Rattle.variables.specs.Variables.{Holds}
use Rattle.variables.specs.Sides.{choice_nodes}

-- the variables of the fields after a choice, and all variables then
abbrev pub joined_of : Vars → Vars → Vars → List ℕ
joined_of before l r = joined_vars new_where_differs (next r) before.current l.current r.current

abbrev pub after_join : List ℕ → Vars → Vars → Vars → Vars
after_join p before l r = let zs = joined_of before l r in vars zs (r.widths ++ new_widths (next r) (widths p) zs)

-- the left's equations, then the right's, then the choice: `left` and `right` are the numbers behind the two sides
unfoldable pub join_nodes : Vars → Vars → Vars → ℕ → ℕ → List Node
join_nodes before l r left right = choice_nodes l.current r.current (joined_of before l r) (left - 1) (right - 1) right

-- They were emitted behind the right side, whose number `right` is, and the variables are joined. The areas were `nodes` and `lent`, and are
-- `nodes'` and `widths'`.
pub record Joins (p lent : List ℕ) (before l r : Vars) (left right : ℕ) (nodes nodes' widths' : List ℕ) (m : Made) : Type 0 where
  pub emitted : Emitted (join_nodes before l r left right) right nodes nodes' m.at
  pub holds : past right (join_nodes before l r left right) ≤ form_limit → Holds p lent widths' m.vars (after_join p before l r)
