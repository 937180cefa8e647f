-- Where a statement stands, and what an action that is called runs. Assumes nothing: these are definitions.
use Rattle.std.specs.Prelude.{ℕ, ◌<◌, ◌≡◌, Bool, true, false, List}
use Rattle.model.specs.Blocks.{N, T, Call, body, widths}
use Rattle.model.specs.Trees.{Stmt, as_statement, tree, no_data}
use Rattle.model.specs.Good.{Good}
use Rattle.model.specs.Demands.{Accepted}
use Rattle.actions.specs.declared.Action.{Action}
use Rattle.actions.specs.declared.Scope.{Scope}

abbrev pub program_scope : Scope
program_scope = Scope.Program no_data

abbrev pub in_body : Scope → Bool
in_body (Scope.Program given) = false
in_body (Scope.Body given) = true

-- the data that stand for the parameters; the program has no parameters
abbrev pub given_in : Scope → List ℕ
given_in (Scope.Program given) = given
given_in (Scope.Body given) = given

-- the body of the action that is called, with its data
pub record Calls (p : List ℕ) (a : Action) (c : Call) : Type 0 where
  pub body : a.body ≡ body p c.action
  pub inside : in_body a.scope ≡ true
  pub given : given_in a.scope ≡ c.«data»

-- in an action's body there is no apply
abbrev pub tables_in : Bool → List ℕ → ℕ
tables_in true p = 0
tables_in false p = T p

abbrev pub statement_of : List ℕ → Scope → ℕ → Stmt
statement_of p scope n = as_statement (tree p (given_in scope) n)

-- node n of an accepted pipeline is a statement that may stand there (`accepted` stays here: laws speak of it apart from a `Program`)
pub record IsStatement (p r : List ℕ) (scope : Scope) (n : ℕ) : Type 0 where
  pub accepted : Accepted p r
  pub below : n < N p
  pub good : Good (widths p) (tables_in (in_body scope) p) (statement_of p scope n)
