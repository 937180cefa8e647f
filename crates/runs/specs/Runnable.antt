-- A statement of an accepted pipeline and its run. Assumes nothing: these are definitions.
use Rattle.std.specs.Prelude.{ℕ, Bool, true, false, List}
use Rattle.model.specs.Blocks.{widths}
use Rattle.model.specs.Good.{Within}
use Rattle.model.specs.Runs.{State, Outcome, run, no_apply, run_table}
use Rattle.actions.specs.declared.Scope.{Scope}
use Rattle.actions.specs.Scopes.{in_body, IsStatement, statement_of}
use Rattle.states.specs.declared.State.{State as Held}
use Rattle.states.specs.States.{packet_in}

-- in an action's body there is no apply
abbrev pub on_apply : Bool → List ℕ → List ℕ → ℕ → State → Outcome
on_apply true p r = no_apply
on_apply false p r = run_table p r

abbrev pub run_of : List ℕ → List ℕ → Scope → ℕ → State → Outcome
run_of p r scope n = run (widths p) (on_apply (in_body scope) p r) (statement_of p scope n)

-- node n is a statement that may run there
pub record Runnable (p r : List ℕ) (scope : Scope) (s : Held) (n : ℕ) : Type 0 where
  pub statement : IsStatement p r scope n
  pub within : Within (widths p) (packet_in p s)
