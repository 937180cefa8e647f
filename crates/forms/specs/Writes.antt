-- What a writer of statements leaves: the nodes of a form behind those that stand in the area, and the variables after it.
-- Assumes nothing: these are definitions.
use Rattle.std.specs.Prelude.{ℕ, ◌≤◌, ◌<◌, ◌≡◌, Bool, true, false, List, take, Option, Some, None}
use Rattle.model.specs.Blocks.{F, R, widths, node, table_of}
use Rattle.model.specs.Trees.{Test}
use Rattle.model.specs.Tables.{call_of}
use Rattle.model.specs.Passive as passive
use Rattle.model.specs.Passive.{Passive, Origin, ◌then◌, Vars, Form, form, beside, new_where_differs, join, no_apply, body_form, table_form, chain_form, renamed_test}
use Rattle.model.specs.Emit.{form_limit, one, emit_test, emit}
use Rattle.tables.specs.Next.{next_after, rest_of}
use Rattle.pieces.specs.Pieces.{Behind}
use Rattle.guards.specs.Guards.{guard_test}
use Rattle.actions.specs.declared.Scope.{Scope}
use Rattle.actions.specs.Scopes.{statement_of, in_body}
use Rattle.variables.specs.declared.Vars.{Vars as Held}
use Rattle.variables.specs.declared.place.Made.{Made}
use Rattle.variables.specs.Variables.{Holds}
use Rattle.variables.specs.Joined.{join_nodes, after_join}

-- `make` gives the form, from the variables before it. The areas were `nodes` and `widths`, and are `nodes'` and `widths'`.
pub record Writes (p : List ℕ) (make : Vars → Form) (from : Made) (nodes nodes' widths widths' : List ℕ) (m : Made) : Type 0 where
  pub onward : from.at ≤ m.at
  pub some : 1 ≤ m.at
  pub emitted : (lent : List ℕ) (s : Vars) → Holds p lent widths from.vars s → Behind (emit (make s).body) 0 from.at nodes nodes' m.at
  pub holds : (lent : List ℕ) (s : Vars) → Holds p lent widths from.vars s → m.at ≤ form_limit → Holds p lent widths' m.vars (make s).after

-- a node of kind 35 or 36 behind its test
abbrev pub Tests : List ℕ → ℕ → Test → Made → List ℕ → List ℕ → List ℕ → Made → Type 0
Tests p kind t from nodes nodes' widths m =
    (tested : Test → Passive) → ((u : Test) → emit (tested u) ≡ one (emit_test u) (λ x. node kind x 0 0))
    → Writes p (λ s. form (tested (renamed_test s.current t)) s) from nodes nodes' widths widths m

-- what stands behind both sides of a choice
abbrev pub JoinedBehind : List ℕ → Held → Made → Made → List ℕ → List ℕ → List ℕ → List ℕ → Made → Type 0
JoinedBehind p before left right nodes nodes' widths widths' m =
    (lent : List ℕ) (b l r : Vars) → take (F p) before.current ≡ b.current → take (F p) left.vars.current ≡ l.current
    → Holds p lent widths right.vars r
    → Behind (λ _. join_nodes b l r left.at right.at) 0 right.at nodes nodes' m.at
    × (m.at ≤ form_limit → Holds p lent widths' m.vars (after_join p b l r))

-- the form of the statement at node n
abbrev pub on_apply : Bool → List ℕ → List ℕ → ℕ → Vars → Form
on_apply true p r = no_apply
on_apply false p r = table_form p r new_where_differs

abbrev pub form_of : List ℕ → List ℕ → Scope → ℕ → Vars → Form
form_of p r scope n = passive.passify (widths p) new_where_differs (on_apply (in_body scope) p r) (statement_of p scope n)

-- assume that rule i matches, or that it does not
abbrev pub guard_form : List ℕ → List ℕ → ℕ → Bool → Vars → Form
guard_form p r i negated s = form (Passive.assume (renamed_test s.current (guard_test p r i negated))) s

-- a sequence and a choice of two forms
abbrev pub sequence_form : (Vars → Form) → (Vars → Form) → Vars → Form
sequence_form f g s = let a = f s in let b = g a.after in form (a.body then b.body) b.after

abbrev pub choice_form : List ℕ → Origin → (Vars → Form) → (Vars → Form) → Vars → Form
choice_form p o f g s = let a = f s in let b = g (beside s a.after) in join (widths p) new_where_differs o s a.body a.after b.body b.after

-- a rule that may be tried, with its table
abbrev pub OfTable : List ℕ → ℕ → Option ℕ → Type 0
OfTable r t (Some i) = (i < R r) × (table_of r i ≡ t)
OfTable r t None = Unit {0}

-- both sides of a rule's choice
abbrev pub rule_form : List ℕ → List ℕ → ℕ → ℕ → Vars → Form
rule_form p r t i = sequence_form (guard_form p r i false) (body_form p r new_where_differs (call_of p r t (Some i)))

abbrev pub rest_form : List ℕ → List ℕ → ℕ → ℕ → Vars → Form
rest_form p r t i = sequence_form (guard_form p r i true) (chain_form p r new_where_differs t (rest_of r t (next_after r t i)))
