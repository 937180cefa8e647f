-- What the steps of a join do: the joined variables with their widths, and the equations of the sides. Assumes nothing: these are definitions.
use Rattle.std.specs.Prelude.{ℕ, suc, ◌+◌, ◌≤◌, ◌≡◌, List, [], ◌∷◌, ◌++◌, eqb, length, take, set, if◌then◌else◌}
use Rattle.std.proofs.lemmas.List.Edits.{sets}
use Rattle.model.specs.Blocks.{F, node}
use Rattle.model.specs.Passive.{JoinRule, Equation, joined_vars, new_widths, equations}
use Rattle.model.specs.Emit.{past, form_limit, emit_equations}
use Rattle.model.specs.declared.Node.{Node}
use Rattle.pieces.specs.Pieces.{Emitted}
use Rattle.variables.specs.declared.Vars.{Vars}
use Rattle.variables.specs.declared.Tied.{Tied}

-- the fields' variables, of the words that the code keeps
abbrev pub field_vars : List ℕ → Vars → List ℕ
field_vars p v = take (F p) v.current

-- lists with an element for each field, of which there are few enough for the words that hold them
pub record Sized (ws bs ls rs : List ℕ) : Type 0 where
  pub few : length ws ≤ 32
  pub before : length bs ≡ length ws
  pub left : length ls ≡ length ws
  pub right : length rs ≡ length ws

-- a joined variable, which is a new one where it has the number `new`; a width that has no room is not written
pub record Numbered (joined new width : ℕ) (area area' : List ℕ) (next : ℕ) : Type 0 where
  pub number : next ≡ (if eqb joined new then suc new else new)
  pub written : area' ≡ (if eqb joined new then set area new width else area)

-- the fields' variables after a choice, in the first words of the code's variables, and the widths of the new ones
pub record JoinsVars (rule : JoinRule) (ws bs ls rs : List ℕ) (new : ℕ) (area area' : List ℕ) (v : Vars) : Type 0 where
  pub joined : take (length ws) v.current ≡ joined_vars rule new bs ls rs
  pub number : v.next ≡ new + length (new_widths new ws (joined_vars rule new bs ls rs))
  pub written : area' ≡ sets area new (new_widths new ws (joined_vars rule new bs ls rs))
  pub most : v.next ≤ new + length ws

-- a side's equations were emitted behind the number `at`, over the side's node `side`
pub record Ties (es : List Equation) (side at : ℕ) (before after : List ℕ) (t : Tied) : Type 0 where
  pub emitted : Emitted (emit_equations es side at).nodes at before after t.at
  pub onto : past at (emit_equations es side at).nodes ≤ form_limit → t.side ≡ (emit_equations es side at).side

-- the five nodes of an equation
abbrev pub equation_nodes : ℕ → ℕ → ℕ → ℕ → List Node
equation_nodes own joined side at =
    node 2 own 0 0 ∷ node 2 joined 0 0 ∷ node 17 at (at + 1) 0 ∷ node 35 (at + 2) 0 0 ∷ node 37 side (at + 3) 0 ∷ []

-- the equations of both sides, and the choice: `left` and `right` are the sides' nodes
unfoldable pub choice_nodes : List ℕ → List ℕ → List ℕ → ℕ → ℕ → ℕ → List Node
choice_nodes ls rs zs left right at =
    let x = emit_equations (equations ls zs) left at in
    let y = emit_equations (equations rs zs) right (past at x.nodes) in
    x.nodes ++ (y.nodes ++ (node 38 x.side y.side 0 ∷ []))
