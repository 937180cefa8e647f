-- The equations of both sides of a choice, the choice, and the whole join. Assumes nothing.
use Prim.Native.Nat.{ℕ, ◌-◌, ◌≤◌}
use native.Mathlib.Omega.{arith}
use mathlib.Core.Path.{◌≡◌, refl, ◌∙◌}
use mathlib.Core.List.{List, [], ◌∷◌, append_assoc}
use lib.ListN.{length, length-append}
use Rattle.model.specs.Blocks.{F, node, width, widths}
use Rattle.model.specs.Passive as passive
use Rattle.model.specs.Passive.{next, new_where_differs, equations, joined_vars, new_widths}
use Rattle.model.specs.Emit.{form_limit, emit_equations}
use Rattle.model.specs.declared.Node.{Node}
use Rattle.model.proofs.Lists.{length-each}
use Rattle.pieces.specs.Pieces.{Emitted, Start}
use Rattle.pieces.proofs.Pieces.{lent, back, fits_so}
use Rattle.variables.specs.declared.Vars.{Vars}
use Rattle.variables.specs.declared.place.Made.{Made}
use Rattle.variables.specs.declared.Tied.{Tied}
use Rattle.variables.specs.Variables.{Holds, few}
use Rattle.variables.specs.Joined.{Joins, join_nodes, joined_of}
use Rattle.variables.specs.Sides.{field_vars, JoinsVars, Ties, choice_nodes}
use Rattle.variables.proofs.Widths.{more}
use Rattle.variables.proofs.Behind.{behind_fit, length_back}
use Rattle.variables.proofs.Equations.{both_emitted, both_fit, both_onto}

-- ---- the equations of both sides, and the choice

module _ (ls rs zs : List ℕ) (left right : ℕ) {at s e to : ℕ} {before mid ys ends : List ℕ} {t u : Tied} {n : Node} where
  pub choice : Ties (equations ls zs) left at before mid t → length mid ≡ length before → Start at t.at (length mid) s
      → Ties (equations rs zs) right t.at (lent s mid) ys u → length ys ≡ length (lent s mid) → Start at u.at (length (back s mid ys)) e
      → n ≡ node 38 t.side u.side 0 → Emitted (n ∷ []) u.at (lent e (back s mid ys)) ends to
      → Emitted (choice_nodes ls rs zs left right at) at before (back e (back s mid ys) ends) to
  unfolding choice_nodes
  choice x same st y kept st₂ d z =
      let there = both_emitted x same st right y (λ h. refl) in
      let fits = both_fit x same st right y (λ h. refl) in
      let onto = both_onto x same st right y (λ h. refl) in
      rw (← append_assoc (emit_equations (equations ls zs) left at).nodes)
      (behind_fit there (length_back s mid ys st.within kept ∙ same) st₂ z (λ h. rw (d, x.onto (fits h), onto h)))

-- ---- the whole join

-- the choice is a node
some : (ls rs zs : List ℕ) (left right at : ℕ) → 1 ≤ length (choice_nodes ls rs zs left right at)
unfolding choice_nodes
some ls rs zs left right at = simp length-append (omega arith)

-- the variables v are those after the choice
module _ (p : List ℕ) (before : Vars) (left : ℕ) (lefts : Vars) (right : Made) (v : Vars) {nodes nodes' area area' : List ℕ} {to : ℕ}
    (j : JoinsVars new_where_differs (widths p) (field_vars p before) (field_vars p lefts) (field_vars p right.vars) right.vars.next area area' v)
    (e : Emitted (choice_nodes (field_vars p lefts) (field_vars p right.vars) (field_vars p v) (left - 1) (right.at - 1) right.at) right.at
    nodes nodes' to) where
  pub few-after : F p ≤ 32 → few right.at right.vars.next → to ≤ form_limit → few to v.next
  few-after h k m =
      let exact = e.exact (fits_so e m) in
      let node = some (field_vars p lefts) (field_vars p right.vars) (field_vars p v) (left - 1) (right.at - 1) right.at in
      omega (arith, length-each (width p) (F p), j.most)

  module _ (start : List ℕ) (b l r : passive.Vars) (eb : field_vars p before ≡ b.current) (el : field_vars p lefts ≡ l.current)
      (h : Holds p start area right.vars r) where
    same : joined_vars new_where_differs right.vars.next (field_vars p before) (field_vars p lefts) (field_vars p right.vars) ≡ joined_of b l r
    same = rw (eb, el, h.current, h.new)

    own : field_vars p v ≡ joined_of b l r
    own = rw (length-each (width p) (F p)) at j.joined ∙ same

    pub joins : (few_variables : to ≤ form_limit → few to v.next)
        → Joins p start b l r left right.at nodes nodes' area' (record { at = to; vars = v; few_variables = few_variables })
    unfolding join_nodes choice_nodes
    joins few_variables = record {
      emitted = rw (el, h.current, own) at e;
      holds = λ _.
          more h (new_widths (next r) (widths p) (joined_of b l r)) (joined_of b l r) (rw (same, h.new) at j.written) own (rw (same, h.new) at j.number);
    }
