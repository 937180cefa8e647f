-- Laws of writing statements: one that keeps the variables, one that renews one of them, a sequence, a choice. Assumes nothing.
use Prim.Native.Nat.{ℕ, ◌+◌, ◌-◌, ◌≤◌}
use native.Mathlib.Omega.{arith}
use mathlib.Core.Path.{◌≡◌, ap, ◌∙◌}
use mathlib.Core.List.{List, [], ◌∷◌}
use lib.ListN.{length, take, get_or}
use Rattle.model.specs.Blocks.{F, widths, node}
use Rattle.model.specs.Trees.{Tree, Val, Test, Stmt, as_test, as_value}
use Rattle.model.specs.Passive as passive
use Rattle.model.specs.Passive.{Passive, Origin, Vars, next, Form, form, beside, new_where_differs, join, no_apply, renamed, renamed_test}
use Rattle.model.specs.Emit.{form_limit, emit_value, emit_test, emit}
use Rattle.model.specs.declared.Comparison.{Comparison}
use Rattle.pieces.specs.Pieces.{Behind, Start, emit_tree}
use Rattle.pieces.specs.Sound.{IsValue, IsTest}
use Rattle.pieces.proofs.Pieces.{lent, back, fits_so, lent_behind, pair_behind, one-behind, two-behind, behind-some}
use Rattle.variables.specs.declared.Vars.{Vars as Held}
use Rattle.variables.specs.declared.place.Made.{Made}
use Rattle.variables.specs.Variables.{Holds, vars, few}
use Rattle.variables.specs.Joined.{join_nodes, after_join, Joins}
use Rattle.variables.specs.Sides.{choice_nodes}
use Rattle.forms.specs.Writes.{Writes, Tests, JoinedBehind, sequence_form, choice_form}

-- ---- how many variables there are

pub few-variables : {at next : ℕ} → few at next → at ≤ form_limit → next ≤ 10000000
few-variables f h = omega arith

-- ---- what a statement leaves

-- the right side of a choice starts from the variables before it, numbering on
holds-beside : {p lent widths₀ widths₁ : List ℕ} {v w : Held} {s l : Vars} → Holds p lent widths₀ v s → Holds p lent widths₁ w l
    → Holds p lent widths₁ (vars v.current w.next) (beside s l)
holds-beside h k = record { current = h.current; new = k.new; widths = k.widths; same = k.same }

-- `z` is `v` with a new variable for a field
abbrev Renewed : List ℕ → Held → Held → ℕ → List ℕ → List ℕ → Type 0
Renewed p v z field area area' =
    (z.next ≡ v.next + 1)
    × ((lent : List ℕ) (s : Vars) → Holds p lent area v s → Holds p lent area' z (passive.fresh s field (get_or (widths p) field 0)))

module _ {p : List ℕ} {from m : Made} {nodes nodes' : List ℕ} (on : from.at ≤ m.at) (some : 1 ≤ m.at) where
  -- a statement that keeps the variables
  pub keeps : (make : Vars → Passive) (area : List ℕ) → m.vars ≡ from.vars
      → ((lent : List ℕ) (s : Vars) → Holds p lent area from.vars s → Behind (emit (make s)) 0 from.at nodes nodes' m.at)
      → Writes p (λ s. form (make s) s) from nodes nodes' area area m
  keeps make area e b = record { onward = on; some = some; emitted = b; holds = λ lent s h k. rw e h }

  -- a statement that renews the variable of a field
  pub renews : (field : ℕ) (make : Vars → Passive) (area area' : List ℕ) → Renewed p from.vars m.vars field area area'
      → ((lent : List ℕ) (s : Vars) → Holds p lent area from.vars s → Behind (emit (make s)) 0 from.at nodes nodes' m.at)
      → Writes p (λ s. form (make s) (passive.fresh s field (get_or (widths p) field 0))) from nodes nodes' area area' m
  renews field make area area' g b = record { onward = on; some = some; emitted = b; holds = λ lent s h k. g.1 lent s h }

-- left, right, 37
module _ {p : List ℕ} {f g : Vars → Form} {from l r m : Made} {nodes₀ nodes₁ nodes₂ nodes₃ widths₀ widths₁ widths₂ : List ℕ} where
  pub sequence_writes : Writes p f from nodes₀ nodes₁ widths₀ widths₁ l → length nodes₁ ≡ length nodes₀
      → Writes p g l nodes₁ nodes₂ widths₁ widths₂ r → length nodes₂ ≡ length nodes₁
      → Behind (λ _. node 37 (l.at - 1) (r.at - 1) 0 ∷ []) 0 r.at nodes₂ nodes₃ m.at → m.vars ≡ r.vars
      → Writes p (sequence_form f g) from nodes₀ nodes₃ widths₀ widths₂ m
  unfolding emit
  sequence_writes a s₁ b s₂ c e = record {
    onward = omega (arith, a.onward, b.onward, c.onward);
    some = omega (arith, b.some, c.onward);
    emitted = λ lent s h.
        pair_behind (λ x y. node 37 (x - 1) (y - 1) 0 ∷ []) (a.emitted lent s h) s₁ (λ k. b.emitted lent (f s).after (a.holds lent s h k)) b.onward s₂ (λ _. c)
        c.onward;
    holds = λ lent s h k.
        rw e (b.holds lent (f s).after (a.holds lent s h (omega (arith, b.onward, c.onward))) (omega (arith, c.onward)));
  }

-- both sides, joined: the right one begins at `w`
module _ {p : List ℕ} {f g : Vars → Form} {from l w r m : Made} {nodes₀ nodes₁ nodes₂ nodes₃ widths₀ widths₁ widths₂ widths₃ : List ℕ} where
  pub choice_writes : (o : Origin) → Writes p f from nodes₀ nodes₁ widths₀ widths₁ l → length nodes₁ ≡ length nodes₀
      → w.at ≡ l.at → w.vars ≡ vars from.vars.current l.vars.next → Writes p g w nodes₁ nodes₂ widths₁ widths₂ r → length nodes₂ ≡ length nodes₁ → r.at ≤ m.at
      → JoinedBehind p from.vars l r nodes₂ nodes₃ widths₂ widths₃ m
      → Writes p (choice_form p o f g) from nodes₀ nodes₃ widths₀ widths₃ m
  unfolding emit join join_nodes choice_nodes
  choice_writes o a s₁ ew ev b s₂ on j = record {
    onward = omega (arith, a.onward, ew, b.onward);
    some = omega (arith, b.some);
    emitted = λ lent s h.
        pair_behind (join_nodes s (f s).after (g (beside s (f s).after)).after) (a.emitted lent s h) s₁
        (λ k. rw ew at (b.emitted lent (beside s (f s).after) (begins lent s h k))) (omega (arith, ew, b.onward)) s₂ (λ k. (joined lent s h k).0) on;
    holds = λ lent s h k. (joined lent s h (omega arith)).1 k;
  }
    where
      begins : (lent : List ℕ) (s : Vars) → Holds p lent widths₀ from.vars s → l.at ≤ form_limit → Holds p lent widths₁ w.vars (beside s (f s).after)
      begins lent s h k = rw ev (holds-beside h (a.holds lent s h k))

      joined : (lent : List ℕ) (s : Vars) → Holds p lent widths₀ from.vars s → r.at ≤ form_limit
          → let y = (g (beside s (f s).after)).after in
          Behind (λ _. join_nodes s (f s).after y l.at r.at) 0 r.at nodes₂ nodes₃ m.at
          × (m.at ≤ form_limit → Holds p lent widths₃ m.vars (after_join p s (f s).after y))
      joined lent s h k =
          let low : l.at ≤ form_limit = omega (arith, ew, b.onward) in
          let left = a.holds lent s h low in
          j lent s (f s).after (g (beside s (f s).after)).after h.current left.current
          (b.holds lent (beside s (f s).after) (begins lent s h low) k)

-- ---- the statements without statements

module _ {p : List ℕ} {from m : Made} {nodes₀ nodes₁ : List ℕ} where
  pub skip_writes : Behind (λ _. node 32 0 0 0 ∷ []) 0 from.at nodes₀ nodes₁ m.at → m.vars ≡ from.vars → (area : List ℕ)
      → Writes p (λ s. form Passive.skip s) from nodes₀ nodes₁ area area m
  unfolding emit
  skip_writes b e area = keeps b.onward (behind-some (λ _. omega arith) b) (λ _. Passive.skip) area e (λ lent s h. b)

  pub havoc_writes : (field : ℕ) (area area' : List ℕ) → Behind (λ _. node 32 0 0 0 ∷ []) 0 from.at nodes₀ nodes₁ m.at
      → Renewed p from.vars m.vars field area area'
      → Writes p (passive.passify (widths p) new_where_differs no_apply (Stmt.havoc field)) from nodes₀ nodes₁ area area' m
  unfolding emit passive.passify
  havoc_writes field area area' b g =
      renews b.onward (behind-some (λ _. omega arith) b) field (λ s. Passive.havoced (next s)) area area' g (λ lent s h. b)

-- a tree over the current variables
module _ {p lent area : List ℕ} {v : Held} {s : Vars} (h : Holds p lent area v s) where
  piece : (x y : Tree) → x ≡ y → emit_tree (take (F p) v.current) x ≡ emit_tree s.current y
  piece x y e = rw h.current (ap (λ (z : Tree). emit_tree s.current z) e)

  test_piece : (x : Tree) → IsTest x → emit_tree (take (F p) v.current) x ≡ emit_test (renamed_test s.current (as_test x))
  test_piece x = piece x (Tree.test (as_test x))

  value_piece : (x : Tree) → IsValue x → emit_tree (take (F p) v.current) x ≡ emit_value (renamed s.current (as_value x))
  value_piece x = piece x (Tree.value (as_value x))

module _ {p : List ℕ} {from m : Made} {nodes₀ nodes₁ : List ℕ} {x : Tree} {l : ℕ}
    (first : Behind (emit_tree (take (F p) from.vars.current) x) 0 from.at nodes₀ nodes₁ l) (s₁ : length nodes₁ ≡ length nodes₀) where
  pub test_writes : {kind : ℕ} {nodes₂ : List ℕ} → IsTest x → Behind (λ _. node kind (l - 1) 0 0 ∷ []) 0 l nodes₁ nodes₂ m.at → m.vars ≡ from.vars
      → (area : List ℕ) → Tests p kind (as_test x) from nodes₀ nodes₂ area m
  test_writes {kind} t last e area tested is =
      keeps (omega (arith, first.onward, last.onward)) (behind-some (λ _. omega arith) last) (λ s. tested (renamed_test s.current (as_test x))) area e
      (λ lent s h. rw (is (renamed_test s.current (as_test x)), ← test_piece h x t) (one-behind (λ i. node kind i 0 0) first s₁ last))

  pub assign_writes : {nodes₂ nodes₃ nodes₄ : List ℕ} {y q : ℕ} (field : ℕ) (area area' : List ℕ) → IsValue x
      → Behind (λ _. node 2 from.vars.next 0 0 ∷ []) 0 l nodes₁ nodes₂ y → length nodes₂ ≡ length nodes₁
      → Behind (λ _. node 17 (l - 1) (y - 1) 0 ∷ []) 0 y nodes₂ nodes₃ q → length nodes₃ ≡ length nodes₂
      → Behind (λ _. node 35 (q - 1) 0 0 ∷ []) 0 q nodes₃ nodes₄ m.at
      → Renewed p from.vars m.vars field area area'
      → Writes p (passive.passify (widths p) new_where_differs no_apply (Stmt.assign field (as_value x))) from nodes₀ nodes₄ area area' m
  unfolding emit emit_test passive.passify
  assign_writes field area area' t second s₂ third s₃ last g =
      renews (omega (arith, first.onward, second.onward, third.onward, last.onward)) (behind-some (λ _. omega arith) last) field
      (λ s. Passive.assume (Test.compare Comparison.Equal (renamed s.current (as_value x)) (Val.field (next s)))) area area' g
      (λ lent s h.
      rw (← value_piece h x t, ← h.new)
      (one-behind (λ i. node 35 i 0 0) (two-behind (λ i j. node 17 i j 0) first s₁ second s₂ third) (s₃ ∙ s₂ ∙ s₁) last))

-- ---- joins

pub join-behind : (p : List ℕ) (v : Held) (l r : Made) {m : Made} {nodes ys area area' : List ℕ} {s : ℕ} → Start 0 r.at (length nodes) s
    → ((given : List ℕ) (x y z : Vars) → take (F p) v.current ≡ x.current → take (F p) l.vars.current ≡ y.current → Holds p given area r.vars z
    → Joins p given x y z l.at r.at (lent s nodes) ys area' m)
    → JoinedBehind p v l r nodes (back s nodes ys) area area' m
join-behind p v l r st j given x y z e d h =
    let k = j given x y z e d h in (lent_behind st (λ _. join_nodes x y z _ _) k.emitted, λ q. k.holds (fits_so k.emitted q))
