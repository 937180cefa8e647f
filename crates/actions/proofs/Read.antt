-- What is known of a statement once its node is read: its children, its tree, and that these are well formed. Assumes nothing.
use Prim.Native.Nat.{ℕ, ◌<◌}
use native.Mathlib.Omega.{arith}
use mathlib.Core.Path.{◌≡◌, refl, sym, ap, ◌∙◌}
use mathlib.Core.Bool.{Bool, true, false}
use mathlib.Core.List.{List}
use lib.ListN.{length}
use Rattle.model.specs.Blocks.{F, N, T, widths, pipeline_node}
use Rattle.model.specs.Nodes.{kinds, kind_in}
use Rattle.model.specs.Trees.{Tree, Stmt, as_statement, tree, tree_by}
use Rattle.model.specs.Good.{Good}
use Rattle.model.specs.declared.Kind.{Kind}
use Rattle.model.specs.declared.Node.{Node}
use Rattle.model.proofs.Children.{BeforeAll}
use Rattle.model.proofs.Accepted.{accepted-good}
use Rattle.model.proofs.Uses.{accepted-children}
use Rattle.values.proofs.Trees.{node-before, tree-at}
use Rattle.values.proofs.Others.{Skips, skips_on}
use Rattle.actions.specs.declared.Scope.{Scope}
use Rattle.actions.specs.Scopes.{in_body, given_in, IsStatement, tables_in, statement_of}

-- node n has been read, and its kind
pub record Read (p r : List ℕ) (scope : Scope) (n : ℕ) (node : Node) (kind : Kind) : Type 0 where
  pub statement : IsStatement p r scope n
  pub words : node ≡ pipeline_node p n
  pub is_kind : kind ≡ kind_in kinds node.kind

only_outside : (p : List ℕ) (t : ℕ) (inside : Bool) → t < tables_in inside p → (inside ≡ false) × (t < T p)
only_outside p t true l = let k : ⊥ = omega arith in absurd k
only_outside p t false l = (refl, l)

module _ {p r : List ℕ} {scope : Scope} {n : ℕ} {node : Node} {kind : Kind} (h : Read p r scope n node kind) where
  abbrev a : ℕ
  a = node.a

  abbrev b : ℕ
  b = node.b

  abbrev pub tree_is : Kind → Tree
  tree_is k = tree_by (given_in scope) (tree p (given_in scope)) n k a b node.c

  abbrev WellFormed : Stmt → Type 0
  WellFormed = Good (widths p) (tables_in (in_body scope) p)

  module _ (k : Kind) (e : kind ≡ k) where
    pub own : k ≡ kind_in kinds (pipeline_node p n).kind
    own = sym e ∙ h.is_kind ∙ ap (λ (x : Node). kind_in kinds x.kind) h.words

    pub children : BeforeAll n k a b node.c
    children = rw (h.words, own) (node-before p (accepted-children p r h.statement.accepted) n h.statement.below)

    pub is : tree p (given_in scope) n ≡ tree_is k
    is = rw (h.words, own) (tree-at p (accepted-children p r h.statement.accepted) (given_in scope) n h.statement.below)

    pub good_by : WellFormed (as_statement (tree_is k))
    good_by = rw (← is) h.statement.good

  pub below-fields : {f : ℕ} → f < length (widths p) → f < F p
  below-fields l = rw (← (accepted-good p r h.statement.accepted).widths_length) l

  pub havoc-field : kind ≡ Kind.Havoc → a < F p
  unfolding Good
  havoc-field e = below-fields (good_by _ e)

  pub first_below : (k : Kind) → kind ≡ k → (BeforeAll n k a b node.c → a < n) → a < N p
  first_below k e first = omega (arith, first (children k e), h.statement.below)

  child : (j : ℕ) → j < n → WellFormed (statement_of p scope j) → IsStatement p r scope j
  child j l g = record { accepted = h.statement.accepted; below = omega (arith, h.statement.below); good = g }

  -- both statements of a sequence or a choice
  abbrev pub Pair : Type 0
  Pair = ((a < n) × IsStatement p r scope a) × ((b < n) × IsStatement p r scope b)

  module _ (k : Kind) (before : BeforeAll n k a b node.c → (a < n) × (b < n))
      (good : WellFormed (as_statement (tree_is k)) → WellFormed (statement_of p scope a) × WellFormed (statement_of p scope b)) where
    pair : kind ≡ k → Pair
    pair e = let c = before (children k e) in let g = good (good_by k e) in ((c.0, child a c.0 g.0), (c.1, child b c.1 g.1))

  pub sequence_pair : kind ≡ Kind.Sequence → Pair
  unfolding Good
  sequence_pair = pair Kind.Sequence (λ c. (c.0, c.1)) (λ g. g)

  pub choice_pair : kind ≡ Kind.Choice → Pair
  unfolding Good
  choice_pair = pair Kind.Choice (λ c. (c.0, c.1)) (λ g. g)

  -- an apply stands outside of every body
  pub outside : kind ≡ Kind.Apply → (in_body scope ≡ false) × (a < T p)
  unfolding Good
  outside e = only_outside p a (in_body scope) (good_by _ e)

  -- skip, and what is no statement
  pub is_skip : Skips kind → statement_of p scope n ≡ Stmt.skip
  is_skip o = ap as_statement (is _ refl) ∙ skips_on (given_in scope) (tree p (given_in scope)) n kind a b node.c o
