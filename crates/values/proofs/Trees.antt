-- The tree of a node, from the trees of its children, where these stand before it. Assumes nothing.
use Prim.Native.Nat.{ℕ, ◌<◌}
use native.Mathlib.Omega.{arith}
use mathlib.Core.Path.{◌≡◌, refl, ◌∙◌}
use mathlib.Core.Bool.{true}
use mathlib.Core.List.{List, [], ◌++◌}
use lib.ListN.{get_or}
use Rattle.model.specs.Lists.{build, among}
use Rattle.model.specs.Blocks.{N, pipeline_node}
use Rattle.model.specs.Nodes.{kinds, kind_in, roles, child_in, children}
use Rattle.model.specs.Trees.{Tree, trees, tree, tree_of, tree_by}
use Rattle.model.specs.declared.Kind.{Kind}
use Rattle.model.specs.declared.Role.{Role}
use Rattle.model.specs.declared.Role.TheVariants.{Child, Number, Unused}
use Rattle.model.proofs.Lists.{made, build-at}
use Rattle.model.proofs.Every.{among_here, build-before}
use Rattle.model.proofs.Times.{among-left, among-right}
use Rattle.model.proofs.Children.{BeforeIn, BeforeAll}

-- trees that are the same before node i give it the same tree
module _ (given : List ℕ) (f g : ℕ → Tree) (i : ℕ) (same : (x : ℕ) → x < i → f x ≡ g x) where
  tree-same : (k : Kind) (a b c : ℕ) → BeforeAll i k a b c → tree_by given f i k a b c ≡ tree_by given g i k a b c
  tree-same Kind.Constant a b c h = refl
  tree-same Kind.Field a b c h = refl
  tree-same Kind.Parameter a b c h = refl
  tree-same (Kind.Binary o) a b c h = cc (same a h.0, same b h.1)
  tree-same Kind.Complement a b c h = cc (same a h.0)
  tree-same Kind.Slice a b c h = cc (same a h.0)
  tree-same Kind.Join a b c h = cc (same a h.0, same b h.1)
  tree-same Kind.Select a b c h = cc (same a h.0, same b h.1, same c h.2)
  tree-same Kind.Truth a b c h = refl
  tree-same (Kind.Compare o) a b c h = cc (same a h.0, same b h.1)
  tree-same Kind.Not a b c h = cc (same a h.0)
  tree-same (Kind.Connect o) a b c h = cc (same a h.0, same b h.1)
  tree-same Kind.Skip a b c h = refl
  tree-same Kind.Assign a b c h = cc (same b h.1)
  tree-same Kind.Havoc a b c h = refl
  tree-same Kind.Assume a b c h = cc (same a h.0)
  tree-same Kind.Assert a b c h = cc (same a h.0)
  tree-same Kind.Sequence a b c h = cc (same a h.0, same b h.1)
  tree-same Kind.Choice a b c h = cc (same a h.0, same b h.1)
  tree-same Kind.Apply a b c h = refl
  tree-same Kind.Unknown a b c h = refl

-- a word that is a child's number is one of the node's children
before_in : (i : ℕ) (r : Role) (x : ℕ) → (among x (child_in r x) ≡ true → x < i) → BeforeIn i r x
before_in i Child x h = h (among_here x [])
before_in i Number x h = tt
before_in i Unused x h = tt

before-all : (i : ℕ) (k : Kind) (a b c : ℕ)
    → ((x : ℕ) → among x (child_in (roles k).a a ++ child_in (roles k).b b ++ child_in (roles k).c c) ≡ true → x < i) → BeforeAll i k a b c
before-all i k a b c h =
    let ones = child_in (roles k).a a in
    let twos = child_in (roles k).b b in
    let threes = child_in (roles k).c c in (
      before_in i (roles k).a a (λ m. h a (among-left a (ones ++ twos) threes (among-left a ones twos m))),
      before_in i (roles k).b b (λ m. h b (among-left b (ones ++ twos) threes (among-right b ones twos m))),
      before_in i (roles k).c c (λ m. h c (among-right c (ones ++ twos) threes m)),
    )

module _ (p : List ℕ) (below : (i x : ℕ) → i < N p → among x (children (pipeline_node p i)) ≡ true → x < i) where
  pub node-before : (i : ℕ) → i < N p → let n = pipeline_node p i in BeforeAll i (kind_in kinds n.kind) n.a n.b n.c
  node-before i h = let n = pipeline_node p i in before-all i (kind_in kinds n.kind) n.a n.b n.c (λ x m. below i x h m)

  pub tree-at : (given : List ℕ) (i : ℕ) → i < N p
      → let n = pipeline_node p i in tree p given i ≡ tree_by given (tree p given) i (kind_in kinds n.kind) n.a n.b n.c
  unfolding trees made
  tree-at given i h =
      let n = pipeline_node p i in
      let step : List Tree → ℕ → Tree = λ before j. tree_of given before j (pipeline_node p j) in
      build-at step (N p) i Tree.nothing h
      ∙ tree-same given (λ j. get_or (build step i) j Tree.nothing) (tree p given) i (λ x k. build-before step i (N p) x Tree.nothing k (omega arith))
      (kind_in kinds n.kind) n.a n.b n.c (node-before i h)
