-- Where each node is used exactly once: what is a child has one parent and is no body, and which nodes stand under one. Assumes nothing.
use Prim.Native.Nat.{ℕ, suc, ◌+◌, ◌<◌, ◌≤◌}
use native.Mathlib.Omega.{arith}
use mathlib.Core.Path.{◌≡◌, refl, ap, ◌∙◌}
use mathlib.Core.Bool.{Bool, true, false, false≢true}
use mathlib.Core.List.{List, [], ◌∷◌, ◌++◌}
use lib.Dec.{eqb, ltb}
use lib.ListN.{get_or}
use borrow.Author.Tests.{eqb-true, ltb-true}
use Rattle.std.specs.Prelude.{if◌then◌else◌}
use Rattle.model.specs.Lists.{build, joined, each, times, among}
use Rattle.model.specs.Blocks.{N, A, T, root, widths, pipeline_node, body}
use Rattle.model.specs.Nodes.{is_formed, children, sort_of}
use Rattle.model.specs.Refusals.{pipeline_sorts, sort_at, uses, gathered, under_each}
use Rattle.model.specs.Demands.{Accepted}
use Rattle.model.specs.declared.Sort.{Sort}
use Rattle.model.specs.declared.Stage.{Stage}
use Rattle.model.proofs.Lists.{made, build-at, each-joined}
use Rattle.model.proofs.Every.{among_here, among_there, build-before}
use Rattle.model.proofs.Times.{times-append, times-same, times-joined, joined_once, among_one, among-left, among-right, all_among}
use Rattle.model.proofs.Children.{formed-children}
use Rattle.model.proofs.Accepted.{rows}
use Rattle.model.proofs.Decoded.{under_step, nodes_under, under_at, under_all}

-- ---- the ways of being used

module _ (p : List ℕ) where
  abbrev pub children_of : ℕ → List ℕ
  children_of i = children (pipeline_node p i)

  -- a body's use, as a child's is one
  abbrev body_of : ℕ → List ℕ
  body_of k = body p k ∷ []

  times-uses : (x : ℕ) → times x (joined children_of (N p)) + times x (joined body_of (A p)) ≤ times x (uses p)
  unfolding uses
  times-uses x =
      let cs = joined children_of (N p) in
      let ks = each (body p) (A p) in
      omega (arith, times-append x (cs ++ ks) (root p ∷ []), times-append x cs ks, ap (times x) (each-joined (body p) (A p)))

  module _ (x : ℕ) (once : eqb (times x (uses p)) 1 ≡ true) where
    pub one_parent : (i j : ℕ) → i < N p → j < N p → among x (children_of i) ≡ true → among x (children_of j) ≡ true → i ≡ j
    one_parent i j = joined_once x children_of (N p) i j (omega (arith, times-uses x, eqb-true (times x (uses p)) 1 once))

    pub no_body : (i k : ℕ) → i < N p → k < A p → among x (children_of i) ≡ true → x ≡ body p k → ⊥
    no_body i k h l m e =
        omega (
          arith,
          times-uses x,
          eqb-true (times x (uses p)) 1 once,
          times-joined x children_of (N p) i h,
          ltb-true 0 (times x (children_of i)) m,
          times-joined x body_of (A p) k l,
          times-same x (body p k) e,
        )

    pub one-body : (k m : ℕ) → k < A p → m < A p → x ≡ body p k → x ≡ body p m → k ≡ m
    one-body k m h l d e =
        joined_once x body_of (A p) k m (omega (arith, times-uses x, eqb-true (times x (uses p)) 1 once)) h l (among_one x (body p k) d)
        (among_one x (body p m) e)

-- ---- the nodes under a node

-- what stands under one child stands under them all
gathered_in : (before : List (List ℕ)) (c x : ℕ) (cs : List ℕ) → among c cs ≡ true → among x (get_or before c []) ≡ true
    → among x (gathered before cs) ≡ true
unfolding gathered times
gathered_in before c x [] m h = absurd (false≢true m)
gathered_in before c x (d ∷ cs) m h = go (eqb c d) refl m (λ k. gathered_in before c x cs k h)
  where
    go : (b : Bool) → eqb c d ≡ b → ltb 0 (if b then suc (times c cs) else times c cs) ≡ true → (among c cs ≡ true → among x (gathered before cs) ≡ true)
        → among x (get_or before d [] ++ gathered before cs) ≡ true
    go true e k rec = among-left x (get_or before d []) (gathered before cs) (rw (eqb-true c d e) at h)
    go false e k rec = among-right x (get_or before d []) (gathered before cs) (rec k)

module _ (p : List ℕ) where
  pub under_self : (i : ℕ) → i < N p → among i (nodes_under p i) ≡ true
  under_self i h = rw (under_at p i h) (among_here i (gathered (build (under_step p) i) (children_of p i)))

  under_through : (i c x : ℕ) → i < N p → c < i → among c (children_of p i) ≡ true → among x (nodes_under p c) ≡ true → among x (nodes_under p i) ≡ true
  unfolding under_each
  under_through i c x h l m k =
      let us = build (under_step p) i in
      rw (under_at p i h)
      (among_there x i (gathered us (children_of p i))
      (gathered_in us c x (children_of p i) m (rw (build-before (under_step p) i (N p) c [] l (omega arith)) k)))

  -- what a parent and its child share, all share that stand under a node
  pub under_same : (f : ℕ → ℕ) → ((i c : ℕ) → i < N p → among c (children_of p i) ≡ true → f c ≡ f i)
      → (i x : ℕ) → among x (nodes_under p i) ≡ true → f x ≡ f i
  under_same f same i x m =
      let all = under_all p (λ i x. f x ≡ f i) (λ i h. refl) (λ i c x h l k e. e ∙ same i c h k) i in
      all_among x (λ x. f x ≡ f i) (nodes_under p i) all m

  module _ (formed : (i : ℕ) → i < N p → is_formed (sort_at (pipeline_sorts p) i) ≡ true) where
    pub children-below : (i x : ℕ) → i < N p → among x (children_of p i) ≡ true → x < i
    unfolding pipeline_sorts made
    children-below i x h m =
        let step : List Sort → ℕ → Sort = λ before j. sort_of Stage.Pipeline (widths p) (T p) before (pipeline_node p j) in
        let own = rw (build-at step (N p) i Sort.Malformed h) at (formed i h) in
        all_among x (λ y. y < i) (children_of p i) (formed-children step Stage.Pipeline (widths p) (T p) i (pipeline_node p i) own) m

    -- a child of what stands under a node stands there too
    pub under_child : (i j x : ℕ) → among j (nodes_under p i) ≡ true → among x (children_of p j) ≡ true → among x (nodes_under p i) ≡ true
    under_child i j x m k =
        let closed : ℕ → ℕ → Type 0 = λ i j. (x : ℕ) → among x (children_of p j) ≡ true → among x (nodes_under p i) ≡ true in
        let own : (i : ℕ) → i < N p → closed i i = λ i h x k. let l = children-below i x h k in under_through i x x h l k (under_self x (omega arith)) in
        all_among j (closed i) (nodes_under p i) (under_all p closed own (λ i c j h l k f x n. under_through i c x h l k (f x n)) i) m x k

-- in an accepted block children stand before their parents
pub accepted-children : (p r : List ℕ) → Accepted p r → (i x : ℕ) → i < N p → among x (children_of p i) ≡ true → x < i
accepted-children p r e = children-below p (rows p r e).four
