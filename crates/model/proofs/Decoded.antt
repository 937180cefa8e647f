-- The trees of a block's nodes, front to back: each is well formed and of its node's sort. Assumes nothing.
use Prim.Native.Nat.{ℕ, ◌<◌}
use native.Mathlib.Omega.{arith}
use mathlib.Core.Path.{◌≡◌, refl}
use mathlib.Core.Bool.{Bool, true, false}
use mathlib.Core.List.{List, [], ◌∷◌}
use lib.Dec.{ltb}
use lib.ListN.{get_or}
use borrow.Author.Tests.{ltb-true, ltb-false}
use Rattle.model.specs.Lists.{build, among}
use Rattle.model.specs.Blocks.{N, T, widths, pipeline_node}
use Rattle.model.specs.Nodes.{kinds, kind_in, children, unused_zero, sort_by, sort_of}
use Rattle.model.specs.Trees.{Tree, trees, tree, tree_of}
use Rattle.model.specs.Refusals.{pipeline_sorts, sort_at, gathered, under_each}
use Rattle.model.specs.declared.Sort.{Sort}
use Rattle.model.specs.declared.Stage.{Stage}
use Rattle.model.proofs.Lists.{made, build-at}
use Rattle.model.proofs.Every.{All, all_append, all_left, all_right, among_here, among_there, all_with, build-before, build-past, from-below}
use Rattle.model.proofs.GoodForms.{AllWidths}
use Rattle.model.proofs.Sorts.{OfSort, fit, only-fits, Placed, node-fits}

-- ---- the nodes under a node

module _ (P : ℕ → Type 0) (before : List (List ℕ)) where
  gathered-all : (cs : List ℕ) → ((c : ℕ) → among c cs ≡ true → All P (get_or before c [])) → All P (gathered before cs)
  unfolding gathered
  gathered-all [] h = tt
  gathered-all (c ∷ cs) h =
      all_append P (get_or before c []) (gathered before cs) (h c (among_here c cs)) (gathered-all cs (λ d m. h d (among_there d c cs m)))

  all-gathered : (cs : List ℕ) → All P (gathered before cs) → All (λ c. All P (get_or before c [])) cs
  unfolding gathered
  all-gathered [] h = tt
  all-gathered (c ∷ cs) h =
      (all_left P (get_or before c []) (gathered before cs) h, all-gathered cs (all_right P (get_or before c []) (gathered before cs) h))

module _ (p : List ℕ) where
  abbrev pub under_step : List (List ℕ) → ℕ → List ℕ
  under_step before i = i ∷ gathered before (children (pipeline_node p i))

  abbrev pub nodes_under : ℕ → List ℕ
  nodes_under i = get_or (under_each p) i []

  pub under_at : (i : ℕ) → i < N p → nodes_under i ≡ i ∷ gathered (build under_step i) (children (pipeline_node p i))
  unfolding under_each made
  under_at i h = build-at under_step (N p) i [] h

  -- what holds of a node and itself, and of a node and what it holds of with one of its children, holds of it and each that stands under it
  pub under_all : (P : ℕ → ℕ → Type 0) → ((i : ℕ) → i < N p → P i i)
      → ((i c x : ℕ) → i < N p → c < i → among c (children (pipeline_node p i)) ≡ true → P c x → P i x) → (i : ℕ) → All (P i) (nodes_under i)
  unfolding under_each
  under_all P self through = from-below (λ i. All (P i) (nodes_under i)) λ i rec. go i rec (ltb i (N p)) refl
    where
      child : (i c : ℕ) → i < N p → ((j : ℕ) → j < i → All (P j) (nodes_under j)) → among c (children (pipeline_node p i)) ≡ true → (b : Bool) → ltb c i ≡ b
          → All (P i) (get_or (build under_step i) c [])
      child i c h rec m true e =
          let l = ltb-true c i e in
          rw (build-before under_step i (N p) c [] l (omega arith)) (all_with (P c) (P i) (nodes_under c) (λ x _ k. through i c x h l m k) (rec c l))
      child i c h rec m false e = rw (build-past under_step i c [] (ltb-false c i e)) tt

      go : (i : ℕ) → ((j : ℕ) → j < i → All (P j) (nodes_under j)) → (b : Bool) → ltb i (N p) ≡ b → All (P i) (nodes_under i)
      go i rec true e =
          let h = ltb-true i (N p) e in
          rw (under_at i h)
          (self i h, gathered-all (P i) (build under_step i) (children (pipeline_node p i)) (λ c m. child i c h rec m (ltb c i) refl))
      go i rec false e = rw (build-past under_step (N p) i [] (ltb-false i (N p) e)) tt

  -- those are nodes of the block
  pub under-below : (i : ℕ) → All (λ x. x < N p) (nodes_under i)
  under-below = under_all (λ _ x. x < N p) (λ i h. h) (λ i c x h l m k. k)

-- ---- the trees

-- the sort and the tree of a node, from those before it
abbrev pub sort_step : List ℕ → List Sort → ℕ → Sort
sort_step p before i = sort_of Stage.Pipeline (widths p) (T p) before (pipeline_node p i)

abbrev pub tree_step : List ℕ → List ℕ → List Tree → ℕ → Tree
tree_step p given before i = tree_of given before i (pipeline_node p i)

module _ (p : List ℕ) (tables : ℕ) (given : List ℕ) where
  abbrev pub PlacedAt : ℕ → Type 0
  PlacedAt x = let n = pipeline_node p x in Placed (widths p) tables (T p) given (kind_in kinds n.kind) n.a n.b

  -- where the nodes under i are placed well, its tree fits its sort
  abbrev pub OfSortAt : ℕ → Type 0
  OfSortAt i = All PlacedAt (nodes_under p i) → OfSort (widths p) tables (sort_at (pipeline_sorts p) i) (tree p given i)

  module _ (all : AllWidths (widths p)) where
    child_fits : (i c : ℕ) → i < N p → ((j : ℕ) → j < i → OfSortAt j) → All PlacedAt (get_or (build (under_step p) i) c [])
        → OfSort (widths p) tables (get_or (build (sort_step p) i) c Sort.Malformed) (get_or (build (tree_step p given) i) c Tree.nothing)
    unfolding pipeline_sorts trees under_each
    child_fits i c h rec placed = go (ltb c i) refl
      where
        go : (b : Bool) → ltb c i ≡ b → OfSort (widths p) tables (get_or (build (sort_step p) i) c Sort.Malformed) (get_or (build (tree_step p given) i) c Tree.nothing)
        go true e =
            let k = ltb-true c i e in
            rw (build-before (sort_step p) i (N p) c Sort.Malformed k (omega arith), build-before (tree_step p given) i (N p) c Tree.nothing k (omega arith))
            (rec c k (rw (build-before (under_step p) i (N p) c [] k (omega arith)) at placed))
        go false e = rw (build-past (sort_step p) i c Sort.Malformed (ltb-false c i e)) (fit (widths p) tables Sort.Malformed tt)

    step_fits : (i : ℕ) → i < N p → ((j : ℕ) → j < i → OfSortAt j) → All PlacedAt (i ∷ gathered (build (under_step p) i) (children (pipeline_node p i)))
        → OfSort (widths p) tables (sort_step p (build (sort_step p) i) i) (tree_step p given (build (tree_step p given) i) i)
    unfolding sort_of
    step_fits i h rec placed =
        let n = pipeline_node p i in
        let k = kind_in kinds n.kind in
        let sort : ℕ → Sort = λ j. get_or (build (sort_step p) i) j Sort.Malformed in
        let node : ℕ → Tree = λ j. get_or (build (tree_step p given) i) j Tree.nothing in
        let us = build (under_step p) i in
        only-fits (widths p) tables (unused_zero k n) (sort_by (widths p) (T p) sort k n.a n.b n.c) λ e.
        node-fits (widths p) tables all (T p) given sort node i k n.a n.b n.c placed.0
        (all_with (λ c. All PlacedAt (get_or us c [])) (λ c. OfSort (widths p) tables (sort c) (node c)) (children n) (λ c m. child_fits i c h rec)
        (all-gathered PlacedAt us (children n) placed.1))

    pub fits-at : (i : ℕ) → OfSortAt i
    unfolding pipeline_sorts trees made
    fits-at = from-below OfSortAt λ i rec. go i rec (ltb i (N p)) refl
      where
        go : (i : ℕ) → ((j : ℕ) → j < i → OfSortAt j) → (b : Bool) → ltb i (N p) ≡ b → OfSortAt i
        go i rec true e placed =
            let h = ltb-true i (N p) e in
            rw (build-at (sort_step p) (N p) i Sort.Malformed h, build-at (tree_step p given) (N p) i Tree.nothing h) (step_fits i h rec (rw (under_at p i h) at placed))
        go i rec false e placed = rw (build-past (sort_step p) (N p) i Sort.Malformed (ltb-false i (N p) e)) (fit (widths p) tables Sort.Malformed tt)
