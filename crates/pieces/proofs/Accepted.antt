-- What Check accepts is sound: each child is of the sort that its parent reads. Assumes nothing.
use Prim.Native.Nat.{ℕ, ◌+◌, ◌-◌, ◌<◌}
use native.Mathlib.Omega.{arith}
use mathlib.Core.Path.{◌≡◌, refl, subst, sym}
use mathlib.Core.Bool.{Bool, true, false, ◌&&◌, false≢true}
use mathlib.Core.List.{List}
use lib.Dec.{ltb, leb}
use lib.ListN.{get_or, length}
use borrow.Author.Tests.{ltb-true, ltb-false, leb-true, lt-ltb}
use Rattle.bits.specs.Width.{fits}
use Rattle.model.specs.Lists.{build}
use Rattle.model.specs.Blocks.{N, T, widths, pipeline_node}
use Rattle.model.specs.Nodes.{kinds, kind_in, unused_zero, width_of, is_test, is_formed, is_statement, is_width, is_value, alike, only, sort_by, sort_of}
use Rattle.model.specs.Trees.{Val, Tree, trees, tree, tree_by}
use Rattle.model.specs.Refusals.{pipeline_sorts, sort_at}
use Rattle.model.specs.Demands.{Accepted}
use Rattle.model.specs.declared.Kind.{Kind}
use Rattle.model.specs.declared.Sort.{Sort}
use Rattle.model.proofs.Booleans.{both_true}
use Rattle.model.proofs.Lists.{made, build-at}
use Rattle.model.proofs.Every.{build-before, build-past, build_related}
use Rattle.model.proofs.SortTests.{value_is, alike-parts}
use Rattle.model.proofs.Decoded.{sort_step, tree_step}
use Rattle.model.proofs.Accepted.{rows}
use Rattle.model.proofs.Uses.{accepted-children}
use Rattle.pieces.specs.Sound.{IsValue, IsTest, Reads, Sound}

-- a tree is the value or the test that its sort says
abbrev OfSort : Sort → Tree → Type 0
OfSort Sort.Malformed t = Unit {0}
OfSort (Sort.Value w) t = IsValue t
OfSort Sort.Test t = IsTest t
OfSort Sort.Statement t = Unit {0}

as_value_lem : (s : Sort) {t : Tree} → OfSort s t → is_value s ≡ true → IsValue t
as_value_lem Sort.Malformed h e = cc
as_value_lem (Sort.Value w) h e = h
as_value_lem Sort.Test h e = cc
as_value_lem Sort.Statement h e = cc

as_test_lem : (s : Sort) {t : Tree} → OfSort s t → is_test s ≡ true → IsTest t
as_test_lem Sort.Malformed h e = cc
as_test_lem (Sort.Value w) h e = cc
as_test_lem Sort.Test h e = h
as_test_lem Sort.Statement h e = cc

of_value : (s : Sort) (v : Val) → is_value s ≡ true → OfSort s (Tree.value v)
of_value s v e = subst (λ (s : Sort). OfSort s (Tree.value v)) (sym (value_is s e)) refl

-- a tree of a sort, and what holds where there is one
record Formed (s : Sort) (t : Tree) (P : Type 0) : Type 0 where
  is : OfSort s t
  gives : is_formed s ≡ true → P

only_where : (good : Bool) (s : Sort) {t : Tree} {P : Type 0} → (good ≡ true → Formed s t P) → Formed (only good s) t P
only_where true s h = h refl
only_where false s h = record { is = tt; gives = λ e. absurd (false≢true e) }

by_test : (good : Bool) (s : Sort) {t : Tree} {P : Type 0} → (good ≡ true → OfSort s t × P) → Formed (only good s) t P
by_test good s h = only_where good s λ e. record { is = (h e).0; gives = λ _. (h e).1 }

-- the sort and the tree of a node go by its kind, and the sort asks what the kind reads
module _ (ws : List ℕ) (tables : ℕ) (given : List ℕ) (sort : ℕ → Sort) (tree : ℕ → Tree) (i : ℕ) (are : (x : ℕ) → OfSort (sort x) (tree x)) where
  value : (x : ℕ) → is_value (sort x) ≡ true → IsValue (tree x)
  value x e = as_value_lem (sort x) (are x) e

  test : (x : ℕ) → is_test (sort x) ≡ true → IsTest (tree x)
  test x e = as_test_lem (sort x) (are x) e

  values : (x y : ℕ) → alike (sort x) (sort y) ≡ true → IsValue (tree x) × IsValue (tree y)
  values x y e = let v = alike-parts (sort x) (sort y) e in (value x v.0, value y v.1)

  tests : (x y : ℕ) → is_test (sort x) && is_test (sort y) ≡ true → IsTest (tree x) × IsTest (tree y)
  tests x y e = let b = both_true (is_test (sort x)) (is_test (sort y)) e in (test x b.0, test y b.1)

  abbrev FormedBy : Kind → ℕ → ℕ → ℕ → Type 0
  FormedBy k a b c = Formed (sort_by ws tables sort k a b c) (tree_by given tree i k a b c) (Reads tree k a b c)

  slice-formed : (a b c : ℕ) → FormedBy Kind.Slice a b c
  slice-formed a b c = by_test (ltb b (width_of (sort a)) && leb c b) (Sort.Value (b - c + 1)) λ e.
      let high = ltb-true b (width_of (sort a)) (both_true (ltb b (width_of (sort a))) (leb c b) e).0 in
      (refl, value a (lt-ltb 0 (width_of (sort a)) (omega arith)))

  join-formed : (a b c : ℕ) → FormedBy Kind.Join a b c
  join-formed a b c =
      let total = width_of (sort a) + width_of (sort b) in
      let both = is_value (sort a) && is_value (sort b) in
      by_test (both && leb total 32) (Sort.Value total) λ e.
      let v = both_true (is_value (sort a)) (is_value (sort b)) (both_true both (leb total 32) e).0 in
      (refl, (value a v.0, value b v.1))

  select-formed : (a b c : ℕ) → FormedBy Kind.Select a b c
  select-formed a b c = by_test (is_test (sort a) && alike (sort b) (sort c)) (sort b) λ e.
      let h = both_true (is_test (sort a)) (alike (sort b) (sort c)) e in
      let v = values b c h.1 in
      (of_value (sort b) _ (alike-parts (sort b) (sort c) h.1).0, (test a h.0, v.0, v.1))

  assign-formed : (a b c : ℕ) → FormedBy Kind.Assign a b c
  assign-formed a b c =
      let v = Sort.Value (get_or ws a 0) in
      by_test (ltb a (length ws) && alike (sort b) v) Sort.Statement λ e.
      (tt, value b (alike-parts (sort b) v (both_true (ltb a (length ws)) (alike (sort b) v) e).1).0)

  kind_formed : (k : Kind) (a b c : ℕ) → FormedBy k a b c
  kind_formed Kind.Constant a b c = by_test (is_width b && fits b a) (Sort.Value b) λ e. (refl, tt)
  kind_formed Kind.Field a b c = by_test (ltb a (length ws)) (Sort.Value (get_or ws a 0)) λ e. (refl, tt)
  kind_formed Kind.Parameter a b c = by_test (is_width b) (Sort.Value b) λ e. (refl, tt)
  kind_formed (Kind.Binary o) a b c =
      by_test (alike (sort a) (sort b)) (sort a) λ e. (of_value (sort a) _ (alike-parts (sort a) (sort b) e).0, values a b e)
  kind_formed Kind.Complement a b c = by_test (is_value (sort a)) (sort a) λ e. (of_value (sort a) _ e, value a e)
  kind_formed Kind.Slice a b c = slice-formed a b c
  kind_formed Kind.Join a b c = join-formed a b c
  kind_formed Kind.Select a b c = select-formed a b c
  kind_formed Kind.Truth a b c = by_test (leb a 1) Sort.Test λ e. (refl, leb-true a 1 e)
  kind_formed (Kind.Compare o) a b c = by_test (alike (sort a) (sort b)) Sort.Test λ e. (refl, values a b e)
  kind_formed Kind.Not a b c = by_test (is_test (sort a)) Sort.Test λ e. (refl, test a e)
  kind_formed (Kind.Connect o) a b c = by_test (is_test (sort a) && is_test (sort b)) Sort.Test λ e. (refl, tests a b e)
  kind_formed Kind.Skip a b c = by_test true Sort.Statement λ e. (tt, tt)
  kind_formed Kind.Assign a b c = assign-formed a b c
  kind_formed Kind.Havoc a b c = by_test (ltb a (length ws)) Sort.Statement λ e. (tt, tt)
  kind_formed Kind.Assume a b c = by_test (is_test (sort a)) Sort.Statement λ e. (tt, test a e)
  kind_formed Kind.Assert a b c = by_test (is_test (sort a)) Sort.Statement λ e. (tt, test a e)
  kind_formed Kind.Sequence a b c = by_test (is_statement (sort a) && is_statement (sort b)) Sort.Statement λ e. (tt, tt)
  kind_formed Kind.Choice a b c = by_test (is_statement (sort a) && is_statement (sort b)) Sort.Statement λ e. (tt, tt)
  kind_formed Kind.Apply a b c = by_test (ltb a tables) Sort.Statement λ e. (tt, tt)
  kind_formed Kind.Unknown a b c = by_test false Sort.Malformed λ e. (tt, tt)

module _ (p given : List ℕ) where
  -- a node over sorts and trees of those before it
  module _ (ss : List Sort) (node : ℕ → Tree) (i : ℕ) (are : (x : ℕ) → OfSort (get_or ss x Sort.Malformed) (node x)) where
    node-formed : let n = pipeline_node p i in let k = kind_in kinds n.kind in
        Formed (sort_step p ss i) (tree_by given node i k n.a n.b n.c) (Reads node k n.a n.b n.c)
    unfolding sort_of
    node-formed =
        let n = pipeline_node p i in
        let k = kind_in kinds n.kind in
        let sort : ℕ → Sort = λ x. get_or ss x Sort.Malformed in
        only_where (unused_zero k n) (sort_by (widths p) (T p) sort k n.a n.b n.c) λ _.
        kind_formed (widths p) (T p) given sort node i are k n.a n.b n.c

  all-formed : (x : ℕ) → OfSort (sort_at (pipeline_sorts p) x) (tree p given x)
  unfolding pipeline_sorts trees
  all-formed x =
      build_related (sort_step p) (tree_step p given) OfSort Sort.Malformed Tree.nothing tt (λ ss ts i are. (node-formed ss (λ x. get_or ts x Tree.nothing) i are).is) (N p) x

  before-formed : (i x : ℕ) → i < N p → OfSort (get_or (build (sort_step p) i) x Sort.Malformed) (tree p given x)
  unfolding pipeline_sorts
  before-formed i x h = go (ltb x i) refl
    where
      go : (b : Bool) → ltb x i ≡ b → OfSort (get_or (build (sort_step p) i) x Sort.Malformed) (tree p given x)
      go true e = rw (build-before (sort_step p) i (N p) x Sort.Malformed (ltb-true x i e) (omega arith)) (all-formed x)
      go false e = rw (build-past (sort_step p) i x Sort.Malformed (ltb-false x i e)) tt

  node-reads : (i : ℕ) → i < N p → is_formed (sort_at (pipeline_sorts p) i) ≡ true
      → let n = pipeline_node p i in Reads (tree p given) (kind_in kinds n.kind) n.a n.b n.c
  unfolding pipeline_sorts made
  node-reads i h e =
      (node-formed (build (sort_step p) i) (tree p given) i (λ x. before-formed i x h)).gives (rw (build-at (sort_step p) (N p) i Sort.Malformed h) at e)

pub sound : (p r : List ℕ) → Accepted p r → Sound p
sound p r e =
    record {
      below = accepted-children p r e;
      reads = λ given i h. node-reads p given i h ((rows p r e).four i h);
    }
