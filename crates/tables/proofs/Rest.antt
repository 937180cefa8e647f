-- The rules of a table one after the other: where they begin, that each leads to the next, and that they end. Assumes nothing.
use Prim.Native.Nat.{ℕ, suc, ◌<◌, ◌≤◌}
use native.Mathlib.Omega.{arith}
use mathlib.Core.Path.{◌≡◌, refl, sym, ◌∙◌, ap}
use mathlib.Core.Bool.{Bool, true, false, not, false≢true}
use mathlib.Core.List.{List, [], ◌∷◌}
use lib.Dec.{eqb, ltb}
use lib.ListN.{length}
use borrow.Author.Tests.{eq-eqb, ne_eqb, eqb-true, eqb-false, lt-ltb, le-ltb}
use Rattle.std.specs.Prelude.{if◌then◌else◌, Option, Some, None}
use Rattle.model.specs.Lists.{times, among}
use Rattle.model.specs.Blocks.{R, table_of}
use Rattle.model.specs.Tables.{tried_before, of_table, tried, first_that}
use Rattle.model.proofs.Every.{All, all_with}
use Rattle.model.proofs.Times.{all_among}
use Rattle.model.proofs.Hits.{first-has}
use Rattle.model.proofs.Accepted.{OfTable, tried-below}
use Rattle.tables.specs.Next.{comes_after, next_after, from, rest_of}
use Rattle.tables.specs.Scan.{ordered_to}
use Rattle.tables.proofs.Order.{Order, tried_order, Sorted, to_sorted, to_there, to_few}

-- ---- a list from what is found in it

-- as `rest_of`, of any list
abbrev onward : List ℕ → Option ℕ → List ℕ
onward xs (Some i) = from i xs
onward xs None = []

from_head : (x : ℕ) (xs : List ℕ) → from x (x ∷ xs) ≡ x ∷ xs
unfolding from
from_head x xs = rw (eq-eqb x x refl)

from_tail : (i x : ℕ) (xs : List ℕ) → (i ≡ x → ⊥) → from i (x ∷ xs) ≡ from i xs
unfolding from
from_tail i x xs d = rw (ne_eqb i x d)

few-from : (i : ℕ) (xs : List ℕ) → length (from i xs) ≤ length xs
unfolding from
few-from i [] = omega arith
few-from i (x ∷ xs) = go (eqb i x) (few-from i xs)
  where
    go : (b : Bool) → length (from i xs) ≤ length xs → length (if b then x ∷ xs else from i xs) ≤ length (x ∷ xs)
    go true rec = omega arith
    go false rec = omega arith

module _ (test : ℕ → Bool) where
  -- where the test holds of all, that is the list
  onward-all : (xs : List ℕ) → All (λ x. test x ≡ true) xs → onward xs (first_that test xs) ≡ xs
  unfolding first_that
  onward-all [] h = refl
  onward-all (x ∷ xs) h = rw h.0 (from_head x xs)

  -- an element that stands once, and of which the test doesn't hold, is passed over
  onward-past : (x : ℕ) (xs : List ℕ) → All (λ y. y ≡ x → ⊥) xs → test x ≡ false
      → onward (x ∷ xs) (first_that test (x ∷ xs)) ≡ onward xs (first_that test xs)
  unfolding first_that
  onward-past x xs d e = rw e (go (first_that test xs) refl)
    where
      go : (h : Option ℕ) → first_that test xs ≡ h → onward (x ∷ xs) h ≡ onward xs h
      go (Some j) f = from_tail j x xs (first-has (λ y. y ≡ x → ⊥) test xs j d f)
      go None f = refl

-- ---- in an order

module _ (before : ℕ → ℕ → Bool) (o : Order before) where
  others : (x : ℕ) (xs : List ℕ) → All (λ y. before x y ≡ true) xs → All (λ y. y ≡ x → ⊥) xs
  others x xs = all_with (λ y. before x y ≡ true) (λ y. y ≡ x → ⊥) xs (λ y m k e. false≢true (sym (o.itself x) ∙ (rw e at k)))

  -- from an element on: that, and what is found first after it
  from_next : (i : ℕ) (xs : List ℕ) → Sorted before xs → among i xs ≡ true → from i xs ≡ i ∷ onward xs (first_that (before i) xs)
  unfolding times
  from_next i [] s m = absurd (false≢true m)
  from_next i (x ∷ xs) s m = go (eqb i x) refl m (from_next i xs s.1)
    where
      past : before i x ≡ false → onward (x ∷ xs) (first_that (before i) (x ∷ xs)) ≡ onward xs (first_that (before i) xs)
      past = onward-past (before i) x xs (others x xs s.0)

      go : (b : Bool) → eqb i x ≡ b → ltb 0 (if b then suc (times i xs) else times i xs) ≡ true
          → (among i xs ≡ true → from i xs ≡ i ∷ onward xs (first_that (before i) xs))
          → from i (x ∷ xs) ≡ i ∷ onward (x ∷ xs) (first_that (before i) (x ∷ xs))
      go true e k rec =
          let same = eqb-true i x e in
          rw (past (rw same (o.itself x)), same, onward-all (before x) xs s.0) (from_head x xs)
      go false e k rec =
          let differ = eqb-false i x e in
          let behind = all_among i (λ y. before x y ≡ true) xs s.0 k in
          rw (past (o.one x i (λ q. differ (sym q)) ∙ ap not behind), from_tail i x xs differ) (rec k)

-- ---- the rules of a table

module _ (r : List ℕ) (t : ℕ) where
  rest_onward : (h : Option ℕ) → rest_of r t h ≡ onward (tried r t) h
  rest_onward (Some i) = refl
  rest_onward None = refl

  tried_to : tried r t ≡ ordered_to (tried_before r) (of_table r t) (R r)
  unfolding tried ordered_to
  tried_to = refl

  pub next-first : rest_of r t (next_after r t (R r)) ≡ tried r t
  next-first =
      let test = comes_after r (R r) in
      let all = all_with (OfTable r t) (λ i. test i ≡ true) (tried r t) (λ i m k. rw (le-ltb (R r) (R r) (omega arith))) (tried-below r t) in
      rest_onward (next_after r t (R r)) ∙ onward-all test (tried r t) all

  pub next_there : (after i : ℕ) → next_after r t after ≡ Some i → (i < R r) × (table_of r i ≡ t)
  next_there after i = first-has (OfTable r t) (comes_after r after) (tried r t) i (tried-below r t)

  next-before : (i : ℕ) → i < R r → next_after r t i ≡ first_that (tried_before r i) (tried r t)
  next-before i h = ap (λ (b : Bool). first_that (λ j. if b then tried_before r i j else true) (tried r t)) (lt-ltb i (R r) h)

  pub next_rest : (i : ℕ) → i < R r → table_of r i ≡ t → rest_of r t (Some i) ≡ i ∷ rest_of r t (next_after r t i)
  next_rest i h e =
      let before = tried_before r in
      let own = of_table r t in
      let o = tried_order r in
      let there = to_there before own o (R r) i h (eq-eqb (table_of r i) t e) in
      rw (rest_onward (next_after r t i), next-before i h, tried_to) (from_next before o i _ (to_sorted before own o (R r)) there)

  tried-few : length (tried r t) ≤ R r
  tried-few = rw tried_to (to_few (tried_before r) (of_table r t) (tried_order r) (R r))

  pub rest_few : (h : Option ℕ) → length (rest_of r t h) ≤ R r
  rest_few (Some i) = omega (arith, few-from i (tried r t), tried-few)
  rest_few None = omega arith
