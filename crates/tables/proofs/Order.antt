-- Laws of an order: how a list in that order grows, and what is found first in it. Assumes nothing.
use Prim.Native.Nat.{ℕ, zero, suc, ◌+◌, ◌<◌, ◌≤◌}
use native.Mathlib.Nat.{not-suc-le-zero, le_of_suc-le-suc, eq-or-lt_of_le}
use native.Mathlib.Numerals.{add-one}
use native.Mathlib.Omega.{arith}
use mathlib.Core.Path.{◌≡◌, refl, sym, ◌∙◌, ap}
use mathlib.Core.Bool.{Bool, true, false, not, ◌&&◌, false≢true}
use mathlib.Core.Logic.{◌⊎◌, inl, inr}
use mathlib.Core.List.{List, [], ◌∷◌, ◌++◌, append-nil}
use lib.Dec.{eqb, ltb}
use lib.ListN.{length}
use borrow.Author.Tests.{lt-ltb, le-ltb, ltb-true, ltb-false}
use Rattle.std.specs.Prelude.{if◌then◌else◌, Option, Some, None}
use Rattle.model.specs.Lists.{each, those, times, among}
use Rattle.model.specs.Blocks.{R}
use Rattle.model.specs.Tables.{tried_before, placed, ordered, first_that}
use Rattle.model.proofs.Every.{All, all-each, all_placed, all-ordered, all-those, all_with, among_here, among_there}
use Rattle.model.proofs.Hits.{first-has}
use Rattle.tables.specs.Next.{comes_after}
use Rattle.tables.specs.Scan.{ordered_to, precedes, Settled}

-- Nothing is before itself, of two that differ exactly one is before the other, and what is before the first of them is before the second.
pub record Order (before : ℕ → ℕ → Bool) : Type 0 where
  pub itself : (i : ℕ) → before i i ≡ false
  pub one : (i j : ℕ) → (i ≡ j → ⊥) → before j i ≡ not (before i j)
  pub through : (i j k : ℕ) → before i j ≡ true → before j k ≡ true → before i k ≡ true

-- ---- the order in which rules are tried: nothing else here knows it

pub tried_order : (r : List ℕ) → Order (tried_before r)
tried_order r = record {
  itself = λ i. le-ltb i i (omega arith);
  one = λ i j d. go i j d (ltb i j) refl;
  through = λ i j k h l. lt-ltb i k (omega (arith, ltb-true i j h, ltb-true j k l));
}
  where
    go : (i j : ℕ) → (i ≡ j → ⊥) → (b : Bool) → ltb i j ≡ b → ltb j i ≡ not b
    go i j d true e = le-ltb j i (omega (arith, ltb-true i j e))
    go i j d false e = lt-ltb j i (omega (arith, ltb-false i j e))

module _ (r : List ℕ) (count : ℕ) (e : count ≡ R r) where
  -- up to a rule none comes after it
  pub none_after : (after : ℕ) → after < count → (j : ℕ) → j < after + 1 → comes_after r after j ≡ false
  none_after after h j k = rw (lt-ltb after (R r) (omega (arith, e))) (le-ltb after j (omega arith))

  -- and none behind it is tried before it
  pub settles : (best : ℕ) → best < count → Settled r (Some best)
  settles best h = (omega (arith, e), λ j k l. le-ltb j best (omega arith))

-- ---- lists in an order

-- those of a list and of what follows it
those-append : (test : ℕ → Bool) (xs ys : List ℕ) → those test (xs ++ ys) ≡ those test xs ++ those test ys
unfolding those
those-append test [] ys = refl
those-append test (x ∷ xs) ys = go (test x) (those-append test xs ys)
  where
    go : (b : Bool) → those test (xs ++ ys) ≡ those test xs ++ those test ys
        → (if b then x ∷ those test (xs ++ ys) else those test (xs ++ ys)) ≡ (if b then x ∷ those test xs else those test xs) ++ those test ys
    go true e = ap (λ (zs : List ℕ). x ∷ zs) e
    go false e = e

two_ways : (i x : ℕ) (b : Bool) (zs : List ℕ) → (if b then i ∷ x ∷ zs else x ∷ i ∷ zs) ≡ (if not b then x ∷ i ∷ zs else i ∷ x ∷ zs)
two_ways i x true zs = refl
two_ways i x false zs = refl

-- what is placed stands in the list, beside what stood there
module _ (before : ℕ → ℕ → Bool) (i : ℕ) where
  times-placed : (x : ℕ) (js : List ℕ) → times x (placed before i js) ≡ times x (i ∷ js)
  unfolding placed times
  times-placed x [] = refl
  times-placed x (j ∷ js) = go (before i j) (times-placed x js)
    where
      more : Bool → ℕ → ℕ
      more b n = if b then suc n else n

      either_way : (a b : Bool) (n : ℕ) → more a (more b n) ≡ more b (more a n)
      either_way true true n = refl
      either_way true false n = refl
      either_way false b n = refl

      go : (b : Bool) → times x (placed before i js) ≡ times x (i ∷ js)
          → times x (if b then i ∷ j ∷ js else j ∷ placed before i js) ≡ times x (i ∷ j ∷ js)
      go true rec = refl
      go false rec = rw rec (either_way (eqb x j) (eqb x i) (times x js))

  length-placed : (js : List ℕ) → length (placed before i js) ≡ suc (length js)
  unfolding placed
  length-placed [] = refl
  length-placed (j ∷ js) = go (before i j) (length-placed js)
    where
      go : (b : Bool) → length (placed before i js) ≡ suc (length js)
          → length (if b then i ∷ j ∷ js else j ∷ placed before i js) ≡ suc (suc (length js))
      go true rec = refl
      go false rec = ap suc rec

  among-placed : (x : ℕ) (js : List ℕ) → among x (i ∷ js) ≡ true → among x (placed before i js) ≡ true
  among-placed x js h = rw (times-placed x js) h

-- what is below n is not n
all_other : (n : ℕ) (xs : List ℕ) → All (λ x. x < n) xs → All (λ x. x ≡ n → ⊥) xs
all_other n xs = all_with (λ x. x < n) (λ x. x ≡ n → ⊥) xs (λ x m k q. omega arith)

-- each element is before all that follow it
abbrev pub Sorted : (ℕ → ℕ → Bool) → List ℕ → Type 0
Sorted before [] = Unit {0}
Sorted before (x ∷ xs) = All (λ y. before x y ≡ true) xs × Sorted before xs

module _ (before : ℕ → ℕ → Bool) (o : Order before) where
  -- ---- where an element is placed

  not_before : (i x y : ℕ) → before i y ≡ true → before x y ≡ false → before x i ≡ false
  not_before i x y h k = go (before x i) refl
    where
      go : (b : Bool) → before x i ≡ b → b ≡ false
      go true e = absurd (false≢true (sym k ∙ o.through x i y e h))
      go false e = refl

  past : (i x y : ℕ) (ys : List ℕ) → before i y ≡ true → before x y ≡ false → placed before x (i ∷ y ∷ ys) ≡ i ∷ y ∷ placed before x ys
  unfolding placed
  past i x y ys h k = rw (not_before i x y h k, k)

  -- two are placed in either order
  placed_swap : (i x : ℕ) (ys : List ℕ) → (i ≡ x → ⊥) → placed before i (placed before x ys) ≡ placed before x (placed before i ys)
  unfolding placed
  placed_swap i x [] d = rw (o.one i x d) (two_ways i x (before i x) [])
  placed_swap i x (y ∷ ys) d = go (before i y) (before x y) refl refl (placed_swap i x ys d)
    where
      go : (a b : Bool) → before i y ≡ a → before x y ≡ b → placed before i (placed before x ys) ≡ placed before x (placed before i ys)
          → placed before i (if b then x ∷ y ∷ ys else y ∷ placed before x ys) ≡ placed before x (if a then i ∷ y ∷ ys else y ∷ placed before i ys)
      go true true e f rec = rw (o.one i x d, e, f) (two_ways i x (before i x) (y ∷ ys))
      go true false e f rec = rw e (sym (past i x y ys e f))
      go false true e f rec = rw f (past x i y ys f e)
      go false false e f rec = rw (e, f) (ap (λ (zs : List ℕ). y ∷ zs) rec)

  -- what comes last into a list is placed as if it came first
  ordered-last : (n : ℕ) (xs : List ℕ) → All (λ x. x ≡ n → ⊥) xs → ordered before (xs ++ (n ∷ [])) ≡ placed before n (ordered before xs)
  unfolding ordered
  ordered-last n [] h = refl
  ordered-last n (x ∷ xs) h = rw (ordered-last n xs h.1) (placed_swap x n (ordered before xs) h.0)

  all_through : (i x : ℕ) (xs : List ℕ) → before i x ≡ true → All (λ y. before x y ≡ true) xs → All (λ y. before i y ≡ true) xs
  all_through i x xs h = all_with (λ y. before x y ≡ true) (λ y. before i y ≡ true) xs (λ y m k. o.through i x y h k)

  pub sorted_placed : (i : ℕ) (xs : List ℕ) → All (λ x. x ≡ i → ⊥) xs → Sorted before xs → Sorted before (placed before i xs)
  unfolding placed
  sorted_placed i [] d s = (tt, tt)
  sorted_placed i (x ∷ xs) d s = go (before i x) refl (sorted_placed i xs d.1 s.1)
    where
      go : (b : Bool) → before i x ≡ b → Sorted before (placed before i xs) → Sorted before (if b then i ∷ x ∷ xs else x ∷ placed before i xs)
      go true e rec = ((e, all_through i x xs e s.0), s)
      go false e rec = (all_placed (λ y. before x y ≡ true) before i xs (o.one i x (λ q. d.0 (sym q)) ∙ ap not e) s.0, rec)

  -- ---- what is found first

  module _ (test : ℕ → Bool) where
    all-precedes : (i : ℕ) (xs : List ℕ) → All (λ x. before i x ≡ true) xs → precedes before i (first_that test xs) ≡ true
    all-precedes i xs h = go (first_that test xs) refl
      where
        go : (f : Option ℕ) → first_that test xs ≡ f → precedes before i f ≡ true
        go (Some j) e = first-has (λ x. before i x ≡ true) test xs j h e
        go None e = refl

    -- what is placed is found where it precedes what was found, and the test holds
    pub first-placed : (i : ℕ) (xs : List ℕ) → Sorted before xs
        → first_that test (placed before i xs) ≡ (if precedes before i (first_that test xs) && test i then Some i else first_that test xs)
    unfolding placed first_that
    first-placed i [] s = refl
    first-placed i (x ∷ xs) s = go (before i x) (test x) refl refl (first-placed i xs s.1)
      where
        best : Bool → Option ℕ
        best c = if c then Some x else first_that test xs

        go : (b c : Bool) → before i x ≡ b → test x ≡ c
            → first_that test (placed before i xs) ≡ (if precedes before i (first_that test xs) && test i then Some i else first_that test xs)
            → first_that test (if b then i ∷ x ∷ xs else x ∷ placed before i xs) ≡ (if precedes before i (best c) && test i then Some i else best c)
        go true c e f rec = rw (← f, all-precedes i (x ∷ xs) (e, all_through i x xs e s.0))
        go false true e f rec = rw (e, f)
        go false false e f rec = rw f rec

-- ---- those below n that belong

module _ (before : ℕ → ℕ → Bool) (own : ℕ → Bool) where
  own_below : (n : ℕ) → All (λ i. i < n) (those own (each (λ i. i) n))
  own_below n =
      let below : ℕ → Type 0 = λ i. i < n in
      let is = each (λ i. i) n in
      all_with (λ i. below i × (own i ≡ true)) below (those own is) (λ i m k. k.0) (all-those below own is (all-each below (λ i. i) n (λ i k. k)))

  pub to_below : (n : ℕ) → All (λ i. i < n) (ordered_to before own n)
  unfolding ordered_to
  to_below n = all-ordered (λ i. i < n) before (those own (each (λ i. i) n)) (own_below n)

  pub to_none : ordered_to before own 0 ≡ []
  unfolding ordered_to ordered those each
  to_none = refl

  -- one more, that doesn't belong
  pub to_other : (n : ℕ) → own n ≡ false → ordered_to before own (n + 1) ≡ ordered_to before own n
  unfolding ordered_to each those
  to_other n e = rw (add-one, those-append own (each (λ i. i) n) (n ∷ []), e, append-nil)

  module _ (o : Order before) where
    -- one more, that belongs
    pub to_own : (n : ℕ) → own n ≡ true → ordered_to before own (n + 1) ≡ placed before n (ordered_to before own n)
    unfolding ordered_to each those
    to_own n e =
        let below = those own (each (λ i. i) n) in
        rw (add-one, those-append own (each (λ i. i) n) (n ∷ []), e) (ordered-last before o n below (all_other n below (own_below n)))

    pub to_sorted : (n : ℕ) → Sorted before (ordered_to before own n)
    to_sorted zero = rw to_none tt
    to_sorted (suc n) = go (own n) refl (to_sorted n)
      where
        go : (b : Bool) → own n ≡ b → Sorted before (ordered_to before own n) → Sorted before (ordered_to before own (suc n))
        go true e s = rw (← add-one n, to_own n e) (sorted_placed before o n (ordered_to before own n) (all_other n (ordered_to before own n) (to_below n)) s)
        go false e s = rw (← add-one n, to_other n e) s

    -- all that belong are there, and no more than there are below n
    pub to_there : (n i : ℕ) → i < n → own i ≡ true → among i (ordered_to before own n) ≡ true
    to_there zero i h k = absurd (not-suc-le-zero h)
    to_there (suc n) i h k = go (own n) refl (eq-or-lt_of_le (le_of_suc-le-suc h)) (λ l. to_there n i l k)
      where
        below : List ℕ
        below = ordered_to before own n

        go : (b : Bool) → own n ≡ b → (i ≡ n) ⊎ (i < n) → (i < n → among i below ≡ true) → among i (ordered_to before own (suc n)) ≡ true
        go true e (inl d) rec = rw (← add-one n, to_own n e, d) (among-placed before n n below (among_here n below))
        go true e (inr l) rec = rw (← add-one n, to_own n e) (among-placed before n i below (among_there i n below (rec l)))
        go false e (inl d) rec = absurd (false≢true (sym e ∙ rw (← d) k))
        go false e (inr l) rec = rw (← add-one n, to_other n e) (rec l)

    pub to_few : (n : ℕ) → length (ordered_to before own n) ≤ n
    to_few zero = rw to_none (omega arith)
    to_few (suc n) = go (own n) refl (to_few n)
      where
        below : List ℕ
        below = ordered_to before own n

        go : (b : Bool) → own n ≡ b → length below ≤ n → length (ordered_to before own (suc n)) ≤ suc n
        go true e rec = rw (← add-one n, to_own n e) (omega (arith, length-placed before n below))
        go false e rec = rw (← add-one n, to_other n e) (omega arith)

    -- what is found first, with one more that belongs
    pub first-own : (test : ℕ → Bool) (n : ℕ) → own n ≡ true → let best = first_that test (ordered_to before own n) in
        first_that test (ordered_to before own (n + 1)) ≡ (if precedes before n best && test n then Some n else best)
    first-own test n e = rw (to_own n e) (first-placed before o test n (ordered_to before own n) (to_sorted n))
