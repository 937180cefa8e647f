-- How a loop finds the first place of which a test does not hold, what the place that it found says, and what a call's rows then answer.
-- Assumes nothing.
use Prim.Native.Nat.{ℕ, ◌+◌, ◌<◌, ◌≤◌}
use native.Mathlib.Numerals.{add-one}
use native.Mathlib.Omega.{arith}
use mathlib.Core.Path.{◌≡◌, refl}
use mathlib.Core.Bool.{Bool, true, false}
use mathlib.Core.List.{List, [], ◌∷◌, ◌++◌}
use Rattle.std.specs.Prelude.{Option, Some, None, zero, suc, is_none, ◌&&◌, if◌then◌else◌}
use Rattle.model.specs.Lists.{every, earlier, first_not, or_count, first_place}
use Rattle.model.specs.Answers.{refused, after}
use Rattle.model.specs.Refusals.{Row, once, given, judge}
use Rattle.model.proofs.Refusals.{Found, found, not_before}

module _ (test : ℕ → Bool) where
  -- no place is left out before the first, and one more
  pub first-none : first_not test 0 ≡ None
  unfolding first_not
  first-none = refl

  pub first_more : (i : ℕ) → first_not test i ≡ None → test i ≡ true → first_not test (i + 1) ≡ None
  unfolding first_not
  first_more i e t = rw (add-one, e, t)

  -- the loop stops: at a place that fails, and at the end
  pub first_stop : (n i : ℕ) → first_not test i ≡ None → test i ≡ false → i < n → i ≡ or_count n (first_not test n)
  first_stop n i e f h = go (first_not test n) (found test n)
    where
      before : Found test i None
      before = rw e at (found test i)

      go : (o : Option ℕ) → Found test n o → i ≡ or_count n o
      go None w = absurd (omega (arith, not_before test i n f w))
      go (Some j) w = omega (arith, not_before test i j f w.2, not_before test j i w.1 before)

  pub first_end : (n i : ℕ) → i ≤ n → n ≤ i → first_not test i ≡ None → i ≡ or_count n (first_not test n)
  first_end n i h k e = let d : n ≡ i = omega arith in rw (d, e)

  -- what the number says that the loop found
  pub first-at : (n x : ℕ) → x ≡ or_count n (first_not test n) → x < n → first_not test n ≡ Some x
  first-at n x e h = go (first_not test n) e
    where
      go : (o : Option ℕ) → x ≡ or_count n o → o ≡ Some x
      go None d = absurd (omega arith)
      go (Some i) d = rw d

  pub first_found : (n i : ℕ) → first_not test i ≡ None → test i ≡ false → i < n → first_not test n ≡ Some i
  first_found n i e f h = first-at n i (first_stop n i e f h) h

  pub first_past : (n x : ℕ) → x ≡ or_count n (first_not test n) → n ≤ x → first_not test n ≡ None
  first_past n x e h = go (first_not test n) (found test n) e
    where
      go : (o : Option ℕ) → Found test n o → x ≡ or_count n o → o ≡ None
      go None w d = refl
      go (Some i) w d = absurd (omega (arith, w.0))

  pub first-all : (n i : ℕ) → first_not test n ≡ None → i < n → test i ≡ true
  first-all n i e h = all i h
    where
      all : Found test n None
      all = rw e at (found test n)

  -- a test holds at every place exactly when it fails at none
  pub none-every : (n : ℕ) → is_none (first_not test n) ≡ every test n
  unfolding first_not every
  none-every zero = refl
  none-every (suc n) = go (first_not test n) (test n) (none-every n)
    where
      go : (o : Option ℕ) (b : Bool) → is_none o ≡ every test n → is_none (earlier o (if b then None else Some n)) ≡ (every test n && b)
      go None true e = rw (← e) refl
      go None false e = rw (← e) refl
      go (Some i) b e = rw (← e) refl

-- ---- a call's rows, one after the other

-- a row refuses at the place that was found, or lets the next one judge
module _ (row : Row) (rows : List Row) (x n : ℕ) (e : x ≡ first_place row.well row.count) (k : n ≡ row.count) where
  pub judge_stop : x < n → judge (row ∷ rows) ≡ refused row.number (row.place x)
  unfolding judge
  judge_stop h = rw (first-at row.well row.count x e (rw (← k) h))

  pub judge-on : n ≤ x → judge (row ∷ rows) ≡ judge rows
  unfolding judge
  judge-on h = rw (first_past row.well row.count x e (rw (← k) h))

-- the same of a row that looks once
module _ (number : ℕ) (rows : List Row) (well : ℕ → Bool) (place : ℕ → ℕ) (u : Bool) (e : u ≡ well 0) where
  pub once_stop : u ≡ false → judge (once number well place ∷ rows) ≡ refused number (place 0)
  unfolding judge first_not
  once_stop q = rw (← e, q)

  pub once-on : u ≡ true → judge (once number well place ∷ rows) ≡ judge rows
  unfolding judge first_not
  once-on q = rw (← e, q)

-- rows that are followed by others judge first
pub judge-append : (rows more : List Row) → judge (rows ++ more) ≡ after (judge rows) (λ _. judge more)
unfolding judge
judge-append [] more = refl
judge-append (row ∷ rows) more = go (first_not row.well row.count) (judge-append rows more)
  where
    go : (o : Option ℕ) → judge (rows ++ more) ≡ after (judge rows) (λ _. judge more)
        → given row o (judge (rows ++ more)) ≡ after (given row o (judge rows)) (λ _. judge more)
    go None e = e
    go (Some i) e = refl
