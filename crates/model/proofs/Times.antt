-- How often a number stands in a list, and whether it does. Assumes nothing.
use Prim.Native.Nat.{ℕ, zero, suc, ◌+◌, ◌<◌, ◌≤◌}
use native.Mathlib.Nat.{not-suc-le-zero, le_of_suc-le-suc, eq-or-lt_of_le}
use native.Mathlib.Omega.{arith}
use mathlib.Core.Path.{◌≡◌, refl, ◌∙◌}
use mathlib.Core.Bool.{Bool, true, false, ◌||◌, false≢true}
use mathlib.Core.Logic.{◌⊎◌, inl, inr}
use mathlib.Core.List.{List, [], ◌∷◌, ◌++◌}
use lib.Dec.{eqb, ltb}
use borrow.Author.Tests.{eq-eqb, ne_eqb, eqb-true, lt-ltb, ltb-true}
use Rattle.std.specs.Prelude.{if◌then◌else◌}
use Rattle.model.specs.Lists.{joined, times, among}
use Rattle.model.proofs.Booleans.{or_left, or_right}
use Rattle.model.proofs.Every.{All}

module _ (x : ℕ) where
  -- in two lists, one after the other
  pub times-append : (xs ys : List ℕ) → times x (xs ++ ys) ≡ times x xs + times x ys
  unfolding times
  times-append [] ys = omega arith
  times-append (y ∷ xs) ys = go (eqb x y) (times-append xs ys)
    where
      go : (b : Bool) → times x (xs ++ ys) ≡ times x xs + times x ys
          → (if b then suc (times x (xs ++ ys)) else times x (xs ++ ys)) ≡ (if b then suc (times x xs) else times x xs) + times x ys
      go true e = omega arith
      go false e = e

  -- in a list of one
  pub times-same : (y : ℕ) → x ≡ y → times x (y ∷ []) ≡ 1
  unfolding times
  times-same y e = rw (eq-eqb x y e)

  pub times_other : (y : ℕ) → (x ≡ y → ⊥) → times x (y ∷ []) ≡ 0
  unfolding times
  times_other y e = rw (ne_eqb x y e)

  pub among_one : (y : ℕ) → x ≡ y → among x (y ∷ []) ≡ true
  among_one y e = rw (times-same y e)

  pub among_not : (y : ℕ) → (x ≡ y → ⊥) → among x (y ∷ []) ≡ false
  among_not y e = rw (times_other y e)

  -- in lists one after the other, at least as often as in one of them, and as in two of them
  module _ (f : ℕ → List ℕ) where
    pub times-joined : (n i : ℕ) → i < n → times x (f i) ≤ times x (joined f n)
    unfolding joined
    times-joined zero i h = absurd (not-suc-le-zero h)
    times-joined (suc n) i h = go (eq-or-lt_of_le (le_of_suc-le-suc h)) (times-joined n i)
      where
        go : (i ≡ n) ⊎ (i < n) → (i < n → times x (f i) ≤ times x (joined f n)) → times x (f i) ≤ times x (joined f n ++ f n)
        go (inl e) rec = rw e (omega (arith, times-append (joined f n) (f n)))
        go (inr l) rec = omega (arith, times-append (joined f n) (f n), rec l)

    times-joined-two : (n i j : ℕ) → i < j → j < n → times x (f i) + times x (f j) ≤ times x (joined f n)
    unfolding joined
    times-joined-two zero i j l h = absurd (not-suc-le-zero h)
    times-joined-two (suc n) i j l h = go (eq-or-lt_of_le (le_of_suc-le-suc h)) (times-joined-two n i j l)
      where
        go : (j ≡ n) ⊎ (j < n) → (j < n → times x (f i) + times x (f j) ≤ times x (joined f n))
            → times x (f i) + times x (f j) ≤ times x (joined f n ++ f n)
        go (inl e) rec = rw e (omega (arith, times-append (joined f n) (f n), times-joined n i (omega arith)))
        go (inr k) rec = omega (arith, times-append (joined f n) (f n), rec k)

    -- so what stands in one list alone stands in no other
    pub joined_once : (n i j : ℕ) → times x (joined f n) ≤ 1 → i < n → j < n → among x (f i) ≡ true → among x (f j) ≡ true → i ≡ j
    joined_once n i j once hi hj mi mj = omega (arith, below i j hj mi mj, below j i hi mj mi)
      where
        below : (i j : ℕ) → j < n → among x (f i) ≡ true → among x (f j) ≡ true → i < j → ⊥
        below i j h k l b = omega (arith, times-joined-two n i j b h, ltb-true 0 (times x (f i)) k, ltb-true 0 (times x (f j)) l)

  -- whether, in two lists one after the other
  pub among-append : (xs ys : List ℕ) → among x (xs ++ ys) ≡ (among x xs || among x ys)
  among-append xs ys = go (times x xs) (times x ys) (times-append xs ys)
    where
      go : (a b : ℕ) → times x (xs ++ ys) ≡ a + b → ltb 0 (times x (xs ++ ys)) ≡ (ltb 0 a || ltb 0 b)
      go zero b e = let d : times x (xs ++ ys) ≡ b = omega arith in rw d
      go (suc a) b e = rw (lt-ltb 0 (suc a) (omega arith)) (lt-ltb 0 (times x (xs ++ ys)) (omega arith))

  pub among-left : (xs ys : List ℕ) → among x xs ≡ true → among x (xs ++ ys) ≡ true
  among-left xs ys h = among-append xs ys ∙ or_left (among x xs) (among x ys) h

  pub among-right : (xs ys : List ℕ) → among x ys ≡ true → among x (xs ++ ys) ≡ true
  among-right xs ys h = among-append xs ys ∙ or_right (among x xs) (among x ys) h

  -- what holds of every element holds of one
  pub all_among : (P : ℕ → Type 0) (xs : List ℕ) → All P xs → among x xs ≡ true → P x
  unfolding times
  all_among P [] h m = absurd (false≢true m)
  all_among P (y ∷ ys) h m = go (eqb x y) refl m (all_among P ys h.1)
    where
      go : (b : Bool) → eqb x y ≡ b → ltb 0 (if b then suc (times x ys) else times x ys) ≡ true → (among x ys ≡ true → P x) → P x
      go true e k rec = rw (eqb-true x y e) h.0
      go false e k rec = rec k
