-- What holds at every place below a number, and of every element of a list. Assumes nothing.
use Prim.Native.Nat.{ℕ, zero, suc, ◌<◌, ◌≤◌, suc-le-suc}
use native.Mathlib.Nat.{not-suc-le-zero, le_of_suc-le-suc, eq-or-lt_of_le, lt_of_lt_of_le, zero-lt-suc}
use native.Mathlib.Omega.{arith}
use mathlib.Core.Path.{◌≡◌, refl, sym, ◌∙◌}
use mathlib.Core.Bool.{Bool, true, false, ◌&&◌}
use mathlib.Core.Logic.{◌⊎◌, inl, inr}
use mathlib.Core.List.{List, [], ◌∷◌, ◌++◌}
use lib.Dec.{eqb, ltb}
use lib.ListN.{get_or, length, get_or-eq_default}
use borrow.Author.Tests.{eq-eqb, lt-ltb, ltb-true, ltb-false}
use Rattle.std.specs.Prelude.{if◌then◌else◌}
use Rattle.model.specs.Lists.{build, each, every, exists, those, times, among}
use Rattle.model.specs.Tables.{placed, ordered}
use Rattle.model.proofs.Booleans.{both_true, true_both, and_true}
use Rattle.model.proofs.Lists.{made, length-build, build-at}

-- ---- places

module _ (test : ℕ → Bool) where
  pub every-at : (n i : ℕ) → every test n ≡ true → i < n → test i ≡ true
  unfolding every
  every-at zero i e h = absurd (not-suc-le-zero h)
  every-at (suc n) i e h = go (eq-or-lt_of_le (le_of_suc-le-suc h)) (both_true (every test n) (test n) e) (every-at n i)
    where
      go : (i ≡ n) ⊎ (i < n) → (every test n ≡ true) × (test n ≡ true) → (every test n ≡ true → i < n → test i ≡ true) → test i ≡ true
      go (inl k) b rec = rw k b.1
      go (inr k) b rec = rec b.0 k

  pub exists-at : (n i : ℕ) → test i ≡ true → i < n → exists test n ≡ true
  unfolding exists
  exists-at zero i e h = absurd (not-suc-le-zero h)
  exists-at (suc n) i e h = go (eq-or-lt_of_le (le_of_suc-le-suc h)) (exists test n) refl (exists-at n i e)
    where
      go : (i ≡ n) ⊎ (i < n) → (b : Bool) → exists test n ≡ b → (i < n → exists test n ≡ true) → (if b then true else test n) ≡ true
      go k true q rec = refl
      go (inl k) false q rec = rw (← k) e
      go (inr k) false q rec = cc (rec k)

  pub every-all : (n : ℕ) → ((i : ℕ) → i < n → test i ≡ true) → every test n ≡ true
  unfolding every
  every-all zero h = refl
  every-all (suc n) h = true_both (every test n) (test n) (every-all n (λ i k. h i (omega arith))) (h n (omega arith))

  pub exists-none : (n : ℕ) → ((i : ℕ) → i < n → test i ≡ false) → exists test n ≡ false
  unfolding exists
  exists-none zero h = refl
  exists-none (suc n) h = rw (exists-none n (λ i k. h i (omega arith)), h n (omega arith))

  -- of all places but one
  pub every_one : (n k : ℕ) → k < n → ((i : ℕ) → i < n → (i ≡ k → ⊥) → test i ≡ true) → every test n ≡ test k
  unfolding every
  every_one zero k l h = absurd (not-suc-le-zero l)
  every_one (suc n) k l h = go (eq-or-lt_of_le (le_of_suc-le-suc l)) (λ j. every_one n k j (λ i m. h i (omega arith)))
    where
      go : (k ≡ n) ⊎ (k < n) → (k < n → every test n ≡ test k) → every test n && test n ≡ test k
      go (inl e) rec = rw (e, every-all n (λ i m. h i (omega arith) (λ d. omega arith)))
      go (inr j) rec = rw (rec j, h n (omega arith) (λ d. omega arith)) (and_true (test k))

-- a list made front to back: an earlier one has what a later one has, and past its end there is nothing
module _ {A : Type 0} (f : List A → ℕ → A) where
  pub build-before : (i n j : ℕ) (d : A) → j < i → i ≤ n → get_or (build f i) j d ≡ get_or (build f n) j d
  build-before i n j d h k = build-at f i j d h ∙ sym (build-at f n j d (lt_of_lt_of_le h k))

  pub build-past : (n j : ℕ) (d : A) → n ≤ j → get_or (build f n) j d ≡ d
  build-past n j d h = get_or-eq_default (build f n) d (rw length-build h)

-- what holds of a number wherever it holds of all below
pub from-below : (P : ℕ → Type 0) → ((i : ℕ) → ((j : ℕ) → j < i → P j) → P i) → (i : ℕ) → P i
from-below P step i = step i (up_to i)
  where
    up_to : (n j : ℕ) → j < n → P j
    up_to zero j h = absurd (not-suc-le-zero h)
    up_to (suc n) j h = step j (λ m k. up_to n m (lt_of_lt_of_le k (le_of_suc-le-suc h)))

-- What relates the elements of two lists made front to back, where it relates what stands past the ends, and each two where it does all
-- before them.
module _ {A B : Type 0} (f : List A → ℕ → A) (g : List B → ℕ → B) (R : A → B → Type 0) (a : A) (b : B) (past : R a b) where
  build-before_related : (n x : ℕ) → ((j : ℕ) → j < n → R (made f j) (made g j)) → R (get_or (build f n) x a) (get_or (build g n) x b)
  build-before_related n x h = go (ltb x n) refl
    where
      go : (q : Bool) → ltb x n ≡ q → R (get_or (build f n) x a) (get_or (build g n) x b)
      go true e = let k = ltb-true x n e in rw (build-at f n x a k, build-at g n x b k) (h x k)
      go false e = let k = ltb-false x n e in rw (build-past f n x a k, build-past g n x b k) past

  module _ (next : (xs : List A) (ys : List B) (i : ℕ) → ((x : ℕ) → R (get_or xs x a) (get_or ys x b)) → R (f xs i) (g ys i)) where
    made_related : (i : ℕ) → R (made f i) (made g i)
    unfolding made
    made_related = from-below (λ i. R (made f i) (made g i)) λ i h. next (build f i) (build g i) i (λ x. build-before_related i x h)

    pub build_related : (n x : ℕ) → R (get_or (build f n) x a) (get_or (build g n) x b)
    build_related n x = build-before_related n x (λ j _. made_related j)

-- the same of one list
module _ {A : Type 0} (f : List A → ℕ → A) (P : A → Type 0) (d : A) (past : P d) where
  pub build-has : (n x : ℕ) → ((j : ℕ) → j < n → P (made f j)) → P (get_or (build f n) x d)
  build-has n x h = build-before_related f f (λ x _. P x) d d past n x h

  pub made_has : ((before : List A) (i : ℕ) → ((x : ℕ) → P (get_or before x d)) → P (f before i)) → (i : ℕ) → P (made f i)
  made_has step = made_related f f (λ x _. P x) d d past (λ xs _ i h. step xs i h)

-- ---- elements

abbrev pub All : {A : Type 0} → (A → Type 0) → List A → Type 0
All P [] = Unit {0}
All P (x ∷ xs) = P x × All P xs

-- what holds at every place holds of every element
pub all_places : {A : Type 0} (P : A → Type 0) (d : A) (xs : List A) → ((i : ℕ) → i < length xs → P (get_or xs i d)) → All P xs
all_places P d [] h = tt
all_places P d (x ∷ xs) h = (h zero (zero-lt-suc _), all_places P d xs (λ i k. h (suc i) (suc-le-suc k)))

module _ (P : ℕ → Type 0) where
  pub all_append : (xs ys : List ℕ) → All P xs → All P ys → All P (xs ++ ys)
  all_append [] ys h k = k
  all_append (x ∷ xs) ys h k = (h.0, all_append xs ys h.1 k)

  pub all_left : (xs ys : List ℕ) → All P (xs ++ ys) → All P xs
  all_left [] ys h = tt
  all_left (x ∷ xs) ys h = (h.0, all_left xs ys h.1)

  pub all_right : (xs ys : List ℕ) → All P (xs ++ ys) → All P ys
  all_right [] ys h = h
  all_right (x ∷ xs) ys h = all_right xs ys h.1

  pub all-each : (f : ℕ → ℕ) (n : ℕ) → ((i : ℕ) → i < n → P (f i)) → All P (each f n)
  unfolding each
  all-each f zero h = tt
  all-each f (suc n) h = all_append (each f n) _ (all-each f n (λ i k. h i (omega arith))) (h n (omega arith), tt)

  pub all_placed : (before : ℕ → ℕ → Bool) (i : ℕ) (js : List ℕ) → P i → All P js → All P (placed before i js)
  unfolding placed
  all_placed before i [] h k = (h, tt)
  all_placed before i (j ∷ js) h k = go (before i j) (all_placed before i js h k.1)
    where
      go : (b : Bool) → All P (placed before i js) → All P (if b then i ∷ j ∷ js else j ∷ placed before i js)
      go true rec = (h, k)
      go false rec = (k.0, rec)

  pub all-ordered : (before : ℕ → ℕ → Bool) (xs : List ℕ) → All P xs → All P (ordered before xs)
  unfolding ordered
  all-ordered before [] h = tt
  all-ordered before (i ∷ is) h = all_placed before i (ordered before is) h.0 (all-ordered before is h.1)

  pub all-those : (test : ℕ → Bool) (xs : List ℕ) → All P xs → All (λ x. P x × (test x ≡ true)) (those test xs)
  unfolding those
  all-those test [] h = tt
  all-those test (x ∷ xs) h = go (test x) refl (all-those test xs h.1)
    where
      go : (b : Bool) → test x ≡ b → All (λ y. P y × (test y ≡ true)) (those test xs)
          → All (λ y. P y × (test y ≡ true)) (if b then x ∷ those test xs else those test xs)
      go true e rec = ((h.0, e), rec)
      go false e rec = rec

-- an element stands in its list
pub among_here : (x : ℕ) (xs : List ℕ) → among x (x ∷ xs) ≡ true
unfolding times
among_here x xs = rw (eq-eqb x x refl) (lt-ltb 0 (suc (times x xs)) (omega arith))

pub among_there : (x y : ℕ) (xs : List ℕ) → among x xs ≡ true → among x (y ∷ xs) ≡ true
unfolding times
among_there x y xs h = go (eqb x y)
  where
    go : (b : Bool) → ltb 0 (if b then suc (times x xs) else times x xs) ≡ true
    go true = lt-ltb 0 (suc (times x xs)) (omega arith)
    go false = h

-- what holds of every element gives what follows from it for those that stand in the list
pub all_with : (P Q : ℕ → Type 0) (xs : List ℕ) → ((x : ℕ) → among x xs ≡ true → P x → Q x) → All P xs → All Q xs
all_with P Q [] f h = tt
all_with P Q (x ∷ xs) f h = (f x (among_here x xs) h.0, all_with P Q xs (λ y m k. f y (among_there y x xs m) k) h.1)
