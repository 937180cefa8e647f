-- Laws of the lists that the definitions make: front to back, place by place, piece by piece. Assumes nothing.
use Prim.Native.Nat.{ℕ, zero, suc, ◌+◌, ◌*◌, ◌-◌, ◌<◌}
use native.Mathlib.Nat.{not-suc-le-zero, eq-or-lt_of_le, le_of_suc-le-suc, mul-le-mul_left}
use native.Mathlib.Omega.{arith}
use mathlib.Core.Logic.{◌⊎◌, inl, inr}
use mathlib.Core.Path.{◌≡◌, refl, ap, ◌∙◌}
use mathlib.Core.List.{List, [], ◌∷◌, ◌++◌}
use lib.ListN.{get_or, length, length-append, get_or-append}
use lib.Seq.{get_or_at, get_or-append-add}
use Rattle.model.specs.Lists.{each, build, joined}

-- ---- `build`

module _ {A : Type 0} (f : List A → ℕ → A) where
  -- what stands at place i, however far the list is built
  unfoldable pub made : ℕ → A
  made i = f (build f i) i

  pub length-build : (n : ℕ) → length (build f n) ≡ n
  unfolding build
  length-build zero = refl
  length-build (suc n) = omega (arith, length-append (build f n) (f (build f n) n ∷ []), length-build n)

  pub build-at : (n i : ℕ) (d : A) → i < n → get_or (build f n) i d ≡ made i
  unfolding build made
  build-at zero i d h = absurd (not-suc-le-zero h)
  build-at (suc n) i d h = go (eq-or-lt_of_le (le_of_suc-le-suc h)) (build-at n i d)
    where
      go : (i ≡ n) ⊎ (i < n) → (i < n → get_or (build f n) i d ≡ made i) → get_or (build f n ++ (f (build f n) n ∷ [])) i d ≡ made i
      go (inl e) before = rw e (get_or_at (build f n) (f (build f n) n) [] d n (length-build n))
      go (inr l) before = get_or-append (build f n) (f (build f n) n ∷ []) d i (rw length-build l) ∙ before l

  pub build-last : (n i : ℕ) (d : A) → n ≡ suc i → get_or (build f n) (length (build f n) - 1) d ≡ made i
  build-last n i d e =
      let k : length (build f n) - 1 ≡ i = omega (arith, length-build n) in
      ap (λ (j : ℕ). get_or (build f n) j d) k ∙ build-at n i d (omega arith)

-- ---- `each`

module _ {A : Type 0} (f : ℕ → A) where
  each-build : (n : ℕ) → each f n ≡ build (λ before i. f i) n
  unfolding each build
  each-build zero = refl
  each-build (suc n) = ap (λ (xs : List A). xs ++ (f n ∷ [])) (each-build n)

  pub length-each : (n : ℕ) → length (each f n) ≡ n
  length-each n = ap length (each-build n) ∙ length-build (λ before i. f i) n

  pub each_at : (n i : ℕ) (d : A) → i < n → get_or (each f n) i d ≡ f i
  unfolding made
  each_at n i d h = ap (λ (xs : List A). get_or xs i d) (each-build n) ∙ build-at (λ before i. f i) n i d h

  -- place by place, or piece by piece with one element to a piece
  pub each-joined : (n : ℕ) → each f n ≡ joined (λ i. f i ∷ []) n
  unfolding each joined
  each-joined zero = refl
  each-joined (suc n) = ap (λ (xs : List A). xs ++ (f n ∷ [])) (each-joined n)

-- ---- `joined`, of pieces that are all k long

module _ {A : Type 0} (f : ℕ → List A) (k : ℕ) (sized : (i : ℕ) → length (f i) ≡ k) where
  pub length-joined : (n : ℕ) → length (joined f n) ≡ k * n
  unfolding joined
  length-joined zero = omega arith
  length-joined (suc n) = omega (arith, length-append (joined f n) (f n), length-joined n, sized n)

  pub joined_at : (n i j : ℕ) (d : A) → i < n → j < k → get_or (joined f n) (k * i + j) d ≡ get_or (f i) j d
  unfolding joined
  joined_at zero i j d h l = absurd (not-suc-le-zero h)
  joined_at (suc n) i j d h l = go (eq-or-lt_of_le (le_of_suc-le-suc h)) (λ b. joined_at n i j d b l)
    where
      go : (i ≡ n) ⊎ (i < n) → (i < n → get_or (joined f n) (k * i + j) d ≡ get_or (f i) j d) → get_or (joined f n ++ f n) (k * i + j) d ≡ get_or (f i) j d
      go (inl e) before = rw (e, ← length-joined n) (get_or-append-add (joined f n) (f n) j d)
      go (inr b) before =
          get_or-append (joined f n) (f n) d (k * i + j) (omega (arith, length-joined n, mul-le-mul_left k b)) ∙ before b
