-- A side's join equations hold exactly where its variables have the joined ones' values. Assumes nothing.
use Prim.Native.Nat.{ℕ, zero, suc, ◌<◌, suc-le-suc}
use native.Mathlib.Nat.{zero-lt-suc, suc_inj}
use native.Mathlib.Omega.{arith}
use mathlib.Core.Path.{◌≡◌, refl}
use mathlib.Core.Bool.{Bool, true, false}
use mathlib.Core.List.{List, [], ◌∷◌, map}
use lib.Dec.{eqb}
use lib.ListN.{get_or, length}
use borrow.Author.Tests.{eqb-true, eq-eqb}
use Rattle.std.specs.Prelude.{if◌then◌else◌}
use Rattle.model.specs.Trees.{of_width}
use Rattle.model.specs.Passive.{equations}
use Rattle.model.specs.Walk.{equal}
use Rattle.model.specs.declared.Bits.{Bits}
use Rattle.model.proofs.Booleans.{both_true, true_both}
use Rattle.model.proofs.GoodForms.{GoodEquations}

-- the variables' bits, where `v` gives their values
abbrev pub var_bits : List ℕ → (ℕ → ℕ) → ℕ → Bits
var_bits widths v x = of_width (get_or widths x 0) (v x)

module _ (widths : List ℕ) where
  module _ (v : ℕ → ℕ) where
    pub equal-map : (xs zs : List ℕ) → length xs ≡ length zs → equal (var_bits widths v) (equations xs zs) ≡ true → map v xs ≡ map v zs
    unfolding equal equations
    equal-map [] [] e h = refl
    equal-map [] (z ∷ zs) e h = let n : ◌≡◌ {A = ℕ} 0 1 = omega arith in cc
    equal-map (x ∷ xs) [] e h = let n : ◌≡◌ {A = ℕ} 0 1 = omega arith in cc
    equal-map (x ∷ xs) (z ∷ zs) e h = go (eqb x z) refl h (λ k. equal-map xs zs (suc_inj e) k)
      where
        go : (b : Bool) → eqb x z ≡ b → equal (var_bits widths v) (if b then equations xs zs else record { own = x; joined = z } ∷ equations xs zs) ≡ true
            → (equal (var_bits widths v) (equations xs zs) ≡ true → map v xs ≡ map v zs) → map v (x ∷ xs) ≡ map v (z ∷ zs)
        go true i k rec = cc (eqb-true x z i, rec k)
        go false i k rec =
            let kk = both_true (eqb (v x) (v z)) (equal (var_bits widths v) (equations xs zs)) k in
            cc (eqb-true (v x) (v z) kk.0, rec kk.1)

    pub map-equal : (xs zs : List ℕ) → map v xs ≡ map v zs → equal (var_bits widths v) (equations xs zs) ≡ true
    unfolding equal equations
    map-equal [] zs p = refl
    map-equal (x ∷ xs) [] p = refl
    map-equal (x ∷ xs) (z ∷ zs) p = go (eqb x z) (map-equal xs zs (cc))
      where
        go : (b : Bool) → equal (var_bits widths v) (equations xs zs) ≡ true
            → equal (var_bits widths v) (if b then equations xs zs else record { own = x; joined = z } ∷ equations xs zs) ≡ true
        go true k = k
        go false k = true_both (eqb (v x) (v z)) _ (eq-eqb (v x) (v z) (cc)) k

  -- both variables of an equation are there, and have one width
  abbrev OneWidth : ℕ → ℕ → Type 0
  OneWidth x z = (x < length widths) × (z < length widths) × (get_or widths x 0 ≡ get_or widths z 0)

  pub good-equations : (xs zs : List ℕ) → ((i : ℕ) → i < length xs → OneWidth (get_or xs i 0) (get_or zs i 0)) → GoodEquations widths (equations xs zs)
  unfolding equations GoodEquations
  good-equations [] zs f = tt
  good-equations (x ∷ xs) [] f = tt
  good-equations (x ∷ xs) (z ∷ zs) f = go (eqb x z) (good-equations xs zs (λ i h. f (suc i) (suc-le-suc h)))
    where
      go : (b : Bool) → GoodEquations widths (equations xs zs)
          → GoodEquations widths (if b then equations xs zs else record { own = x; joined = z } ∷ equations xs zs)
      go true k = k
      go false k = let w = f zero (zero-lt-suc _) in (w.0, w.1, w.2, k)
