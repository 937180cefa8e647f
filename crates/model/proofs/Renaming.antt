-- A value over the fields says of the packet what the renamed one says of the variables. Assumes nothing.
use Prim.Native.Nat.{ℕ, zero, suc, ◌+◌, ◌<◌}
use native.Mathlib.Nat.{not-suc-le-zero, le_of_suc-le-suc}
use mathlib.Core.Path.{◌≡◌, refl, sym, ap, ap₂, ◌∙◌}
use mathlib.Core.Bool.{not}
use mathlib.Core.List.{List, [], ◌∷◌, map}
use lib.ListN.{get_or, set, length}
use Rattle.model.specs.Trees.{Val, Test, binary_bits, complement_bits, slice_bits, join_bits, compare_bits, connected, bits_of, truth_of}
use Rattle.model.specs.Good.{width_of_value, GoodValue, GoodTest}
use Rattle.model.specs.Passive.{renamed, renamed_test}
use Rattle.model.specs.declared.Bits.{Bits}

pub get_or_map : (f : ℕ → ℕ) (l : List ℕ) (i : ℕ) → i < length l → get_or (map f l) i 0 ≡ f (get_or l i 0)
get_or_map f [] i h = absurd (not-suc-le-zero h)
get_or_map f (x ∷ l) zero h = refl
get_or_map f (x ∷ l) (suc i) h = get_or_map f l i (le_of_suc-le-suc h)

pub map-set : (f : ℕ → ℕ) (l : List ℕ) (i a : ℕ) → map f (set l i a) ≡ set (map f l) i (f a)
map-set f [] i a = refl
map-set f (x ∷ l) zero a = refl
map-set f (x ∷ l) (suc i) a = ap (λ (t : List ℕ). f x ∷ t) (map-set f l i a)

module _ (ws vars : List ℕ) where
  -- the same bits
  module _ (at at' : ℕ → Bits) (same : (i : ℕ) → i < length ws → at (get_or vars i 0) ≡ at' i) where
    mutual
      unfolding bits_of renamed GoodValue

      pub renamed_bits : (v : Val) → GoodValue ws v → bits_of at (renamed vars v) ≡ bits_of at' v
      renamed_bits (Val.constant n w) g = refl
      renamed_bits (Val.field i) g = same i g
      renamed_bits (Val.binary o a b) g = ap₂ (binary_bits o) (renamed_bits a g.0) (renamed_bits b g.1)
      renamed_bits (Val.complement a) g = ap complement_bits (renamed_bits a g)
      renamed_bits (Val.slice a high low) g = ap (λ (x : Bits). slice_bits x high low) (renamed_bits a g.0)
      renamed_bits (Val.join a b) g = ap₂ join_bits (renamed_bits a g.0) (renamed_bits b g.1)
      renamed_bits (Val.select t a b) g = rw (renamed-truth t g.0, renamed_bits a g.1, renamed_bits b g.2)

      pub renamed-truth : (t : Test) → GoodTest ws t → truth_of at (renamed_test vars t) ≡ truth_of at' t
      renamed-truth (Test.truth b) g = refl
      renamed-truth (Test.compare o a b) g = ap₂ (compare_bits o) (renamed_bits a g.0) (renamed_bits b g.1)
      renamed-truth (Test.not_test t) g = ap not (renamed-truth t g)
      renamed-truth (Test.connect o t u) g = ap₂ (connected o) (renamed-truth t g.0) (renamed-truth u g.1)

  -- the same width, and well formed over the variables' widths
  module _ (Ws : List ℕ) (there : (i : ℕ) → i < length ws → get_or vars i 0 < length Ws) (wide : (i : ℕ) → i < length ws → get_or Ws (get_or vars i 0) 0 ≡ get_or ws i 0) where
    pub renamed-width : (v : Val) → GoodValue ws v → width_of_value Ws (renamed vars v) ≡ width_of_value ws v
    unfolding renamed width_of_value GoodValue
    renamed-width (Val.constant n w) g = refl
    renamed-width (Val.field i) g = wide i g
    renamed-width (Val.binary o a b) g = renamed-width a g.0
    renamed-width (Val.complement a) g = renamed-width a g
    renamed-width (Val.slice a high low) g = refl
    renamed-width (Val.join a b) g = ap₂ ◌+◌ (renamed-width a g.0) (renamed-width b g.1)
    renamed-width (Val.select t a b) g = renamed-width a g.1

    one_width : (a b : Val) → GoodValue ws a → GoodValue ws b → width_of_value ws a ≡ width_of_value ws b
        → width_of_value Ws (renamed vars a) ≡ width_of_value Ws (renamed vars b)
    one_width a b g h e = renamed-width a g ∙ e ∙ sym (renamed-width b h)

    mutual
      unfolding renamed GoodValue width_of_value

      pub renamed-good : (v : Val) → GoodValue ws v → GoodValue Ws (renamed vars v)
      renamed-good (Val.constant n w) g = g
      renamed-good (Val.field i) g = there i g
      renamed-good (Val.binary o a b) g = (renamed-good a g.0, renamed-good b g.1, one_width a b g.0 g.1 g.2)
      renamed-good (Val.complement a) g = renamed-good a g
      renamed-good (Val.slice a high low) g = (renamed-good a g.0, rw (renamed-width a g.0) g.1, g.2)
      renamed-good (Val.join a b) g = (renamed-good a g.0, renamed-good b g.1, rw (renamed-width a g.0, renamed-width b g.1) g.2)
      renamed-good (Val.select t a b) g =
          (renamed-good-test t g.0, renamed-good a g.1, renamed-good b g.2, one_width a b g.1 g.2 g.3)

      pub renamed-good-test : (t : Test) → GoodTest ws t → GoodTest Ws (renamed_test vars t)
      renamed-good-test (Test.truth b) g = tt
      renamed-good-test (Test.compare o a b) g = (renamed-good a g.0, renamed-good b g.1, one_width a b g.0 g.1 g.2)
      renamed-good-test (Test.not_test t) g = renamed-good-test t g
      renamed-good-test (Test.connect o t u) g = (renamed-good-test t g.0, renamed-good-test u g.1)
