-- A well-formed value's bits have its width, and fit it. Assumes nothing.
use Prim.Native.Nat.{ℕ, ◌+◌, ◌^◌, ◌<◌}
use mathlib.Core.Path.{◌≡◌, refl, ap₂}
use mathlib.Core.Bool.{Bool, true, false}
use mathlib.Core.List.{List}
use lib.ListN.{get_or, length}
use Rattle.bits.proofs.Widths.{binary-fits, complement-fits, slice_fits, join-fits}
use Rattle.std.specs.Prelude.{if◌then◌else◌}
use Rattle.model.specs.Trees.{Val, bits_of, truth_of, bits_in}
use Rattle.model.specs.Good.{Within, width_of_value, GoodValue}
use Rattle.model.specs.declared.Bits.{Bits}
use Rattle.model.proofs.Within.{within-at}

pub record Sized (x : Bits) (w : ℕ) : Type 0 where
  pub wide : x.width ≡ w
  pub below : x.number < 2 ^ w

pub one_of : (b : Bool) {x y : Bits} {w : ℕ} → Sized x w → Sized y w → Sized (if b then x else y) w
one_of true h k = h
one_of false h k = k

-- the bits of a packet's or of a valuation's numbers
pub numbers_sized : (ws numbers : List ℕ) → Within ws numbers → (i : ℕ) → Sized (bits_in ws numbers i) (get_or ws i 0)
numbers_sized ws numbers h i = record { wide = refl; below = within-at ws numbers h i }

module _ (ws : List ℕ) (at : ℕ → Bits) (ok : (i : ℕ) → i < length ws → Sized (at i) (get_or ws i 0)) where
  pub sized : (v : Val) → GoodValue ws v → Sized (bits_of at v) (width_of_value ws v)
  unfolding bits_of width_of_value GoodValue
  sized (Val.constant n w) g = record { wide = refl; below = g.1 }
  sized (Val.field i) g = ok i g
  sized (Val.binary o a b) g =
      let x = sized a g.0 in
      let y = sized b g.1 in
      record { wide = x.wide; below = rw x.wide (binary-fits o _ _ _ x.below (rw g.2 y.below)) }
  sized (Val.complement a) g =
      let x = sized a g in
      record { wide = x.wide; below = rw x.wide (complement-fits _ _) }
  sized (Val.slice a high low) g = record { wide = refl; below = slice_fits high low _ }
  sized (Val.join a b) g =
      let x = sized a g.0 in
      let y = sized b g.1 in
      record { wide = ap₂ ◌+◌ x.wide y.wide; below = rw y.wide (join-fits _ _ _ _ x.below y.below) }
  sized (Val.select t a b) g = one_of (truth_of at t) (sized a g.1) (rw g.3 (sized b g.2))
