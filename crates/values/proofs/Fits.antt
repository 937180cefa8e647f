-- The bits of a good value are as wide as it says, fit that width, and have at most 32 of them. Assumes nothing.
use Prim.Native.Nat.{ℕ, ◌^◌, ◌<◌, ◌≤◌}
use native.Mathlib.Omega.{arith}
use mathlib.Core.Path.{◌≡◌}
use mathlib.Core.List.{List}
use Rattle.model.specs.Blocks.{widths}
use Rattle.model.specs.Trees.{Val, bits_of, bits_in}
use Rattle.model.specs.Good.{width_of_value, GoodValue}
use Rattle.model.specs.declared.Bits.{Bits}
use Rattle.model.proofs.GoodForms.{AllWidths}
use Rattle.model.proofs.Fits.{numbers_sized, sized}
use Rattle.values.specs.Ready.{Ready}

module _ (ws : List ℕ) (all : AllWidths ws) where
  value-narrow : (v : Val) → GoodValue ws v → width_of_value ws v ≤ 32
  unfolding GoodValue width_of_value
  value-narrow (Val.constant n w) g = g.0.1
  value-narrow (Val.field i) g = (all i g).1
  value-narrow (Val.binary o a b) g = value-narrow a g.0
  value-narrow (Val.complement a) g = value-narrow a g
  value-narrow (Val.slice a high low) g = let h = value-narrow a g.0 in omega (arith, g.1)
  value-narrow (Val.join a b) g = g.2
  value-narrow (Val.select t a b) g = value-narrow a g.1

pub record Fit (x : Bits) (w : ℕ) : Type 0 where
  pub wide : x.width ≡ w
  pub narrow : x.width ≤ 32
  pub below : x.number < 2 ^ x.width

pub fit : {p packet : List ℕ} → Ready p packet → {x : Bits} (v : Val) → GoodValue (widths p) v → x ≡ bits_of (bits_in (widths p) packet) v
    → Fit x (width_of_value (widths p) v)
fit {p} {packet} r v g e =
    let s = sized (widths p) (bits_in (widths p) packet) (λ i _. numbers_sized (widths p) packet r.within i) v g in
    rw e (record { wide = s.wide; narrow = rw s.wide (value-narrow (widths p) r.narrow v g); below = rw s.wide s.below })
