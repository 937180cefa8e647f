-- A loop over the places of a row of a call's table: all is well before `i`. Assumes nothing.
use Prim.Native.Nat.{ℕ, ◌+◌, ◌<◌, ◌≤◌}
use native.Mathlib.Omega.{arith}
use mathlib.Core.Path.{◌≡◌, sym, ◌∙◌}
use mathlib.Core.Bool.{Bool, true, false}
use Rattle.std.specs.Prelude.{None}
use Rattle.model.specs.Lists.{first_not, first_place}
use Rattle.model.specs.Refusals.{Row}
use Rattle.model.proofs.First.{first-none, first_more, first_stop, first_end}

pub record Searched (row : Row) (count i : ℕ) : Type 0 where
  pub whole : count ≡ row.count
  pub within : i ≤ count
  pub well : first_not row.well i ≡ None

module _ (row : Row) (count : ℕ) where
  pub begins : count ≡ row.count → Searched row count 0
  begins e = record { whole = e; within = omega arith; well = first-none row.well }

  module _ (i : ℕ) (s : Searched row count i) where
    pub ends : count ≤ i → i ≡ first_place row.well row.count
    ends h = first_end row.well row.count i (omega (arith, s.whole, s.within)) (omega (arith, s.whole)) s.well

    module _ (h : i < count) (b : Bool) (e : b ≡ row.well i) where
      pub goes_on : b ≡ true → Searched row count (i + 1)
      goes_on t = record { whole = s.whole; within = omega arith; well = first_more row.well i s.well (sym e ∙ t) }

      pub stops : b ≡ false → i ≡ first_place row.well row.count
      stops f = first_stop row.well row.count i s.well (sym e ∙ f) (omega (arith, s.whole))
