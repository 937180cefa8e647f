-- Which passive statements are well formed, over the variables' widths. Assumes nothing: these are definitions.
use Prim.Native.Nat.{ℕ, ◌<◌}
use mathlib.Core.Path.{◌≡◌}
use mathlib.Core.List.{List, [], ◌∷◌}
use lib.ListN.{get_or, length}
use Rattle.model.specs.Good.{GoodTest, Width}
use Rattle.model.specs.Passive.{Passive, Equation, ◌then◌}

-- every width of a list is 1 to 32
abbrev pub AllWidths : List ℕ → Type 0
AllWidths ws = (i : ℕ) → i < length ws → Width (get_or ws i 0)

module _ (widths : List ℕ) where
  -- both variables of each equation are there, and have one width
  unfoldable pub GoodEquations : List Equation → Type 0
  GoodEquations [] = Unit {0}
  GoodEquations (e ∷ es) =
      (e.own < length widths) × (e.joined < length widths) × (get_or widths e.own 0 ≡ get_or widths e.joined 0) × GoodEquations es

  unfoldable pub GoodPassive : Passive → Type 0
  GoodPassive Passive.skip = Unit {0}
  GoodPassive (Passive.havoced x) = Unit {0}
  GoodPassive (Passive.assume t) = GoodTest widths t
  GoodPassive (Passive.assert t) = GoodTest widths t
  GoodPassive (a then b) = GoodPassive a × GoodPassive b
  GoodPassive (Passive.choice o a xs b ys) = GoodPassive a × GoodEquations xs × GoodPassive b × GoodEquations ys
