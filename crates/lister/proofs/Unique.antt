-- Any two answers of the listing, with the area, are equal. Assumes nothing.
use Prim.Native.Nat.{ℕ}
use mathlib.Core.Path.{◌≡◌}
use mathlib.Core.List.{List}
use Rattle.model.specs.Listing.{listing}
use Rattle.text.specs.Adds.{Adds}

pub one-listing : (file out : List ℕ) (end end' : ℕ) (out₁ out₂ : List ℕ) → Adds (listing file) 0 out end out₁ → Adds (listing file) 0 out end' out₂
    → ◌≡◌ {A = ℕ × List ℕ} (end, out₁) (end', out₂)
one-listing file out end end' out₁ out₂ h k = cc
