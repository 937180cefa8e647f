-- `places::every` meets its contract. Assumes nothing.
use Prim.Native.Nat.{ℕ}
use mathlib.Core.Path.{◌≡◌, refl, sym, ◌∙◌}
use mathlib.Core.Bool.{Bool, true, false, not, false≢true}
use Rattle.std.specs.Prelude.{Option, Some, None, is_some, is_none}
use Rattle.model.proofs.First.{none-every}
use Rattle.places.proofs.every.Goals as goal

-- what is not there is none
none_of : (o : Option ℕ) (r : Bool) → is_some o ≡ not r → r ≡ is_none o
none_of None true e = refl
none_of None false e = absurd (false≢true e)
none_of (Some i) true e = absurd (false≢true (sym e))
none_of (Some i) false e = refl

pub returns : goal.returns
returns g c = λ b h. none_of _ _ c.is_none.ensures ∙ (rw (c.first_not.ensures b h) (none-every b c.args.count))
