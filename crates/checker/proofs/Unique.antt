-- Any two answers that meet Check's statement are equal. Assumes nothing.
use mathlib.Core.Path.{◌≡◌, sym, ◌∙◌}
use Prim.Native.Nat.{ℕ}
use mathlib.Core.List.{List}
use Rattle.std.specs.Prelude.{Result}
use Rattle.model.specs.Calls.{Checks}
use Rattle.model.specs.declared.Refusal.{Refusal}
use Rattle.model.proofs.Answers.{one}

pub one-check : (p r : List ℕ) (a b : Result (Unit {0}) Refusal) → Checks p r a → Checks p r b → a ≡ b
one-check p r a b h k = let only = (one.check p r).2 in only a h ∙ sym (only b k)
