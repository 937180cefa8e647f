-- Any two answers that meet the statement of Lookup, of Run or of Confirm are equal, with what they leave. Assumes nothing.
use Prim.Native.Nat.{ℕ}
use mathlib.Core.Path.{◌≡◌, sym, ◌∙◌}
use mathlib.Core.Bool.{Bool}
use mathlib.Core.List.{List}
use denote.Ref.{Bor}
use Rattle.std.specs.Prelude.{Result}
use Rattle.model.specs.Calls.{LooksUp, Runs, Confirms}
use Rattle.model.specs.Demands.{SamePart}
use Rattle.model.specs.declared.Ran.{Ran}
use Rattle.model.specs.declared.Refusal.{Refusal}
use Rattle.model.proofs.Answers.{one}

pub one-lookup : (p r : Bor (List ℕ)) (packet : List ℕ) (t : ℕ) (x y : Bor (List ℕ)) → LooksUp p r packet t x → LooksUp p r packet t y → SamePart x y
one-lookup p r packet t = (one.lookup p r packet t).1

pub one-run : (p r packet choices end : List ℕ) (a b : Result Ran Refusal) (end' end'' : List ℕ) → Runs p r packet choices end a end' → Runs p r packet choices end b end''
    → ◌≡◌ {A = Result Ran Refusal × List ℕ} (a, end') (b, end'')
one-run p r packet choices end a b end' end'' h k = let only = (one.run p r packet choices end).2 in only (a, end') h ∙ sym (only (b, end'') k)

pub one-confirm : (p r packet choices : List ℕ) (a b : Result Bool Refusal) → Confirms p r packet choices a → Confirms p r packet choices b → a ≡ b
one-confirm p r packet choices a b h k = let only = (one.confirm p r packet choices).2 in only a h ∙ sym (only b k)
