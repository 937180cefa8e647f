-- Any two answers that meet the statement of Load are equal, with the areas that they leave. Assumes nothing.
use Prim.Native.Nat.{ℕ}
use mathlib.Core.Path.{◌≡◌, sym, ◌∙◌}
use mathlib.Core.List.{List}
use Rattle.std.specs.Prelude.{Result}
use Rattle.model.specs.Calls.{Loads}
use Rattle.model.specs.declared.Blocks.{Blocks}
use Rattle.model.specs.declared.Refusal.{Refusal}
use Rattle.model.proofs.Answers.{one}

pub one-load : (file pipeline rules : List ℕ) (a b : Result Blocks Refusal) (pipeline' rules' pipeline'' rules'' : List ℕ) → Loads file pipeline rules a pipeline' rules'
    → Loads file pipeline rules b pipeline'' rules'' → ◌≡◌ {A = Result Blocks Refusal × List ℕ × List ℕ} (a, pipeline', rules') (b, pipeline'', rules'')
one-load file pipeline rules a b pipeline' rules' pipeline'' rules'' h k =
    let only = (one.load file pipeline rules).2 in
    only (a, pipeline', rules') h ∙ sym (only (b, pipeline'', rules'') k)
