-- Any two answers that meet the statement of Passify are equal, with what they leave. Assumes nothing.
use Prim.Native.Nat.{ℕ}
use mathlib.Core.Path.{◌≡◌, sym, ◌∙◌}
use mathlib.Core.List.{List}
use Rattle.std.specs.Prelude.{Result}
use Rattle.model.specs.Calls.{Passifies}
use Rattle.model.specs.declared.Form.{Form}
use Rattle.model.specs.declared.Refusal.{Refusal}
use Rattle.model.proofs.Answers.{one}

pub one-passify : (p r nodes widths : List ℕ) (a b : Result Form Refusal) (nodes' widths' nodes'' widths'' : List ℕ) → Passifies p r nodes widths a nodes' widths'
    → Passifies p r nodes widths b nodes'' widths'' → ◌≡◌ {A = Result Form Refusal × List ℕ × List ℕ} (a, nodes', widths') (b, nodes'', widths'')
one-passify p r nodes widths a b nodes' widths' nodes'' widths'' h k =
    let only = (one.passify p r nodes widths).2 in only (a, nodes', widths') h ∙ sym (only (b, nodes'', widths'') k)
