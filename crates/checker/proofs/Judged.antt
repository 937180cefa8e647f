-- From what was found at each row to the answer: the first row that refuses gives it. Assumes nothing.
use Prim.Native.Nat.{ℕ}
use mathlib.Core.Path.{◌≡◌, refl, sym, ◌∙◌}
use mathlib.Core.Bool.{Bool, false, false≢true}
use mathlib.Core.List.{List, [], ◌∷◌}
use Rattle.std.specs.Prelude.{Option, Some, None, Result, Ok, Err, OnOk}
use Rattle.model.specs.Lists.{first_not}
use Rattle.model.proofs.Passing.{check_accepts}
use Rattle.model.specs.Refusals.{Row, judge, check_rows, pipeline_sorts, node_row, action_row, use_row, uses}
use Rattle.model.specs.Calls.{check, Checks}
use Rattle.model.specs.Demands.{Accepted}
use Rattle.model.specs.declared.Refusal.{Refusal}
use Rattle.model.proofs.First.{first-all}
use Rattle.model.proofs.Refusals.{Found, found}
use Rattle.model.proofs.Accepted.{action-fits}
use Rattle.uses.specs.Owners.{UsedOnce}
use Rattle.checker.specs.Rows.{Passes, RefusedBy, Judged, first_in, count_row, later_rows, Judges}

none-of : (row : Row) → Passes row → first_in row ≡ None
none-of row h = go (first_in row) (found row.well row.count)
  where
    go : (o : Option ℕ) → Found row.well row.count o → o ≡ None
    go None f = refl
    go (Some i) f = absurd (false≢true (sym f.1 ∙ h.at i f.0))

-- a row that looks once
pub fails-once : (well : ℕ → Bool) → well 0 ≡ false → first_not well 1 ≡ Some 0
unfolding first_not
fails-once well e = rw e

-- what holds where no place was found, holds where the row has passed
pub on-pass : (row : Row) (result : Result (Unit {0}) Refusal) {found : Option ℕ} → Judges row result → found ≡ first_in row
    → (P : Option ℕ → Type 0) → P found → OnOk result (P None)
on-pass row (Ok _) h e P k = rw (e ∙ none-of row h) at k
on-pass row (Err x) h e P k = tt

-- ---- the rows one after the other

module _ {row : Row} (rows : List Row) where
  pub refuses : {x : Refusal} → RefusedBy row x → Judged (row ∷ rows) (Err x)
  unfolding judge
  refuses h = record { answers = rw h.first h.names }

  pub passed : {a : Result (Unit {0}) Refusal} → Passes row → Judged rows a → Judged (row ∷ rows) a
  unfolding judge
  passed h k = record { answers = rw (none-of row h) k.answers }

pub all_pass : Judged [] (Ok tt)
unfolding judge
all_pass = record { answers = refl }

-- ---- what a row that has passed says of all its places

pub passes : (row : Row) {found : Option ℕ} → found ≡ first_in row → found ≡ None → Passes row
passes row e n = record { at = λ i h. first-all row.well row.count i (sym e ∙ n) h }

module _ (p : List ℕ) where
  pub tree : Passes (node_row p (pipeline_sorts p)) → Passes (action_row p (pipeline_sorts p)) → Passes (use_row p (uses p)) → UsedOnce p
  tree f a u = record {
    formed = f.at;
    bodies = λ i l. (action-fits p i (a.at i l)).0;
    parameters = λ i l. (action-fits p i (a.at i l)).1;
    once = u.at;
  }

pub ruleset judged = (refuses, passed, all_pass, tree)

-- ---- the whole table

module _ {p r : List ℕ} where
  all-rows : {a : Result (Unit {0}) Refusal} → Judged (count_row p r ∷ later_rows p r) a → Checks p r a
  unfolding check check_rows later_rows
  all-rows k = record { answers = k.answers }

  pub counts_refuse : {x : Refusal} → RefusedBy (count_row p r) x → Checks p r (Err x)
  counts_refuse h = all-rows (refuses (later_rows p r) h)

  pub later-judge : {p' r' : List ℕ} {a : Result (Unit {0}) Refusal} → Judged (later_rows p' r') a → p' ≡ p → r' ≡ r → Passes (count_row p r) → Checks p r a
  later-judge k s t h = all-rows (passed (later_rows p r) h (rw (s, t) at k))

  pub accepts : {p' r' : List ℕ} → Judged (later_rows p r) (Ok tt) → p ≡ p' → r ≡ r' → Passes (count_row p' r') → Accepted p r
  accepts k s t h = check_accepts p r (later-judge k refl refl (rw (s, t) h))

pub ruleset whole = (counts_refuse, later-judge, accepts)
