-- A refusal is given exactly when it is the first that applies. Assumes nothing.
use Prim.Native.Nat.{ℕ, zero, suc, ◌<◌, ◌≤◌}
use native.Mathlib.Nat.{not-suc-le-zero, le_of_suc-le-suc, eq-or-lt_of_le}
use native.Mathlib.Omega.{arith}
use mathlib.Core.Path.{◌≡◌, refl}
use mathlib.Core.Logic.{◌↔◌, ◌⊎◌, inl, inr, ⊎_elim}
use mathlib.Core.Bool.{Bool, true, false}
use mathlib.Core.List.{List, [], ◌∷◌, ◌++◌}
use Rattle.std.specs.Prelude.{if◌then◌else◌, Option, Some, None}
use Rattle.model.specs.Lists.{earlier, first_not}
use Rattle.model.specs.Answers.{done, refused}
use Rattle.model.specs.Refusals.{Row, given, judge}
use Rattle.model.specs.Demands.{WellBefore, Applies, Clear, First}

-- the test holds of every j below n
abbrev pub Before : (ℕ → Bool) → ℕ → Type 0
Before test n = (j : ℕ) → j < n → test j ≡ true

-- what the search for the first place says
abbrev pub Found : (ℕ → Bool) → ℕ → Option ℕ → Type 0
Found test n None = Before test n
Found test n (Some i) = (i < n) × (test i ≡ false) × Before test i

pub found : (test : ℕ → Bool) (n : ℕ) → Found test n (first_not test n)
unfolding first_not
found test zero = λ j h. absurd (not-suc-le-zero h)
found test (suc n) = step (first_not test n) (test n) refl (found test n)
  where
    step : (o : Option ℕ) (b : Bool) → test n ≡ b → Found test n o → Found test (suc n) (earlier o (if b then None else Some n))
    step (Some i) b e f = (omega arith, f.1, f.2)
    step None true e f = λ j h. ⊎_elim (λ k. rw k e) (λ k. f j k) (eq-or-lt_of_le (le_of_suc-le-suc h))
    step None false e f = (omega arith, e, f)

-- where the test fails is not before a place up to which it holds
pub not_before : (test : ℕ → Bool) (i j : ℕ) → test i ≡ false → Before test j → j ≤ i
not_before test i j e f = omega (arith, clash)
  where
    clash : i < j → ⊥
    clash h = let z : ◌≡◌ {A = ℕ} 0 1 = cc (f i h) in omega arith

-- a refusal is given exactly when it is the first that applies
pub judge-exact : (rows : List Row) (n q : ℕ) → (judge rows ≡ refused n q) ↔ First rows n q
unfolding judge First
judge-exact [] n q = (λ e. let z : ◌≡◌ {A = ℕ} 0 1 = cc in omega arith, absurd)
judge-exact (row ∷ rows) n q = go (first_not row.well row.count) (found row.well row.count) (judge-exact rows n q)
  where
    go : (o : Option ℕ) → Found row.well row.count o → (judge rows ≡ refused n q) ↔ First rows n q
        → (given row o (judge rows) ≡ refused n q) ↔ (Applies row n q ⊎ (WellBefore row row.count × First rows n q))
    go None f later =
        (λ e. inr (f, later.0 e), ⊎_elim (λ a. absurd (omega (arith, a.1, not_before row.well a.0 row.count a.2 f))) (λ k. later.1 k.1))
    go (Some i) f later = (
      λ e. inl (i, f.0, f.1, f.2, cc, cc),
      ⊎_elim (λ a. same a.0 a.2 a.3 a.4 a.5) (λ k. absurd (omega (arith, f.0, not_before row.well i row.count f.1 k.0))),
    )
      where
        same : (j : ℕ) → row.well j ≡ false → WellBefore row j → n ≡ row.number → q ≡ row.place j
            → given row (Some i) (judge rows) ≡ refused n q
        same j b w h k =
            let z : i ≡ j = omega (arith, not_before row.well i j f.1 w, not_before row.well j i b f.2) in
            cc

-- success is given exactly when no row applies
pub clear : (rows : List Row) → judge rows ≡ done tt → Clear rows
unfolding judge Clear
clear [] e = tt
clear (row ∷ rows) e = go (first_not row.well row.count) (found row.well row.count) e (clear rows)
  where
    go : (o : Option ℕ) → Found row.well row.count o → given row o (judge rows) ≡ done tt → (judge rows ≡ done tt → Clear rows)
        → WellBefore row row.count × Clear rows
    go None f k rest = (f, rest k)
    go (Some i) f k rest = let z : ◌≡◌ {A = ℕ} 0 1 = cc in absurd (omega arith)

pub clear_judge : (rows : List Row) → Clear rows → judge rows ≡ done tt
unfolding judge Clear
clear_judge [] h = refl
clear_judge (row ∷ rows) h = go (first_not row.well row.count) (found row.well row.count) (clear_judge rows h.1)
  where
    go : (o : Option ℕ) → Found row.well row.count o → judge rows ≡ done tt → given row o (judge rows) ≡ done tt
    go None f k = k
    go (Some i) f k = absurd (omega (arith, f.0, not_before row.well i row.count f.1 h.0))

pub clear_append : (rows more : List Row) → Clear rows → Clear more → Clear (rows ++ more)
unfolding Clear
clear_append [] more h k = k
clear_append (row ∷ rows) more h k = (h.0, clear_append rows more h.1 k)
