-- From an answer that a later call begins with to what that call relies on, or passes on unchanged: no later proof opens the checker.
-- Assumes nothing.
use Prim.Native.Nat.{ℕ}
use native.Mathlib.Omega.{arith}
use mathlib.Core.Path.{◌≡◌, refl, sym, ap, ◌∙◌}
use mathlib.Core.Bool.{Bool, true, false, false≢true}
use mathlib.Core.List.{List, [], ◌++◌}
use Rattle.std.specs.Prelude.{Ok, Err}
use Rattle.model.specs.Answers.{Answer, done, refused, after, told, refusal_of}
use Rattle.model.specs.Refusals.{Row, judge, check_rows}
use Rattle.model.specs.Calls.{check, Checks}
use Rattle.model.specs.Demands.{Accepted}
use Rattle.model.specs.declared.Refusal.{Refusal}
use Rattle.model.proofs.First.{judge-append}
use Rattle.model.proofs.Answers.{back, refusal_back}

-- a refusal is no success
pub refusal_refuses : (x : Refusal) (values : List ℕ) → refusal_of x ≡ done values → ⊥
refusal_refuses x values e =
    let back : Answer (List ℕ) → Bool = back (λ _. true) (λ _. false) in
    false≢true (sym (refusal_back (λ _. true) (λ _. false) x) ∙ ap back e)

pub told-done : (answer : Answer (Unit {0})) → done [] ≡ told (λ _. []) answer → answer ≡ done tt
told-done (done tt) e = refl
told-done (refused n q) e = let z : ◌≡◌ {A = ℕ} 0 1 = cc in absurd (omega arith)

-- a refusal that is told is given
pub record Refuses (x : Refusal) (answer : Answer (Unit {0})) : Type 0 where
  pub number : ℕ
  pub place : ℕ
  pub names : refusal_of x ≡ refused number place
  pub gives : answer ≡ refused number place

pub told_refuses : (x : Refusal) (answer : Answer (Unit {0})) → refusal_of x ≡ told (λ _. []) answer → Refuses x answer
told_refuses x (done tt) e = absurd (refusal_refuses x [] e)
told_refuses x (refused n q) e = record { number = n; place = q; names = e; gives = refl }

-- it is passed on unchanged, whatever is judged after it and whatever the call would give
module _ (x : Refusal) (rows : List Row) (h : Refuses x (judge rows)) where
  pub passed_on : (more : List Row) {A : Type 0} (next : Unit {0} → Answer A) → after (judge (rows ++ more)) next ≡ refused h.number h.place
  passed_on more next = rw (judge-append rows more, h.gives)

  pub tells_on : (more : List Row) {A : Type 0} (values : A → List ℕ) (next : Unit {0} → Answer A) → refusal_of x ≡ told values (after (judge (rows ++ more)) next)
  tells_on more values next = rw (passed_on more next) h.names

pub told-after : (x : Refusal) (answer : Answer (Unit {0})) → refusal_of x ≡ told (λ _. []) answer
    → {A : Type 0} (values : A → List ℕ) (next : Unit {0} → Answer A) → refusal_of x ≡ told values (after answer next)
told-after x answer e values next = let h = told_refuses x answer e in rw h.gives h.names

module _ (p r : List ℕ) where
  pub check_accepts : Checks p r (Ok tt) → Accepted p r
  check_accepts h = told-done (check p r) h.answers

  pub check_refuses : (x : Refusal) → Checks p r (Err x) → Refuses x (judge (check_rows p r))
  unfolding check
  check_refuses x h = told_refuses x (judge (check_rows p r)) h.answers
