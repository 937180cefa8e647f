-- A rule against the best of those before it, and the whole scan. Assumes nothing.
use Prim.Native.Nat.{ℕ, zero, suc, ◌+◌, ◌≤◌, ◌<◌}
use native.Mathlib.Nat.{eq-or-lt_of_le}
use native.Mathlib.Numerals.{add-one}
use native.Mathlib.Omega.{arith}
use mathlib.Core.Path.{◌≡◌, refl, sym, ◌∙◌}
use mathlib.Core.Bool.{Bool, true, false, ◌&&◌}
use mathlib.Core.Logic.{◌⊎◌, inl, inr}
use mathlib.Core.List.{List}
use borrow.Author.Tests.{eq-eqb, ne_eqb, eqb-true, eqb-false}
use lib.Dec.{eqb}
use Rattle.std.specs.Prelude.{if◌then◌else◌, Option, Some, None}
use Rattle.model.specs.Blocks.{R, table_of}
use Rattle.model.specs.Tables.{tried_before, tried, first_that, of_table}
use Rattle.model.proofs.Hits.{first-has}
use Rattle.tables.specs.Scan.{ordered_to, first_to, precedes, Settled}
use Rattle.tables.proofs.Order.{tried_order, to_none, to_below, to_other, first-own}

module _ (r : List ℕ) (t : ℕ) (test : ℕ → Bool) where
  -- what is found stands below
  pub found_below : (i j : ℕ) → first_to r t test i ≡ Some j → j < i
  unfolding first_to
  found_below i j e = first-has (λ x. x < i) test _ j (to_below (tried_before r) (of_table r t) i) e

  module _ (best : Option ℕ) (i : ℕ) (e : best ≡ first_to r t test i) where
    pub of_another : (table_of r i ≡ t → ⊥) → best ≡ first_to r t test (i + 1)
    unfolding first_to
    of_another d = rw (to_other (tried_before r) (of_table r t) i (ne_eqb (table_of r i) t d)) e

    module _ (k : table_of r i ≡ t) where
      compared : first_to r t test (i + 1) ≡ (if precedes (tried_before r) i best && test i then Some i else best)
      unfolding first_to
      compared = rw e (first-own (tried_before r) (of_table r t) (tried_order r) test i (eq-eqb (table_of r i) t k))

      pub taken : precedes (tried_before r) i best ≡ true → test i ≡ true → Some i ≡ first_to r t test (i + 1)
      taken f g = sym (compared ∙ rw (f, g))

      pub missed : precedes (tried_before r) i best ≡ true → test i ≡ false → best ≡ first_to r t test (i + 1)
      missed f g = sym (compared ∙ rw (f, g))

      pub later : precedes (tried_before r) i best ≡ false → best ≡ first_to r t test (i + 1)
      later f = sym (compared ∙ rw f)

  module _ (best : Option ℕ) where
    -- i is not taken
    abbrev Passed : ℕ → Type 0
    Passed i = (precedes (tried_before r) i best && test i) ≡ false

    passes : (i : ℕ) → best ≡ first_to r t test i → Passed i → best ≡ first_to r t test (i + 1)
    passes i e f = go (eqb (table_of r i) t) refl
      where
        go : (b : Bool) → eqb (table_of r i) t ≡ b → best ≡ first_to r t test (i + 1)
        go true k = sym (compared best i e (eqb-true (table_of r i) t k) ∙ rw f)
        go false k = of_another best i e (eqb-false (table_of r i) t k)

    all_pass : (i n : ℕ) → i ≤ n → best ≡ first_to r t test i → ((j : ℕ) → i ≤ j → j < n → Passed j) → best ≡ first_to r t test n
    all_pass i zero h e none = let first : i ≡ 0 = omega arith in (rw first at e)
    all_pass i (suc n) h e none = go (eq-or-lt_of_le h) (λ k. all_pass i n k e (λ j l m. none j l (omega arith)))
      where
        go : (i ≡ suc n) ⊎ (i < suc n) → (i ≤ n → best ≡ first_to r t test n) → best ≡ first_to r t test (suc n)
        go (inl k) rec = rw (← k) e
        go (inr k) rec = rw (← add-one n) (passes n (rec (omega arith)) (none n (omega arith) (omega arith)))

  -- where a scan begins: behind some of which the test doesn't hold
  pub none_below : (n : ℕ) → ((j : ℕ) → j < n → test j ≡ false) → None ≡ first_to r t test n
  unfolding first_to first_that
  none_below n none = all_pass None 0 n (omega arith) (rw (to_none (tried_before r) (of_table r t))) (λ j l m. none j m)

  -- where it ends: all are tried, or the best is settled
  pub found_last : (best : Option ℕ) (i : ℕ) → i ≡ R r → best ≡ first_to r t test i → best ≡ first_that test (tried r t)
  unfolding first_to ordered_to tried
  found_last best i h e = rw h at e

  pub found_settled : (best : Option ℕ) (i : ℕ) → i ≤ R r → best ≡ first_to r t test i → Settled r best → best ≡ first_that test (tried r t)
  found_settled (Some j) i h e s =
      let below = found_below i j (sym e) in
      found_last (Some j) (R r) refl (all_pass (Some j) i (R r) h e (λ k l m. rw (s.1 k (omega arith) m)))
  found_settled None i h e s = absurd s
