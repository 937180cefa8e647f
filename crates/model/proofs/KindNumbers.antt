-- The kinds by their numbers, and which a list of nodes may hold. Assumes nothing.
use Prim.Native.Nat.{ℕ, ◌≤◌}
use native.Mathlib.Omega.{arith}
use mathlib.Core.Path.{◌≡◌, refl, ap, ◌∙◌, sym}
use mathlib.Core.Logic.{◌⊎◌, inl, inr}
use mathlib.Core.Bool.{Bool, true, false, not, ◌&&◌}
use mathlib.Core.List.{List, [], ◌∷◌}
use lib.Dec.{eqb, ltb}
use borrow.Author.Tests.{eqb-true}
use Rattle.bits.specs.declared.Op.{Op}
use Rattle.std.specs.Prelude.{if◌then◌else◌}
use Rattle.model.specs.Lists.{times}
use Rattle.model.specs.Nodes.{number_of, kinds, kind_in, kind_of, pipeline_only, allowed}
use Rattle.model.specs.declared.Comparison.{Comparison}
use Rattle.model.specs.declared.Connective.{Connective}
use Rattle.model.specs.declared.Kind.{Kind}
use Rattle.model.specs.declared.Stage.{Stage}
use Rattle.model.proofs.Every.{All}

-- a number that has a kind is that kind's
pub kind_or_unknown : (ks : List Kind) (m : ℕ) → (kind_in ks m ≡ Kind.Unknown) ⊎ (m ≡ number_of (kind_in ks m))
unfolding kind_in
kind_or_unknown [] m = inl refl
kind_or_unknown (k ∷ ks) m = go (eqb m (number_of k)) refl (kind_or_unknown ks m)
  where
    go : (b : Bool) → eqb m (number_of k) ≡ b → (kind_in ks m ≡ Kind.Unknown) ⊎ (m ≡ number_of (kind_in ks m))
        → (◌≡◌ {A = Kind} (if b then k else kind_in ks m) Kind.Unknown) ⊎ (m ≡ number_of (if b then k else kind_in ks m))
    go true e rest = inr (eqb-true m (number_of k) e)
    go false e rest = rest

pub kind_number : (ks : List Kind) (m : ℕ) (k : Kind) → 1 ≤ number_of k → kind_in ks m ≡ k → m ≡ number_of k
kind_number ks m k h e = go (kind_or_unknown ks m)
  where
    go : (kind_in ks m ≡ Kind.Unknown) ⊎ (m ≡ number_of (kind_in ks m)) → m ≡ number_of k
    go (inl u) = absurd (omega (arith, ap number_of (sym e ∙ u)))
    go (inr q) = q ∙ ap number_of e

-- a kind's number is no other's
pub kind_in-number : (k : Kind) → kind_in kinds (number_of k) ≡ k
unfolding kind_in
kind_in-number Kind.Constant = refl
kind_in-number Kind.Field = refl
kind_in-number Kind.Parameter = refl
kind_in-number (Kind.Binary Op.Sum) = refl
kind_in-number (Kind.Binary Op.Difference) = refl
kind_in-number (Kind.Binary Op.And) = refl
kind_in-number (Kind.Binary Op.Or) = refl
kind_in-number (Kind.Binary Op.Xor) = refl
kind_in-number Kind.Complement = refl
kind_in-number Kind.Slice = refl
kind_in-number Kind.Join = refl
kind_in-number Kind.Select = refl
kind_in-number Kind.Truth = refl
kind_in-number (Kind.Compare Comparison.Equal) = refl
kind_in-number (Kind.Compare Comparison.Less) = refl
kind_in-number Kind.Not = refl
kind_in-number (Kind.Connect Connective.And) = refl
kind_in-number (Kind.Connect Connective.Or) = refl
kind_in-number Kind.Skip = refl
kind_in-number Kind.Assign = refl
kind_in-number Kind.Havoc = refl
kind_in-number Kind.Assume = refl
kind_in-number Kind.Assert = refl
kind_in-number Kind.Sequence = refl
kind_in-number Kind.Choice = refl
kind_in-number Kind.Apply = refl
kind_in-number Kind.Unknown = refl

-- the highest is 39
kind_low : (ks : List Kind) (m : ℕ) → All (λ k. number_of k ≤ 39) ks → number_of (kind_in ks m) ≤ 39
unfolding kind_in
kind_low [] m h = omega arith
kind_low (k ∷ ks) m h = go (eqb m (number_of k)) (kind_low ks m h.1)
  where
    go : (b : Bool) → number_of (kind_in ks m) ≤ 39 → number_of (if b then k else kind_in ks m) ≤ 39
    go true rest = h.0
    go false rest = rest

pub number_low : (k : Kind) → number_of k ≤ 39
number_low k = rw kind_in-number at (kind_low kinds (number_of k) (omega arith))

pub kind_of-number : (stage : Stage) (k : Kind) → allowed stage (number_of k) ≡ true → kind_of stage (number_of k) ≡ k
kind_of-number stage k h = rw h (kind_in-number k)

-- which numbers a condition may hold: those of values and tests, which a passive form may hold too
pub entry-below : (m : ℕ) → allowed Stage.Condition m ≡ true → ltb m 32 ≡ true
entry-below m h = go (pipeline_only m) h
  where
    go : (b : Bool) → not b && ltb m 32 ≡ true → ltb m 32 ≡ true
    go true e = cc
    go false e = e

pub entry-allowed : (m : ℕ) → allowed Stage.Condition m ≡ true → allowed Stage.Passive m ≡ true
entry-allowed m h = go (pipeline_only m) h
  where
    go : (b : Bool) → not b && ltb m 32 ≡ true → not b ≡ true
    go true e = e
    go false e = refl

-- the kind that a condition's entry has, if it has one, is one that it may have
pub kind_of-allowed : (m : ℕ) → allowed Stage.Condition (number_of (kind_of Stage.Condition m)) ≡ true
unfolding times
kind_of-allowed m = go (allowed Stage.Condition m) refl (kind_or_unknown kinds m)
  where
    go : (b : Bool) → allowed Stage.Condition m ≡ b → (kind_in kinds m ≡ Kind.Unknown) ⊎ (m ≡ number_of (kind_in kinds m))
        → allowed Stage.Condition (number_of (if b then kind_in kinds m else Kind.Unknown)) ≡ true
    go false e s = refl
    go true e (inl u) = rw u refl
    go true e (inr u) = rw (← u) e

pub binary-allowed : (o : Op) → allowed Stage.Condition (number_of (Kind.Binary o)) ≡ true
unfolding times
binary-allowed Op.Sum = refl
binary-allowed Op.Difference = refl
binary-allowed Op.And = refl
binary-allowed Op.Or = refl
binary-allowed Op.Xor = refl

pub compare-allowed : (o : Comparison) → allowed Stage.Condition (number_of (Kind.Compare o)) ≡ true
unfolding times
compare-allowed Comparison.Equal = refl
compare-allowed Comparison.Less = refl

pub connect-allowed : (o : Connective) → allowed Stage.Condition (number_of (Kind.Connect o)) ≡ true
unfolding times
connect-allowed Connective.And = refl
connect-allowed Connective.Or = refl
