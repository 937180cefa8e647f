-- What a match on a kind leaves to its last arm: the tree is no value, no test, or a skip. Assumes nothing.
use Prim.Native.Nat.{ℕ}
use mathlib.Core.Path.{◌≡◌, refl}
use mathlib.Core.Bool.{false}
use mathlib.Core.List.{List}
use Rattle.bits.specs.declared.Op.{Op}
use Rattle.model.specs.Trees.{Val, Test, Stmt, Tree, as_value, as_test, as_statement, tree_by}
use Rattle.model.specs.declared.Comparison.{Comparison}
use Rattle.model.specs.declared.Connective.{Connective}
use Rattle.model.specs.declared.Kind.{Kind}

-- the values are the first eight kinds
pub record NoValue (k : Kind) : Type 0 where
  pub constant : k ≡ Kind.Constant → ⊥
  pub field : k ≡ Kind.Field → ⊥
  pub parameter : k ≡ Kind.Parameter → ⊥
  pub binary : (o : Op) → k ≡ Kind.Binary o → ⊥
  pub complement : k ≡ Kind.Complement → ⊥
  pub slice : k ≡ Kind.Slice → ⊥
  pub join : k ≡ Kind.Join → ⊥
  pub select : k ≡ Kind.Select → ⊥

-- the tests are the next four
pub record NoTest (k : Kind) : Type 0 where
  pub truth : k ≡ Kind.Truth → ⊥
  pub compare : (c : Comparison) → k ≡ Kind.Compare c → ⊥
  pub not : k ≡ Kind.Not → ⊥
  pub connect : (c : Connective) → k ≡ Kind.Connect c → ⊥

-- a skip, or what is no statement: the other statements are seven
pub record Skips (k : Kind) : Type 0 where
  pub assign : k ≡ Kind.Assign → ⊥
  pub havoc : k ≡ Kind.Havoc → ⊥
  pub assume : k ≡ Kind.Assume → ⊥
  pub assert : k ≡ Kind.Assert → ⊥
  pub sequence : k ≡ Kind.Sequence → ⊥
  pub choice : k ≡ Kind.Choice → ⊥
  pub apply : k ≡ Kind.Apply → ⊥

-- what is no value reads as the constant of width 0, what is no test as false, and what is no statement as skip
record Rest (k : Kind) (x : Tree) : Type 0 where
  value : NoValue k → as_value x ≡ Val.constant 0 0
  test : NoTest k → as_test x ≡ Test.truth false
  skips : Skips k → as_statement x ≡ Stmt.skip

of_value : {k : Kind} {v : Val} → (NoValue k → ⊥) → Rest k (Tree.value v)
of_value is = record { value = λ h. absurd (is h); test = λ h. refl; skips = λ h. refl }

of_test : {k : Kind} {t : Test} → (NoTest k → ⊥) → Rest k (Tree.test t)
of_test is = record { value = λ h. refl; test = λ h. absurd (is h); skips = λ h. refl }

of_statement : {k : Kind} {s : Stmt} → (Skips k → ⊥) → Rest k (Tree.statement s)
of_statement is = record { value = λ h. refl; test = λ h. refl; skips = λ h. absurd (is h) }

module _ (given : List ℕ) (tree : ℕ → Tree) (i : ℕ) where
  rest : (k : Kind) (a b c : ℕ) → Rest k (tree_by given tree i k a b c)
  rest Kind.Constant a b c = of_value (λ h. h.constant refl)
  rest Kind.Field a b c = of_value (λ h. h.field refl)
  rest Kind.Parameter a b c = of_value (λ h. h.parameter refl)
  rest (Kind.Binary o) a b c = of_value (λ h. h.binary o refl)
  rest Kind.Complement a b c = of_value (λ h. h.complement refl)
  rest Kind.Slice a b c = of_value (λ h. h.slice refl)
  rest Kind.Join a b c = of_value (λ h. h.join refl)
  rest Kind.Select a b c = of_value (λ h. h.select refl)
  rest Kind.Truth a b c = of_test (λ h. h.truth refl)
  rest (Kind.Compare o) a b c = of_test (λ h. h.compare o refl)
  rest Kind.Not a b c = of_test (λ h. h.not refl)
  rest (Kind.Connect o) a b c = of_test (λ h. h.connect o refl)
  rest Kind.Skip a b c = record { value = λ h. refl; test = λ h. refl; skips = λ h. refl }
  rest Kind.Assign a b c = of_statement (λ h. h.assign refl)
  rest Kind.Havoc a b c = of_statement (λ h. h.havoc refl)
  rest Kind.Assume a b c = of_statement (λ h. h.assume refl)
  rest Kind.Assert a b c = of_statement (λ h. h.assert refl)
  rest Kind.Sequence a b c = of_statement (λ h. h.sequence refl)
  rest Kind.Choice a b c = of_statement (λ h. h.choice refl)
  rest Kind.Apply a b c = of_statement (λ h. h.apply refl)
  rest Kind.Unknown a b c = record { value = λ h. refl; test = λ h. refl; skips = λ h. refl }

  pub no_value : (k : Kind) (a b c : ℕ) → NoValue k → as_value (tree_by given tree i k a b c) ≡ Val.constant 0 0
  no_value k a b c = (rest k a b c).value

  pub no_test : (k : Kind) (a b c : ℕ) → NoTest k → as_test (tree_by given tree i k a b c) ≡ Test.truth false
  no_test k a b c = (rest k a b c).test

  pub skips_on : (k : Kind) (a b c : ℕ) → Skips k → as_statement (tree_by given tree i k a b c) ≡ Stmt.skip
  skips_on k a b c = (rest k a b c).skips
