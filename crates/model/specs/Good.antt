-- Which trees are well formed, over the fields' widths and the number of tables; which packets and valuations are within their widths.
-- Assumes nothing: these are definitions.
use Rattle.std.specs.Prelude.{ℕ, ◌+◌, ◌-◌, ◌^◌, ◌<◌, ◌≤◌, ◌≡◌, List, [], ◌∷◌, get_or, length}
use Rattle.model.specs.Trees.{Val, Test, Stmt}

-- each number fits the width at its place, and there are as many numbers as widths
abbrev pub Within : List ℕ → List ℕ → Type 0
Within [] [] = Unit {0}
Within [] (n ∷ ns) = ⊥
Within (w ∷ ws) [] = ⊥
Within (w ∷ ws) (n ∷ ns) = (n < 2 ^ w) × Within ws ns

abbrev pub Width : ℕ → Type 0
Width w = (1 ≤ w) × (w ≤ 32)

module _ (widths : List ℕ) where
  unfoldable pub width_of_value : Val → ℕ
  width_of_value (Val.constant n w) = w
  width_of_value (Val.field i) = get_or widths i 0
  width_of_value (Val.binary o a b) = width_of_value a
  width_of_value (Val.complement a) = width_of_value a
  width_of_value (Val.slice a high low) = high - low + 1
  width_of_value (Val.join a b) = width_of_value a + width_of_value b
  width_of_value (Val.select t a b) = width_of_value a

  unfoldable mutual
    pub GoodValue : Val → Type 0
    GoodValue (Val.constant n w) = Width w × (n < 2 ^ w)
    GoodValue (Val.field i) = i < length widths
    GoodValue (Val.binary o a b) = GoodValue a × GoodValue b × (width_of_value a ≡ width_of_value b)
    GoodValue (Val.complement a) = GoodValue a
    GoodValue (Val.slice a high low) = GoodValue a × (high < width_of_value a) × (low ≤ high)
    GoodValue (Val.join a b) = GoodValue a × GoodValue b × (width_of_value a + width_of_value b ≤ 32)
    GoodValue (Val.select t a b) = GoodTest t × GoodValue a × GoodValue b × (width_of_value a ≡ width_of_value b)

    pub GoodTest : Test → Type 0
    GoodTest (Test.truth b) = Unit {0}
    GoodTest (Test.compare o a b) = GoodValue a × GoodValue b × (width_of_value a ≡ width_of_value b)
    GoodTest (Test.not_test t) = GoodTest t
    GoodTest (Test.connect o t u) = GoodTest t × GoodTest u

  unfoldable pub Good : ℕ → Stmt → Type 0
  Good tables Stmt.skip = Unit {0}
  Good tables (Stmt.assign f v) = (f < length widths) × GoodValue v × (width_of_value v ≡ get_or widths f 0)
  Good tables (Stmt.havoc f) = f < length widths
  Good tables (Stmt.assume n t) = GoodTest t
  Good tables (Stmt.assert n t) = GoodTest t
  Good tables (Stmt.sequence a b) = Good tables a × Good tables b
  Good tables (Stmt.choice a b) = Good tables a × Good tables b
  Good tables (Stmt.apply t) = t < tables
