-- What a sort is that passes a test, and what holds of a sort that a test makes malformed. Assumes nothing.
use Prim.Native.Nat.{ℕ, ◌<◌}
use mathlib.Core.Path.{◌≡◌, refl}
use mathlib.Core.Bool.{Bool, true, false, false≢true}
use mathlib.Core.List.{List}
use lib.Dec.{eqb, ltb, leb}
use lib.ListN.{get_or}
use borrow.Author.Tests.{eqb-true, leb-true, ltb-true, ltb-false}
use Rattle.model.specs.Lists.{build}
use Rattle.model.specs.Nodes.{width_of, is_test, is_statement, is_formed, is_width, is_value, alike, only}
use Rattle.model.specs.Good.{Width}
use Rattle.model.specs.declared.Sort.{Sort}
use Rattle.model.proofs.Booleans.{both_true}
use Rattle.model.proofs.Every.{build-past}

pub width-true : (w : ℕ) → is_width w ≡ true → Width w
width-true w e = let h = both_true (leb 1 w) (leb w 32) e in (leb-true 1 w h.0, leb-true w 32 h.1)

pub only-has : (P : Sort → Type 0) → P Sort.Malformed → (good : Bool) (s : Sort) → (good ≡ true → P s) → P (only good s)
only-has P m true s h = h refl
only-has P m false s h = m

pub only-formed : (b : Bool) (s : Sort) → is_formed (only b s) ≡ true → (b ≡ true) × (is_formed s ≡ true)
only-formed true s h = (refl, h)
only-formed false s h = (cc, cc)

pub value_is : (s : Sort) → is_value s ≡ true → s ≡ Sort.Value (width_of s)
value_is Sort.Malformed h = cc
value_is (Sort.Value w) h = refl
value_is Sort.Test h = cc
value_is Sort.Statement h = cc

pub test_is : (s : Sort) → is_test s ≡ true → s ≡ Sort.Test
test_is Sort.Malformed h = cc
test_is (Sort.Value w) h = cc
test_is Sort.Test h = refl
test_is Sort.Statement h = cc

pub statement_is : (s : Sort) → is_statement s ≡ true → s ≡ Sort.Statement
statement_is Sort.Malformed h = cc
statement_is (Sort.Value w) h = cc
statement_is Sort.Test h = cc
statement_is Sort.Statement h = refl

-- two values of one width
pub alike-parts : (s t : Sort) → alike s t ≡ true → (is_value s ≡ true) × (is_value t ≡ true) × (width_of s ≡ width_of t)
alike-parts s t h =
    let k = both_true (is_value s) (eqb (width_of s) (width_of t)) h in
    let e = eqb-true (width_of s) (width_of t) k.1 in
    (k.0, rw (← e) k.0, e)

pub value-formed : (s : Sort) → is_value s ≡ true → is_formed s ≡ true
value-formed Sort.Malformed h = h
value-formed (Sort.Value w) h = refl
value-formed Sort.Test h = refl
value-formed Sort.Statement h = refl

-- where a list of sorts is made front to back, only a place before has a sort
pub formed-before : (f : List Sort → ℕ → Sort) (i x : ℕ) → is_formed (get_or (build f i) x Sort.Malformed) ≡ true → x < i
formed-before f i x h = go (ltb x i) refl
  where
    go : (b : Bool) → ltb x i ≡ b → x < i
    go true e = ltb-true x i e
    go false e = absurd (false≢true (rw (build-past f i x Sort.Malformed (ltb-false x i e)) at h))
