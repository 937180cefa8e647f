-- How a sort stands in a byte. Assumes nothing.
use Prim.Native.Nat.{ℕ, zero, suc, ◌+◌, ◌-◌}
use native.Mathlib.Omega.{arith}
use mathlib.Core.Path.{◌≡◌, refl}
use mathlib.Core.Bool.{not}
use lib.Dec.{eqb}
use borrow.Author.Tests.{ne_eqb}
use Rattle.model.specs.Nodes.{width_of, is_test, is_statement, is_formed}
use Rattle.model.specs.declared.Sort.{Sort}
use Rattle.nodes.specs.Codes.{sort_from}

pub byte_value : (w : ℕ) → sort_from (w + 3) ≡ Sort.Value w
unfolding sort_from
byte_value w = let e : w + 3 ≡ suc (suc (suc w)) = omega arith in rw e

-- what holds of each sort's byte holds of every byte
by_byte : (P : ℕ → Sort → Type 0) → P 0 Sort.Malformed → P 1 Sort.Test → P 2 Sort.Statement → ((w : ℕ) → P (suc (suc (suc w))) (Sort.Value w))
    → (n : ℕ) → P n (sort_from n)
unfolding sort_from
by_byte P m t s v zero = m
by_byte P m t s v (suc zero) = t
by_byte P m t s v (suc (suc zero)) = s
by_byte P m t s v (suc (suc (suc n))) = v n

pub byte_width : (n : ℕ) → width_of (sort_from n) ≡ n - 3
byte_width = by_byte (λ n s. width_of s ≡ n - 3) refl refl refl (λ w. omega arith)

pub byte_test : (n : ℕ) → is_test (sort_from n) ≡ eqb n 1
byte_test = by_byte (λ n s. is_test s ≡ eqb n 1) refl refl refl (λ w. rw (ne_eqb (suc (suc (suc w))) 1 (λ e. omega arith)))

pub byte_statement : (n : ℕ) → is_statement (sort_from n) ≡ eqb n 2
byte_statement = by_byte (λ n s. is_statement s ≡ eqb n 2) refl refl refl (λ w. rw (ne_eqb (suc (suc (suc w))) 2 (λ e. omega arith)))

pub byte_formed : (n : ℕ) → is_formed (sort_from n) ≡ not (eqb n 0)
byte_formed = by_byte (λ n s. is_formed s ≡ not (eqb n 0)) refl refl refl (λ w. rw (ne_eqb (suc (suc (suc w))) 0 (λ e. omega arith)))

-- the bytes of the sorts without a width
pub malformed_byte : sort_from 0 ≡ Sort.Malformed
unfolding sort_from
malformed_byte = refl

pub test_byte : sort_from 1 ≡ Sort.Test
unfolding sort_from
test_byte = refl

pub statement_byte : sort_from 2 ≡ Sort.Statement
unfolding sort_from
statement_byte = refl
