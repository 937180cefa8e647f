-- A number in decimal is what the library prints, and a number of 64 bits has at most twenty digits. Assumes nothing.
use Prim.Native.Nat.{ℕ, suc, ◌+◌, ◌-◌, ◌^◌, ◌≤◌, ◌<◌}
use native.Mathlib.Omega.{arith}
use mathlib.Core.Path.{◌≡◌, ap, ◌∙◌}
use mathlib.Core.List.{List, [], append-nil}
use lib.ListN.{length, take, drop, length-take, length-drop}
use borrow.Author.Rules.{rules}
use Rattle.std.specs.Fmt as printed
use Rattle.std.proofs.lemmas.Fmt.{PrependsLastDigit, decimal_from_prepends, length-decimal-le, length-decimal-le_succ}
use lib.Seq.{take_all}
use Rattle.model.specs.Bytes.{digits, decimal}
use Rattle.text.specs.Adds.{Grows}
use Rattle.text.specs.declared.Text.{Text}

last_first : PrependsLastDigit digits
unfolding digits
last_first = search rules

pub as_printed : (n : ℕ) → n < 2 ^ 64 → decimal n ≡ printed.decimal n
as_printed n h = decimal_from_prepends digits last_first (suc n) n [] h (omega (arith, length-decimal-le_succ n h)) ∙ append-nil (printed.decimal n)

pub decimal_short : {n : ℕ} → n < 2 ^ 64 → length (decimal n) ≤ 20
decimal_short {n} h = rw (as_printed n h) (search (rules, length-decimal-le 20))

-- What the library has printed of a number is the text of the same number, and a part of it where nothing is left out. It has room where that text
-- has.
module _ {n m : ℕ} {bytes : List ℕ} (h : n < 2 ^ 64) (e : bytes ≡ printed.decimal m) (same : m ≡ n) where
  is-text : bytes ≡ decimal n
  is-text = rw (as_printed n h, ← same) e

  pub grown : {before now : Text} → Grows bytes before now → Grows (decimal n) before now
  grown g = rw (← is-text) g

  pub grown_part : {k : ℕ} {before now : Text} → k ≡ 0 → Grows (take (length bytes - k) (drop k bytes)) before now → Grows (decimal n) before now
  grown_part none g = grown (rw (none, take_all (length bytes - 0) bytes (omega arith)) at g)

  pub there : (end : ℕ) {room : ℕ} → end + length (decimal n) ≤ room → (k : ℕ) → end + length (take (length bytes - k) (drop k bytes)) ≤ room
  there end l k = simp (length-take, length-drop) (omega (arith, l, ap length is-text))

  pub there_all : (end : ℕ) {room : ℕ} → end + length (decimal n) ≤ room → end + length bytes ≤ room
  there_all end l = rw is-text l
