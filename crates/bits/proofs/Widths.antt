-- Each operation's result fits its width. Assumes nothing.
use Prim.Native.Nat.{ℕ, ◌+◌, ◌-◌, ◌^◌, ◌≤◌, ◌<◌}
use native.Mathlib.Nat.{mod-lt, lt_of_lt_of_le}
use lib.Arith.{digits_lt}
use lib.Bits.{and_lt, or_lt, xor_lt}
use lib.Pow.{pow_pos, pow_mono, pow-add, ones_sub-lt}
use Rattle.bits.specs.Width.{binary, complement, slice, join}
use Rattle.bits.specs.declared.Op.{Op}
use Rattle.bits.specs.declared.Op.TheVariants.{Sum, Difference, And, Or, Xor}

pub binary-fits : (o : Op) (w x y : ℕ) → x < 2 ^ w → y < 2 ^ w → binary o w x y < 2 ^ w
binary-fits Sum w x y hx hy = mod-lt _ (pow_pos w)
binary-fits Difference w x y hx hy = mod-lt _ (pow_pos w)
binary-fits And w x y hx hy = and_lt w x y hx hy
binary-fits Or w x y hx hy = or_lt w x y hx hy
binary-fits Xor w x y hx hy = xor_lt w x y hx hy

pub complement-fits : (w x : ℕ) → complement w x < 2 ^ w
complement-fits w x = ones_sub-lt w x

pub slice_fits : (high low x : ℕ) → slice high low x < 2 ^ (high - low + 1)
slice_fits high low x = mod-lt _ (pow_pos (high - low + 1))

pub join-fits : (wx w x y : ℕ) → x < 2 ^ wx → y < 2 ^ w → join w x y < 2 ^ (wx + w)
join-fits wx w x y hx hy = rw pow-add (digits_lt hx hy)

-- what `join` requires, from the widths of the two parts
pub join-word : (wx w x y : ℕ) → x < 2 ^ wx → y < 2 ^ w → wx + w ≤ 32 → join w x y < 2 ^ 32
join-word wx w x y hx hy h = lt_of_lt_of_le (join-fits wx w x y hx hy) (pow_mono h)
