-- Document 01's arithmetic on values of a width, 1 to 32. A width comes first; a value of width w is a number below 2 ^ w.
-- Assumes nothing: these are definitions.
use Rattle.std.specs.Prelude.{ℕ, ◌+◌, ◌*◌, ◌-◌, ◌^◌, ◌%◌, ◌/◌, Bool, eqb, ltb}
use Rattle.std.specs.Int.Bits.{bit_and, bit_or, bit_xor}
use Rattle.bits.specs.declared.Op.{Op}
use Rattle.bits.specs.declared.Op.TheVariants.{Sum, Difference, And, Or, Xor}

-- x fits the width w
abbrev pub fits : ℕ → ℕ → Bool
fits w x = ltb x (2 ^ w)

-- sum and difference modulo 2 ^ w
abbrev pub sum : ℕ → ℕ → ℕ → ℕ
sum w x y = (x + y) % 2 ^ w

abbrev pub difference : ℕ → ℕ → ℕ → ℕ
difference w x y = (x + (2 ^ w - y)) % 2 ^ w

-- the operations on two values of one width: nodes 4 to 8
abbrev pub binary : Op → ℕ → ℕ → ℕ → ℕ
binary Sum w x y = sum w x y
binary Difference w x y = difference w x y
binary And w x y = bit_and x y
binary Or w x y = bit_or x y
binary Xor w x y = bit_xor x y

-- every bit of x, of width w, turned over
abbrev pub complement : ℕ → ℕ → ℕ
complement w x = 2 ^ w - 1 - x

-- bits high down to low of x
abbrev pub slice : ℕ → ℕ → ℕ → ℕ
slice high low x = x / 2 ^ low % 2 ^ (high - low + 1)

-- x joined above y, where w is the width of y
abbrev pub join : ℕ → ℕ → ℕ → ℕ
join w x y = x * 2 ^ w + y

-- unsigned less
abbrev pub less : ℕ → ℕ → Bool
less x y = ltb x y

-- the bits of x under the mask equal the value
abbrev pub under : ℕ → ℕ → ℕ → Bool
under mask value x = eqb (bit_and x mask) value
