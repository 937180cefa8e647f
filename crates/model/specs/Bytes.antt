-- Numbers as bytes: four bytes of a word, and the digits of a text. Assumes nothing: these are definitions.
use Rattle.std.specs.Prelude.{ℕ, zero, suc, ◌+◌, ◌*◌, ◌%◌, ◌/◌, List, [], ◌∷◌, ltb, if◌then◌else◌}
use Rattle.model.specs.Lists.{word}

-- the word whose four bytes stand at a place, big-endian
abbrev pub big_endian : List ℕ → ℕ → ℕ
big_endian bytes at = ((word bytes at * 256 + word bytes (at + 1)) * 256 + word bytes (at + 2)) * 256 + word bytes (at + 3)

-- a number's digits, before some more text; at most so many
unfoldable pub digits : ℕ → ℕ → List ℕ → List ℕ
digits zero n text = text
digits (suc most) n text =
    let last = (0x30 + n % 10) ∷ text in
    let more = digits most (n / 10) last in
    if ltb n 10 then last else more

-- a number in decimal, with no needless zeros
abbrev pub decimal : ℕ → List ℕ
decimal n = digits (suc n) n []
