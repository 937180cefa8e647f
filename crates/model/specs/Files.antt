-- Document 01, "Blocks and records": the record file. Its bytes are looked at from the front, a record at a time.
-- Assumes nothing: these are definitions.
use Rattle.std.specs.Prelude.{ℕ, zero, suc, ◌+◌, ◌*◌, Bool, ◌&&◌, List, [], ◌∷◌, ◌++◌, eqb, ltb, leb, length, if◌then◌else◌, Option, Some, None}
use Rattle.model.specs.Lists.{word, each}
use Rattle.model.specs.Bytes.{big_endian}
use Rattle.model.specs.Blocks.{size}
use Rattle.model.specs.declared.Group.{Group}

-- a file is at most so many bytes
abbrev pub file_limit : ℕ
file_limit = 40000

-- the groups in the order of the file: the number of each, and its mark's two bytes
abbrev pub turn : Group → ℕ
turn Group.Field = 0
turn Group.Node = 1
turn Group.Action = 2
turn Group.Table = 3
turn Group.Rule = 4
turn Group.Root = 5

abbrev pub mark : Group → List ℕ
mark Group.Field = 0x46 ∷ 0x44 ∷ []  -- FD
mark Group.Node = 0x4E ∷ 0x44 ∷ []  -- ND
mark Group.Action = 0x41 ∷ 0x43 ∷ []  -- AC
mark Group.Table = 0x54 ∷ 0x42 ∷ []  -- TB
mark Group.Rule = 0x52 ∷ 0x4C ∷ []  -- RL
mark Group.Root = 0x52 ∷ 0x54 ∷ []  -- RT

abbrev pub groups : List Group
groups = Group.Field ∷ Group.Node ∷ Group.Action ∷ Group.Table ∷ Group.Rule ∷ Group.Root ∷ []

-- a record: its group, and its words
pub record Record : Type 0 where
  pub group : Group
  pub words : List ℕ

-- how many bytes a record has: two for the mark, and its words
abbrev pub bytes : Group → ℕ
bytes g = 2 + 4 * size g

abbrev pub record_at : List ℕ → ℕ → Group → Record
record_at file at g = record { group = g; words = each (λ i. big_endian file (at + 2 + 4 * i)) (size g) }

-- the group's mark stands at a place
abbrev pub marked : List ℕ → ℕ → Group → Bool
marked file at g = eqb (word file at) (word (mark g) 0) && eqb (word file (at + 1)) (word (mark g) 1)

-- what a file holds: its records, or a fault at a place
pub data Held : Type 0 where
  whole : List Record → Held
  fault : ℕ → Held

abbrev pub behind : Record → Held → Held
behind x (whole xs) = whole (x ∷ xs)
behind x (fault at) = fault at

-- the group whose mark stands at a place, if any does
unfoldable pub marked_by : List ℕ → ℕ → List Group → Option Group
marked_by file at [] = None
marked_by file at (g ∷ gs) = if marked file at g then Some g else marked_by file at gs

-- What stands at a place of a file, by its mark, when the groups before `now` had their turn; `rest` says what stands behind.
-- An unknown mark, a wrong group, a cut record: a fault at the record. Bytes after RT: at the first of them.
-- Where a file ends without RT there is no mark: a fault at its length.
unfoldable pub record_there : List ℕ → ℕ → ℕ → (ℕ → ℕ → Held) → Option Group → Held
record_there file at now rest None = fault at
record_there file at now rest (Some g) =
    let next = at + bytes g in
    let more = behind (record_at file at g) (rest next (turn g)) in
    if ltb (turn g) now then fault at else
    if ltb (length file) next then fault at else
    if ltb (turn g) (turn Group.Root) then more else
    if eqb next (length file) then whole (record_at file at g ∷ []) else
    fault next

-- the records from a place on, at most so many
unfoldable pub records_from : ℕ → List ℕ → ℕ → ℕ → Held
records_from zero file at now = fault at
records_from (suc most) file at now = record_there file at now (records_from most file) (marked_by file at groups)

-- a file that is too long has one fault more, at the limit, and the first is given
abbrev pub too_long : Held → Held
too_long (whole xs) = fault file_limit
too_long (fault at) = fault (if ltb file_limit at then file_limit else at)

-- the whole file, which has fewer records than bytes
unfoldable pub held : List ℕ → Held
held file =
    let found = records_from (suc (length file)) file 0 0 in
    if leb (length file) file_limit then found else too_long found

-- the words of the records of some groups, and how many records a group has
unfoldable pub words_of : (Group → Bool) → List Record → List ℕ
words_of of [] = []
words_of of (x ∷ xs) = (if of x.group then x.words else []) ++ words_of of xs

unfoldable pub count_of : Group → List Record → ℕ
count_of g [] = 0
count_of g (x ∷ xs) = (if eqb (turn x.group) (turn g) then 1 else 0) + count_of g xs

-- the two blocks: F, N, A, T, root and the records up to the tables'; the rules
abbrev pub pipeline_of : List Record → List ℕ
pipeline_of xs =
    (count_of Group.Field xs ∷ count_of Group.Node xs ∷ count_of Group.Action xs ∷ count_of Group.Table xs ∷ [])
    ++ words_of (λ g. eqb (turn g) (turn Group.Root)) xs
    ++ words_of (λ g. leb (turn g) (turn Group.Table)) xs

abbrev pub rules_of : List Record → List ℕ
rules_of xs = words_of (λ g. eqb (turn g) (turn Group.Rule)) xs
