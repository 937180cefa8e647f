-- Document 01, "Runs": which rule of a table hits, and the three words that Lookup answers.
-- Assumes nothing: these are definitions.
use Rattle.std.specs.Prelude.{ℕ, Bool, List, [], ◌∷◌, eqb, ltb, if◌then◌else◌, Option, Some, None}
use Rattle.bits.specs.Width as bits
use Rattle.model.specs.Lists.{every, each, those, word, part}
use Rattle.model.specs.Blocks.{R, Call, call_at, key_count, key, default_place, table_of, value, mask, call_place}
use Rattle.model.specs.declared.Part.{Part}

-- rule i matches: at every key, the field's bits under the mask equal the rule's value
unfoldable pub matches : List ℕ → List ℕ → List ℕ → ℕ → Bool
matches p r packet i =
    let t = table_of r i in
    every (λ j. bits.under (mask r i j) (value r i j) (word packet (key p t j))) (key_count p t)

-- rule i is tried before rule j: block order
abbrev pub tried_before : List ℕ → ℕ → ℕ → Bool
tried_before r i j = ltb i j

-- a list in the order that `before` says
unfoldable pub placed : (ℕ → ℕ → Bool) → ℕ → List ℕ → List ℕ
placed before i [] = i ∷ []
placed before i (j ∷ js) = if before i j then i ∷ j ∷ js else j ∷ placed before i js

unfoldable pub ordered : (ℕ → ℕ → Bool) → List ℕ → List ℕ
ordered before [] = []
ordered before (i ∷ is) = placed before i (ordered before is)

-- rule i is one of table t's
abbrev pub of_table : List ℕ → ℕ → ℕ → Bool
of_table r t i = eqb (table_of r i) t

-- the rules of table t in the order in which they are tried
unfoldable pub tried : List ℕ → ℕ → List ℕ
tried r t = ordered (tried_before r) (those (of_table r t) (each (λ i. i) (R r)))

-- the first of those that matches; the default if none does
unfoldable pub first_that : (ℕ → Bool) → List ℕ → Option ℕ
first_that test [] = None
first_that test (i ∷ is) = if test i then Some i else first_that test is

abbrev pub hit : List ℕ → List ℕ → List ℕ → ℕ → Option ℕ
hit p r packet t = first_that (matches p r packet) (tried r t)

-- where its three words stand, action and data: a part of the rule block or of the pipeline block; the words themselves
abbrev pub part_of : List ℕ → List ℕ → ℕ → Option ℕ → Part
part_of p r t (Some i) = Part.Rules (call_place r i)
part_of p r t None = Part.Pipeline (default_place p t)

abbrev pub part_words : List ℕ → List ℕ → Part → List ℕ
part_words p r (Part.Rules at) = part r at 3
part_words p r (Part.Pipeline at) = part p at 3
part_words p r Part.Empty = []

-- what runs then: those words as an action with its data
abbrev pub call_of : List ℕ → List ℕ → ℕ → Option ℕ → Call
call_of p r t (Some i) = call_at r (call_place r i)
call_of p r t None = call_at p (default_place p t)
