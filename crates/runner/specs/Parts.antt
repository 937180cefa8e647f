-- What Lookup's functions tell each other of a part. Assumes nothing: this is a definition.
use Rattle.std.specs.Prelude.{ℕ, ◌+◌, ◌≤◌, List, length}
use Rattle.model.specs.declared.Part.{Part}

-- the part's three words are there
abbrev pub Inside : List ℕ → List ℕ → Part → Type 0
Inside p r (Part.Rules at) = at + 3 ≤ length r
Inside p r (Part.Pipeline at) = at + 3 ≤ length p
Inside p r Part.Empty = Unit {0}
