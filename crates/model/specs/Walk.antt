-- Document 01, "The condition": what Extract takes out of a valuation. `at x` is the bits of the variable x.
-- Assumes nothing: these are definitions.
use Rattle.std.specs.Prelude.{ℕ, Bool, true, false, not, ◌&&◌, ◌||◌, List, [], ◌∷◌, ◌++◌, eqb, take, length, if◌then◌else◌}
use Rattle.model.specs.Trees.{truth_of, bits_in}
use Rattle.model.specs.Runs.{packet_widths}
use Rattle.model.specs.Passive.{Passive, Origin, Equation, ◌then◌, passive}
use Rattle.model.specs.declared.Bits.{Bits}

-- a walked choice of the pipeline gives 0 or 1 for its side, a chain's choice nothing
abbrev pub entry : Origin → ℕ → List ℕ
entry Origin.of_pipeline side = side ∷ []
entry Origin.of_chain side = []

module _ (at : ℕ → Bits) where
  -- a side's join equations hold
  unfoldable pub equal : List Equation → Bool
  equal [] = true
  equal (e ∷ es) = eqb (at e.own).number (at e.joined).number && equal es

  -- a statement goes on; it goes wrong
  unfoldable pub goes_on : Passive → Bool
  goes_on Passive.skip = true
  goes_on (Passive.havoced x) = true
  goes_on (Passive.assume t) = truth_of at t
  goes_on (Passive.assert t) = truth_of at t
  goes_on (a then b) = goes_on a && goes_on b
  goes_on (Passive.choice o a xs b ys) = (goes_on a && equal xs) || (goes_on b && equal ys)

  unfoldable pub goes_wrong : Passive → Bool
  goes_wrong Passive.skip = false
  goes_wrong (Passive.havoced x) = false
  goes_wrong (Passive.assume t) = false
  goes_wrong (Passive.assert t) = not (truth_of at t)
  goes_wrong (a then b) = goes_wrong a || (goes_on a && goes_wrong b)
  goes_wrong (Passive.choice o a xs b ys) = goes_wrong a || goes_wrong b

  -- The walk going on: each walked havoc gives its variable's value. In a choice, the first side that goes on, with its join's equations.
  unfoldable pub walk_on : Passive → List ℕ
  walk_on Passive.skip = []
  walk_on (Passive.havoced x) = (at x).number ∷ []
  walk_on (Passive.assume t) = []
  walk_on (Passive.assert t) = []
  walk_on (a then b) = walk_on a ++ walk_on b
  walk_on (Passive.choice o a xs b ys) = if goes_on a && equal xs then entry o 0 ++ walk_on a else entry o 1 ++ walk_on b

  -- The walk looking for the wrong: in a sequence the left if that goes wrong, else the left going on and then the right; in a choice the
  -- first side that goes wrong.
  unfoldable pub walk_wrong : Passive → List ℕ
  walk_wrong Passive.skip = []
  walk_wrong (Passive.havoced x) = []
  walk_wrong (Passive.assume t) = []
  walk_wrong (Passive.assert t) = []
  walk_wrong (a then b) = if goes_wrong a then walk_wrong a else walk_on a ++ walk_wrong b
  walk_wrong (Passive.choice o a xs b ys) = if goes_wrong a then entry o 0 ++ walk_wrong a else entry o 1 ++ walk_wrong b

-- the packet, from the first variables, and the choices
abbrev pub packet_of : List ℕ → List ℕ → List ℕ
packet_of p valuation = take (length (packet_widths p)) valuation

abbrev pub choices_of : List ℕ → List ℕ → List ℕ → List ℕ
choices_of p r valuation = let q = passive p r in walk_wrong (bits_in q.after.widths valuation) q.body
