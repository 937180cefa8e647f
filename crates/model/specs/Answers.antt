-- Document 01, "Numbers a call can answer": an answer is a success with its values, or a number and a place.
-- For each enum a definition gives the number and the values of every case. Assumes nothing: these are definitions.
use Rattle.std.specs.Prelude.{ℕ, Bool, true, false, List, [], ◌∷◌, Result, Ok, Err}
use Rattle.model.specs.declared.Refusal.{Refusal}
use Rattle.model.specs.declared.Blocks.{Blocks}
use Rattle.model.specs.declared.Form.{Form}
use Rattle.model.specs.declared.Part.{Part}
use Rattle.model.specs.declared.Ran.{Ran}

pub data Answer (A : Type 0) : Type 0 where
  done : A → Answer A
  refused : ℕ → ℕ → Answer A

-- what follows a success; a refusal is passed on unchanged
abbrev pub after : {A B : Type 0} → Answer A → (A → Answer B) → Answer B
after (done x) next = next x
after (refused number place) next = refused number place

-- a success told by its values
abbrev pub told : {A : Type 0} → (A → List ℕ) → Answer A → Answer (List ℕ)
told values (done x) = done (values x)
told values (refused number place) = refused number place

abbrev pub refusal_of : Refusal → Answer (List ℕ)
refusal_of (Refusal.File at) = refused 1 at
refusal_of Refusal.Counts = refused 2 0
refusal_of (Refusal.Width i) = refused 3 i
refusal_of (Refusal.Node i) = refused 4 i
refusal_of (Refusal.Action i) = refused 5 i
refusal_of (Refusal.Table i) = refused 6 i
refusal_of Refusal.Root = refused 7 0
refusal_of (Refusal.Use i) = refused 8 i
refusal_of (Refusal.Misplaced i) = refused 9 i
refusal_of (Refusal.Rule i) = refused 10 i
refusal_of (Refusal.Packet at) = refused 11 at
refusal_of (Refusal.Room need) = refused 12 need
refusal_of (Refusal.Variables at) = refused 13 at
refusal_of (Refusal.Short used) = refused 14 used
refusal_of (Refusal.Entry at) = refused 15 at
refusal_of Refusal.True = refused 16 0
refusal_of (Refusal.Condition at) = refused 17 at
refusal_of (Refusal.Form at) = refused 18 at

-- an answer's number, 0 for a success, and its values: a refusal's is its place
abbrev pub number_in : Answer (List ℕ) → ℕ
number_in (done values) = 0
number_in (refused number place) = number

abbrev pub values_in : Answer (List ℕ) → List ℕ
values_in (done values) = values
values_in (refused number place) = place ∷ []

-- a call's answer: a success by its values, or the refusal
abbrev pub answered : {A : Type 0} → (A → List ℕ) → Result A Refusal → Answer (List ℕ)
answered values (Ok x) = done (values x)
answered values (Err r) = refusal_of r

-- Load gives the two blocks' lengths
abbrev pub lengths : Blocks → List ℕ
lengths b = b.pipeline ∷ b.rules ∷ []

abbrev pub loaded : Result Blocks Refusal → Answer (List ℕ)
loaded = answered lengths

-- Check gives nothing
abbrev pub nothing : Unit {0} → List ℕ
nothing _ = []

abbrev pub checked : Result (Unit {0}) Refusal → Answer (List ℕ)
checked = answered nothing

-- Lookup gives its part: 0 for the empty one, 1 for the rules and 2 for the pipeline with the place of its first word
abbrev pub part_place : Part → List ℕ
part_place Part.Empty = 0 ∷ []
part_place (Part.Rules at) = 1 ∷ at ∷ []
part_place (Part.Pipeline at) = 2 ∷ at ∷ []

abbrev pub looked_up : Part → Answer (List ℕ)
looked_up part = done (part_place part)

-- Run gives 0 for passed, 1 for blocked, 2 for failed; the node; the entries used
abbrev pub ending : Ran → List ℕ
ending (Ran.Passed used) = 0 ∷ 0 ∷ used ∷ []
ending (Ran.Blocked node used) = 1 ∷ node ∷ used ∷ []
ending (Ran.Failed node used) = 2 ∷ node ∷ used ∷ []

abbrev pub ran : Result Ran Refusal → Answer (List ℕ)
ran = answered ending

-- Confirm and Evaluate give 1 for yes and for true, 0 for no and for false
abbrev pub yes_or_no : Bool → List ℕ
yes_or_no true = 1 ∷ []
yes_or_no false = 0 ∷ []

abbrev pub confirmed : Result Bool Refusal → Answer (List ℕ)
confirmed = answered yes_or_no

-- Passify gives n and V
abbrev pub sizes : Form → List ℕ
sizes f = f.nodes ∷ f.variables ∷ []

abbrev pub passified : Result Form Refusal → Answer (List ℕ)
passified = answered sizes

-- Condition gives its entry count, Extract the number of choices
abbrev pub count : ℕ → List ℕ
count n = n ∷ []

abbrev pub built : Result ℕ Refusal → Answer (List ℕ)
built = answered count

-- Evaluate gives the last entry's truth
abbrev pub evaluated : Result Bool Refusal → Answer (List ℕ)
evaluated = answered yes_or_no

abbrev pub extracted : Result ℕ Refusal → Answer (List ℕ)
extracted = answered count
