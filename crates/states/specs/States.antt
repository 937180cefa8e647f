-- How the state and the ending that the code keeps by value stand for those of a run's definition. Assumes nothing: these are definitions.
use Rattle.std.specs.Prelude.{ℕ, ◌≤◌, ◌<◌, ◌≡◌, List, eqb, ltb, length, take, drop, if◌then◌else◌, Result, Ok, Err, MatchResult}
use Rattle.model.specs.Lists.{word}
use Rattle.model.specs.Blocks.{F, widths}
use Rattle.model.specs.Good.{Within}
use Rattle.model.specs.Runs.{State, state, Outcome, passed, blocked, failed}
use Rattle.model.specs.Answers.{told, refusal_of}
use Rattle.model.specs.Calls.{ended, end_values}
use Rattle.model.specs.declared.Refusal.{Refusal}
use Rattle.values.specs.Ready.{Ready}
use Rattle.states.specs.declared.State.{State as Held}
use Rattle.states.specs.declared.Ending.{Ending}
use Rattle.states.specs.declared.End.{End}

-- the packet is the first F of the 32 words, and the entries that are left are those after the used ones
abbrev pub packet_in : List ℕ → Held → List ℕ
packet_in p s = take (F p) s.packet

abbrev pub held : List ℕ → ℕ → Held
held packet used = record { packet = packet; used = used }

abbrev pub state_in : List ℕ → List ℕ → Held → State
state_in p choices s = state (packet_in p s) (drop s.used choices) s.used

abbrev pub outcome_by : Ending → State → Outcome
outcome_by Ending.Passed s = passed s
outcome_by (Ending.Blocked n) s = blocked n s
outcome_by (Ending.Failed n) s = failed n s

abbrev pub end_of : Held → Ending → End
end_of s how = record { state = s; how = how }

-- how a statement ends that goes on, ends or is refused where it stands
abbrev pub ends_by : Held → Result Ending Refusal → Result End Refusal
ends_by s (Ok how) = Ok (end_of s how)
ends_by s (Err why) = Err why

-- what a run relies on of the block and of where it stands
pub record Stands (p : List ℕ) (s : Held) : Type 0 where
  pub ready : Ready p (packet_in p s)
  pub few : F p ≤ 32

-- an ending stands for an outcome; the packet is still within the fields' widths
pub record EndsAs (p choices : List ℕ) (e : End) (o : Outcome) : Type 0 where
  pub outcome : outcome_by e.how (state_in p choices e.state) ≡ o
  pub within : Within (widths p) (packet_in p e.state)

-- a refusal stands for an outcome that is told by its number and place
abbrev pub RefusedAs : Refusal → Outcome → Type 0
RefusedAs why o = refusal_of why ≡ told end_values (ended o)

abbrev pub Answers : List ℕ → List ℕ → Result End Refusal → Outcome → Type 0
Answers p choices x o = MatchResult x (λ e. EndsAs p choices e o) (λ why. RefusedAs why o)

-- the next entry; a refusal's place is the number of entries used
abbrev pub Next : List ℕ → ℕ → Result ℕ Refusal → Type 0
Next choices used x = MatchResult x (λ entry. (used < length choices) × (entry ≡ word choices used)) (λ why. (length choices ≤ used) × (why ≡ Refusal.Short used))

-- the side that an entry takes, of nodes a and b; that of the next entry
abbrev pub side_of : ℕ → ℕ → ℕ → ℕ → Result ℕ Refusal
side_of used a b entry = if eqb entry 0 then Ok a else if eqb entry 1 then Ok b else Err (Refusal.Entry used)

unfoldable pub side_at : List ℕ → ℕ → ℕ → ℕ → Result ℕ Refusal
side_at choices used a b = if ltb used (length choices) then side_of used a b (word choices used) else Err (Refusal.Short used)
