-- Document 01, "Runs": how a pipeline ends on a packet and a choice list. Assumes nothing: these are definitions.
use Rattle.std.specs.Prelude.{ℕ, zero, suc, List, [], ◌∷◌, get_or, set, if◌then◌else◌}
use Rattle.bits.specs.Width.{fits}
use Rattle.model.specs.Blocks.{widths}
use Rattle.model.specs.Trees.{Stmt, bits_of, truth_of, bits_in, program, called}
use Rattle.model.specs.Tables.{hit, call_of}

-- where a run stands: the packet, the entries that are left, and how many were used
pub record State : Type 0 where
  pub packet : List ℕ
  pub left : List ℕ
  pub used : ℕ

abbrev pub state : List ℕ → List ℕ → ℕ → State
state packet left used = record { packet = packet; left = left; used = used }

abbrev pub put : State → ℕ → ℕ → State
put s f n = state (set s.packet f n) s.left s.used

-- blocked and failed at a node; refused with a number and a place
pub data Outcome : Type 0 where
  passed : State → Outcome
  blocked failed : ℕ → State → Outcome
  refused : ℕ → ℕ → Outcome

-- only a run that has passed goes on
abbrev pub and_then : Outcome → (State → Outcome) → Outcome
and_then (passed s) go = go s
and_then (blocked n s) go = blocked n s
and_then (failed n s) go = failed n s
and_then (refused number place) go = refused number place

-- the next entry: 14 where the list is too short
abbrev pub with_next : List ℕ → List ℕ → ℕ → (ℕ → State → Outcome) → Outcome
with_next packet [] used go = refused 14 used
with_next packet (entry ∷ left) used go = go entry (state packet left (suc used))

-- 0 for a and 1 for b; 15 at any other entry
abbrev pub take_side : ℕ → ℕ → (State → Outcome) → (State → Outcome) → State → Outcome
take_side place zero a b s = a s
take_side place (suc zero) a b s = b s
take_side place (suc (suc entry)) a b s = refused 15 place

-- the entry as the value of field f, of width w; 15 where it doesn't fit
abbrev pub take_value : ℕ → ℕ → ℕ → ℕ → State → Outcome
take_value place w f entry s = if fits w entry then passed (put s f entry) else refused 15 place

-- `ws` are the fields' widths, and `on_apply` says how a table is applied
module _ (ws : List ℕ) (on_apply : ℕ → State → Outcome) where
  unfoldable pub run : Stmt → State → Outcome
  run Stmt.skip s = passed s
  run (Stmt.assign f v) s = passed (put s f (bits_of (bits_in ws s.packet) v).number)
  run (Stmt.havoc f) s = with_next s.packet s.left s.used (take_value s.used (get_or ws f 0) f)
  run (Stmt.assume n t) s = if truth_of (bits_in ws s.packet) t then passed s else blocked n s
  run (Stmt.assert n t) s = if truth_of (bits_in ws s.packet) t then passed s else failed n s
  run (Stmt.sequence a b) s = and_then (run a s) (run b)
  run (Stmt.choice a b) s = with_next s.packet s.left s.used (λ entry. take_side s.used entry (run a) (run b))
  run (Stmt.apply t) s = on_apply t s

-- action bodies hold no apply
abbrev pub no_apply : ℕ → State → Outcome
no_apply t s = passed s

-- Apply: the action of the rule that hits, or of the default, runs with its data.
abbrev pub run_table : List ℕ → List ℕ → ℕ → State → Outcome
run_table p r t s = run (widths p) no_apply (called p (call_of p r t (hit p r s.packet t))) s

-- the widths of the packet's values; the packet of F values and the state that a run starts from
abbrev pub packet_widths : List ℕ → List ℕ
packet_widths p = widths p

abbrev pub start_packet : List ℕ → List ℕ → List ℕ
start_packet p packet = packet

abbrev pub start : List ℕ → List ℕ → List ℕ → State
start p packet choices = state (start_packet p packet) choices 0

-- the run of a pipeline with its rules
unfoldable pub pipeline_run : List ℕ → List ℕ → List ℕ → List ℕ → Outcome
pipeline_run p r packet choices = run (widths p) (run_table p r) (program p) (start p packet choices)
