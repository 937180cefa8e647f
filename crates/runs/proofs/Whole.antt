-- From the packet that is lent to the run of the pipeline. Assumes nothing.
use Prim.Native.Nat.{ℕ, ◌≤◌}
use native.Mathlib.Omega.{arith}
use mathlib.Core.Path.{◌≡◌, sym, ap, ◌∙◌}
use mathlib.Core.List.{List, []}
use lib.ListN.{length, take, drop}
use lib.Seq.{take-append_seam}
use Rattle.std.specs.Prelude.{Result}
use Rattle.model.specs.Blocks.{F, root, widths}
use Rattle.model.specs.Good.{Within}
use Rattle.model.specs.Runs.{State, state, packet_widths, start_packet, start, pipeline_run}
use Rattle.model.specs.Calls.{over}
use Rattle.model.specs.Demands.{Accepted}
use Rattle.model.specs.declared.Refusal.{Refusal}
use Rattle.model.proofs.Within.{within-length}
use Rattle.model.proofs.Accepted.{accepted-good}
use Rattle.actions.specs.Scopes.{program_scope}
use Rattle.actions.proofs.Actions.{root-statement}
use Rattle.states.specs.declared.State.{State as Held}
use Rattle.states.specs.declared.End.{End}
use Rattle.states.specs.States.{held, state_in, Answers}
use Rattle.runs.specs.Runnable.{run_of, Runnable}

-- the packet stands at the start of the 32 words
pub started : (packet ws before : List ℕ) → ws ≡ over packet before → (p choices : List ℕ) → length packet ≡ F p
    → state_in p choices (held ws 0) ≡ start p packet choices
started packet ws before e p choices d =
    let words : take (F p) ws ≡ packet = ap (λ n. take n ws) (sym d) ∙ ap (take (length packet)) e ∙ take-append_seam packet (drop (length packet) before) in
    ap (λ xs. state xs choices 0) words

module _ (p r packet : List ℕ) (accepted : Accepted p r) (within : Within (packet_widths p) packet) where
  packet_long : length packet ≡ F p
  packet_long = within-length (widths p) packet within ∙ (accepted-good p r accepted).widths_length

  -- the packet that a run starts with is within the fields' widths
  start-within : Within (widths p) (start_packet p packet)
  start-within = within

  pub packet_few : length packet ≤ 32
  packet_few = omega (arith, packet_long, (accepted-good p r accepted).counts.most_fields)

  module _ (s : Held) (b : (q choices : List ℕ) → length packet ≡ F q → state_in q choices s ≡ start q packet choices)
      (n : ℕ) (e : n ≡ root p) where
    pub root_runs : Runnable p r program_scope s n
    root_runs = record {
      statement = rw e (root-statement p r accepted);
      within = rw (ap (λ (z : State). z.packet) (b p [] packet_long)) start-within;
    }

    pub runs_whole : (choices : List ℕ) (y : Result End Refusal) → Answers p choices y (run_of p r program_scope n (state_in p choices s)) → Answers p choices y (pipeline_run p r packet choices)
    unfolding pipeline_run
    runs_whole choices y h = rw (← b p choices packet_long, ← e) h
