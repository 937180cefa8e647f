-- Tables: a chain is exact for the first rule that hits. Assumes nothing.
use Prim.Native.Nat.{ℕ, zero, suc, ◌<◌}
use native.Mathlib.Nat.{not-suc-le-zero}
use mathlib.Core.Path.{◌≡◌, refl}
use mathlib.Core.Bool.{Bool, true, false}
use mathlib.Core.List.{List, [], ◌∷◌}
use Rattle.bits.specs.Width as bits
use Rattle.std.specs.Prelude.{if◌then◌else◌, Some, None}
use Rattle.model.specs.Lists.{every, word}
use Rattle.model.specs.Blocks.{T, Call, widths, key_count, key, table_of, value, mask}
use Rattle.model.specs.Trees.{truth_of, bits_in, program, called}
use Rattle.model.specs.Good.{Good}
use Rattle.model.specs.Tables.{matches, first_that, tried, call_of}
use Rattle.model.specs.Runs as runs
use Rattle.model.specs.Runs.{State, run, run_table}
use Rattle.model.specs.Passive as passive
use Rattle.model.specs.Passive.{Vars, Form, JoinRule, passify, key_tests, matching, body_form, chain_form, table_form}
use Rattle.model.proofs.Every.{All}
use Rattle.model.proofs.Accepted.{WellFormed, OfTable, tried-below}
use Rattle.model.proofs.Joins.{JoinLaws}
use Rattle.model.proofs.Runs.{Run, whether}
use Rattle.model.proofs.Statements.{ExactForm, exact_chain, exact_same, exact-statement}

-- m says of a packet that the rule matches
module _ (p r : List ℕ) (packet : List ℕ) (i : ℕ) where
  keys_match : (n : ℕ)
      → every (λ j. bits.under (mask r i j) (value r i j) (word packet (key p (table_of r i) j))) n
      ≡ truth_of (bits_in (widths p) packet) (key_tests p r i n)
  unfolding every key_tests truth_of
  keys_match zero = refl
  keys_match (suc n) = rw (keys_match n)

  rule-matches : matches p r packet i ≡ truth_of (bits_in (widths p) packet) (matching p r i)
  unfolding matches
  rule-matches = keys_match (key_count p (table_of r i))

module _ (p r : List ℕ) (w : WellFormed p r) (rule : JoinRule) (laws : JoinLaws rule) where
  abbrev Exactly : Run → (Vars → Form) → Type 0
  Exactly go make = ExactForm (widths p) w.widths_good go make

  -- an action with its data
  abbrev acts : Call → Run
  acts c s = run (widths p) runs.no_apply (called p c) s

  exact-body : (c : Call) → Good (widths p) 0 (called p c) → Exactly (acts c) (body_form p r rule c)
  exact-body c g = exact-statement (widths p) w.widths_good rule laws runs.no_apply passive.no_apply 0 (λ t h. absurd (not-suc-le-zero h)) (called p c) g

  module _ (t : ℕ) (there : t < T p) where
    -- the first of some rules that matches, or the default
    abbrev first_of : List ℕ → Run
    first_of is s = acts (call_of p r t (first_that (matches p r s.packet) is)) s

    exact-rules : (is : List ℕ) → All (OfTable r t) is → Exactly (first_of is) (chain_form p r rule t is)
    unfolding first_that chain_form
    exact-rules [] h = exact-body (call_of p r t None) (w.default_good t there)
    exact-rules (i ∷ is) h =
        exact_same (widths p) w.widths_good (whether (λ packet. matches p r packet i) here (first_of is)) (first_of (i ∷ is))
        (chain_form p r rule t (i ∷ is)) (λ s. go s (matches p r s.packet i))
        (exact_chain (widths p) w.widths_good rule laws here (first_of is) (body_form p r rule (call_of p r t (Some i))) (chain_form p r rule t is)
        (exact-body (call_of p r t (Some i)) (w.rule_good i h.0.0 t)) (exact-rules is h.1)
        (λ packet. matches p r packet i) (matching p r i) (w.matching_good i h.0.0) (λ packet. rule-matches p r packet i))
      where
        here : Run
        here = acts (call_of p r t (Some i))

        go : (s : State) (b : Bool) → acts (call_of p r t (if b then Some i else first_that (matches p r s.packet) is)) s ≡ (if b then here s else first_of is s)
        go s true = refl
        go s false = refl

    pub exact_table : Exactly (run_table p r t) (table_form p r rule t)
    exact_table = exact-rules (tried r t) (tried-below r t)

  -- the whole pipeline's statement
  pub exact-program : Exactly (run (widths p) (run_table p r) (program p)) (passify (widths p) rule (table_form p r rule) (program p))
  exact-program = exact-statement (widths p) w.widths_good rule laws (run_table p r) (table_form p r rule) (T p) exact_table (program p) w.program_good
