-- What an accepted pipeline's rules and defaults call is there, and its body is well formed with the data. Assumes nothing.
use Prim.Native.Nat.{ℕ, ◌<◌}
use mathlib.Core.Path.{◌≡◌, refl}
use mathlib.Core.List.{List}
use Rattle.std.specs.Prelude.{Option, Some, None}
use Rattle.model.specs.Lists.{word}
use Rattle.model.specs.Blocks.{A, N, T, R, root, widths, call_at, call_place, default_place}
use Rattle.model.specs.Trees.{called}
use Rattle.model.specs.Tables.{call_of}
use Rattle.model.specs.Good.{Good}
use Rattle.model.specs.Demands.{Accepted}
use Rattle.model.proofs.Accepted.{rows, call_fits, table_fits, rule_fits, accepted-good}
use Rattle.actions.specs.declared.Action.{Action}
use Rattle.actions.specs.Scopes.{IsStatement, Calls, program_scope, statement_of}

module _ (p r : List ℕ) (accepted : Accepted p r) where
  pub root-statement : IsStatement p r program_scope (root p)
  root-statement =
      let good = accepted-good p r accepted in
      record { accepted = accepted; below = good.root_below; good = good.program_good }

  pub rule_there : (i : ℕ) → i < R r → word r (call_place r i) < A p
  rule_there i k = (call_fits p (call_at r (call_place r i)) (rule_fits p r (rows p r accepted) i k).2).0

  pub default_there : (t : ℕ) → t < T p → word p (default_place p t) < A p
  default_there t l = (call_fits p (call_at p (default_place p t)) (table_fits p r (rows p r accepted) t l).2).0

  pub hit-fits : (x : Option ℕ) (t : ℕ) → ((i : ℕ) → x ≡ Some i → i < R r) → t < T p
      → ((call_of p r t x).action < A p) × Good (widths p) 0 (called p (call_of p r t x))
  hit-fits (Some i) t below l = let k = below i refl in (rule_there i k, (accepted-good p r accepted).rule_good i k t)
  hit-fits None t below l = (default_there t l, (accepted-good p r accepted).default_good t l)

  -- the body of what is called
  module _ {t : ℕ} (l : t < T p) {h : Option ℕ} (below : (i : ℕ) → h ≡ Some i → i < R r) (a : Action) (c : Calls p a (call_of p r t h)) where
    pub called_is : statement_of p a.scope a.body ≡ called p (call_of p r t h)
    called_is = rw (c.given, c.body)

    body_below : a.body < N p
    body_below = rw c.body ((accepted-good p r accepted).body_below _ (hit-fits h t below l).0)

    body-good : Good (widths p) 0 (statement_of p a.scope a.body)
    body-good = rw called_is (hit-fits h t below l).1

    pub body-statement : IsStatement p r a.scope a.body
    body-statement = record { accepted = accepted; below = body_below; good = rw c.inside body-good }
