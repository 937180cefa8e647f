-- How runs are put together. A run is a function from states to outcomes, so that a statement's, an action's and a table's are alike.
-- Assumes nothing.
use Prim.Native.Nat.{ℕ, suc, ◌+◌}
use native.Mathlib.Nat.{add-suc, suc-add, add_assoc}
use mathlib.Core.Path.{◌≡◌, ap, ◌∙◌}
use mathlib.Core.Bool.{Bool}
use mathlib.Core.List.{List, ◌∷◌, ◌++◌, append_assoc}
use lib.ListN.{length, length-append}
use Rattle.std.specs.Prelude.{if◌then◌else◌}
use Rattle.model.specs.Runs.{State, state, Outcome, passed, failed, and_then, with_next, take_side}

abbrev pub Run : Type 0
Run = State → Outcome

-- left then right; a choice of two; one of two by a test of the packet
abbrev pub in_order : Run → Run → Run
in_order a b s = and_then (a s) b

abbrev pub either_of : Run → Run → Run
either_of a b s = with_next s.packet s.left s.used (λ entry. take_side s.used entry a b)

abbrev pub whether : (List ℕ → Bool) → Run → Run → Run
whether test a b s = if test s.packet then a s else b s

-- the run from the packet on the choices, whatever stands after them, passes with another packet and uses them up
pub record Goes (go : Run) (packet choices packet' : List ℕ) : Type 0 where
  pub goes : (rest : List ℕ) (u : ℕ) → go (state packet (choices ++ rest) u) ≡ passed (state packet' rest (u + length choices))

-- it fails, at some node with some packet, and uses them up
pub record Fails (go : Run) (packet choices : List ℕ) : Type 0 where
  pub node : ℕ
  pub last : List ℕ
  pub fails : (rest : List ℕ) (u : ℕ) → go (state packet (choices ++ rest) u) ≡ failed node (state last rest (u + length choices))

after-left : (a b : Run) {p c p' : List ℕ} (d : List ℕ) → Goes a p c p'
    → (rest : List ℕ) (u : ℕ) → in_order a b (state p ((c ++ d) ++ rest) u) ≡ b (state p' (d ++ rest) (u + length c))
after-left a b d x rest u = rw (append_assoc, x.goes (d ++ rest) u)

module _ (a b : Run) {p c : List ℕ} where
  pub goes_both : {d p' p'' : List ℕ} → Goes a p c p' → Goes b p' d p'' → Goes (in_order a b) p (c ++ d) p''
  goes_both {d} x y = record { goes = λ rest u. after-left a b d x rest u ∙ y.goes rest (u + length c) ∙ rw (length-append, add_assoc) }

  pub fails_right : {d p' : List ℕ} → Goes a p c p' → Fails b p' d → Fails (in_order a b) p (c ++ d)
  fails_right {d} x y = record {
    node = y.node;
    last = y.last;
    fails = λ rest u. after-left a b d x rest u ∙ y.fails rest (u + length c) ∙ rw (length-append, add_assoc);
  }

  pub fails_left : Fails a p c → Fails (in_order a b) p c
  fails_left x = record { node = x.node; last = x.last; fails = λ rest u. ap (λ (o : Outcome). and_then o b) (x.fails rest u) }

  pub goes_first : {p' : List ℕ} → Goes a p c p' → Goes (either_of a b) p (0 ∷ c) p'
  goes_first x = record { goes = λ rest u. x.goes rest (suc u) ∙ rw (add-suc, suc-add) }

  pub goes_second : {p' : List ℕ} → Goes b p c p' → Goes (either_of a b) p (1 ∷ c) p'
  goes_second x = record { goes = λ rest u. x.goes rest (suc u) ∙ rw (add-suc, suc-add) }

  pub fails_first : Fails a p c → Fails (either_of a b) p (0 ∷ c)
  fails_first x = record { node = x.node; last = x.last; fails = λ rest u. x.fails rest (suc u) ∙ rw (add-suc, suc-add) }

  pub fails_second : Fails b p c → Fails (either_of a b) p (1 ∷ c)
  fails_second x = record { node = x.node; last = x.last; fails = λ rest u. x.fails rest (suc u) ∙ rw (add-suc, suc-add) }

-- two runs that do the same from every state with a packet
module _ (a b : Run) {p c : List ℕ} (same : (left : List ℕ) (u : ℕ) → a (state p left u) ≡ b (state p left u)) where
  pub goes_same : {p' : List ℕ} → Goes b p c p' → Goes a p c p'
  goes_same x = record { goes = λ rest u. same (c ++ rest) u ∙ x.goes rest u }

  pub fails_same : Fails b p c → Fails a p c
  fails_same x = record { node = x.node; last = x.last; fails = λ rest u. same (c ++ rest) u ∙ x.fails rest u }
