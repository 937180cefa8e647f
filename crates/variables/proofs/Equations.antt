-- The equations of one side, one field after the other. Assumes nothing.
use Prim.Native.Nat.{ℕ, suc, ◌+◌, ◌≤◌, ◌<◌}
use native.Mathlib.Numerals.{add-one}
use native.Mathlib.Nat.{add-zero, suc_inj}
use native.Mathlib.Omega.{arith}
use mathlib.Core.Path.{◌≡◌, refl, sym, ap, ◌∙◌}
use mathlib.Core.Bool.{Bool, true, false}
use mathlib.Core.List.{List, [], ◌∷◌, ◌++◌}
use borrow.Author.Tests.{eq-eqb, ne_eqb}
use lib.Dec.{eqb}
use lib.ListN.{length, take, get_or, length-append}
use lib.Seq.{take-suc, take_all, length-take-le}
use Rattle.std.specs.Prelude.{if◌then◌else◌}
use Rattle.model.specs.Passive.{Equation, equations}
use Rattle.model.specs.Emit.{Side, past, form_limit, emit_equations}
use Rattle.pieces.specs.Pieces.{Emitted, Start}
use Rattle.pieces.proofs.Pieces.{lent, back, nothing}
use Rattle.variables.specs.declared.Tied.{Tied}
use Rattle.variables.specs.Sides.{Ties, equation_nodes}
use Rattle.variables.proofs.Behind.{behind_fit, length_back}

abbrev pub tied : ℕ → ℕ → Tied
tied at side = record { at = at; side = side }

-- ---- the definitions at lists that are put together

taken : (t : Bool) (e : Equation) (es fs : List Equation) → (if t then es ++ fs else e ∷ (es ++ fs)) ≡ (if t then es else e ∷ es) ++ fs
taken true e es fs = refl
taken false e es fs = refl

equations-append : (xs zs xs' zs' : List ℕ) → length xs ≡ length zs → equations (xs ++ xs') (zs ++ zs') ≡ equations xs zs ++ equations xs' zs'
unfolding equations
equations-append [] [] xs' zs' e = refl
equations-append [] (z ∷ zs) xs' zs' e = absurd (omega arith)
equations-append (x ∷ xs) [] xs' zs' e = absurd (omega arith)
equations-append (x ∷ xs) (z ∷ zs) xs' zs' e =
    rw (equations-append xs zs xs' zs' (suc_inj e)) (taken (eqb x z) _ (equations xs zs) (equations xs' zs'))

-- equations behind equations, over the node `over`
abbrev both : List Equation → ℕ → ℕ → List Equation → ℕ → Side
both es side at fs over =
    let x = emit_equations es side at in
    let y = emit_equations fs over (past at x.nodes) in
    record { nodes = x.nodes ++ y.nodes; side = y.side }

emit-append : (es fs : List Equation) (side at : ℕ) → emit_equations (es ++ fs) side at ≡ both es side at fs (emit_equations es side at).side
unfolding emit_equations
emit-append [] fs side at = rw (add-zero at)
emit-append (e ∷ es) fs side at =
    let x = emit_equations es (at + 4) (at + 5) in
    let far : at + suc (suc (suc (suc (suc (length x.nodes))))) ≡ past (at + 5) x.nodes = omega arith in
    rw (emit-append es fs (at + 4) (at + 5), far)

-- ---- ties

no-equations : (side at : ℕ) (area : List ℕ) → Ties [] side at area area (tied at side)
unfolding emit_equations
no-equations side at area = record { emitted = nothing at area; onto = λ h. refl }

pub same_variable : {own joined side at : ℕ} {area : List ℕ} → own ≡ joined
    → Ties (equations (own ∷ []) (joined ∷ [])) side at area area (tied at side)
unfolding equations
same_variable {own} {joined} {side} {at} {area} e = rw (eq-eqb own joined e) (no-equations side at area)

pub one_equation : {own joined side at to : ℕ} {before after : List ℕ} → (own ≡ joined → ⊥)
    → Emitted (equation_nodes own joined side at) at before after to → Ties (equations (own ∷ []) (joined ∷ [])) side at before after (tied to (at + 4))
unfolding equations emit_equations
one_equation {own} {joined} d e = rw (ne_eqb own joined d) (record { emitted = e; onto = λ h. refl })

-- ---- equations behind a side's equations

module _ {es : List Equation} {side at s : ℕ} {before mid : List ℕ} {t : Tied} (x : Ties es side at before mid t) (same : length mid ≡ length before)
    (st : Start at t.at (length mid) s) where
  -- they are over the node `over`, where the first ones fit
  module _ {fs : List Equation} {own : ℕ} {ys : List ℕ} {u : Tied} (over : ℕ) (y : Ties fs own t.at (lent s mid) ys u)
      (fit : past at (emit_equations es side at).nodes ≤ form_limit → own ≡ over) where
    asked : past at (emit_equations es side at).nodes ≤ form_limit
        → emit_equations fs own t.at ≡ emit_equations fs over (past at (emit_equations es side at).nodes)
    asked h = rw (fit h, x.emitted.exact h)

    both_length : length (both es side at fs over).nodes
        ≡ length (emit_equations es side at).nodes + length (emit_equations fs over (past at (emit_equations es side at).nodes)).nodes
    both_length = length-append (emit_equations es side at).nodes _

    pub both_emitted : Emitted (both es side at fs over).nodes at before (back s mid ys) u.at
    both_emitted = behind_fit x.emitted same st y.emitted (λ h. ap (λ (z : Side). z.nodes) (asked h))

    pub both_fit : past at (both es side at fs over).nodes ≤ form_limit → past at (emit_equations es side at).nodes ≤ form_limit
    both_fit h = omega (arith, both_length)

    pub both_onto : past at (both es side at fs over).nodes ≤ form_limit → u.side ≡ (both es side at fs over).side
    both_onto h =
        let k = both_fit h in
        let fits : past t.at (emit_equations fs own t.at).nodes ≤ form_limit = rw (asked k, x.emitted.exact k) (omega (arith, both_length)) in
        y.onto fits ∙ ap (λ (z : Side). z.side) (asked k)

  -- of the same side
  pub tie_behind : {fs : List Equation} {ys : List ℕ} {u : Tied} → Ties fs t.side t.at (lent s mid) ys u
      → Ties (es ++ fs) side at before (back s mid ys) u
  tie_behind {fs} y =
      let over = (emit_equations es side at).side in
      record {
        emitted = rw (emit-append es fs side at) (both_emitted over y x.onto);
        onto = rw (emit-append es fs side at) (both_onto over y x.onto);
      }

-- ---- all fields

-- the equations of the first i fields are there
pub record Tying (own joined : List ℕ) (node at : ℕ) (before : List ℕ) (i to side : ℕ) (area : List ℕ) : Type 0 where
  pub ties : Ties (equations (take i own) (take i joined)) node at before area (tied to side)
  pub within : i ≤ length own
  pub same : length area ≡ length before

module _ {own joined : List ℕ} {node at : ℕ} {before : List ℕ} where
  pub begins : Tying own joined node at before 0 at node before
  unfolding equations
  begins = record { ties = no-equations node at before; within = omega arith; same = refl }

  module _ {i to side : ℕ} {area : List ℕ} (sizes : length own ≡ length joined) (k : Tying own joined node at before i to side area) where
    pub goes_on : {s : ℕ} {ys : List ℕ} {t : Tied} → i < length own → Start at to (length area) s
        → Ties (equations (get_or own i 0 ∷ []) (get_or joined i 0 ∷ [])) side to (lent s area) ys t → length ys ≡ length (lent s area)
        → Tying own joined node at before (i + 1) t.at t.side (back s area ys)
    goes_on {s} {ys} {t} h st x kept =
        let sized : length (take i own) ≡ length (take i joined) = length-take-le i own (omega arith) ∙ sym (length-take-le i joined (omega arith)) in
        record {
          ties =
              rw (add-one i, take-suc own i 0 h, take-suc joined i 0 (omega arith), equations-append (take i own) (take i joined) _ _ sized)
              (tie_behind k.ties k.same st x);
          within = omega arith;
          same = length_back s area ys st.within kept ∙ k.same;
        }

    pub ends : length own ≤ i → Ties (equations own joined) node at before area (tied to side)
    ends h =
        let all : i ≡ length own = omega (arith, k.within) in
        let x : take i own ≡ own = take_all i own h in
        let y : take i joined ≡ joined = take_all i joined (omega arith) in
        rw (x, y) at k.ties
