-- A form has no more new variables than nodes. Assumes nothing.
use Prim.Native.Nat.{ℕ, zero, suc, ◌+◌, ◌≤◌, ◌<◌, suc-le-suc}
use native.Mathlib.Nat.{zero-lt-suc, le_refl, suc_inj}
use native.Mathlib.Omega.{arith}
use mathlib.Core.Path.{◌≡◌, refl}
use mathlib.Core.Bool.{Bool, true, false}
use mathlib.Core.List.{List, [], ◌∷◌}
use lib.Dec.{eqb}
use lib.ListN.{get_or, length, length-append}
use borrow.Author.Tests.{eqb-true}
use Rattle.std.specs.Prelude.{if◌then◌else◌}
use Rattle.model.specs.Trees.{Test}
use Rattle.model.specs.Passive.{Passive, Origin, Equation, new_widths, equations, ◌then◌}
use Rattle.model.specs.Emit.{past, top, emit_equations, emit}

-- how many nodes a statement is written as, from a place on
abbrev pub size_at : Passive → ℕ → ℕ
size_at q at = length (emit q at)

pub size-assume : (t : Test) (at : ℕ) → 1 ≤ size_at (Passive.assume t) at
unfolding emit
size-assume t at = rw length-append (omega arith)

-- a sequence holds its left, and its right behind it
pub size_then : (a b : Passive) (at : ℕ) → size_at a at + size_at b (past at (emit a at)) ≤ size_at (a then b) at
unfolding emit
size_then a b at = rw (length-append, length-append) (omega arith)

pub behind-assume : (t : Test) (q : Passive) (at : ℕ) → size_at q (past at (emit (Passive.assume t) at)) ≤ size_at (Passive.assume t then q) at
behind-assume t q at = omega (arith, size_then (Passive.assume t) q at)

equation_nodes_lem : (es : List Equation) (side at : ℕ) → length es ≤ length (emit_equations es side at).nodes
unfolding emit_equations
equation_nodes_lem [] side at = le_refl 0
equation_nodes_lem (e ∷ es) side at = omega (arith, equation_nodes_lem es (at + 4) (at + 5))

-- a choice holds both sides, and its left side's equations
pub size-choice : (o : Origin) (a : Passive) (xs : List Equation) (b : Passive) (ys : List Equation) (at : ℕ)
    → size_at a at + size_at b (past at (emit a at)) + length xs ≤ size_at (Passive.choice o a xs b ys) at
unfolding emit
size-choice o a xs b ys at =
    rw (length-append, length-append, length-append)
    (omega (arith, equation_nodes_lem xs (top at (emit a at)) (past (past at (emit a at)) (emit b (past at (emit a at))))))

-- each new variable of a join has an equation on the left side, whose variables are older
pub new-equations : (m : ℕ) (ws xs zs : List ℕ) → length xs ≡ length zs → ((i : ℕ) → i < length xs → get_or xs i 0 < m)
    → length (new_widths m ws zs) ≤ length (equations xs zs)
unfolding new_widths equations
new-equations m [] xs zs e f = omega arith
new-equations m (w ∷ ws) xs [] e f = omega arith
new-equations m (w ∷ ws) [] (z ∷ zs) e f = let b : ⊥ = omega arith in absurd b
new-equations m (w ∷ ws) (x ∷ xs) (z ∷ zs) e f =
    let tail : (i : ℕ) → i < length xs → get_or xs i 0 < m = λ i h. f (suc i) (suc-le-suc h) in
    go (new-equations (suc m) ws xs zs (suc_inj e) (λ i h. omega (arith, tail i h))) (new-equations m ws xs zs (suc_inj e) tail) (eqb z m) refl (eqb x z) refl
  where
    go : length (new_widths (suc m) ws zs) ≤ length (equations xs zs) → length (new_widths m ws zs) ≤ length (equations xs zs)
        → (b : Bool) → eqb z m ≡ b → (c : Bool) → eqb x z ≡ c
        → length (if b then w ∷ new_widths (suc m) ws zs else new_widths m ws zs)
        ≤ length (if c then equations xs zs else record { own = x; joined = z } ∷ equations xs zs)
    go h k true p true q = let b : ⊥ = omega (arith, eqb-true z m p, eqb-true x z q, f zero (zero-lt-suc _)) in absurd b
    go h k true p false q = omega arith
    go h k false p true q = k
    go h k false p false q = omega arith
