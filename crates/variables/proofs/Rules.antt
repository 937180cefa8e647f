-- The variables of a join, field by field, for any join rule. Assumes nothing.
use Prim.Native.Nat.{ℕ, suc, ◌+◌, ◌≤◌, ◌<◌}
use native.Mathlib.Numerals.{add-one}
use native.Mathlib.Nat.{add-zero}
use native.Mathlib.Omega.{arith}
use mathlib.Core.Path.{◌≡◌, refl, sym, ◌∙◌}
use mathlib.Core.Bool.{Bool, true, false}
use mathlib.Core.List.{List, [], ◌∷◌, ◌++◌, append_assoc, append-nil}
use lib.Dec.{eqb}
use lib.ListN.{length, take, drop, get_or, set, length-set, drop_of_length-le}
use lib.Seq.{sets, drop-cons, take-suc-set}
use Rattle.std.specs.Prelude.{if◌then◌else◌}
use Rattle.model.specs.Passive.{JoinRule, joined_vars, new_widths}
use Rattle.variables.specs.Variables.{vars}
use Rattle.variables.specs.Sides.{Sized, Numbered, JoinsVars}

-- ---- one field

-- the next new variable behind one that is new, or not
abbrev after : Bool → ℕ → ℕ
after t new = if t then suc new else new

bumped : (t : Bool) (new : ℕ) → after t new ≤ new + 1
bumped true new = omega arith
bumped false new = omega arith

module _ (w : ℕ) (ws zs : List ℕ) (new : ℕ) where
  counted : (t : Bool) → new + length (if t then w ∷ new_widths (suc new) ws zs else new_widths new ws zs)
      ≡ after t new + length (new_widths (after t new) ws zs)
  counted true = omega arith
  counted false = refl

  stored : (area : List ℕ) (t : Bool) → sets area new (if t then w ∷ new_widths (suc new) ws zs else new_widths new ws zs)
      ≡ sets (if t then set area new w else area) (after t new) (new_widths (after t new) ws zs)
  stored area true = refl
  stored area false = refl

-- ---- all fields

-- what is left from place i on, where `next` is the next new variable
abbrev rest : JoinRule → List ℕ → List ℕ → List ℕ → ℕ → ℕ → List ℕ
rest rule bs ls rs i next = joined_vars rule next (drop i bs) (drop i ls) (drop i rs)

-- the first i fields are joined
pub record Joining (rule : JoinRule) (ws bs ls rs : List ℕ) (new : ℕ) (before : List ℕ) (i : ℕ) (current : List ℕ) (next : ℕ) (area : List ℕ)
    : Type 0 where
  pub joined : joined_vars rule new bs ls rs ≡ take i current ++ rest rule bs ls rs i next
  pub number : new + length (new_widths new ws (joined_vars rule new bs ls rs)) ≡ next + length (new_widths next (drop i ws) (rest rule bs ls rs i next))
  pub written : sets before new (new_widths new ws (joined_vars rule new bs ls rs)) ≡ sets area next (new_widths next (drop i ws) (rest rule bs ls rs i next))
  pub sized : Sized ws bs ls rs
  pub within : i ≤ length ws
  pub most : next ≤ new + i
  pub long : length current ≡ 32
  pub same : length area ≡ length before

module _ {rule : JoinRule} {ws bs ls rs : List ℕ} {new : ℕ} {before current : List ℕ} where
  pub begins : Sized ws bs ls rs → length current ≡ 32 → Joining rule ws bs ls rs new before 0 current new before
  begins z e = record {
    joined = refl;
    number = refl;
    written = refl;
    sized = z;
    within = omega arith;
    most = omega arith;
    long = e;
    same = refl;
  }

  module _ {i next : ℕ} {area : List ℕ} (s : Joining rule ws bs ls rs new before i current next area) where
    pub goes_on : {z next' : ℕ} {area' : List ℕ} → i < length ws → z ≡ rule (get_or bs i 0) (get_or ls i 0) (get_or rs i 0) next
        → Numbered z next (get_or ws i 0) area area' next' → length area' ≡ length area
        → Joining rule ws bs ls rs new before (i + 1) (set current i z) next' area'
    unfolding joined_vars new_widths
    goes_on {z} {next'} {area'} h e n kept =
        let b = drop-cons bs i 0 (omega (arith, s.sized.before)) in
        let l = drop-cons ls i 0 (omega (arith, s.sized.left)) in
        let r = drop-cons rs i 0 (omega (arith, s.sized.right)) in
        let w = drop-cons ws i 0 h in
        let t = eqb z next in
        let more = rest rule bs ls rs (suc i) (after t next) in
        let place : i < length current = omega (arith, s.long, s.sized.few) in
        let front : take (i + 1) (set current i z) ≡ take i current ++ (z ∷ []) = rw (add-one i) (take-suc-set current i z place) in
        let one : rest rule bs ls rs i next ≡ z ∷ rest rule bs ls rs (i + 1) next' = rw (n.number, e, add-one i, b, l, r) in
        record {
          joined = s.joined ∙ rw (one, front, append_assoc);
          number = s.number ∙ rw (one, w, n.number, add-one i) (counted (get_or ws i 0) (drop (suc i) ws) more next t);
          written = s.written ∙ rw (one, w, n.number, n.written, add-one i) (stored (get_or ws i 0) (drop (suc i) ws) more next area t);
          sized = s.sized;
          within = omega arith;
          most = rw n.number (omega (arith, bumped t next, s.most));
          long = length-set current i z ∙ s.long;
          same = kept ∙ s.same;
        }

    pub ends : length ws ≤ i → JoinsVars rule ws bs ls rs new before area (vars current next)
    unfolding joined_vars new_widths
    ends h =
        let all : i ≡ length ws = omega (arith, s.within) in
        let none : drop i bs ≡ [] = drop_of_length-le bs {i = i} (omega (arith, s.sized.before)) in
        let last : drop i ws ≡ [] = drop_of_length-le ws {i = i} h in
        record {
          joined = sym (s.joined ∙ rw (none, append-nil, all));
          number = sym (s.number ∙ rw (none, last, add-zero));
          written = sym (s.written ∙ rw (none, last));
          most = omega (arith, s.most);
        }
