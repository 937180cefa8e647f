-- Widths that are written behind those of the variables so far. Assumes nothing.
use Prim.Native.Nat.{ℕ, ◌+◌, ◌≤◌, ◌<◌}
use native.Mathlib.Omega.{arith}
use mathlib.Core.Path.{◌≡◌, ap, sym, ◌∙◌}
use mathlib.Core.List.{List, [], ◌∷◌, ◌++◌}
use lib.ListN.{length, take, get_or, set, length-append, length-drop}
use lib.Seq.{sets, sets-eq, length-sets, take-append_seam, drop-append-add, drop-drop, take-set-lt}
use Rattle.model.specs.Blocks.{F, width, widths}
use Rattle.model.specs.Passive as passive
use Rattle.model.specs.Passive.{next}
use Rattle.model.specs.Calls.{over}
use Rattle.model.proofs.Lists.{length-each, each_at}
use Rattle.variables.specs.declared.Vars.{Vars}
use Rattle.variables.specs.Variables.{Holds, vars}

-- ---- the widths

pub all-fields : (p ws : List ℕ) → ws ≡ widths p → length ws ≡ F p
all-fields p ws e = ap length e ∙ length-each (width p) (F p)

put-behind : (ws vs lent : List ℕ) → length ws + length vs ≤ length lent → sets (over ws lent) (length ws) vs ≡ over (ws ++ vs) lent
put-behind ws vs lent h =
    let long : length ws + length vs ≤ length (over ws lent) = simp (length-append, length-drop) (omega arith) in
    rw (sets-eq vs (over ws lent) (length ws) long, take-append_seam, drop-append-add, drop-drop, length-append)

module _ {p lent area : List ℕ} {v : Vars} {s : passive.Vars} (h : Holds p lent area v s) where
  -- variables after some new ones, whose widths are vs
  pub more : (vs zs : List ℕ) {area' : List ℕ} {z : Vars} → area' ≡ sets area (next s) vs → take (F p) z.current ≡ zs
      → z.next ≡ next s + length vs → Holds p lent area' z (passive.vars zs (s.widths ++ vs))
  more vs zs put now count =
      let both : length (s.widths ++ vs) ≡ next s + length vs = length-append s.widths vs in
      record {
        current = now;
        new = count ∙ sym both;
        widths = λ k. put ∙ rw (h.widths (omega arith)) (put-behind s.widths vs lent (omega arith));
        same = rw (put, length-sets) h.same;
      }

  module _ (f : ℕ) (l : f < F p) where
    fresh-current : take (F p) (set v.current f v.next) ≡ set s.current f (next s)
    fresh-current = rw (take-set-lt (F p) v.current f v.next l, h.current, h.new)

    pub fresh_holds : {w : ℕ} {area' : List ℕ} → w ≡ width p f → area' ≡ set area v.next w
        → Holds p lent area' (vars (set v.current f v.next) (v.next + 1)) (passive.fresh s f (get_or (widths p) f 0))
    fresh_holds {w} e put =
        let own : w ≡ get_or (widths p) f 0 = e ∙ sym (each_at (width p) (F p) f 0 l) in
        more (get_or (widths p) f 0 ∷ []) (set s.current f (next s)) (put ∙ rw (h.new, own)) fresh-current (omega (arith, h.new))
