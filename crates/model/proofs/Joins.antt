-- A choice's variables, over the join rule: what the theorem needs of a rule, and what follows. Assumes nothing.
use Prim.Native.Nat.{ℕ, zero, suc, ◌≤◌, ◌<◌, suc-le-suc}
use native.Mathlib.Nat.{le_refl, le_trans, lt_trans, lt_of_lt_of_le, le_of_suc-le-suc, not-suc-le-zero, zero-lt-suc, suc_inj}
use native.Mathlib.Omega.{arith}
use mathlib.Core.Path.{◌≡◌, refl, sym, ap, ◌∙◌, subst}
use mathlib.Core.Bool.{Bool, true, false}
use mathlib.Core.List.{List, [], ◌∷◌, ◌++◌, append_assoc}
use mathlib.Core.Logic.{◌⊎◌, inl, inr, ◌≢◌}
use lib.Dec.{eqb}
use lib.ListN.{get_or, length, length-append}
use lib.Seq.{get_or-append_seam}
use borrow.Author.Tests.{eqb-true, eq-eqb}
use Rattle.std.specs.Prelude.{if◌then◌else◌}
use Rattle.model.specs.Passive.{Vars, vars, next, beside, JoinRule, new_where_differs, joined_vars, new_widths}
use Rattle.model.proofs.GoodForms.{AllWidths}
use Rattle.model.proofs.Variables.{var, Front, front_trans, front_append, all_more, all_one, Ready, Steps}

-- What the theorem needs of a rule. Seen from a side, the joined variable is that side's own, or one that the other side has changed, or
-- the new one.
pub record JoinLaws (rule : JoinRule) : Type 0 where
  pub left : (b l r new : ℕ) → (rule b l r new ≡ l) ⊎ (((rule b l r new ≡ r) × (r ≢ b)) ⊎ (rule b l r new ≡ new))
  pub right : (b l r new : ℕ) → (rule b l r new ≡ r) ⊎ (((rule b l r new ≡ l) × (l ≢ b)) ⊎ (rule b l r new ≡ new))

-- document 01's rule
pub document_joins : JoinLaws new_where_differs
document_joins = record { left = λ b l r new. left b l r new (eqb l r) refl; right = λ b l r new. right b l r new (eqb l r) refl }
  where
    left : (b l r new : ℕ) (t : Bool) → eqb l r ≡ t → let z = if t then l else new in (z ≡ l) ⊎ (((z ≡ r) × (r ≢ b)) ⊎ (z ≡ new))
    left b l r new true e = inl refl
    left b l r new false e = inr (inr refl)

    right : (b l r new : ℕ) (t : Bool) → eqb l r ≡ t → let z = if t then l else new in (z ≡ r) ⊎ (((z ≡ l) × (l ≢ b)) ⊎ (z ≡ new))
    right b l r new true e = inl (eqb-true l r e)
    right b l r new false e = inr (inr refl)

bump : (m : ℕ) (t : Bool) → m ≤ (if t then suc m else m)
bump m true = omega arith
bump m false = le_refl m

-- a variable is there, and has the width
abbrev HasWidth : List ℕ → ℕ → ℕ → Type 0
HasWidth widths x w = (x < length widths) × (get_or widths x 0 ≡ w)

module _ (rule : JoinRule) where
  -- the next new variable at the place i
  new_at : ℕ → List ℕ → List ℕ → List ℕ → ℕ → ℕ
  new_at m bs ls rs zero = m
  new_at m [] ls rs (suc i) = m
  new_at m (b ∷ bs) [] rs (suc i) = m
  new_at m (b ∷ bs) (l ∷ ls) [] (suc i) = m
  new_at m (b ∷ bs) (l ∷ ls) (r ∷ rs) (suc i) = new_at (if eqb (rule b l r m) m then suc m else m) bs ls rs i

  new-from : (m : ℕ) (bs ls rs : List ℕ) (i : ℕ) → m ≤ new_at m bs ls rs i
  unfolding new_at
  new-from m bs ls rs zero = le_refl m
  new-from m [] ls rs (suc i) = le_refl m
  new-from m (b ∷ bs) [] rs (suc i) = le_refl m
  new-from m (b ∷ bs) (l ∷ ls) [] (suc i) = le_refl m
  new-from m (b ∷ bs) (l ∷ ls) (r ∷ rs) (suc i) = le_trans (bump m (eqb (rule b l r m) m)) (new-from (if eqb (rule b l r m) m then suc m else m) bs ls rs i)

  -- a joined variable is what the rule says of its field
  joined_by : (m : ℕ) (bs ls rs : List ℕ) (i : ℕ) → i < length bs → length ls ≡ length bs → length rs ≡ length bs
      → get_or (joined_vars rule m bs ls rs) i 0 ≡ rule (get_or bs i 0) (get_or ls i 0) (get_or rs i 0) (new_at m bs ls rs i)
  unfolding new_at joined_vars
  joined_by m [] ls rs i h p q = absurd (not-suc-le-zero h)
  joined_by m (b ∷ bs) [] rs i h p q = let z : ⊥ = omega arith in absurd z
  joined_by m (b ∷ bs) (l ∷ ls) [] i h p q = let z : ⊥ = omega arith in absurd z
  joined_by m (b ∷ bs) (l ∷ ls) (r ∷ rs) zero h p q = refl
  joined_by m (b ∷ bs) (l ∷ ls) (r ∷ rs) (suc i) h p q = joined_by (if eqb (rule b l r m) m then suc m else m) bs ls rs i (le_of_suc-le-suc h) (suc_inj p) (suc_inj q)

  joined_length : (m : ℕ) (bs ls rs : List ℕ) → length ls ≡ length bs → length rs ≡ length bs → length (joined_vars rule m bs ls rs) ≡ length bs
  unfolding joined_vars
  joined_length m [] ls rs p q = refl
  joined_length m (b ∷ bs) [] rs p q = let z : ⊥ = omega arith in absurd z
  joined_length m (b ∷ bs) (l ∷ ls) [] p q = let z : ⊥ = omega arith in absurd z
  joined_length m (b ∷ bs) (l ∷ ls) (r ∷ rs) p q = ap suc (joined_length (if eqb (rule b l r m) m then suc m else m) bs ls rs (suc_inj p) (suc_inj q))

  -- a new variable is taken once
  new-once : (m : ℕ) (bs ls rs : List ℕ) (i j : ℕ) → i < j → j < length bs → length ls ≡ length bs → length rs ≡ length bs
      → get_or (joined_vars rule m bs ls rs) i 0 ≡ new_at m bs ls rs i → new_at m bs ls rs i < new_at m bs ls rs j
  unfolding new_at joined_vars
  new-once m [] ls rs i j h h' p q e = absurd (not-suc-le-zero h')
  new-once m (b ∷ bs) [] rs i j h h' p q e = let z : ⊥ = omega arith in absurd z
  new-once m (b ∷ bs) (l ∷ ls) [] i j h h' p q e = let z : ⊥ = omega arith in absurd z
  new-once m (b ∷ bs) (l ∷ ls) (r ∷ rs) i zero h h' p q e = absurd (not-suc-le-zero h)
  new-once m (b ∷ bs) (l ∷ ls) (r ∷ rs) zero (suc j) h h' p q e = rw (eq-eqb (rule b l r m) m e) (new-from (suc m) bs ls rs j)
  new-once m (b ∷ bs) (l ∷ ls) (r ∷ rs) (suc i) (suc j) h h' p q e =
      new-once (if eqb (rule b l r m) m then suc m else m) bs ls rs i j (le_of_suc-le-suc h) (le_of_suc-le-suc h') (suc_inj p) (suc_inj q) e

  -- and it has the field's width
  new-width : (before : List ℕ) (m : ℕ) (ws bs ls rs : List ℕ) (i : ℕ) → length before ≡ m
      → i < length bs → length ls ≡ length bs → length rs ≡ length bs → length ws ≡ length bs
      → get_or (joined_vars rule m bs ls rs) i 0 ≡ new_at m bs ls rs i
      → HasWidth (before ++ new_widths m ws (joined_vars rule m bs ls rs)) (new_at m bs ls rs i) (get_or ws i 0)
  unfolding new_at joined_vars new_widths
  new-width before m ws [] ls rs i k h p q d e = absurd (not-suc-le-zero h)
  new-width before m ws (b ∷ bs) [] rs i k h p q d e = let z : ⊥ = omega arith in absurd z
  new-width before m ws (b ∷ bs) (l ∷ ls) [] i k h p q d e = let z : ⊥ = omega arith in absurd z
  new-width before m [] (b ∷ bs) (l ∷ ls) (r ∷ rs) i k h p q d e = let z : ⊥ = omega arith in absurd z
  new-width before m (w ∷ ws) (b ∷ bs) (l ∷ ls) (r ∷ rs) zero k h p q d e =
      rw (eq-eqb (rule b l r m) m e) (seam before m w _ k)
    where
      seam : (before : List ℕ) (m w : ℕ) (rest : List ℕ) → length before ≡ m → HasWidth (before ++ w ∷ rest) m w
      seam before m w rest k = (omega (arith, length-append before (w ∷ rest)), rw (← k) (get_or-append_seam before w rest 0))
  new-width before m (w ∷ ws) (b ∷ bs) (l ∷ ls) (r ∷ rs) (suc i) k h p q d e =
      go (eqb (rule b l r m) m) (λ pre n j. new-width pre n ws bs ls rs i j (le_of_suc-le-suc h) (suc_inj p) (suc_inj q) (suc_inj d)) e
    where
      go : (t : Bool)
          → ((pre : List ℕ) (n : ℕ) → length pre ≡ n → get_or (joined_vars rule n bs ls rs) i 0 ≡ new_at n bs ls rs i
          → HasWidth (pre ++ new_widths n ws (joined_vars rule n bs ls rs)) (new_at n bs ls rs i) (get_or ws i 0))
          → let n = if t then suc m else m in
          get_or (joined_vars rule n bs ls rs) i 0 ≡ new_at n bs ls rs i
          → HasWidth (before ++ (if t then w ∷ new_widths (suc m) ws (joined_vars rule n bs ls rs) else new_widths m ws (joined_vars rule n bs ls rs))) (new_at n bs ls rs i) (get_or ws i 0)
      go true rec x =
          subst (λ (l : List ℕ). HasWidth l (new_at (suc m) bs ls rs i) (get_or ws i 0)) (append_assoc before (w ∷ []) _)
          (rec (before ++ (w ∷ [])) (suc m) (omega (arith, length-append before (w ∷ []))) x)
      go false rec x = rec before m k x

new-sized : (m : ℕ) (ws zs : List ℕ) → AllWidths ws → AllWidths (new_widths m ws zs)
unfolding new_widths
new-sized m [] zs s = λ i h. absurd (not-suc-le-zero h)
new-sized m (w ∷ ws) [] s = λ i h. absurd (not-suc-le-zero h)
new-sized m (w ∷ ws) (z ∷ zs) s = go (eqb z m) (λ n. new-sized n ws zs (λ j k. s (suc j) (suc-le-suc k)))
  where
    go : (t : Bool) → ((n : ℕ) → AllWidths (new_widths n ws zs)) → AllWidths (if t then w ∷ new_widths (suc m) ws zs else new_widths m ws zs)
    go true rec = all_more (w ∷ []) (new_widths (suc m) ws zs) (all_one w (s zero (zero-lt-suc _))) (rec (suc m))
    go false rec = rec m

-- Where a joined variable comes from, seen from a side: its own, one from a bound on, that the other side brought, or the new one.
abbrev Source : ℕ → ℕ → ℕ → ℕ → ℕ → Type 0
Source z own other bound new = (z ≡ own) ⊎ (((z ≡ other) × (bound ≤ other)) ⊎ (z ≡ new))

source : (z own other new b bound : ℕ) → (z ≡ own) ⊎ (((z ≡ other) × (other ≢ b)) ⊎ (z ≡ new)) → (other ≡ b) ⊎ (bound ≤ other)
    → Source z own other bound new
source z own other new b bound (inl x) m = inl x
source z own other new b bound (inr (inl x)) (inl m) = absurd (x.1 m)
source z own other new b bound (inr (inl x)) (inr m) = inr (inl (x.0, m))
source z own other new b bound (inr (inr x)) m = inr (inr x)

-- the variables after a choice
abbrev pub joined_after : List ℕ → JoinRule → Vars → Vars → Vars → Vars
joined_after ws rule e l r = let zs = joined_vars rule (next r) e.current l.current r.current in vars zs (r.widths ++ new_widths (next r) ws zs)

pub joined_front : (ws : List ℕ) (rule : JoinRule) (e l r : Vars) (widths : List ℕ) → Front (joined_after ws rule e l r).widths widths
    → Front r.widths widths
joined_front ws rule e l r widths front = front_trans (front_append r.widths _) front

-- both sides of a choice, from the variables before it: the right one starts from those, numbering on
pub record TwoSides (ws : List ℕ) (e l r : Vars) : Type 0 where
  pub before : Ready ws e
  pub left_ready : Ready ws l
  pub right_ready : Ready ws r
  pub left : Steps ws e l
  pub right : Steps ws (beside e l) r

module _ (ws : List ℕ) (rule : JoinRule) (laws : JoinLaws rule) (sizes : AllWidths ws) (e l r : Vars) (s : TwoSides ws e l r) where
  abbrev after : Vars
  after = joined_after ws rule e l r

  abbrev new : ℕ → ℕ
  new i = new_at rule (next r) e.current l.current r.current i

  left-size : length l.current ≡ length e.current
  left-size = s.left_ready.size ∙ sym s.before.size

  right-size : length r.current ≡ length e.current
  right-size = s.right_ready.size ∙ sym s.before.size

  by_rule : (i : ℕ) → i < length ws → var after i ≡ rule (var e i) (var l i) (var r i) (new i)
  by_rule i h = joined_by rule (next r) e.current l.current r.current i (rw s.before.size h) left-size right-size

  from-left : (i : ℕ) → i < length ws → Source (var after i) (var l i) (var r i) (next l) (new i)
  from-left i h = rw (by_rule i h) (source _ _ _ _ _ _ (laws.left (var e i) (var l i) (var r i) (new i)) (s.right.moved i h))

  from-right : (i : ℕ) → i < length ws → Source (var after i) (var r i) (var l i) (next e) (new i)
  from-right i h = rw (by_rule i h) (source _ _ _ _ _ _ (laws.right (var e i) (var l i) (var r i) (new i)) (s.left.moved i h))

  after-left : next l ≤ next r
  after-left = s.right.front.shorter

  after-right : Front r.widths after.widths
  after-right = front_append r.widths _

  new_late : (i : ℕ) → next r ≤ new i
  new_late i = new-from rule (next r) e.current l.current r.current i

  -- a joined variable is there and has its field's width
  has_width : (i : ℕ) → i < length ws → Source (var after i) (var l i) (var r i) (next l) (new i)
      → HasWidth after.widths (var after i) (get_or ws i 0)
  has_width i h (inl x) =
      let f = front_trans s.right.front after-right in
      rw x (lt_of_lt_of_le (s.left_ready.low i h) f.shorter, f.same (var l i) (s.left_ready.low i h) ∙ s.left_ready.wide i h)
  has_width i h (inr (inl x)) =
      rw x.0 (lt_of_lt_of_le (s.right_ready.low i h) after-right.shorter, after-right.same (var r i) (s.right_ready.low i h) ∙ s.right_ready.wide i h)
  has_width i h (inr (inr x)) =
      let there : i < length e.current = rw s.before.size h in
      rw x (new-width rule r.widths (next r) ws e.current l.current r.current i refl there left-size right-size (sym s.before.size) x)

  module _ (i j : ℕ) (h : i < j) (k : j < length ws) where
    in_left : var l i < next l
    in_left = s.left_ready.low i (lt_trans h k)

    in_right : var r i < next r
    in_right = s.right_ready.low i (lt_trans h k)

    joined_apart : Source (var after i) (var l i) (var r i) (next l) (new i) → Source (var after j) (var l j) (var r j) (next l) (new j)
        → var after i ≢ var after j
    joined_apart (inl x) (inl y) p = s.left_ready.apart i j h k (sym x ∙ p ∙ y)
    joined_apart (inl x) (inr (inl y)) p = let z : ⊥ = omega (arith, in_left, y.0, y.1) in z
    joined_apart (inl x) (inr (inr y)) p = let z : ⊥ = omega (arith, in_left, after-left, new_late j) in z
    joined_apart (inr (inl x)) (inl y) p = let z : ⊥ = omega (arith, x.0, x.1, s.left_ready.low j k) in z
    joined_apart (inr (inl x)) (inr (inl y)) p = s.right_ready.apart i j h k (sym x.0 ∙ p ∙ y.0)
    joined_apart (inr (inl x)) (inr (inr y)) p = let z : ⊥ = omega (arith, x.0, in_right, new_late j) in z
    joined_apart (inr (inr x)) (inl y) p = let z : ⊥ = omega (arith, after-left, new_late i, s.left_ready.low j k) in z
    joined_apart (inr (inr x)) (inr (inl y)) p = let z : ⊥ = omega (arith, y.0, new_late i, s.right_ready.low j k) in z
    joined_apart (inr (inr x)) (inr (inr y)) p =
        let z : ⊥ = omega (arith, new-once rule (next r) e.current l.current r.current i j h (rw s.before.size k) left-size right-size x) in z

  pub ready-joined : Ready ws after
  ready-joined = record {
    size = joined_length rule (next r) e.current l.current r.current left-size right-size ∙ s.before.size;
    low = λ i h. (has_width i h (from-left i h)).0;
    wide = λ i h. (has_width i h (from-left i h)).1;
    apart = λ i j h k. joined_apart i j h k (from-left i (lt_trans h k)) (from-left j k);
    sized = all_more r.widths _ s.right_ready.sized (new-sized (next r) ws after.current sizes);
  }

  -- a joined variable that is not the side's own is one that the side doesn't see
  pub left_apart : (i : ℕ) → i < length ws → (var after i ≡ var l i) ⊎ (next l ≤ var after i)
  left_apart i h = go (from-left i h)
    where
      go : Source (var after i) (var l i) (var r i) (next l) (new i) → (var after i ≡ var l i) ⊎ (next l ≤ var after i)
      go (inl x) = inl x
      go (inr (inl x)) = inr (rw x.0 x.1)
      go (inr (inr x)) = inr (rw x (le_trans after-left (new_late i)))

  pub right_apart : (i : ℕ) → i < length ws → (var after i ≡ var r i) ⊎ (((next e ≤ var after i) × (var after i < next l)) ⊎ (next r ≤ var after i))
  right_apart i h = go (from-right i h)
    where
      go : Source (var after i) (var r i) (var l i) (next e) (new i)
          → (var after i ≡ var r i) ⊎ (((next e ≤ var after i) × (var after i < next l)) ⊎ (next r ≤ var after i))
      go (inl x) = inl x
      go (inr (inl x)) = inr (inl (rw x.0 x.1, rw x.0 (s.left_ready.low i h)))
      go (inr (inr x)) = inr (inr (rw x (new_late i)))

  pub steps_joined : Steps ws e after
  steps_joined = record {
    front = front_trans s.left.front (front_trans s.right.front after-right);
    moved = λ i h. go i (left_apart i h) (s.left.moved i h);
  }
    where
      go : (i : ℕ) → (var after i ≡ var l i) ⊎ (next l ≤ var after i) → (var l i ≡ var e i) ⊎ (next e ≤ var l i)
          → (var after i ≡ var e i) ⊎ (next e ≤ var after i)
      go i (inl x) (inl y) = inl (x ∙ y)
      go i (inl x) (inr y) = inr (rw x y)
      go i (inr x) y = inr (le_trans s.left.front.shorter x)
