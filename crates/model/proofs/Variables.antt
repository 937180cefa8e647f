-- The variables that a form hands out: each field has its own, of the field's width, and new ones come after the old. Assumes nothing.
use Prim.Native.Nat.{ℕ, zero, suc, ◌≤◌, ◌<◌, suc-le-suc}
use native.Mathlib.Nat.{le_refl, le_trans, lt_of_lt_of_le, le_of_suc-le-suc, zero-lt-suc, not-suc-le-zero, lt_trans}
use native.Mathlib.Omega.{arith}
use mathlib.Core.Path.{◌≡◌, refl, sym, ◌∙◌}
use mathlib.Core.Bool.{Bool, true, false}
use mathlib.Core.List.{List, [], ◌∷◌, ◌++◌}
use mathlib.Core.Logic.{◌⊎◌, inl, inr, ◌≢◌}
use lib.Dec.{eqb}
use lib.ListN.{get_or, set, length, length-append, length-set, get_or-append}
use lib.Seq.{get_or-append_seam, get_or-set_same, get_or-set_other}
use borrow.Author.Tests.{eqb-true, eqb-false}
use Rattle.model.specs.Good.{Width}
use Rattle.model.specs.Passive.{Vars, next, fresh, beside}
use Rattle.model.proofs.GoodForms.{AllWidths}

-- the field's current variable
abbrev pub var : Vars → ℕ → ℕ
var e i = get_or e.current i 0

-- a list that another goes on from
pub record Front (l m : List ℕ) : Type 0 where
  pub shorter : length l ≤ length m
  pub same : (x : ℕ) → x < length l → get_or m x 0 ≡ get_or l x 0

pub front_refl : (l : List ℕ) → Front l l
front_refl l = record { shorter = le_refl _; same = λ x h. refl }

pub front_trans : {l m n : List ℕ} → Front l m → Front m n → Front l n
front_trans a b = record {
  shorter = le_trans a.shorter b.shorter;
  same = λ x h. b.same x (lt_of_lt_of_le h a.shorter) ∙ a.same x h;
}

pub front_append : (l m : List ℕ) → Front l (l ++ m)
front_append l m = record { shorter = omega (arith, length-append l m); same = λ x h. get_or-append l m 0 x h }

-- a new variable's number and width
pub fresh-next : (e : Vars) (f w : ℕ) → suc (next e) ≡ next (fresh e f w)
fresh-next e f w = omega (arith, length-append e.widths (w ∷ []))

pub fresh_there : (e : Vars) (f w : ℕ) (widths : List ℕ) → Front (fresh e f w).widths widths → next e < length widths
fresh_there e f w widths front = omega (arith, fresh-next e f w, front.shorter)

pub fresh-width : (e : Vars) (f w : ℕ) (widths : List ℕ) → Front (fresh e f w).widths widths → get_or widths (next e) 0 ≡ w
fresh-width e f w widths front =
    front.same (next e) (omega (arith, fresh-next e f w)) ∙ get_or-append_seam e.widths w [] 0

-- a place of a list in which one place was set: that one, or another
pub set_cases : (l : List ℕ) (f a i : ℕ) → f < length l
    → ((i ≡ f) × (get_or (set l f a) i 0 ≡ a)) ⊎ ((i ≢ f) × (get_or (set l f a) i 0 ≡ get_or l i 0))
set_cases l f a i h = go (eqb i f) refl
  where
    go : (b : Bool) → eqb i f ≡ b → ((i ≡ f) × (get_or (set l f a) i 0 ≡ a)) ⊎ ((i ≢ f) × (get_or (set l f a) i 0 ≡ get_or l i 0))
    go true e = let k = eqb-true i f e in inl (k, rw k (get_or-set_same l f a 0 h))
    go false e = let k = eqb-false i f e in inr (k, get_or-set_other l f i a 0 k)

-- the widths of a list and of one more
pub all_more : (l m : List ℕ) → AllWidths l → AllWidths m → AllWidths (l ++ m)
all_more [] m p q i h = q i h
all_more (x ∷ l) m p q zero h = p zero (zero-lt-suc _)
all_more (x ∷ l) m p q (suc i) h = all_more l m (λ j k. p (suc j) (suc-le-suc k)) q i (le_of_suc-le-suc h)

pub all_one : (w : ℕ) → Width w → AllWidths (w ∷ [])
all_one w h zero k = h
all_one w h (suc i) k = absurd (not-suc-le-zero (le_of_suc-le-suc k))

module _ (ws : List ℕ) where
  pub record Ready (e : Vars) : Type 0 where
    pub size : length e.current ≡ length ws
    pub low : (i : ℕ) → i < length ws → var e i < next e
    pub wide : (i : ℕ) → i < length ws → get_or e.widths (var e i) 0 ≡ get_or ws i 0
    pub apart : (i j : ℕ) → i < j → j < length ws → var e i ≢ var e j
    pub sized : AllWidths e.widths

  -- from one state of the variables to a later one: a field's variable is the old one or a new one
  pub record Steps (e e' : Vars) : Type 0 where
    pub front : Front e.widths e'.widths
    pub moved : (i : ℕ) → i < length ws → (var e' i ≡ var e i) ⊎ (next e ≤ var e' i)

  pub steps_refl : (e : Vars) → Steps e e
  steps_refl e = record { front = front_refl _; moved = λ i h. inl refl }

  pub steps_trans : {a b c : Vars} → Steps a b → Steps b c → Steps a c
  steps_trans {a} {b} {c} x y = record { front = front_trans x.front y.front; moved = λ i h. go i (x.moved i h) (y.moved i h) }
    where
      go : (i : ℕ) → (var b i ≡ var a i) ⊎ (next a ≤ var b i) → (var c i ≡ var b i) ⊎ (next b ≤ var c i) → (var c i ≡ var a i) ⊎ (next a ≤ var c i)
      go i (inl p) (inl q) = inl (q ∙ p)
      go i (inr p) (inl q) = inr (rw q p)
      go i p (inr q) = inr (le_trans x.front.shorter q)

  -- the second side of a choice starts from the old variables, numbering on
  pub ready-beside : (e l : Vars) → Ready e → Ready l → Steps e l → Ready (beside e l)
  ready-beside e l k kl steps = record {
    size = k.size;
    low = λ i h. lt_of_lt_of_le (k.low i h) steps.front.shorter;
    wide = λ i h. steps.front.same (var e i) (k.low i h) ∙ k.wide i h;
    apart = k.apart;
    sized = kl.sized;
  }

  -- a new variable for the field f
  module _ (e : Vars) (f : ℕ) (sizes : AllWidths ws) (there : f < length ws) (k : Ready e) where
    abbrev after : Vars
    after = fresh e f (get_or ws f 0)

    abbrev Here : ℕ → Type 0
    Here i = ((i ≡ f) × (var after i ≡ next e)) ⊎ ((i ≢ f) × (var after i ≡ var e i))

    cases : (i : ℕ) → Here i
    cases i = set_cases e.current f (next e) i (rw k.size there)

    fresh_low : (i : ℕ) → i < length ws → Here i → var after i < next after
    fresh_low i h (inl x) = rw x.1 (omega (arith, fresh-next e f (get_or ws f 0)))
    fresh_low i h (inr x) = rw x.1 (omega (arith, fresh-next e f (get_or ws f 0), k.low i h))

    fresh_wide : (i : ℕ) → i < length ws → Here i → get_or after.widths (var after i) 0 ≡ get_or ws i 0
    fresh_wide i h (inl x) = rw (x.1, x.0) (get_or-append_seam e.widths (get_or ws f 0) [] 0)
    fresh_wide i h (inr x) = rw x.1 ((front_append e.widths _).same (var e i) (k.low i h) ∙ k.wide i h)

    fresh_apart : (i j : ℕ) → i < j → j < length ws → Here i → Here j → var after i ≢ var after j
    fresh_apart i j h h' (inl x) (inl y) p = let z : ⊥ = omega (arith, x.0, y.0) in z
    fresh_apart i j h h' (inl x) (inr y) p = let z : ⊥ = omega (arith, x.1, y.1, k.low j h') in z
    fresh_apart i j h h' (inr x) (inl y) p = let z : ⊥ = omega (arith, x.1, y.1, k.low i (lt_trans h h')) in z
    fresh_apart i j h h' (inr x) (inr y) p = k.apart i j h h' (sym x.1 ∙ p ∙ y.1)

    fresh_moved : (i : ℕ) → Here i → (var after i ≡ var e i) ⊎ (next e ≤ var after i)
    fresh_moved i (inl x) = inr (rw x.1 (le_refl _))
    fresh_moved i (inr x) = inl x.1

    pub ready-fresh : Ready after
    ready-fresh = record {
      size = length-set e.current f (next e) ∙ k.size;
      low = λ i h. fresh_low i h (cases i);
      wide = λ i h. fresh_wide i h (cases i);
      apart = λ i j h h'. fresh_apart i j h h' (cases i) (cases j);
      sized = all_more e.widths _ k.sized (all_one _ (sizes f there));
    }

    pub steps_fresh : Steps e after
    steps_fresh = record { front = front_append e.widths _; moved = λ i h. fresh_moved i (cases i) }
