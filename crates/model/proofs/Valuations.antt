-- Valuations as functions: those that agree on the first variables, and those changed at a choice's variables. Assumes nothing.
use Prim.Native.Nat.{ℕ, zero, suc, ◌^◌, ◌≤◌, ◌<◌, suc-le-suc}
use native.Mathlib.Nat.{lt_of_lt_of_le, le_of_suc-le-suc, not-suc-le-zero, zero-lt-suc, suc_inj}
use native.Mathlib.Omega.{arith}
use mathlib.Core.Path.{◌≡◌, refl, sym, ap, ap₂, ◌∙◌}
use mathlib.Core.Bool.{Bool, true, false}
use mathlib.Core.List.{List, [], ◌∷◌, map}
use mathlib.Core.Logic.{◌⊎◌, inl, inr, ◌≢◌}
use lib.Dec.{eqb}
use lib.ListN.{get_or, length}
use borrow.Author.Tests.{eqb-true, eqb-false, eq-eqb, ne_eqb}
use Rattle.std.specs.Prelude.{if◌then◌else◌}

-- the second agrees with the first on the variables below n
abbrev pub Agree : ℕ → (ℕ → ℕ) → (ℕ → ℕ) → Type 0
Agree n v w = (x : ℕ) → x < n → w x ≡ v x

pub agree_refl : (v : ℕ → ℕ) (n : ℕ) → Agree n v v
agree_refl v n x h = refl

pub agree_less : {n m : ℕ} {v w : ℕ → ℕ} → n ≤ m → Agree m v w → Agree n v w
agree_less h a x k = a x (lt_of_lt_of_le k h)

pub agree_trans : {n m : ℕ} {u v w : ℕ → ℕ} → n ≤ m → Agree n u v → Agree m v w → Agree n u w
agree_trans h a b x k = b x (lt_of_lt_of_le k h) ∙ a x k

pub map_agree : (v w : ℕ → ℕ) (xs : List ℕ) → ((i : ℕ) → i < length xs → w (get_or xs i 0) ≡ v (get_or xs i 0)) → map w xs ≡ map v xs
map_agree v w [] f = refl
map_agree v w (x ∷ xs) f = ap₂ (λ (y : ℕ) (l : List ℕ). y ∷ l) (f zero (zero-lt-suc _)) (map_agree v w xs (λ i h. f (suc i) (suc-le-suc h)))

-- one variable changed
unfoldable pub changed : (ℕ → ℕ) → ℕ → ℕ → ℕ → ℕ
changed v n c x = if eqb x n then c else v x

pub changed_here : (v : ℕ → ℕ) (n c : ℕ) → changed v n c n ≡ c
unfolding changed
changed_here v n c = rw (eq-eqb n n refl)

pub changed_below : (v : ℕ → ℕ) (n c : ℕ) → Agree n v (changed v n c)
unfolding changed
changed_below v n c x h = rw (ne_eqb x n (λ e. omega arith))

-- the variables `zs` settled the values `cs`, except where they are a side's own, `xs`
unfoldable pub settled : (ℕ → ℕ) → List ℕ → List ℕ → List ℕ → ℕ → ℕ
settled v [] zs cs y = v y
settled v (x ∷ xs) [] cs y = v y
settled v (x ∷ xs) (z ∷ zs) [] y = v y
settled v (x ∷ xs) (z ∷ zs) (c ∷ cs) y =
    let rest = settled v xs zs cs y in
    if eqb x z then rest else if eqb y z then c else rest

-- a variable that is none of those, or has its value already, stays
pub settled_keeps : (v : ℕ → ℕ) (xs zs cs : List ℕ) (y : ℕ)
    → ((i : ℕ) → i < length zs → y ≡ get_or zs i 0 → (get_or zs i 0 ≡ get_or xs i 0) ⊎ (v y ≡ get_or cs i 0)) → settled v xs zs cs y ≡ v y
unfolding settled
settled_keeps v [] zs cs y f = refl
settled_keeps v (x ∷ xs) [] cs y f = refl
settled_keeps v (x ∷ xs) (z ∷ zs) [] y f = refl
settled_keeps v (x ∷ xs) (z ∷ zs) (c ∷ cs) y f =
    let rec = settled_keeps v xs zs cs y (λ i h. f (suc i) (suc-le-suc h)) in
    go rec (eqb x z) refl (eqb y z) refl
  where
    here : x ≢ z → y ≡ z → (z ≡ x) ⊎ (v y ≡ c) → c ≡ v y
    here h e (inl k) = absurd (h (sym k))
    here h e (inr k) = sym k

    go : settled v xs zs cs y ≡ v y → (s : Bool) → eqb x z ≡ s → (t : Bool) → eqb y z ≡ t
        → (if s then settled v xs zs cs y else if t then c else settled v xs zs cs y) ≡ v y
    go rec true e t e' = rec
    go rec false e true e' = let k = eqb-true y z e' in here (eqb-false x z e) k (f zero (zero-lt-suc _) k)
    go rec false e false e' = rec

-- each of them has its value
pub settled_at : (v : ℕ → ℕ) (xs zs cs : List ℕ) (i : ℕ) → i < length zs → length xs ≡ length zs → length cs ≡ length zs
    → ((j k : ℕ) → j < k → k < length zs → get_or zs j 0 ≢ get_or zs k 0)
    → (get_or zs i 0 ≡ get_or xs i 0 → v (get_or xs i 0) ≡ get_or cs i 0) → settled v xs zs cs (get_or zs i 0) ≡ get_or cs i 0
unfolding settled
settled_at v xs [] cs i h p q apart own = absurd (not-suc-le-zero h)
settled_at v [] (z ∷ zs) cs i h p q apart own = let b : ⊥ = omega arith in absurd b
settled_at v (x ∷ xs) (z ∷ zs) [] i h p q apart own = let b : ⊥ = omega arith in absurd b
settled_at v (x ∷ xs) (z ∷ zs) (c ∷ cs) zero h p q apart own = go (eqb x z) refl
  where
    tail : settled v xs zs cs z ≡ v z
    tail = settled_keeps v xs zs cs z (λ i k e. absurd (apart zero (suc i) (zero-lt-suc _) (suc-le-suc k) e))

    go : (s : Bool) → eqb x z ≡ s → (if s then settled v xs zs cs z else if eqb z z then c else settled v xs zs cs z) ≡ c
    go true e = let k = eqb-true x z e in tail ∙ ap v (sym k) ∙ own (sym k)
    go false e = rw (eq-eqb z z refl)
settled_at v (x ∷ xs) (z ∷ zs) (c ∷ cs) (suc i) h p q apart own =
    go (settled_at v xs zs cs i (le_of_suc-le-suc h) (suc_inj p) (suc_inj q) (λ j k a b. apart (suc j) (suc k) (suc-le-suc a) (suc-le-suc b)) own) (eqb x z)
  where
    other : eqb (get_or zs i 0) z ≡ false
    other = ne_eqb _ _ (λ e. apart zero (suc i) (zero-lt-suc _) h (sym e))

    go : settled v xs zs cs (get_or zs i 0) ≡ get_or cs i 0 → (s : Bool)
        → (if s then settled v xs zs cs (get_or zs i 0) else if eqb (get_or zs i 0) z then c else settled v xs zs cs (get_or zs i 0)) ≡ get_or cs i 0
    go rec true = rec
    go rec false = rw other rec

-- valuations within the variables' widths
module _ (widths : List ℕ) where
  abbrev pub Fits : (ℕ → ℕ) → Type 0
  Fits v = (x : ℕ) → v x < 2 ^ get_or widths x 0

  pub changed_fits : (v : ℕ → ℕ) (n c : ℕ) → Fits v → c < 2 ^ get_or widths n 0 → Fits (changed v n c)
  unfolding changed
  changed_fits v n c f h x = go (eqb x n) refl
    where
      go : (b : Bool) → eqb x n ≡ b → (if b then c else v x) < 2 ^ get_or widths x 0
      go true e = rw (eqb-true x n e) h
      go false e = f x

  pub settled_fits : (v : ℕ → ℕ) (xs zs cs : List ℕ) → Fits v → ((i : ℕ) → i < length zs → get_or cs i 0 < 2 ^ get_or widths (get_or zs i 0) 0)
      → Fits (settled v xs zs cs)
  unfolding settled
  settled_fits v [] zs cs f h y = f y
  settled_fits v (x ∷ xs) [] cs f h y = f y
  settled_fits v (x ∷ xs) (z ∷ zs) [] f h y = f y
  settled_fits v (x ∷ xs) (z ∷ zs) (c ∷ cs) f h y = go (settled_fits v xs zs cs f (λ i k. h (suc i) (suc-le-suc k)) y) (eqb x z) (eqb y z) refl
    where
      go : settled v xs zs cs y < 2 ^ get_or widths y 0 → (s t : Bool) → eqb y z ≡ t
          → (if s then settled v xs zs cs y else if t then c else settled v xs zs cs y) < 2 ^ get_or widths y 0
      go rec true t e = rec
      go rec false true e = rw (eqb-true y z e) (h zero (zero-lt-suc _))
      go rec false false e = rec
