-- One use more, and none, as the bytes that count them change. Assumes nothing.
use Prim.Native.Nat.{ℕ, ◌+◌, ◌<◌, ◌≤◌}
use native.Mathlib.Numerals.{add-one}
use native.Mathlib.Omega.{arith}
use mathlib.Core.Path.{◌≡◌, refl, ap, sym, ◌∙◌}
use mathlib.Core.Bool.{Bool, true, false}
use mathlib.Core.List.{List, [], ◌∷◌, ◌++◌, append-nil, append_assoc}
use lib.Dec.{eqb, ltb}
use lib.ListN.{length, take, get_or, set, replicate, length-set, length-replicate, get_or-replicate}
use lib.Seq.{get_or-set_same, get_or-set_other}
use borrow.Author.Tests.{ne_eqb, eqb-true, eqb-false, le-ltb, ltb-true, ltb-false}
use Rattle.std.specs.Prelude.{Option, None, if◌then◌else◌}
use Rattle.model.specs.Lists.{word, each, joined, times}
use Rattle.model.specs.Blocks.{N, A, root, pipeline_node, body}
use Rattle.model.specs.Nodes.{children}
use Rattle.model.specs.Refusals.{uses}
use Rattle.model.proofs.Times.{times-append, times-same, times_other}
use Rattle.uses.specs.Counts.{there, all_there, capped, Counted, Adds}
use Rattle.uses.proofs.There.{all_there-next}

capped_low : (n : ℕ) → n ≤ 2 → capped n ≡ n
unfolding capped
capped_low n h = go (ltb n 2) refl
  where
    go : (b : Bool) → ltb n 2 ≡ b → (if b then n else 2) ≡ n
    go true e = refl
    go false e = omega (arith, ltb-false n 2 e)

capped_high : (n : ℕ) → 2 ≤ n → capped n ≡ 2
unfolding capped
capped_high n h = rw (le-ltb n 2 h)

-- a count that is below 2 is raised, one that is 2 stays
capped_raised : (n : ℕ) → capped n < 2 → capped (n + 1) ≡ capped n + 1
capped_raised n h = go (ltb n 2) refl
  where
    go : (b : Bool) → ltb n 2 ≡ b → capped (n + 1) ≡ capped n + 1
    go true e = let l = ltb-true n 2 e in omega (arith, capped_low n (omega arith), capped_low (n + 1) (omega arith))
    go false e = absurd (omega (arith, capped_high n (ltb-false n 2 e)))

capped_stays : (n : ℕ) → 2 ≤ capped n → capped (n + 1) ≡ capped n
capped_stays n h = go (ltb n 2) refl
  where
    go : (b : Bool) → ltb n 2 ≡ b → capped (n + 1) ≡ capped n
    go true e = let l = ltb-true n 2 e in absurd (omega (arith, capped_low n (omega arith)))
    go false e = let l = ltb-false n 2 e in omega (arith, capped_high n l, capped_high (n + 1) (omega arith))

-- exactly once
capped-once : (n : ℕ) → eqb (capped n) 1 ≡ eqb n 1
capped-once n = go (ltb n 2) refl
  where
    go : (b : Bool) → ltb n 2 ≡ b → eqb (capped n) 1 ≡ eqb n 1
    go true e = let l = ltb-true n 2 e in rw (capped_low n (omega arith))
    go false e = let l = ltb-false n 2 e in rw (capped_high n l, ne_eqb n 1 (λ d. omega arith))

-- one use of x: the others' bytes are as before, and its own is raised or stays
module _ (x : ℕ) (before after : List ℕ) (sized : length after ≡ length before)
    (same : (n : ℕ) → x < length before → word before x ≡ capped n → word after x ≡ capped (n + 1))
    (other : (y : ℕ) → (y ≡ x → ⊥) → word after y ≡ word before y) where
  one_more : Adds (x ∷ []) before after
  one_more = record { more = λ xs h. record { sized = sized ∙ h.sized; at = λ y l. go xs y h.sized l (h.at y l) (eqb y x) refl } }
    where
      go : (xs : List ℕ) (y : ℕ) → length before ≡ 1024 → y < 1024 → word before y ≡ capped (times y xs) → (b : Bool) → eqb y x ≡ b
          → word after y ≡ capped (times y (xs ++ (x ∷ [])))
      go xs y size l e true d =
          let s = eqb-true y x d in
          rw (times-append y xs (x ∷ []), times-same y x s, s) (same (times x xs) (omega arith) (rw s at e))
      go xs y size l e false d =
          let s = eqb-false y x d in
          let none : times y (xs ++ (x ∷ [])) ≡ times y xs = omega (arith, times-append y xs (x ∷ []), times_other y x s) in
          rw none (other y s ∙ e)

module _ (x : ℕ) (counts : List ℕ) where
  pub adds_raised : word counts x < 2 → Adds (x ∷ []) counts (set counts x (word counts x + 1))
  adds_raised h =
      one_more x counts (set counts x (word counts x + 1)) (length-set counts x (word counts x + 1))
      (λ n l e. get_or-set_same counts x (word counts x + 1) 0 l ∙ ap (λ (m : ℕ). m + 1) e ∙ sym (capped_raised n (omega arith)))
      (λ y d. get_or-set_other counts x y (word counts x + 1) 0 d)

  pub adds_full : 2 ≤ word counts x → Adds (x ∷ []) counts counts
  adds_full h = one_more x counts counts refl (λ n l e. e ∙ sym (capped_stays n (omega arith))) (λ y d. refl)

  pub adds_past : 1024 ≤ x → Adds (x ∷ []) counts counts
  adds_past h =
      record {
        more = λ xs k. record {
          sized = k.sized;
          at = λ y l.
              let none : times y (xs ++ (x ∷ [])) ≡ times y xs = omega (arith, times-append y xs (x ∷ []), times_other y x (λ e. omega arith)) in
              rw none (k.at y l);
        };
      }

-- none, and some after some
pub adds_none : {counts : List ℕ} → Adds [] counts counts
adds_none = record { more = λ xs h. rw append-nil h }

pub adds_both : {xs ys before between after : List ℕ} → Adds xs before between → Adds ys between after → Adds (xs ++ ys) before after
adds_both {xs} {ys} h k = record { more = λ zs c. rw (← append_assoc zs xs ys) (k.more (zs ++ xs) (h.more zs c)) }

-- one child more, if it is there
pub adds_next : (xs : List (Option ℕ)) (i : ℕ) {x : Option ℕ} {before between after : List ℕ} → i < length xs → get_or xs i None ≡ x
    → Adds (all_there (take i xs)) before between → Adds (there x) between after → Adds (all_there (take (i + 1) xs)) before after
adds_next xs i l e h k = rw (all_there-next xs i l, e) (adds_both h k)

-- in a loop: none at the start, and those of the next place
module _ (f : ℕ → List ℕ) where
  pub joined-none : {counts : List ℕ} → Adds (joined f 0) counts counts
  unfolding joined
  joined-none = adds_none

  pub joined-next : (i : ℕ) {before between after : List ℕ} → Adds (joined f i) before between → Adds (f i) between after → Adds (joined f (i + 1)) before after
  unfolding joined
  joined-next i h k = rw add-one (adds_both h k)

module _ (f : ℕ → ℕ) where
  pub each-none : {counts : List ℕ} → Adds (each f 0) counts counts
  unfolding each
  each-none = adds_none

  pub each-next : (i : ℕ) {before between after : List ℕ} → Adds (each f i) before between → Adds (f i ∷ []) between after → Adds (each f (i + 1)) before after
  unfolding each
  each-next i h k = rw add-one (adds_both h k)

-- before anything is counted
pub counted_none : Counted (replicate 1024 0) []
unfolding capped times
counted_none = record { sized = length-replicate {A = ℕ} 1024 0; at = λ x h. get_or-replicate {A = ℕ} 1024 x 0 0 h }

-- whether a number is there exactly once
pub counted_once : {counts xs : List ℕ} → Counted counts xs → (i : ℕ) → i < 1024 → eqb (word counts i) 1 ≡ eqb (times i xs) 1
counted_once {counts} {xs} h i l = rw (h.at i l) (capped-once (times i xs))

-- the children, the bodies and the root are all uses
pub counted-uses : (p : List ℕ) {nodes bodies all : List ℕ} {last : ℕ} → Adds (joined (λ i. children (pipeline_node p i)) (N p)) (replicate 1024 0) nodes
    → Adds (each (body p) (A p)) nodes bodies → last ≡ root p → Adds (last ∷ []) bodies all → Counted all (uses p)
unfolding uses
counted-uses p h k e l = (adds_both (adds_both h k) (rw e at l)).more [] counted_none
