-- What a key and a guard emit. Assumes nothing.
use Prim.Native.Nat.{ℕ, ◌+◌, ◌-◌, ◌≤◌, ◌<◌}
use native.Mathlib.Numerals.{add-one}
use native.Mathlib.Omega.{arith}
use mathlib.Core.Path.{◌≡◌, refl, ap, ◌∙◌}
use mathlib.Core.Bool.{Bool, true, false}
use mathlib.Core.List.{List, [], ◌∷◌}
use lib.ListN.{get_or, length}
use Rattle.model.specs.Blocks.{F, T, R, node, width, key_count, key, table_of, value, mask}
use Rattle.model.specs.Passive.{Passive, renamed_test, key_test, key_tests, matching}
use Rattle.model.specs.Emit.{emit_test, emit}
use Rattle.model.specs.Demands.{Accepted}
use Rattle.model.specs.declared.Node.{Node}
use Rattle.model.proofs.Accepted.{rows, table_fits, rule_fits}
use Rattle.pieces.specs.Pieces.{Behind}
use Rattle.pieces.proofs.Pieces.{one-behind, two-behind}
use Rattle.guards.specs.Guards.{masked, OverConstant, guard_test, KeyBehind}

-- what Check accepts has the keys
module _ (p r : List ℕ) (accepted : Accepted p r) (i : ℕ) (h : i < R r) where
  pub table_there : table_of r i < T p
  table_there = (rule_fits p r (rows p r accepted) i h).0

  module _ (j : ℕ) (k : j < key_count p (table_of r i)) where
    pub key_low : j < 4
    key_low = let l = (table_fits p r (rows p r accepted) (table_of r i) table_there).0 in omega arith

    pub field_there : key p (table_of r i) j < F p
    field_there = (table_fits p r (rows p r accepted) (table_of r i) table_there).1 j k

-- one node
abbrev Own : ℕ → List ℕ → List ℕ → ℕ → ℕ → ℕ → ℕ → ℕ → Type 0
Own at before after to kind a b c = Behind (λ _. node kind a b c ∷ []) 0 at before after to

pub over-constant : {kind number width at mid to : ℕ} {n₀ n₁ n₂ : List ℕ} → Own at n₀ n₁ mid 1 number width 0 → length n₁ ≡ length n₀
    → Own mid n₁ n₂ to kind (at - 1) (mid - 1) 0 → 1 ≤ to → OverConstant kind number width at n₀ n₂ to
over-constant {kind = kind} o s q some = record { some = some; extends = λ same b. two-behind (λ x y. node kind x y 0) b same o s q }

pub masks : {variable width mask value at read under to : ℕ} {n₀ n₁ n₂ n₃ : List ℕ} → Own at n₀ n₁ read 2 variable 0 0 → length n₁ ≡ length n₀
    → OverConstant 6 mask width read n₁ n₂ under → length n₂ ≡ length n₁ → OverConstant 17 value width under n₂ n₃ to
    → Behind (emit_test (masked variable width mask value)) 0 at n₀ n₃ to × (1 ≤ to)
unfolding emit_test
masks o s₁ q s₂ z = (z.extends (s₂ ∙ s₁) (q.extends s₁ o), z.some)

module _ (p r current : List ℕ) (i j : ℕ) where
  pub key-nodes : {at own to t field x w m v : ℕ} {n₀ n₁ n₂ : List ℕ} → t ≡ table_of r i → field ≡ key p t j → w ≡ width p field
      → m ≡ mask r i j → v ≡ value r i j → x ≡ get_or current field 0 → Behind (emit_test (masked x w m v)) 0 at n₀ n₁ own → length n₁ ≡ length n₀
      → Own own n₁ n₂ to 20 (at - 1) (own - 1) 0 → 1 ≤ to → KeyBehind p r current i j at n₀ n₂ to
  unfolding key_tests emit_test renamed_test
  key-nodes {at = at} {own = own} {n₀ = n₀} {n₁ = n₁} et ef ey em ev ex b s o some =
      record {
        some = some;
        extends = λ same so_far.
            let test : Behind (emit_test (renamed_test current (key_test p r i j))) 0 at n₀ n₁ own = rw (← et, ← em, ← ev, ← ef) (rw (ex, ey) at b) in
            rw (add-one j) (two-behind (λ x y. node 20 x y 0) so_far same test s o);
      }

  pub no_keys : {at to : ℕ} {n₀ n₁ : List ℕ} → Own at n₀ n₁ to 16 1 0 0 → Behind (emit_test (renamed_test current (key_tests p r i 0))) 0 at n₀ n₁ to
  unfolding key_tests emit_test renamed_test
  no_keys o = o

  -- the guards
  module _ {at m : ℕ} {n₀ n₁ : List ℕ} (b : Behind (emit_test (renamed_test current (matching p r i))) 0 at n₀ n₁ m) (s₁ : length n₁ ≡ length n₀) where
    pub assumed : {negated : Bool} {to : ℕ} {n₂ : List ℕ} → negated ≡ false → Own m n₁ n₂ to 35 (m - 1) 0 0
        → Behind (emit (Passive.assume (renamed_test current (guard_test p r i negated)))) 0 at n₀ n₂ to
    unfolding emit
    assumed e o = rw e (one-behind (λ u. node 35 u 0 0) b s₁ o)

    pub assumed_not : {negated : Bool} {x to : ℕ} {n₂ n₃ : List ℕ} → negated ≡ true → Own m n₁ n₂ x 19 (m - 1) 0 0 → length n₂ ≡ length n₁
        → Own x n₂ n₃ to 35 (x - 1) 0 0 → Behind (emit (Passive.assume (renamed_test current (guard_test p r i negated)))) 0 at n₀ n₃ to
    unfolding emit emit_test renamed_test
    assumed_not e o s₂ q = rw e (one-behind (λ u. node 35 u 0 0) (one-behind (λ u. node 19 u 0 0) b s₁ o) (s₂ ∙ s₁) q)

-- Of `count` keys those below j are written: `nodes₀` and `to₀` are the area and the number before the first of them.
pub record Matched (p r current : List ℕ) (i at count : ℕ) (nodes₀ : List ℕ) (to₀ : ℕ) (nodes : List ℕ) (to j : ℕ) : Type 0 where
  pub within : j ≤ count
  pub some : 1 ≤ to
  pub same : length nodes ≡ length nodes₀
  pub written : {before : List ℕ} → length nodes₀ ≡ length before → Behind (emit_test (renamed_test current (key_tests p r i 0))) 0 at before nodes₀ to₀
      → Behind (emit_test (renamed_test current (key_tests p r i j))) 0 at before nodes to

module _ (p r current : List ℕ) (i at count : ℕ) (nodes₀ : List ℕ) (to₀ : ℕ) where
  pub begins : 1 ≤ to₀ → Matched p r current i at count nodes₀ to₀ nodes₀ to₀ 0
  begins some = record { within = omega arith; some = some; same = refl; written = λ same b. b }

  pub goes_on : {nodes nodes' : List ℕ} {to to' j : ℕ} → Matched p r current i at count nodes₀ to₀ nodes to j → j < count
      → KeyBehind p r current i j to nodes nodes' to' → length nodes' ≡ length nodes → Matched p r current i at count nodes₀ to₀ nodes' to' (j + 1)
  goes_on m h k kept =
      record {
        within = omega arith;
        some = k.some;
        same = kept ∙ m.same;
        written = λ same b. k.extends (m.same ∙ same) (m.written same b);
      }

  pub ends : {before nodes : List ℕ} {to j t : ℕ} {n : Node} → Matched p r current i at count nodes₀ to₀ nodes to j → count ≤ j → t ≡ table_of r i
      → count ≡ key_count p t → n ≡ node 16 1 0 0 → Behind (λ _. n ∷ []) 0 at before nodes₀ to₀ → length nodes₀ ≡ length before
      → Behind (emit_test (renamed_test current (matching p r i))) 0 at before nodes to × (1 ≤ to)
  ends {j = j} m h e d f b same =
      let all : j ≡ key_count p (table_of r i) = omega (arith, m.within) ∙ d ∙ ap (key_count p) e in
      (rw all at (m.written same (no_keys p r current i 0 (rw f at b))), m.some)
