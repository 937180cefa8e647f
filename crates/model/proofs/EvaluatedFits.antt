-- What Evaluate writes fits: the bits of an entry have the width of its sort, and fit it. Assumes nothing.
use Prim.Native.Nat.{ℕ, ◌+◌, ◌-◌, ◌^◌, ◌%◌, ◌<◌, ◌≤◌}
use native.Mathlib.Nat.{lt_of_lt_of_le}
use native.Mathlib.Omega.{arith}
use mathlib.Core.Path.{◌≡◌, refl, sym, ap₂, subst}
use mathlib.Core.Bool.{Bool, true, false, not, ◌&&◌, false≢true}
use mathlib.Core.List.{List, [], ◌∷◌, ◌++◌}
use lib.Dec.{eqb, ltb, leb}
use lib.ListN.{get_or, length}
use lib.Pow.{pow_mono}
use borrow.Author.Tests.{eqb-true, ltb-true, leb-true, lt-ltb}
use Rattle.bits.specs.Width.{fits}
use Rattle.bits.proofs.Widths.{binary-fits, complement-fits, slice_fits, join-fits}
use Rattle.model.specs.Lists.{within, word, times}
use Rattle.model.specs.Blocks.{plain_node}
use Rattle.model.specs.Nodes.{number_of, kind_of, allowed, unused_zero, width_of, is_test, is_formed, is_width, is_value, alike, only, sort_by, sort_of}
use Rattle.model.specs.Trees.{of_width, compare_bits, connected, bits_in}
use Rattle.model.specs.Good.{Width, Within}
use Rattle.model.specs.Condition.{node_count, bit, is_on, bits_by, entry_bits, evaluated, bits_words}
use Rattle.model.specs.Refusals.{entry_limit, evaluate_rows, late_row}
use Rattle.model.specs.Demands.{Clear}
use Rattle.model.specs.declared.Bits.{Bits}
use Rattle.model.specs.declared.Node.{Node}
use Rattle.model.specs.declared.Kind.{Kind}
use Rattle.model.specs.declared.Stage.{Stage}
use Rattle.model.specs.declared.Sort.{Sort}
use Rattle.model.proofs.Booleans.{both_true}
use Rattle.model.proofs.Lists.{length-build}
use Rattle.model.proofs.Every.{All, all_places, build_related}
use Rattle.model.proofs.KindNumbers.{kind_of-allowed}
use Rattle.model.proofs.SortTests.{width-true, only-has, value_is, test_is, alike-parts}
use Rattle.model.proofs.GoodForms.{AllWidths}
use Rattle.model.proofs.Within.{within_of}
use Rattle.model.proofs.Fits.{Sized, numbers_sized, one_of}
use Rattle.model.proofs.Formed.{sort, sorts-at}
use Rattle.model.proofs.Accepts.{nodes-formed, nodes_end}

-- What an entry's bits keep, by its sort: a value has the width of its sort and fits it, a test is 0 or 1 of width 0. A malformed entry's
-- may be anything, and no entry is a statement.
abbrev pub Fitting : Sort → Bits → Type 0
Fitting Sort.Malformed x = Unit {0}
Fitting (Sort.Value w) x = Width w × Sized x w
Fitting Sort.Test x = (x.width ≡ 0) × (x.number ≤ 1)
Fitting Sort.Statement x = ⊥

pub record Fit (s : Sort) (x : Bits) : Type 0 where
  pub is : Fitting s x

fit : (s : Sort) {x : Bits} → Fitting s x → Fit s x
fit s h = record { is = h }

-- ---- sorts, by the tests that ask for them

only_fit : (good : Bool) (s : Sort) {x : Bits} → (good ≡ true → Fit s x) → Fit (only good s) x
only_fit good s {x} h = only-has (λ s. Fit s x) (fit Sort.Malformed tt) good s h

pub value_fit : {s : Sort} {x : Bits} → is_value s ≡ true → Fit s x → Width (width_of s) × Sized x (width_of s)
value_fit {s} {x} e h = (subst (λ (t : Sort). Fit t x) (value_is s e) h).is

pub width_fit : {s : Sort} {x : Bits} → is_formed s ≡ true → Fit s x → x.width ≡ width_of s
width_fit {s = Sort.Malformed} e h = absurd (false≢true e)
width_fit {s = Sort.Value w} e h = h.is.1.wide
width_fit {s = Sort.Test} e h = h.is.0
width_fit {s = Sort.Statement} e h = absurd h.is

pub test_fit : {s : Sort} {x : Bits} → is_test s ≡ true → Fit s x → (x.width ≡ 0) × (x.number ≤ 1)
test_fit {s} {x} e h = (subst (λ (t : Sort). Fit t x) (test_is s e) h).is

of_value : (s : Sort) {x : Bits} → is_value s ≡ true → Width (width_of s) → Sized x (width_of s) → Fit s x
of_value s {x} e h k = subst (λ (t : Sort). Fit t x) (sym (value_is s e)) (fit (Sort.Value (width_of s)) (h, k))

-- two values of equal widths
record Same (s : Sort) (x y : Bits) : Type 0 where
  is_one : is_value s ≡ true
  bounds : Width (width_of s)
  left : Sized x (width_of s)
  right : Sized y (width_of s)

both_alike : {s t : Sort} {x y : Bits} → alike s t ≡ true → Fit s x → Fit t y → Same s x y
both_alike {s} {t} e h k =
    let b = alike-parts s t e in
    let v = value_fit b.0 h in
    record { is_one = b.0; bounds = v.0; left = v.1; right = rw b.2 (value_fit b.1 k).1 }

bit_fit : (b : Bool) → Fit Sort.Test (bit b)
bit_fit true = fit Sort.Test (refl, omega arith)
bit_fit false = fit Sort.Test (refl, omega arith)

-- ---- an entry, over children that fit

module _ (ws : List ℕ) (all : AllWidths ws) (at : ℕ → Bits) (ok : (i : ℕ) → Sized (at i) (get_or ws i 0)) where
  module _ (own : ℕ → Sort) (bits : ℕ → Bits) (children : (i : ℕ) → Fit (own i) (bits i)) where
    abbrev Follows : Kind → ℕ → ℕ → ℕ → Type 0
    Follows k a b c = Fit (sort_by ws 0 own k a b c) (bits_by at bits k a b c)

    slice_fit : (a b c : ℕ) → Follows Kind.Slice a b c
    slice_fit a b c =
        only_fit (ltb b (width_of (own a)) && leb c b) (Sort.Value (b - c + 1)) λ e.
        let x = both_true (ltb b (width_of (own a))) (leb c b) e in
        let high = ltb-true b (width_of (own a)) x.0 in
        let low = leb-true c b x.1 in
        let v = (value_fit (lt-ltb 0 (width_of (own a)) (omega arith)) (children a)).0 in
        fit (Sort.Value (b - c + 1)) ((omega arith, omega arith), record { wide = refl; below = slice_fits b c _ })

    join_fit : (a b c : ℕ) → Follows Kind.Join a b c
    join_fit a b c =
        let total = width_of (own a) + width_of (own b) in
        only_fit (is_value (own a) && is_value (own b) && leb total 32) (Sort.Value total) λ e.
        let q = both_true (is_value (own a) && is_value (own b)) (leb total 32) e in
        let v = both_true (is_value (own a)) (is_value (own b)) q.0 in
        let most = leb-true total 32 q.1 in
        let x = value_fit v.0 (children a) in
        let y = value_fit v.1 (children b) in
        fit (Sort.Value total) (
          (omega arith, most),
          record { wide = ap₂ ◌+◌ x.1.wide y.1.wide; below = rw y.1.wide (join-fits _ _ _ _ x.1.below y.1.below) },
        )

    kind_fits : (k : Kind) (a b c : ℕ) → allowed Stage.Condition (number_of k) ≡ true → Follows k a b c
    unfolding times
    kind_fits Kind.Constant a b c m =
        only_fit (is_width b && fits b a) (Sort.Value b) λ e.
        let x = both_true (is_width b) (fits b a) e in
        fit (Sort.Value b) (width-true b x.0, record { wide = refl; below = ltb-true a (2 ^ b) x.1 })
    kind_fits Kind.Field a b c m =
        only_fit (ltb a (length ws)) (Sort.Value (get_or ws a 0)) λ e. fit (Sort.Value (get_or ws a 0)) (all a (ltb-true a (length ws) e), ok a)
    kind_fits Kind.Parameter a b c m = absurd (false≢true m)
    kind_fits (Kind.Binary o) a b c m =
        only_fit (alike (own a) (own b)) (own a) λ e.
        let h = both_alike e (children a) (children b) in
        let x = h.left in
        of_value (own a) h.is_one h.bounds (record { wide = x.wide; below = rw x.wide (binary-fits o _ _ _ x.below h.right.below) })
    kind_fits Kind.Complement a b c m =
        only_fit (is_value (own a)) (own a) λ e.
        let x = value_fit e (children a) in
        of_value (own a) e x.0 (record { wide = x.1.wide; below = rw x.1.wide (complement-fits _ _) })
    kind_fits Kind.Slice a b c m = slice_fit a b c
    kind_fits Kind.Join a b c m = join_fit a b c
    kind_fits Kind.Select a b c m =
        only_fit (is_test (own a) && alike (own b) (own c)) (own b) λ e.
        let h = both_alike (both_true (is_test (own a)) (alike (own b) (own c)) e).1 (children b) (children c) in
        of_value (own b) h.is_one h.bounds (one_of (is_on (bits a)) h.left h.right)
    kind_fits Kind.Truth a b c m = only_fit (leb a 1) Sort.Test λ e. bit_fit (eqb a 1)
    kind_fits (Kind.Compare o) a b c m = only_fit (alike (own a) (own b)) Sort.Test λ e. bit_fit (compare_bits o (bits a) (bits b))
    kind_fits Kind.Not a b c m = only_fit (is_test (own a)) Sort.Test λ e. bit_fit (not (is_on (bits a)))
    kind_fits (Kind.Connect o) a b c m =
        only_fit (is_test (own a) && is_test (own b)) Sort.Test λ e. bit_fit (connected o (is_on (bits a)) (is_on (bits b)))
    kind_fits Kind.Skip a b c m = absurd (false≢true m)
    kind_fits Kind.Assign a b c m = absurd (false≢true m)
    kind_fits Kind.Havoc a b c m = absurd (false≢true m)
    kind_fits Kind.Assume a b c m = absurd (false≢true m)
    kind_fits Kind.Assert a b c m = absurd (false≢true m)
    kind_fits Kind.Sequence a b c m = absurd (false≢true m)
    kind_fits Kind.Choice a b c m = absurd (false≢true m)
    kind_fits Kind.Apply a b c m = absurd (false≢true m)
    kind_fits Kind.Unknown a b c m = fit Sort.Malformed tt

  node-fits : (before : List Sort) (values : List Bits) (m : Node)
      → ((i : ℕ) → Fit (get_or before i Sort.Malformed) (get_or values i (of_width 0 0)))
      → Fit (sort_of Stage.Condition ws 0 before m) (entry_bits at values m)
  unfolding sort_of
  node-fits before values m h =
      let k = kind_of Stage.Condition m.kind in
      only_fit (unused_zero k m) (sort_by ws 0 (λ i. get_or before i Sort.Malformed) k m.a m.b m.c) λ _.
      kind_fits (λ i. get_or before i Sort.Malformed) (λ i. get_or values i (of_width 0 0)) h k m.a m.b m.c (kind_of-allowed m.kind)

-- ---- all entries

module _ (entries ws valuation : List ℕ) where
  abbrev pub bits_of_entry : ℕ → Bits
  bits_of_entry i = get_or (evaluated entries (bits_in ws valuation)) i (of_width 0 0)

  pub length-evaluated : length (evaluated entries (bits_in ws valuation)) ≡ node_count entries
  unfolding evaluated
  length-evaluated = length-build (λ before i. entry_bits (bits_in ws valuation) before (plain_node entries i)) (node_count entries)

  pub entry-fits : AllWidths ws → Within ws valuation → (i : ℕ) → i < node_count entries
      → Fit (sort Stage.Condition ws (plain_node entries) i) (bits_of_entry i)
  unfolding evaluated
  entry-fits all v i h =
      rw (← sorts-at Stage.Condition ws (plain_node entries) (node_count entries) i h)
      (build_related (λ before j. sort_of Stage.Condition ws 0 before (plain_node entries j)) (λ before j. entry_bits at before (plain_node entries j))
      Fit Sort.Malformed (of_width 0 0) (fit Sort.Malformed tt) (λ before values j. node-fits ws all at known before values (plain_node entries j))
      (node_count entries) i)
    where
      at : ℕ → Bits
      at = bits_in ws valuation

      known : (j : ℕ) → Sized (at j) (get_or ws j 0)
      known = numbers_sized ws valuation v

-- ---- what Evaluate accepts

-- both words of an entry that is formed
two-words : {s : Sort} {x : Bits} → is_formed s ≡ true → Fit s x → (x.width < 2 ^ 32) × (x.number < 2 ^ 32)
two-words {s = Sort.Malformed} e h = absurd (false≢true e)
two-words {s = Sort.Value w} e h = (omega (arith, h.is.1.wide), lt_of_lt_of_le h.is.1.below (pow_mono h.is.0.1))
two-words {s = Sort.Test} e h = (omega arith, omega arith)
two-words {s = Sort.Statement} e h = absurd h.is

all_bits : (P : ℕ → Type 0) (xs : List Bits) → All (λ x. P x.width × P x.number) xs → All P (bits_words xs)
unfolding bits_words
all_bits P [] h = tt
all_bits P (x ∷ xs) h = (h.0.0, (h.0.1, all_bits P xs h.1))

module _ (entries ws valuation : List ℕ) (lent : ℕ) (c : Clear (evaluate_rows entries ws valuation lent ++ (late_row entries ws ∷ []))) where
  pub accepted-fits : (i : ℕ) → i < node_count entries → Fit (sort Stage.Condition ws (plain_node entries) i) (bits_of_entry entries ws valuation i)
  unfolding Clear
  accepted-fits =
      let long = eqb-true (length valuation) (length ws) (c.1.1.0 0 (omega arith)) in
      entry-fits entries ws valuation (λ i h. width-true (word ws i) (c.1.0 i h))
      (within_of ws valuation long (λ i h. ltb-true (word valuation i) (2 ^ word ws i) (c.1.1.1.0 i h)))

  -- every word of the scratch has 32 bits
  pub evaluated-words_fit : All (λ w. w < 2 ^ 32) (bits_words (evaluated entries (bits_in ws valuation)))
  unfolding Clear
  evaluated-words_fit =
      let xs = evaluated entries (bits_in ws valuation) in
      let formed = nodes-formed 17 Stage.Condition is_test entries ws c.1.1.1.1.1.0 in
      all_bits (λ w. w < 2 ^ 32) xs
      (all_places (λ x. (x.width < 2 ^ 32) × (x.number < 2 ^ 32)) (of_width 0 0) xs λ i h.
      let k : i < node_count entries = omega (arith, length-evaluated entries ws valuation) in two-words (formed i k) (accepted-fits i k))

  -- the last entry's number is 0 or 1
  pub last_is_test : let xs = evaluated entries (bits_in ws valuation) in (get_or xs (length xs - 1) (of_width 0 0)).number ≤ 1
  unfolding Clear
  last_is_test =
      let n = node_count entries in
      let count = (both_true (eqb (length entries % 4) 0) (within 1 entry_limit n) (c.0 0 (omega arith))).1 in
      let some = leb-true 1 n (both_true (leb 1 n) (leb n entry_limit) count).0 in
      let end = nodes_end 17 Stage.Condition is_test entries ws c.1.1.1.1.1.0 (n - 1) (omega arith) in
      rw (length-evaluated entries ws valuation) (test_fit end (accepted-fits (n - 1) (omega arith))).1
