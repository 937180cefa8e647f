-- What Check accepts is well formed. Assumes nothing.
use Prim.Native.Nat.{ℕ, zero, suc, ◌%◌, ◌^◌, ◌<◌, ◌≤◌}
use native.Mathlib.Nat.{le_refl}
use native.Mathlib.Omega.{arith}
use mathlib.Core.Path.{◌≡◌, refl, sym, ◌∙◌}
use mathlib.Core.Bool.{Bool, true, false, ◌&&◌, false≢true}
use mathlib.Core.List.{List}
use lib.Dec.{eqb, ltb, leb}
use lib.ListN.{get_or, length}
use lib.Bits.{bit_and, and_le_r}
use lib.Pow.{pow_pos}
use borrow.Author.Tests.{eqb-true, ltb-true, leb-true, lt-ltb, not-true}
use Rattle.bits.specs.Width.{fits, under}
use Rattle.std.specs.Prelude.{if◌then◌else◌, Some, None}
use Rattle.model.specs.Lists.{within, word, each, every, exists, times, among, those}
use Rattle.model.specs.Blocks.{F, N, A, T, R, root, size, pipeline_length, width, widths, Call, call_at, pipeline_node, body, parameter_count, parameter_width, key_count, key, default_place, table_of, value, mask, call_place}
use Rattle.model.specs.Nodes.{kinds, is_width, is_formed, is_statement, sort_of}
use Rattle.model.specs.Trees.{no_data, program, called}
use Rattle.model.specs.Good.{width_of_value, GoodValue, GoodTest, Good}
use Rattle.model.specs.Tables.{tried_before, of_table, tried, call_of}
use Rattle.model.specs.Passive.{key_test, key_tests, matching}
use Rattle.model.specs.Refusals.{counts_well, pipeline_sorts, sort_at, well_or_zero, used_or_zero, action_well, call_well, table_well, uses, under_each, stands_under, placed_well, pair_well, rule_well, check_rows}
use Rattle.model.specs.Calls.{check}
use Rattle.model.specs.Demands.{Clear, Accepted}
use Rattle.model.specs.declared.Group.{Group}
use Rattle.model.specs.declared.Kind.{Kind}
use Rattle.model.specs.declared.Stage.{Stage}
use Rattle.model.specs.declared.Sort.{Sort}
use Rattle.model.proofs.Booleans.{both_true}
use Rattle.model.proofs.Lists.{length-each, each_at}
use Rattle.model.proofs.Every.{All, every-at, exists-at, all-each, all-those, all-ordered, all_with}
use Rattle.model.proofs.KindNumbers.{kind_number}
use Rattle.model.proofs.SortTests.{width-true, formed-before, statement_is}
use Rattle.model.proofs.GoodForms.{AllWidths}
use Rattle.model.proofs.Refusals.{clear}
use Rattle.model.proofs.Sorts.{as_statement_lem}
use Rattle.model.proofs.Decoded.{nodes_under, under-below, PlacedAt, fits-at}

-- the rows of Check's table, each at all its places: the calls' crates cite those that demand 3 doesn't need too
pub record Rows (p r : List ℕ) : Type 0 where
  pub two : counts_well p r ≡ true
  pub three : (i : ℕ) → i < F p → is_width (width p i) ≡ true
  pub four : (i : ℕ) → i < N p → is_formed (sort_at (pipeline_sorts p) i) ≡ true
  pub five : (i : ℕ) → i < A p → action_well p (pipeline_sorts p) i ≡ true
  pub six : (i : ℕ) → i < T p → table_well p i ≡ true
  pub seven : is_statement (sort_at (pipeline_sorts p) (root p)) ≡ true
  pub eight : (i : ℕ) → i < N p → eqb (times i (uses p)) 1 ≡ true
  pub nine : (i : ℕ) → i < N p → placed_well p (under_each p) i ≡ true
  pub ten : (i : ℕ) → i < R r → rule_well p r i ≡ true

pub rows : (p r : List ℕ) → Accepted p r → Rows p r
unfolding check check_rows Clear
rows p r e =
    let c = clear (check_rows p r) e in
    record {
      two = c.0 0 (omega arith);
      three = c.1.0;
      four = c.1.1.0;
      five = c.1.1.1.0;
      six = c.1.1.1.1.0;
      seven = c.1.1.1.1.1.0 0 (omega arith);
      eight = c.1.1.1.1.1.1.0;
      nine = c.1.1.1.1.1.1.1.0;
      ten = c.1.1.1.1.1.1.1.1.0;
    }

-- the counts, and the length of either block: no place that a call reads is past the end, and no count overflows
pub record Counts (p r : List ℕ) : Type 0 where
  pub some_fields : 1 ≤ F p
  pub most_fields : F p ≤ 32
  pub some_nodes : 1 ≤ N p
  pub most_nodes : N p ≤ 1024
  pub most_actions : A p ≤ 64
  pub most_tables : T p ≤ 32
  pub most_rules : R r ≤ 256
  pub pipeline_words : length p ≡ pipeline_length p
  pub rule_words : length r % size Group.Rule ≡ 0

pub counts : (p r : List ℕ) → counts_well p r ≡ true → Counts p r
unfolding counts_well
counts p r e =
    let fields = leb 5 (length p) && within 1 32 (F p) in
    let nodes = fields && within 1 1024 (N p) in
    let actions = nodes && leb (A p) 64 in
    let tables = actions && leb (T p) 32 in
    let pipeline = tables && eqb (length p) (pipeline_length p) in
    let rules = pipeline && eqb (length r % size Group.Rule) 0 in
    let a = both_true rules (leb (R r) 256) e in
    let b = both_true pipeline (eqb (length r % size Group.Rule) 0) a.0 in
    let c = both_true tables (eqb (length p) (pipeline_length p)) b.0 in
    let d = both_true actions (leb (T p) 32) c.0 in
    let f = both_true nodes (leb (A p) 64) d.0 in
    let g = both_true fields (within 1 1024 (N p)) f.0 in
    let h = both_true (leb 5 (length p)) (within 1 32 (F p)) g.0 in
    let n = both_true (leb 1 (N p)) (leb (N p) 1024) g.1 in
    record {
      some_fields = (width-true (F p) h.1).0;
      most_fields = (width-true (F p) h.1).1;
      some_nodes = leb-true 1 (N p) n.0;
      most_nodes = leb-true (N p) 1024 n.1;
      most_actions = leb-true (A p) 64 f.1;
      most_tables = leb-true (T p) 32 d.1;
      most_rules = leb-true (R r) 256 a.1;
      pipeline_words = eqb-true (length p) (pipeline_length p) c.1;
      rule_words = eqb-true (length r % size Group.Rule) 0 b.1;
    }

-- ---- an action's body with data that fit

used-at : (most used : ℕ) (well : ℕ → Bool) (number : ℕ → ℕ) (j : ℕ) → used_or_zero most used well number ≡ true → j < most → j < used → well j ≡ true
used-at most used well number j e h k = rw (lt-ltb j used k) at (every-at (λ j. if ltb j used then well j else eqb (number j) 0) most j e h)

module _ (p : List ℕ) where
  -- a parameter has the number and the width of each action under whose body it stands
  parameter_has : (x k : ℕ) → (pipeline_node p x).kind ≡ 3 → placed_well p (under_each p) x ≡ true → stands_under p (under_each p) x k ≡ true → k < A p
      → ((pipeline_node p x).a < parameter_count p k) × ((pipeline_node p x).b ≡ parameter_width p k (pipeline_node p x).a)
  unfolding placed_well
  parameter_has x k three well stands h =
      let us = under_each p in
      let a = (pipeline_node p x).a in
      let b = (pipeline_node p x).b in
      let has : ℕ → Bool = λ k. ltb a (parameter_count p k) && eqb b (parameter_width p k a) in
      let test : ℕ → Bool = λ k. if stands_under p us x k then has k else true in
      let w = both_true (exists (stands_under p us x) (A p)) (every test (A p)) (rw three at well) in
      let both = both_true (ltb a (parameter_count p k)) (eqb b (parameter_width p k a)) (rw stands at (every-at test (A p) k w.1 h)) in
      (ltb-true a (parameter_count p k) both.0, eqb-true b (parameter_width p k a) both.1)

  apply_not : (x k : ℕ) → (pipeline_node p x).kind ≡ 39 → placed_well p (under_each p) x ≡ true → stands_under p (under_each p) x k ≡ true → k < A p → ⊥
  unfolding placed_well
  apply_not x k apply well stands h =
      let us = under_each p in
      let none = not-true (exists (stands_under p us x) (A p)) (rw apply at well) in
      false≢true (sym none ∙ exists-at (stands_under p us x) (A p) k stands h)

  pub all-widths : ((i : ℕ) → i < F p → is_width (width p i) ≡ true) → AllWidths (widths p)
  all-widths h i k =
      let l : i < F p = rw (length-each (width p) (F p)) at k in
      rw (each_at (width p) (F p) i 0 l) (width-true (width p i) (h i l))

  -- the action is there, and each datum that it uses fits
  pub call_fits : (c : Call) → call_well p c ≡ true
      → (c.action < A p) × ((j : ℕ) → j < 2 → j < parameter_count p c.action → word c.«data» j < 2 ^ parameter_width p c.action j)
  unfolding call_well
  call_fits c e =
      let k = c.action in
      let well : ℕ → Bool = λ j. fits (parameter_width p k j) (word c.«data» j) in
      let both = both_true (ltb k (A p)) (used_or_zero 2 (parameter_count p k) well (word c.«data»)) e in (
        ltb-true k (A p) both.0,
        λ j h l. ltb-true (word c.«data» j) (2 ^ parameter_width p k j) (used-at 2 (parameter_count p k) well (word c.«data») j both.1 h l),
      )

  pub action-fits : (k : ℕ) → action_well p (pipeline_sorts p) k ≡ true
      → (is_statement (sort_at (pipeline_sorts p) (body p k)) ≡ true) × (parameter_count p k ≤ 2)
  unfolding action_well
  action-fits k e =
      let is_one = is_statement (sort_at (pipeline_sorts p) (body p k)) in
      let used = used_or_zero 2 (parameter_count p k) (λ j. is_width (parameter_width p k j)) (parameter_width p k) in
      let both = both_true is_one (leb (parameter_count p k) 2) (both_true (is_one && leb (parameter_count p k) 2) used e).0 in
      (both.0, leb-true (parameter_count p k) 2 both.1)

  pub table_keys : (t : ℕ) → table_well p t ≡ true
      → (key_count p t ≤ 4) × ((j : ℕ) → j < key_count p t → key p t j < F p) × (call_well p (call_at p (default_place p t)) ≡ true)
  unfolding table_well
  table_keys t e =
      let well : ℕ → Bool = λ j. ltb (key p t j) (F p) in
      let used = used_or_zero 4 (key_count p t) well (key p t) in
      let a = both_true (leb (key_count p t) 4 && used) (call_well p (call_at p (default_place p t))) e in
      let b = both_true (leb (key_count p t) 4) used a.0 in
      let most = leb-true (key_count p t) 4 b.0 in
      (most, λ j l. ltb-true (key p t j) (F p) (used-at 4 (key_count p t) well (key p t) j b.1 (omega arith) l), a.1)

  -- a parameter's width, used or not
  pub parameter_narrow : (k j : ℕ) → action_well p (pipeline_sorts p) k ≡ true → j < 2 → parameter_width p k j ≤ 32
  unfolding action_well
  parameter_narrow k j e h = go (ltb j (parameter_count p k)) (every-at test 2 j (both_true first (every test 2) e).1 h)
    where
      test : ℕ → Bool
      test j = well_or_zero (parameter_count p k) j (is_width (parameter_width p k j)) (parameter_width p k j)

      first : Bool
      first = is_statement (sort_at (pipeline_sorts p) (body p k)) && leb (parameter_count p k) 2

      go : (b : Bool) → (if b then is_width (parameter_width p k j) else eqb (parameter_width p k j) 0) ≡ true → parameter_width p k j ≤ 32
      go true w = (width-true (parameter_width p k j) w).1
      go false w = omega (arith, eqb-true (parameter_width p k j) 0 w)

  -- a statement's number is a node's
  pub statement-below : (i : ℕ) → is_statement (sort_at (pipeline_sorts p) i) ≡ true → i < N p
  unfolding pipeline_sorts
  statement-below i e =
      let step : List Sort → ℕ → Sort = λ before j. sort_of Stage.Pipeline (widths p) (T p) before (pipeline_node p j) in
      formed-before step (N p) i (rw (statement_is (sort_at (pipeline_sorts p) i) e))

zero_data : (a : ℕ) → get_or no_data a 0 ≡ 0
zero_data zero = refl
zero_data (suc zero) = refl
zero_data (suc (suc a)) = refl

module _ (p r : List ℕ) (h : Rows p r) where
  placed_in_body : (c : Call) → call_well p c ≡ true → (x : ℕ) → among x (nodes_under p (body p c.action)) ≡ true → x < N p
      → PlacedAt p 0 c.«data» x
  placed_in_body c e x stands l =
      let k = c.action in
      let n = pipeline_node p x in
      let call = call_fits p c e in
      let few = (action-fits p k (h.five k call.0)).1 in
      record {
        parameter = λ q.
            let has = parameter_has p x k (kind_number kinds n.kind Kind.Parameter (omega arith) q) (h.nine x l) stands call.0 in
            rw has.1 (call.1 n.a (omega (arith, has.0)) has.0);
        apply = λ q. absurd (apply_not p x k (kind_number kinds n.kind Kind.Apply (omega arith) q) (h.nine x l) stands call.0);
      }

  pub call_good : (c : Call) → call_well p c ≡ true → Good (widths p) 0 (called p c)
  call_good c e =
      let at = body p c.action in
      let placed = all_with (λ x. x < N p) (PlacedAt p 0 c.«data») (nodes_under p at) (placed_in_body c e) (under-below p at) in
      as_statement_lem (widths p) 0 (action-fits p c.action (h.five c.action (call_fits p c e).0)).0 (fits-at p 0 c.«data» (all-widths p h.three) at placed)

  -- ---- the program

  placed_in_program : (x : ℕ) → PlacedAt p (T p) no_data x
  placed_in_program x =
      let n = pipeline_node p x in
      record { parameter = λ q. rw (zero_data n.a) (pow_pos n.b); apply = λ q k. k }

  program-good : Good (widths p) (T p) (program p)
  program-good =
      let at = root p in
      let placed = all_with (λ x. x < N p) (PlacedAt p (T p) no_data) (nodes_under p at) (λ x m l. placed_in_program x) (under-below p at) in
      as_statement_lem (widths p) (T p) h.seven (fits-at p (T p) no_data (all-widths p h.three) at placed)

  -- ---- tables and rules

  pub table_fits : (t : ℕ) → t < T p
      → (key_count p t ≤ 4) × ((j : ℕ) → j < key_count p t → key p t j < F p) × (call_well p (call_at p (default_place p t)) ≡ true)
  table_fits t k = table_keys p t (h.six t k)

  pub rule_fits : (i : ℕ) → i < R r → (table_of r i < T p) × (every (pair_well p r i) 4 ≡ true) × (call_well p (call_at r (call_place r i)) ≡ true)
  unfolding rule_well
  rule_fits i k =
      let a = both_true (ltb (table_of r i) (T p) && every (pair_well p r i) 4) (call_well p (call_at r (call_place r i))) (h.ten i k) in
      let b = both_true (ltb (table_of r i) (T p)) (every (pair_well p r i) 4) a.0 in
      (ltb-true (table_of r i) (T p) b.0, b.1, a.1)

  -- a key's mask and value fit its field's width
  pub pair_fits : (i j : ℕ) → j < key_count p (table_of r i) → pair_well p r i j ≡ true
      → let w = width p (key p (table_of r i) j) in (mask r i j < 2 ^ w) × (value r i j < 2 ^ w)
  unfolding pair_well
  pair_fits i j l e =
      let t = table_of r i in
      let w = width p (key p t j) in
      let x = mask r i j in
      let y = value r i j in
      let both = both_true (fits w x) (under x y y) (rw (lt-ltb j (key_count p t) l) at e) in
      let most = ltb-true x (2 ^ w) both.0 in
      (most, omega (arith, most, and_le_r y x, eqb-true (bit_and y x) y both.1))

  key-good : (i j : ℕ) → i < R r → j < key_count p (table_of r i) → GoodTest (widths p) (key_test p r i j)
  unfolding GoodTest GoodValue width_of_value
  key-good i j k l =
      let rule = rule_fits i k in
      let t = table_of r i in
      let table = table_fits t rule.0 in
      let f = key p t j in
      let there = table.1 j l in
      let pair = pair_fits i j l (every-at (pair_well p r i) 4 j rule.1 (omega (arith, table.0))) in
      let w = width-true (width p f) (h.three f there) in
      let same : get_or (widths p) f 0 ≡ width p f = each_at (width p) (F p) f 0 there in
      ((rw (length-each (width p) (F p)) there, (w, pair.0), same), (w, pair.1), same)

  keys-good : (i n : ℕ) → i < R r → n ≤ key_count p (table_of r i) → GoodTest (widths p) (key_tests p r i n)
  unfolding GoodTest key_tests
  keys-good i zero k l = tt
  keys-good i (suc n) k l = (keys-good i n k (omega arith), key-good i n k l)

-- ---- the whole

-- what a call may rely on once Check has accepted: no later proof opens the checker
pub record WellFormed (p r : List ℕ) : Type 0 where
  pub counts : Counts p r
  pub widths_length : length (widths p) ≡ F p
  pub widths_good : AllWidths (widths p)
  pub root_below : root p < N p
  pub body_below : (k : ℕ) → k < A p → body p k < N p
  pub program_good : Good (widths p) (T p) (program p)
  pub default_good : (t : ℕ) → t < T p → Good (widths p) 0 (called p (call_of p r t None))
  pub rule_good : (i : ℕ) → i < R r → (t : ℕ) → Good (widths p) 0 (called p (call_of p r t (Some i)))
  pub matching_good : (i : ℕ) → i < R r → GoodTest (widths p) (matching p r i)

pub accepted-good : (p r : List ℕ) → Accepted p r → WellFormed p r
accepted-good p r e =
    let h = rows p r e in
    record {
      counts = counts p r h.two;
      widths_length = length-each (width p) (F p);
      widths_good = all-widths p h.three;
      root_below = statement-below p (root p) h.seven;
      body_below = λ k l. statement-below p (body p k) (action-fits p k (h.five k l)).0;
      program_good = program-good p r h;
      default_good = λ t k. call_good p r h (call_at p (default_place p t)) (table_fits p r h t k).2;
      rule_good = λ i k t. call_good p r h (call_at r (call_place r i)) (rule_fits p r h i k).2;
      matching_good = λ i k. keys-good p r h i (key_count p (table_of r i)) k (le_refl _);
    }

-- the rules that are tried are the table's own
abbrev pub OfTable : List ℕ → ℕ → ℕ → Type 0
OfTable r t i = (i < R r) × (table_of r i ≡ t)

pub tried-below : (r : List ℕ) (t : ℕ) → All (OfTable r t) (tried r t)
unfolding tried
tried-below r t =
    let below : ℕ → Type 0 = λ i. i < R r in
    let test = of_table r t in
    let own = all-those below test (each (λ i. i) (R r)) (all-each below (λ i. i) (R r) (λ i k. k)) in
    all-ordered (OfTable r t) (tried_before r) (those test (each (λ i. i) (R r)))
    (all_with (λ i. below i × (test i ≡ true)) (OfTable r t) (those test (each (λ i. i) (R r))) (λ i m k. (k.0, eqb-true (table_of r i) t k.1)) own)
