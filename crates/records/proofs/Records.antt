-- What a file holds, run by run: the records that were passed, and what stands behind them. Assumes nothing.
use Prim.Native.Nat.{ℕ, zero, suc, ◌+◌, ◌*◌, ◌≤◌, ◌<◌, suc-le-suc}
use native.Mathlib.Nat.{not-suc-le-zero, eq-or-lt_of_le, le_of_suc-le-suc}
use native.Mathlib.Omega.{arith}
use mathlib.Core.Logic.{⊎_elim}
use mathlib.Core.Path.{◌≡◌, refl, sym, ap, ◌∙◌}
use mathlib.Core.Bool.{Bool, true, false}
use mathlib.Core.List.{List, [], ◌∷◌, ◌++◌, append_assoc, append-nil}
use borrow.Author.Tests.{lt-ltb, le-ltb, ltb-false, eq-eqb, ne_eqb}
use lib.Dec.{eqb, ltb}
use lib.ListN.{length}
use Rattle.std.specs.Prelude.{if◌then◌else◌, Option, Some, None}
use Rattle.model.specs.Lists.{each}
use Rattle.model.specs.Files.{turn, groups, Record, Held, whole, fault, behind, bytes, record_at, marked_by, record_there, records_from}
use Rattle.model.specs.declared.Group.{Group}
use Rattle.records.specs.declared.Run.{Run}
use Rattle.records.specs.declared.Runs.{Runs}
use Rattle.records.specs.Runs.{stands, Reads, Scanned, records, root_in, records_in}
use Rattle.records.proofs.Marks.{same-group, last_turn, marked_found, found_marked, not_there, stands_parts}

-- records before what stands behind them
abbrev before : List Record → Held → Held
before [] h = h
before (x ∷ xs) h = behind x (before xs h)

before-append : (xs ys : List Record) (h : Held) → before (xs ++ ys) h ≡ before xs (before ys h)
before-append [] ys h = refl
before-append (x ∷ xs) ys h = ap (behind x) (before-append xs ys h)

before-whole : (xs ys : List Record) → before xs (whole ys) ≡ whole (xs ++ ys)
before-whole [] ys = refl
before-whole (x ∷ xs) ys = ap (behind x) (before-whole xs ys)

before-fault : (xs : List Record) (at : ℕ) → before xs (fault at) ≡ fault at
before-fault [] at = refl
before-fault (x ∷ xs) at = ap (behind x) (before-fault xs at)

module _ (file : List ℕ) where
  -- ---- what stands at a place

  module _ (most at now : ℕ) where
    one_more : (g : Group) → stands file g at ≡ true → now ≤ turn g → turn g < turn Group.Root
        → records_from (suc most) file at now ≡ behind (record_at file at g) (records_from most file (at + bytes g) (turn g))
    unfolding records_from record_there
    one_more g h l k =
        let parts = stands_parts file at g h in
        rw (marked_found file at g parts.1, le-ltb (turn g) now l, le-ltb (length file) (at + bytes g) parts.0, lt-ltb (turn g) (turn Group.Root) k)

    the_root : stands file Group.Root at ≡ true → now ≤ turn Group.Root
        → records_from (suc most) file at now
        ≡ (if eqb (at + bytes Group.Root) (length file) then whole (record_at file at Group.Root ∷ []) else fault (at + bytes Group.Root))
    unfolding records_from record_there
    the_root h l =
        let parts = stands_parts file at Group.Root h in
        rw (marked_found file at Group.Root parts.1, le-ltb (turn Group.Root) now l, le-ltb (length file) (at + bytes Group.Root) parts.0)

    nothing : ((g : Group) → now ≤ turn g → stands file g at ≡ false) → records_from (suc most) file at now ≡ fault at
    unfolding records_from record_there
    nothing f = go (marked_by file at groups) refl
      where
        cut : (g : Group) → marked_by file at groups ≡ Some g → (b : Bool) → ltb (turn g) now ≡ b
            → record_there file at now (records_from most file) (Some g) ≡ fault at
        cut g e true k = rw k
        cut g e false k =
            let short = not_there file at g (found_marked file at groups g e) (f g (ltb-false (turn g) now k)) in
            rw (k, lt-ltb (length file) (at + bytes g) short)

        go : (o : Option Group) → marked_by file at groups ≡ o → record_there file at now (records_from most file) o ≡ fault at
        go None e = refl
        go (Some g) e = cut g e (ltb (turn g) now) refl

  -- ---- the records that were passed

  -- The records xs stand before a place, and none of the groups before turn k that may still come stands there.
  record Passed (k : ℕ) (xs : List Record) (at : ℕ) : Type 0 where
    pub most : ℕ
    pub now : ℕ
    pub enough : length file ≤ most + at
    pub past : now ≤ k
    pub gone : (g : Group) → now ≤ turn g → turn g < k → stands file g at ≡ false
    pub from : records_from (suc (length file)) file 0 0 ≡ before xs (records_from (suc most) file at now)

  none_passed : Passed 0 [] 0
  none_passed = record { most = length file; now = 0; enough = omega arith; past = omega arith; gone = λ g l k. absurd (not-suc-le-zero k); from = refl }

  moved : {k : ℕ} {xs ys : List Record} {at to : ℕ} → Passed k xs at → ys ≡ xs → to ≡ at → Passed k ys to
  moved p e d = rw (e, d) p

  passed-next : (g : Group) {xs : List Record} {at : ℕ} → Passed (turn g) xs at → stands file g at ≡ false → Passed (suc (turn g)) xs at
  passed-next g p f =
      record {
        most = p.most;
        now = p.now;
        enough = p.enough;
        past = omega (arith, p.past);
        gone = λ j l k. ⊎_elim (λ e. rw (same-group j g e) f) (λ b. p.gone j l b) (eq-or-lt_of_le (le_of_suc-le-suc k));
        from = p.from;
      }

  module _ (g : Group) (r : turn g < turn Group.Root) where
    passed-one : (xs : List Record) (at : ℕ) → Passed (turn g) xs at → stands file g at ≡ true
        → Passed (turn g) (xs ++ (record_at file at g ∷ [])) (at + bytes g)
    passed-one xs at p h = go p.most p.enough p.from
      where
        go : (most : ℕ) → length file ≤ most + at → records_from (suc (length file)) file 0 0 ≡ before xs (records_from (suc most) file at p.now)
            → Passed (turn g) (xs ++ (record_at file at g ∷ [])) (at + bytes g)
        go zero e f = absurd (omega (arith, stands_parts file at g h))
        go (suc most) e f =
            record {
              most = most;
              now = turn g;
              enough = omega (arith, e);
              past = omega arith;
              gone = λ j l k. absurd (omega arith);
              from = f ∙ ap (before xs) (one_more (suc most) at p.now g h p.past r) ∙ sym (before-append xs (record_at file at g ∷ []) (records_from (suc most) file (at + bytes g) (turn g)));
            }

    passed-all : (xs : List Record) (at n : ℕ) → Passed (turn g) xs at → ((i : ℕ) → i < n → stands file g (at + bytes g * i) ≡ true)
        → Passed (turn g) (xs ++ each (λ i. record_at file (at + bytes g * i) g) n) (at + bytes g * n)
    unfolding each
    passed-all xs at zero p f = moved p (append-nil xs) (omega arith)
    passed-all xs at (suc n) p f =
        let there : ℕ → Record = λ i. record_at file (at + bytes g * i) g in
        let all = passed-all xs at n p (λ i l. f i (omega arith)) in
        moved (passed-one (xs ++ each there n) (at + bytes g * n) all (f n (omega arith))) (sym (append_assoc xs (each there n) (there n ∷ []))) (omega arith)

    passed-run : {xs : List Record} {at : ℕ} (run : Run) → Passed (turn g) xs at → Reads file g at run → Passed (suc (turn g)) (xs ++ records file g run) run.end
    passed-run {xs} {at} run p s =
        let all = passed-all xs at run.count p s.all in
        let same = ap (λ (k : ℕ). xs ++ each (λ i. record_at file (k + bytes g * i) g) run.count) s.begins in
        passed-next g (moved all same s.ends) s.last

  module _ (s : Runs) (x : Scanned file s) where
    abbrev front : List Record
    front =
        records file Group.Field s.fields ++ records file Group.Node s.nodes ++ records file Group.Action s.actions
        ++ records file Group.Table s.tables ++ records file Group.Rule s.rules

    passed_runs : Passed (turn Group.Root) front s.rules.end
    passed_runs =
        let fields = passed-run Group.Field (omega arith) s.fields none_passed x.of_fields in
        let nodes = passed-run Group.Node (omega arith) s.nodes fields x.of_nodes in
        let actions = passed-run Group.Action (omega arith) s.actions nodes x.of_actions in
        let tables = passed-run Group.Table (omega arith) s.tables actions x.of_tables in
        passed-run Group.Rule (omega arith) s.rules tables x.of_rules

    abbrev found : Held
    found = records_from (suc (length file)) file 0 0

    -- the root's record is missing, or cut
    pub found_none : stands file Group.Root s.rules.end ≡ false → found ≡ fault s.rules.end
    found_none f =
        let p = passed-next Group.Root passed_runs f in
        let none = nothing p.most s.rules.end p.now (λ g l. p.gone g l (suc-le-suc (last_turn g))) in
        p.from ∙ ap (before front) none ∙ before-fault front s.rules.end

    module _ (h : stands file Group.Root s.rules.end ≡ true) where
      root_there : (b : Bool) → eqb (root_in s).end (length file) ≡ b
          → found ≡ before front (if b then whole (record_at file s.rules.end Group.Root ∷ []) else fault (root_in s).end)
      root_there b e = let p = passed_runs in rw (← e) (p.from ∙ ap (before front) (the_root p.most s.rules.end p.now h p.past))

      -- it stands there: more follows, or the file is whole
      pub found_more : ((root_in s).end ≡ length file → ⊥) → found ≡ fault (root_in s).end
      found_more d = root_there false (ne_eqb (root_in s).end (length file) d) ∙ before-fault front (root_in s).end

      pub found_whole : (root_in s).end ≡ length file → found ≡ whole (records_in file s)
      unfolding each
      found_whole d =
          let first : s.rules.end ≡ s.rules.end + bytes Group.Root * 0 = omega arith in
          root_there true (eq-eqb (root_in s).end (length file) d)
          ∙ before-whole front (record_at file s.rules.end Group.Root ∷ [])
          ∙ ap (λ (k : ℕ). whole (front ++ (record_at file k Group.Root ∷ []))) first
