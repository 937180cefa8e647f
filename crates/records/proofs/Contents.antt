-- The two blocks of a whole file: the words that its records give, and the counts. Assumes nothing.
use Prim.Native.Nat.{ℕ, zero, suc, ◌+◌, ◌*◌, ◌≤◌}
use native.Mathlib.Nat.{add-zero, zero-add}
use native.Mathlib.Omega.{arith}
use mathlib.Core.Path.{◌≡◌, refl, sym, ap, ◌∙◌}
use mathlib.Core.Bool.{Bool, true, false}
use mathlib.Core.List.{List, [], ◌∷◌, ◌++◌, append_assoc, append-nil}
use lib.Dec.{eqb, leb}
use lib.ListN.{length, length-append}
use Rattle.std.specs.Prelude.{if◌then◌else◌}
use Rattle.model.specs.Lists.{each, joined}
use Rattle.model.specs.Blocks.{size}
use Rattle.model.specs.Files.{turn, Record, bytes, record_at, words_of, count_of, pipeline_of, rules_of}
use Rattle.model.specs.declared.Group.{Group}
use Rattle.records.specs.declared.Run.{Run}
use Rattle.records.specs.declared.Runs.{Runs}
use Rattle.records.proofs.Copied.{length-words}
use Rattle.records.specs.Runs.{Reads, words_at, words, root_in, records_in, pipeline_in, pipeline_words, Whole, Few}

-- ---- words and counts of lists of records

module _ (of : Group → Bool) where
  words_append : (xs ys : List Record) → words_of of (xs ++ ys) ≡ words_of of xs ++ words_of of ys
  unfolding words_of
  words_append [] ys = refl
  words_append (x ∷ xs) ys =
      ap (λ ws. (if of x.group then x.words else []) ++ ws) (words_append xs ys)
      ∙ sym (append_assoc (if of x.group then x.words else []) (words_of of xs) (words_of of ys))

  words-each : (file : List ℕ) (g : Group) (place : ℕ → ℕ) (n : ℕ)
      → words_of of (each (λ i. record_at file (place i) g) n) ≡ (if of g then joined (λ i. words_at file (place i + 2) (size g)) n else [])
  unfolding words_of each joined
  words-each file g place n = go (of g) refl n
    where
      go : (b : Bool) → of g ≡ b → (n : ℕ)
          → words_of of (each (λ i. record_at file (place i) g) n) ≡ (if b then joined (λ i. words_at file (place i + 2) (size g)) n else [])
      go true e zero = refl
      go false e zero = refl
      go true e (suc n) = words_append (each (λ i. record_at file (place i) g) n) (record_at file (place n) g ∷ []) ∙ rw (go true e n, e, append-nil)
      go false e (suc n) = words_append (each (λ i. record_at file (place i) g) n) (record_at file (place n) g ∷ []) ∙ rw (go false e n, e)

module _ (g : Group) where
  count-append : (xs ys : List Record) → count_of g (xs ++ ys) ≡ count_of g xs + count_of g ys
  unfolding count_of
  count-append [] ys = omega arith
  count-append (x ∷ xs) ys = omega (arith, count-append xs ys)

  count-each : (file : List ℕ) (h : Group) (place : ℕ → ℕ) (n : ℕ)
      → count_of g (each (λ i. record_at file (place i) h) n) ≡ (if eqb (turn h) (turn g) then n else 0)
  unfolding count_of each
  count-each file h place n = go (eqb (turn h) (turn g)) refl n
    where
      go : (b : Bool) → eqb (turn h) (turn g) ≡ b → (n : ℕ) → count_of g (each (λ i. record_at file (place i) h) n) ≡ (if b then n else 0)
      go true e zero = refl
      go false e zero = refl
      go true e (suc n) = count-append (each (λ i. record_at file (place i) h) n) (record_at file (place n) h ∷ []) ∙ rw (go true e n, e) (omega arith)
      go false e (suc n) = count-append (each (λ i. record_at file (place i) h) n) (record_at file (place n) h ∷ []) ∙ rw (go false e n, e) (omega arith)

-- ---- the blocks

module _ (file : List ℕ) (s : Runs) where
  abbrev pick : Bool → Group → Run → List ℕ
  pick b g run = if b then words file g run else []

  words_in : (of : Group → Bool) → words_of of (records_in file s)
      ≡ pick (of Group.Field) Group.Field s.fields ++ pick (of Group.Node) Group.Node s.nodes ++ pick (of Group.Action) Group.Action s.actions
      ++ pick (of Group.Table) Group.Table s.tables ++ pick (of Group.Rule) Group.Rule s.rules ++ pick (of Group.Root) Group.Root (root_in s)
  words_in of = simp (words_append, words-each)

  abbrev number : Group → Group → Run → ℕ
  number g h run = if eqb (turn h) (turn g) then run.count else 0

  count_in : (g : Group) → count_of g (records_in file s)
      ≡ number g Group.Field s.fields + number g Group.Node s.nodes + number g Group.Action s.actions + number g Group.Table s.tables
      + number g Group.Rule s.rules + number g Group.Root (root_in s)
  count_in g = simp (count-append, count-each)

  pub rules-are : rules_of (records_in file s) ≡ words file Group.Rule s.rules
  rules-are = words_in (λ g. eqb (turn g) (turn Group.Rule)) ∙ append-nil (words file Group.Rule s.rules)

  pub pipeline_is : pipeline_of (records_in file s) ≡ pipeline_in file s
  pipeline_is = rw (count_in Group.Field, count_in Group.Node, count_in Group.Action, count_in Group.Table, words_in (λ g. eqb (turn g) (turn Group.Root)), words_in (λ g. leb (turn g) (turn Group.Table))) (simp (add-zero, zero-add, append-nil, append_assoc))

  pub pipeline_long : length (pipeline_in file s) ≡ pipeline_words s
  pipeline_long = simp (length-append, length-words file) (omega arith)

inside-run : {file : List ℕ} {g : Group} {at : ℕ} {run : Run} → Reads file g at run → run.at + bytes g * run.count ≤ length file
inside-run r = omega (arith, r.begins, r.ends, r.inside)

module _ (file : List ℕ) (s : Runs) (w : Whole file s) where
  -- no group has more records than the file has bytes
  pub few : Few s
  unfolding Whole
  few =
      let x = w.scanned in
      record {
        few_fields = omega (arith, x.of_fields.ends, x.of_fields.inside, w.short);
        few_nodes = omega (arith, x.of_nodes.ends, x.of_nodes.inside, w.short);
        few_actions = omega (arith, x.of_actions.ends, x.of_actions.inside, w.short);
        few_tables = omega (arith, x.of_tables.ends, x.of_tables.inside, w.short);
        few_rules = omega (arith, x.of_rules.ends, x.of_rules.inside, w.short);
      }

  -- every run stands inside it
  pub root-inside : (root_in s).at + bytes Group.Root * 1 ≤ length file
  unfolding Whole
  root-inside = omega (arith, w.last)

  pub fields-inside : s.fields.at + bytes Group.Field * s.fields.count ≤ length file
  unfolding Whole
  fields-inside = inside-run w.scanned.of_fields

  pub nodes-inside : s.nodes.at + bytes Group.Node * s.nodes.count ≤ length file
  unfolding Whole
  nodes-inside = inside-run w.scanned.of_nodes

  pub actions-inside : s.actions.at + bytes Group.Action * s.actions.count ≤ length file
  unfolding Whole
  actions-inside = inside-run w.scanned.of_actions

  pub tables-inside : s.tables.at + bytes Group.Table * s.tables.count ≤ length file
  unfolding Whole
  tables-inside = inside-run w.scanned.of_tables

  pub rules-inside : s.rules.at + bytes Group.Rule * s.rules.count ≤ length file
  unfolding Whole
  rules-inside = inside-run w.scanned.of_rules

pub ruleset inside = (root-inside, fields-inside, nodes-inside, actions-inside, tables-inside, rules-inside)
