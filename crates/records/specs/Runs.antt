-- A file as it is scanned: the records of a group stand one after the other. Assumes nothing: these are definitions.
use Rattle.std.specs.Prelude.{ℕ, ◌+◌, ◌*◌, ◌≤◌, ◌<◌, ◌≡◌, Bool, true, false, ◌&&◌, List, [], ◌∷◌, ◌++◌, leb, length, take, drop, Result, Ok, Err}
use Rattle.model.specs.Lists.{each, joined}
use Rattle.model.specs.Bytes.{big_endian}
use Rattle.model.specs.Blocks.{size}
use Rattle.model.specs.Files.{Record, whole, fault, file_limit, bytes, record_at, marked, held}
use Rattle.model.specs.declared.Group.{Group}
use Rattle.model.specs.declared.Refusal.{Refusal}
use Rattle.records.specs.declared.Run.{Run}
use Rattle.records.specs.declared.Runs.{Runs}

-- a record of the group stands at a place, with all its bytes
unfoldable pub stands : List ℕ → Group → ℕ → Bool
stands file g at = leb (at + bytes g) (length file) && marked file at g

-- as many of them as there are stand one after the other at a place
pub record Reads (file : List ℕ) (g : Group) (at : ℕ) (run : Run) : Type 0 where
  pub begins : run.at ≡ at
  pub ends : run.end ≡ at + bytes g * run.count
  pub inside : run.end ≤ length file
  pub all : (i : ℕ) → i < run.count → stands file g (at + bytes g * i) ≡ true
  pub last : stands file g run.end ≡ false

-- the groups one after the other, and the root behind them
pub record Scanned (file : List ℕ) (s : Runs) : Type 0 where
  pub of_fields : Reads file Group.Field 0 s.fields
  pub of_nodes : Reads file Group.Node s.fields.end s.nodes
  pub of_actions : Reads file Group.Action s.nodes.end s.actions
  pub of_tables : Reads file Group.Table s.actions.end s.tables
  pub of_rules : Reads file Group.Rule s.tables.end s.rules

-- so many words at a place
abbrev pub words_at : List ℕ → ℕ → ℕ → List ℕ
words_at file at n = each (λ j. big_endian file (at + 4 * j)) n

-- the records of a run, and their words
abbrev pub records : List ℕ → Group → Run → List Record
records file g run = each (λ i. record_at file (run.at + bytes g * i) g) run.count

abbrev pub words : List ℕ → Group → Run → List ℕ
words file g run = joined (λ i. words_at file (run.at + bytes g * i + 2) (size g)) run.count

-- the root's record, behind the others
abbrev pub root_in : Runs → Run
root_in s = record { at = s.rules.end; count = 1; end = s.rules.end + bytes Group.Root }

abbrev pub records_in : List ℕ → Runs → List Record
records_in file s =
    records file Group.Field s.fields ++ records file Group.Node s.nodes ++ records file Group.Action s.actions
    ++ records file Group.Table s.tables ++ records file Group.Rule s.rules ++ records file Group.Root (root_in s)

-- the pipeline block: the counts, the root, the records up to the tables'
abbrev pub counts : Runs → List ℕ
counts s = s.fields.count ∷ s.nodes.count ∷ s.actions.count ∷ s.tables.count ∷ []

abbrev pub pipeline_in : List ℕ → Runs → List ℕ
pipeline_in file s =
    counts s ++ words file Group.Root (root_in s) ++ words file Group.Field s.fields ++ words file Group.Node s.nodes
    ++ words file Group.Action s.actions ++ words file Group.Table s.tables

abbrev pub pipeline_words : Runs → ℕ
pipeline_words s =
    5 + size Group.Field * s.fields.count + size Group.Node * s.nodes.count + size Group.Action * s.actions.count
    + size Group.Table * s.tables.count

-- a whole file, and what bounds it
pub record Ended (file : List ℕ) (s : Runs) : Type 0 where
  pub scanned : Scanned file s
  pub holds : held file ≡ whole (records_in file s)
  pub last : s.rules.end + bytes Group.Root ≡ length file
  pub short : length file ≤ file_limit

-- the same, shut: a search for numbers has no need to read it
unfoldable pub Whole : List ℕ → Runs → Type 0
Whole file s = Ended file s

-- no group has more records than a file has bytes
pub record Few (s : Runs) : Type 0 where
  pub few_fields : s.fields.count ≤ file_limit
  pub few_nodes : s.nodes.count ≤ file_limit
  pub few_actions : s.actions.count ≤ file_limit
  pub few_tables : s.tables.count ≤ file_limit
  pub few_rules : s.rules.count ≤ file_limit

-- how a scanned file ends: whole, or refused for its first fault
abbrev pub Ends : List ℕ → Runs → Result (Unit {0}) Refusal → Type 0
Ends file s (Ok _) = Whole file s
Ends file s (Err why) = (at : ℕ) × (why ≡ Refusal.File at) × (held file ≡ fault at)

-- an area with words at a place
abbrev pub onto : ℕ → List ℕ → List ℕ → List ℕ
onto at ws area = take at area ++ ws ++ drop (at + length ws) area
