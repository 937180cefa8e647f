-- The pipeline block as it is written, piece behind piece. Assumes nothing.
use Prim.Native.Nat.{ℕ, ◌+◌, ◌*◌, ◌≤◌}
use native.Mathlib.Omega.{arith}
use mathlib.Core.Path.{◌≡◌, refl, sym, ap, ◌∙◌}
use mathlib.Core.List.{List, ◌++◌}
use lib.ListN.{length, length-append}
use Rattle.model.specs.Blocks.{size}
use Rattle.model.specs.Calls.{over}
use Rattle.model.specs.declared.Group.{Group}
use Rattle.records.specs.declared.Run.{Run}
use Rattle.records.specs.declared.Runs.{Runs}
use Rattle.records.specs.Runs.{words, root_in, counts, pipeline_in, pipeline_words, onto}
use Rattle.records.proofs.Copied.{over-onto, onto-more, length-words}

-- the words ws stand at the start of the area, and go on at a place
record Begun (ws before : List ℕ) (to : ℕ) (now : List ℕ) : Type 0 where
  pub stand : now ≡ over ws before
  pub place : to ≡ length ws

-- what a run's copy gives and leaves: the place behind it, and the area with its words
abbrev Wrote : List ℕ → Group → Run → ℕ → List ℕ → ℕ → List ℕ → Type 0
Wrote file g run to now next later = record { value : next ≡ to + size g * run.count; area_after : later ≡ onto to (words file g run) now }

-- a run behind them
more : {ws before now : List ℕ} {to : ℕ} (file : List ℕ) (g : Group) (run : Run) → Begun ws before to now → to + size g * run.count ≤ length before
    → (next : ℕ) (later : List ℕ) → Wrote file g run to now next later → Begun (ws ++ words file g run) before next later
more {ws} {before} {now} {to} file g run b h next later e =
    let long = length-words file g run in
    let behind = onto-more before 0 ws (words file g run) to (omega (arith, b.place)) (omega (arith, b.place)) in
    record {
      stand = e.area_after ∙ ap (onto to (words file g run)) (b.stand ∙ over-onto ws before) ∙ behind ∙ sym (over-onto (ws ++ words file g run) before);
      place = simp length-append (omega (arith, b.place, e.value, long));
    }

module _ (file : List ℕ) (s : Runs) (area : List ℕ) (room : pipeline_words s ≤ length area) where
  pub wrote-all : (head : List ℕ) → head ≡ counts s → (a b c d e f : List ℕ) (u v w x y : ℕ) → a ≡ over head area
      → Wrote file Group.Root (root_in s) 4 a u b → Wrote file Group.Field s.fields u b v c → Wrote file Group.Node s.nodes v c w d
      → Wrote file Group.Action s.actions w d x e → Wrote file Group.Table s.tables x e y f → f ≡ over (pipeline_in file s) area
  wrote-all head q a b c d e f u v w x y ha hb hc hd he hf =
      let start : Begun (counts s) area 4 a = record { stand = ha ∙ ap (λ ws. over ws area) q; place = refl } in
      let root = more file Group.Root (root_in s) start (omega arith) u b hb in
      let fields = more file Group.Field s.fields root (omega (arith, hb.value)) v c hc in
      let nodes = more file Group.Node s.nodes fields (omega (arith, hb.value, hc.value)) w d hd in
      let actions = more file Group.Action s.actions nodes (omega (arith, hb.value, hc.value, hd.value)) x e he in
      (more file Group.Table s.tables actions (omega (arith, hb.value, hc.value, hd.value, he.value)) y f hf).stand
