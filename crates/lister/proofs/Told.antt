-- What the answers of Load and Passify say of the areas that were lent, and of the text. Assumes nothing.
use Prim.Native.Nat.{ℕ, ◌+◌, ◌*◌, ◌<◌, ◌≤◌}
use native.Mathlib.Omega.{arith}
use mathlib.Core.Path.{◌≡◌, refl, sym, ap, ◌∙◌}
use mathlib.Core.List.{List, [], ◌∷◌, ◌++◌}
use lib.ListN.{length, take, drop, replicate, length-append, get_or-append, length-replicate}
use lib.Seq.{take-append_seam, ext_get_or}
use Rattle.std.specs.Prelude.{Result, Ok, Err}
use Rattle.model.specs.Lists.{word, each}
use Rattle.model.specs.Blocks.{node, words, plain_node}
use Rattle.model.specs.Emit.{Emitted}
use Rattle.model.specs.Answers.{Answer, done, refused, told, refusal_of, number_in, values_in}
use Rattle.model.specs.Calls as calls
use Rattle.model.specs.Calls.{over, written, TwoBlocks, Loads, Passifies}
use Rattle.model.specs.Listing.{block_room, node_room, width_room, heading_text, node_lines, form_text, text_of, listing}
use Rattle.model.specs.declared.Node.{Node}
use Rattle.model.specs.declared.Refusal.{Refusal}
use Rattle.model.specs.declared.Blocks as loaded
use Rattle.model.specs.declared.Form.{Form}
use Rattle.model.proofs.Passing.{refusal_refuses}
use Rattle.model.proofs.Lists.{length-each, each_at}
use Rattle.model.proofs.NodeList.{length-words, plain_node-words}
use Rattle.lister.specs.Lines.{refused_as, Listed, Forms}

-- ---- areas

-- where the area keeps its length, the words that were written fit in it, and stand at its start
module _ (ws area now : List ℕ) (h : now ≡ over ws area) (same : length now ≡ length area) where
  over-room : length ws ≤ length now
  over-room = omega (arith, ap length h, length-append ws (drop (length ws) area))

  over-start : take (length ws) now ≡ ws
  over-start = rw (h, take-append_seam)

-- the nodes whose words stand at the start of an area
node-start : (ns : List Node) (rest : List ℕ) (i : ℕ) → i < length ns → plain_node (words ns ++ rest) i ≡ plain_node (words ns) i
node-start ns rest i h =
    let at : (k : ℕ) → k < length (words ns) → word (words ns ++ rest) k ≡ word (words ns) k = λ k l. get_or-append (words ns) rest 0 k l in
    let e : length (words ns) ≡ 4 * length ns = length-words ns in
    rw (at (4 * i) (omega arith), at (4 * i + 1) (omega arith), at (4 * i + 2) (omega arith), at (4 * i + 3) (omega arith))

nodes-start : (ns : List Node) (rest : List ℕ) → each (plain_node (words ns ++ rest)) (length ns) ≡ ns
nodes-start ns rest =
    let f = plain_node (words ns ++ rest) in
    let d = node 0 0 0 0 in
    ext_get_or d (each f (length ns)) ns (length-each f (length ns))
    (λ i h.
    let l : i < length ns = omega (arith, h, length-each f (length ns)) in
    each_at f (length ns) i d l ∙ node-start ns rest i l ∙ plain_node-words ns i d l)

-- ---- Passify

-- what it leaves where it gives a form
record Formed (p r : List ℕ) (n variables : ℕ) (area : List ℕ) : Type 0 where
  form : Emitted
  pub gives : calls.passify p r node_room width_room ≡ done form
  pub count : n ≡ length form.nodes
  pub all_widths : variables ≡ length form.widths
  pub stand : each (plain_node area) n ≡ form.nodes
  pub room : 4 * n ≤ length area

told-form : (p r nodes nodes' : List ℕ) (n variables : ℕ) (x : Answer Emitted) → calls.passify p r node_room width_room ≡ x
    → done (n ∷ variables ∷ []) ≡ told calls.form_sizes x → nodes' ≡ written x (λ w. words w.nodes) nodes
    → length nodes' ≡ length nodes → Formed p r n variables nodes'
told-form p r nodes nodes' n variables (done w) gives e h same =
    let count : n ≡ length w.nodes = cc in
    record {
      form = w;
      gives = gives;
      count = count;
      all_widths = cc;
      stand = rw (count, h) (nodes-start w.nodes (drop (length (words w.nodes)) nodes));
      room = omega (arith, over-room (words w.nodes) nodes nodes' h same, length-words w.nodes);
    }
told-form p r nodes nodes' n variables (refused number place) gives e h same = let z : ◌≡◌ {A = ℕ} 0 1 = cc in absurd (omega arith)

-- the heading and a line for each node are the form's text
same_text : (w : Emitted) (n variables : ℕ) (ns : List Node) → n ≡ length w.nodes → variables ≡ length w.widths → ns ≡ w.nodes
    → heading_text n variables ++ node_lines 0 ns ≡ form_text w
same_text w n variables ns count all_widths stand = rw (count, all_widths, stand)

-- ---- refusals

-- a refusal that is told is given
told-refused : (why : Refusal) {A : Type 0} (values : A → List ℕ) (x : Answer A) → refusal_of why ≡ told values x
    → x ≡ refused (number_in (refusal_of why)) (word (values_in (refusal_of why)) 0)
told-refused why values (done w) e = absurd (refusal_refuses why (values w) e)
told-refused why values (refused number place) e = rw e

-- ---- Load

-- what it leaves where it gives the blocks
record Blocks (file : List ℕ) (p r : ℕ) (pipeline_area rules_area : List ℕ) : Type 0 where
  blocks : TwoBlocks
  gives : calls.load file block_room block_room ≡ done blocks
  pipeline_stands : take p pipeline_area ≡ blocks.pipeline
  rules_stand : take r rules_area ≡ blocks.rules

told_blocks : (file pipeline rules pipeline' rules' : List ℕ) (p r : ℕ) (x : Answer TwoBlocks) → calls.load file block_room block_room ≡ x
    → done (p ∷ r ∷ []) ≡ told calls.block_lengths x
    → pipeline' ≡ written x (λ b. b.pipeline) pipeline → rules' ≡ written x (λ b. b.rules) rules
    → length pipeline' ≡ length pipeline → length rules' ≡ length rules → Blocks file p r pipeline' rules'
told_blocks file pipeline rules pipeline' rules' p r (done b) gives e h k same also =
    let at_pipeline : p ≡ length b.pipeline = cc in
    let at_rules : r ≡ length b.rules = cc in
    record {
      blocks = b;
      gives = gives;
      pipeline_stands = rw at_pipeline (over-start b.pipeline pipeline pipeline' h same);
      rules_stand = rw at_rules (over-start b.rules rules rules' k also);
    }
told_blocks file pipeline rules pipeline' rules' p r (refused number place) gives e h k same also = let z : ◌≡◌ {A = ℕ} 0 1 = cc in absurd (omega arith)

-- ---- what the passive form of a file goes by

-- the room that it lends
pub zeros : (n : ℕ) → length (replicate {A = ℕ} n 0) ≡ n
zeros n = length-replicate n 0

module _ (file : List ℕ) {pipeline rules pipeline' rules' : List ℕ} (pipeline_lent : length pipeline ≡ block_room) (rules_lent : length rules ≡ block_room) where
  pub load-refused : {why : Refusal} → Loads file pipeline rules (Err why) pipeline' rules' → listing file ≡ text_of (refused_as (refusal_of why))
  unfolding listing
  load-refused {why} h = rw (told-refused why _ (calls.load file block_room block_room) (rw (pipeline_lent, rules_lent) at h.answers))

  module _ {b : loaded.Blocks} (h : Loads file pipeline rules (Ok b) pipeline' rules') (same : length pipeline' ≡ length pipeline) (also : length rules' ≡ length rules) where
    stands : Blocks file b.pipeline b.rules pipeline' rules'
    stands =
        told_blocks file pipeline rules pipeline' rules' b.pipeline b.rules (calls.load file block_room block_room) refl
        (rw (pipeline_lent, rules_lent) at h.answers) (rw (pipeline_lent, rules_lent) at h.pipeline_area) (rw (pipeline_lent, rules_lent) at h.rules_area)
        same also

    abbrev p : List ℕ
    p = take b.pipeline pipeline'

    abbrev r : List ℕ
    r = take b.rules rules'

    listed : listing file ≡ text_of (calls.passify p r node_room width_room)
    unfolding listing
    listed = rw (stands.gives, ← stands.pipeline_stands, ← stands.rules_stand)

    is_listed : {f : Form} {area : List ℕ} → Formed p r f.nodes f.variables area → length area ≡ node_room → Listed file f area
    is_listed x lent = record {
      few = omega (arith, x.room, lent);
      there = x.room;
      text = listed ∙ rw x.gives (sym (same_text x.form _ _ _ x.count x.all_widths x.stand));
    }

    module _ {nodes widths nodes' widths' : List ℕ} (nodes_lent : length nodes ≡ node_room) (widths_lent : length widths ≡ width_room) where
      formed : {f : Form} → Passifies p r nodes widths (Ok f) nodes' widths' → length nodes' ≡ length nodes → Formed p r f.nodes f.variables nodes'
      formed {f} k kept =
          told-form p r nodes nodes' f.nodes f.variables (calls.passify p r node_room width_room) refl
          (rw (nodes_lent, widths_lent) at k.answers) (rw (nodes_lent, widths_lent) at k.nodes_area) kept

      pub forms : (a : Result Form Refusal) → Passifies p r nodes widths a nodes' widths' → length nodes' ≡ length nodes → Forms file a nodes'
      forms (Ok f) k kept = is_listed (formed k kept) (kept ∙ nodes_lent)
      forms (Err why) k kept = listed ∙ ap text_of (told-refused why _ (calls.passify p r node_room width_room) (rw (nodes_lent, widths_lent) at k.answers))
