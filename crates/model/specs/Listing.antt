-- Document 01, the listing program: the text that it prints for a record file. Assumes nothing: these are definitions.
use Rattle.std.specs.Prelude.{ℕ, ◌+◌, ◌*◌, List, [], ◌∷◌, ◌++◌, length}
use Rattle.model.specs.Bytes.{decimal}
use Rattle.model.specs.Emit.{Emitted}
use Rattle.model.specs.Answers.{Answer, done, refused, after}
use Rattle.model.specs.Calls as calls
use Rattle.model.specs.declared.Node.{Node}

-- the room that it lends: words for each block, passive nodes, widths
abbrev pub block_room : ℕ
block_room = 10000

abbrev pub node_room : ℕ
node_room = 4 * 2400

abbrev pub width_room : ℕ
width_room = 2432

abbrev pub space : List ℕ
space = 0x20 ∷ []

abbrev pub newline : List ℕ
newline = 0x0A ∷ []

-- "passive ", " variables ", " condition ", "refused ", " at "
abbrev pub passive_text : List ℕ
passive_text = 0x70 ∷ 0x61 ∷ 0x73 ∷ 0x73 ∷ 0x69 ∷ 0x76 ∷ 0x65 ∷ space

abbrev pub variables_text : List ℕ
variables_text = space ++ (0x76 ∷ 0x61 ∷ 0x72 ∷ 0x69 ∷ 0x61 ∷ 0x62 ∷ 0x6C ∷ 0x65 ∷ 0x73 ∷ space)

abbrev pub condition_text : List ℕ
condition_text = space ++ (0x63 ∷ 0x6F ∷ 0x6E ∷ 0x64 ∷ 0x69 ∷ 0x74 ∷ 0x69 ∷ 0x6F ∷ 0x6E ∷ space)

abbrev pub refused_text : List ℕ
refused_text = 0x72 ∷ 0x65 ∷ 0x66 ∷ 0x75 ∷ 0x73 ∷ 0x65 ∷ 0x64 ∷ space

abbrev pub at_text : List ℕ
at_text = space ++ (0x61 ∷ 0x74 ∷ space)

-- a node's number, kind, a, b, c
abbrev pub node_line : ℕ → Node → List ℕ
node_line i n =
    decimal i ++ space ++ decimal n.kind ++ space ++ decimal n.a ++ space ++ decimal n.b ++ space ++ decimal n.c ++ newline

unfoldable pub node_lines : ℕ → List Node → List ℕ
node_lines i [] = []
node_lines i (n ∷ ns) = node_line i n ++ node_lines (i + 1) ns

-- n, V and 3n + 1; then the nodes
abbrev pub heading_text : ℕ → ℕ → List ℕ
heading_text n variables =
    passive_text ++ decimal n ++ variables_text ++ decimal variables ++ condition_text ++ decimal (3 * n + 1) ++ newline

abbrev pub form_text : Emitted → List ℕ
form_text w = heading_text (length w.nodes) (length w.widths) ++ node_lines 0 w.nodes

abbrev pub text_of : Answer Emitted → List ℕ
text_of (done w) = form_text w
text_of (refused number place) = refused_text ++ decimal number ++ at_text ++ decimal place ++ newline

unfoldable pub listing : List ℕ → List ℕ
listing file =
    text_of (after (calls.load file block_room block_room) (λ b. calls.passify b.pipeline b.rules node_room width_room))
