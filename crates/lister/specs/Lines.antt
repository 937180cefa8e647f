-- The lines of the listing program's text, and the room that they take. Assumes nothing: these are definitions.
use Rattle.std.specs.Prelude.{ℕ, ◌≡◌, ◌+◌, ◌*◌, ◌≤◌, List, ◌++◌, length, Result, Ok, Err}
use Rattle.model.specs.Lists.{word, each}
use Rattle.model.specs.Blocks.{plain_node}
use Rattle.model.specs.Files.{file_limit, bytes}
use Rattle.model.specs.Emit.{Emitted}
use Rattle.model.specs.Answers.{Answer, refused, refusal_of, number_in, values_in}
use Rattle.model.specs.Listing.{heading_text, node_lines, text_of, listing}
use Rattle.model.specs.declared.Group.{Group}
use Rattle.model.specs.declared.Form.{Form}
use Rattle.model.specs.declared.Refusal.{Refusal}
use Rattle.text.specs.Adds.{Grows}
use Rattle.text.specs.declared.Text.{Text}

-- a refusal that is told, as one that refuses a form
abbrev pub refused_as : Answer (List ℕ) → Answer Emitted
refused_as told = refused (number_in told) (word (values_in told) 0)

-- a line is at most so long: five numbers of 64 bits, each with the byte behind it; and so is a text of 2,400 nodes
abbrev pub line_room : ℕ
line_room = 105

abbrev pub text_room : ℕ
text_room = line_room * 2401

-- so many bytes of a file decide its text: with the longest record, the first that stands past the limit is whole
abbrev pub read_limit : ℕ
read_limit = file_limit + bytes Group.Rule

-- the form whose nodes stand in an area is the one that is listed
pub record Listed (file : List ℕ) (form : Form) (nodes : List ℕ) : Type 0 where
  pub few : form.nodes ≤ 2400
  pub there : 4 * form.nodes ≤ length nodes
  pub text : listing file ≡ heading_text form.nodes form.variables ++ node_lines 0 (each (plain_node nodes) form.nodes)

-- a file is listed by its form, or by a refusal's line
abbrev pub Forms : List ℕ → Result Form Refusal → List ℕ → Type 0
Forms file (Ok form) nodes = Listed file form nodes
Forms file (Err why) nodes = listing file ≡ text_of (refused_as (refusal_of why))

-- the text of a form was written; where a refusal's line is the file's text, nothing was
abbrev pub Lists : List ℕ → Text → Result (Unit {0}) Refusal → Text → Type 0
Lists file before (Ok _) now = Grows (listing file) before now
Lists file before (Err why) now = (listing file ≡ text_of (refused_as (refusal_of why))) × (now ≡ before)
