-- The lines of the listing, from the pieces that they are written in. Assumes nothing.
use Prim.Native.Nat.{ℕ, suc, ◌+◌, ◌*◌}
use native.Mathlib.Numerals.{add-one}
use native.Mathlib.Nat.{add-zero}
use native.Mathlib.Omega.{arith}
use mathlib.Core.Path.{◌≡◌, ap, subst, ◌∙◌}
use mathlib.Core.List.{List, [], ◌∷◌, ◌++◌, append_assoc, append-nil}
use lib.ListN.{length, drop}
use Rattle.model.specs.Lists.{each}
use Rattle.model.specs.Bytes.{decimal}
use Rattle.model.specs.Answers.{refusal_of, number_in, values_in}
use Rattle.model.specs.Listing.{space, newline, passive_text, variables_text, condition_text, refused_text, at_text, node_line, node_lines, text_of, heading_text}
use Rattle.model.specs.declared.Node.{Node}
use Rattle.model.specs.declared.Refusal.{Refusal}
use Rattle.model.proofs.Lists.{length-each}
use Rattle.text.specs.Adds.{Grows}
use Rattle.text.specs.declared.Text.{Text}
use Rattle.text.proofs.Pieces.{grows_more}
use Rattle.lister.specs.Lines.{refused_as}

-- the words of a line, without the space before them
abbrev variables_word : List ℕ
variables_word = drop 1 variables_text

abbrev condition_word : List ℕ
condition_word = drop 1 condition_text

abbrev at_word : List ℕ
at_word = drop 1 at_text

-- a line is words and numbers; each number was written with the byte behind it
two_numbers : (first a space word b last : List ℕ)
    → first ++ (a ++ space) ++ word ++ (b ++ last) ≡ first ++ a ++ (space ++ word) ++ b ++ last
two_numbers first a space word b last = simp append_assoc

three_numbers : (first a space word b other c last : List ℕ)
    → first ++ (a ++ space) ++ word ++ (b ++ space) ++ other ++ (c ++ last) ≡ first ++ a ++ (space ++ word) ++ b ++ (space ++ other) ++ c ++ last
three_numbers first a space word b other c last = simp append_assoc

module _ {t t₁ t₂ t₃ z : Text} where
  pub refusal_grows : (why : Refusal) (number place : ℕ) → number ≡ number_in (refusal_of why) → values_in (refusal_of why) ≡ place ∷ []
      → Grows refused_text t t₁ → Grows (decimal number ++ space) t₁ t₂ → Grows at_word t₂ t₃ → Grows (decimal place ++ newline) t₃ z
      → Grows (text_of (refused_as (refusal_of why))) t z
  refusal_grows why number place e h a b c d =
      rw (← e, h)
      (subst (λ l. Grows l t z) (two_numbers refused_text (decimal number) space at_word (decimal place) newline) (grows_more (grows_more (grows_more a b) c) d))

  module _ {t₄ : Text} where
    pub heading_grows : (n variables : ℕ) {t₅ : Text} → Grows passive_text t t₁ → Grows (decimal n ++ space) t₁ t₂ → Grows variables_word t₂ t₃
        → Grows (decimal variables ++ space) t₃ t₄ → Grows condition_word t₄ t₅ → Grows (decimal (3 * n + 1) ++ newline) t₅ z
        → Grows (heading_text n variables) t z
    heading_grows n variables a b c d e f =
        subst (λ l. Grows l t z)
        (three_numbers passive_text (decimal n) space variables_word (decimal variables) condition_word (decimal (3 * n + 1)) newline)
        (grows_more (grows_more (grows_more (grows_more (grows_more a b) c) d) e) f)

    pub line_grows : (i : ℕ) (n : Node) → Grows (decimal i ++ space) t t₁ → Grows (decimal n.kind ++ space) t₁ t₂ → Grows (decimal n.a ++ space) t₂ t₃
        → Grows (decimal n.b ++ space) t₃ t₄ → Grows (decimal n.c ++ newline) t₄ z → Grows (node_line i n) t z
    line_grows i n a b c d e = simp append_assoc (simp append_assoc at (grows_more (grows_more (grows_more (grows_more a b) c) d) e))

-- one more node is one more line
lines_snoc : (i : ℕ) (ns : List Node) (n : Node) → node_lines i (ns ++ (n ∷ [])) ≡ node_lines i ns ++ node_line (i + length ns) n
unfolding node_lines
lines_snoc i [] n = rw (add-zero, append-nil)
lines_snoc i (m ∷ ns) n =
    rw (lines_snoc (i + 1) ns n, append_assoc (node_line i m) (node_lines (i + 1) ns) (node_line (i + suc (length ns)) n))
    (ap (λ (k : ℕ). node_line i m ++ (node_lines (i + 1) ns ++ node_line k n)) (omega arith))

lines_more : (f : ℕ → Node) (i : ℕ) → node_lines 0 (each f (i + 1)) ≡ node_lines 0 (each f i) ++ node_line i (f i)
unfolding each
lines_more f i =
    rw add-one
    (lines_snoc 0 (each f i) (f i) ∙ ap (λ (k : ℕ). node_lines 0 (each f i) ++ node_line k (f i)) (omega (arith, length-each f i)))

pub one_line : (f : ℕ → Node) (i : ℕ) (n : Node) → n ≡ f i → {t t₁ z : Text} → Grows (node_lines 0 (each f i)) t t₁ → Grows (node_line i n) t₁ z
    → Grows (node_lines 0 (each f (i + 1))) t z
one_line f i n e a b = rw (lines_more f i, ← e) (grows_more a b)
