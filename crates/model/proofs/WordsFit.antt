-- The words of a well-formed passive form and of its condition fit 32 bits. Assumes nothing.
use Prim.Native.Nat.{ℕ, suc, ◌+◌, ◌-◌, ◌^◌, ◌<◌, ◌≤◌, suc-le-suc}
use native.Mathlib.Nat.{zero-lt-suc, lt_of_lt_of_le}
use native.Mathlib.Omega.{arith}
use mathlib.Core.Path.{◌≡◌, refl, sym, ap, ◌∙◌}
use mathlib.Core.Bool.{true, false, ◌&&◌, false≢true}
use mathlib.Core.List.{List, [], ◌∷◌}
use lib.Dec.{ltb, leb}
use lib.ListN.{get_or, length}
use lib.Pow.{pow_mono}
use borrow.Author.Tests.{eqb-true, ltb-true, leb-true}
use Rattle.bits.specs.Width.{fits}
use Rattle.model.specs.Lists.{build, times}
use Rattle.model.specs.Blocks.{words, plain_node}
use Rattle.model.specs.Nodes.{kind_of, allowed, roles, zero_in, width_of, is_formed, is_width, alike, sort_by}
use Rattle.model.specs.Passive.{Passive}
use Rattle.model.specs.Emit.{form_limit, emit}
use Rattle.model.specs.Condition.{no, condition_of}
use Rattle.model.specs.declared.Node.{Node}
use Rattle.model.specs.declared.Kind.{Kind}
use Rattle.model.specs.declared.Role.{Role}
use Rattle.model.specs.declared.Role.TheVariants.{Child, Number, Unused}
use Rattle.model.specs.declared.Stage.{Stage}
use Rattle.model.specs.declared.Sort.{Sort}
use Rattle.model.proofs.Booleans.{both_true}
use Rattle.model.proofs.Lists.{made}
use Rattle.model.proofs.Every.{All}
use Rattle.model.proofs.KindNumbers.{number_low}
use Rattle.model.proofs.SortTests.{width-true, only-formed, formed-before}
use Rattle.model.proofs.Children.{BeforeIn, kind_before}
use Rattle.model.proofs.GoodForms.{AllWidths, GoodPassive}
use Rattle.model.proofs.SortWidths.{all-narrow, sort_width}
use Rattle.model.proofs.NodeList.{node_count-words, plain_node-words, gives_statement}
use Rattle.model.proofs.Formed.{step, sort}
use Rattle.model.proofs.EntrySorts.{formed-node, length-built, entries_formed}
use Rattle.model.proofs.Accepts.{form-formed}

-- ---- a formed node's words

-- a word that is a number fits; that a child's is below its parent's is Children's, and that an unused one is 0 is tested for every kind alike
abbrev FitsIn : Role → ℕ → Type 0
FitsIn Child x = Unit {0}
FitsIn Number x = x < 2 ^ 32
FitsIn Unused x = Unit {0}

role_fits : (i : ℕ) (r : Role) (x : ℕ) → i ≤ 2 ^ 32 → zero_in r x ≡ true → BeforeIn i r x → FitsIn r x → x < 2 ^ 32
role_fits i Child x h z b f = omega arith
role_fits i Number x h z b f = f
role_fits i Unused x h z b f = omega (arith, eqb-true x 0 z)

module _ (ws : List ℕ) (few : length ws ≤ 2 ^ 32) (g : ℕ → Sort) (narrow : (x : ℕ) → width_of (g x) ≤ 32) where
  -- the numbers among the words of a node of a kind
  abbrev FitsAll : Kind → ℕ → ℕ → ℕ → Type 0
  FitsAll k a b c = FitsIn (roles k).a a × FitsIn (roles k).b b × FitsIn (roles k).c c

  field_fits : (a : ℕ) → ltb a (length ws) ≡ true → a < 2 ^ 32
  field_fits a e = omega (arith, ltb-true a (length ws) e)

  constant-fits : (a b c : ℕ) → is_width b && fits b a ≡ true → FitsAll Kind.Constant a b c
  constant-fits a b c e =
      let h = both_true (is_width b) (fits b a) e in
      let w = width-true b h.0 in
      (lt_of_lt_of_le (ltb-true a (2 ^ b) h.1) (pow_mono w.1), omega arith, tt)

  slice_fits : (a b c : ℕ) → ltb b (width_of (g a)) && leb c b ≡ true → FitsAll Kind.Slice a b c
  slice_fits a b c e =
      let h = both_true (ltb b (width_of (g a))) (leb c b) e in
      let high = ltb-true b (width_of (g a)) h.0 in
      let low = leb-true c b h.1 in
      let w = narrow a in
      (tt, omega arith, omega arith)

  -- a parameter's number is checked against the actions, not here
  kind_fits : (k : Kind) (a b c : ℕ) → (k ≡ Kind.Parameter → ⊥) → is_formed (sort_by ws 0 g k a b c) ≡ true → FitsAll k a b c
  kind_fits Kind.Constant a b c p e = constant-fits a b c (only-formed (is_width b && fits b a) (Sort.Value b) e).0
  kind_fits Kind.Field a b c p e = (field_fits a (only-formed (ltb a (length ws)) (Sort.Value (get_or ws a 0)) e).0, tt, tt)
  kind_fits Kind.Parameter a b c p e = absurd (p refl)
  kind_fits (Kind.Binary o) a b c p e = (tt, tt, tt)
  kind_fits Kind.Complement a b c p e = (tt, tt, tt)
  kind_fits Kind.Slice a b c p e = slice_fits a b c (only-formed (ltb b (width_of (g a)) && leb c b) (Sort.Value (b - c + 1)) e).0
  kind_fits Kind.Join a b c p e = (tt, tt, tt)
  kind_fits Kind.Select a b c p e = (tt, tt, tt)
  kind_fits Kind.Truth a b c p e = (omega (arith, leb-true a 1 (only-formed (leb a 1) Sort.Test e).0), tt, tt)
  kind_fits (Kind.Compare o) a b c p e = (tt, tt, tt)
  kind_fits Kind.Not a b c p e = (tt, tt, tt)
  kind_fits (Kind.Connect o) a b c p e = (tt, tt, tt)
  kind_fits Kind.Skip a b c p e = (tt, tt, tt)
  kind_fits Kind.Assign a b c p e =
      let v = alike (g b) (Sort.Value (get_or ws a 0)) in
      (field_fits a (both_true (ltb a (length ws)) v (only-formed (ltb a (length ws) && v) Sort.Statement e).0).0, tt, tt)
  kind_fits Kind.Havoc a b c p e = (field_fits a (only-formed (ltb a (length ws)) Sort.Statement e).0, tt, tt)
  kind_fits Kind.Assume a b c p e = (tt, tt, tt)
  kind_fits Kind.Assert a b c p e = (tt, tt, tt)
  kind_fits Kind.Sequence a b c p e = (tt, tt, tt)
  kind_fits Kind.Choice a b c p e = (tt, tt, tt)
  kind_fits Kind.Apply a b c p e = (absurd (omega (arith, ltb-true a 0 (only-formed (ltb a 0) Sort.Statement e).0)), tt, tt)
  kind_fits Kind.Unknown a b c p e = (tt, tt, tt)

-- ---- a list's words

-- a node's four words
abbrev pub NodeFits : Node → Type 0
NodeFits m = (m.kind < 2 ^ 32) × (m.a < 2 ^ 32) × (m.b < 2 ^ 32) × (m.c < 2 ^ 32)

-- lists of a stage that has no parameters
module _ (stage : Stage) (bare : allowed stage 3 ≡ false) (ws : List ℕ) (all : AllWidths ws) (few : length ws ≤ 2 ^ 32) where
  pub formed-fits : (nodes : ℕ → Node) (i : ℕ) → i ≤ 2 ^ 32 → is_formed (sort stage ws nodes i) ≡ true → NodeFits (nodes i)
  unfolding sort made step
  formed-fits nodes i low h =
      let m = nodes i in
      let f = step stage ws nodes in
      let k = kind_of stage m.kind in
      let known = formed-node stage ws (build f i) m h in
      let narrow : (x : ℕ) → width_of (get_or (build f i) x Sort.Malformed) ≤ 32 = sort_width ws 0 (all-narrow ws all) stage nodes i in
      let none : k ≡ Kind.Parameter → ⊥ = λ e. false≢true (sym bare ∙ rw e at known.may) in
      let g : ℕ → Sort = λ x. get_or (build f i) x Sort.Malformed in
      let b = kind_before i ws 0 g (formed-before f i) k m.a m.b m.c known.good in
      let w = kind_fits ws few g narrow k m.a m.b m.c none known.good in
      let zeros = both_true (zero_in (roles k).a m.a && zero_in (roles k).b m.b) (zero_in (roles k).c m.c) known.zeros in
      let first = both_true (zero_in (roles k).a m.a) (zero_in (roles k).b m.b) zeros.0 in (
        omega (arith, number_low k, ap (λ (n : Node). n.kind) known.is),
        role_fits i (roles k).a m.a low first.0 b.0 w.0,
        role_fits i (roles k).b m.b low first.1 b.1 w.1,
        role_fits i (roles k).c m.c low zeros.1 b.2 w.2,
      )

all_words : (ns : List Node) → ((i : ℕ) → i < length ns → NodeFits (get_or ns i no)) → All (λ w. w < 2 ^ 32) (words ns)
unfolding words
all_words [] h = tt
all_words (n ∷ ns) h =
    let f = h 0 (zero-lt-suc _) in
    (f.0, (f.1, (f.2, (f.3, all_words ns (λ i k. h (suc i) (suc-le-suc k))))))

pub words_fit : (stage : Stage) → allowed stage 3 ≡ false → (ws : List ℕ) → AllWidths ws → length ws ≤ 2 ^ 32 → (ns : List Node) → length ns ≤ 2 ^ 32
    → ((i : ℕ) → i < length ns → is_formed (sort stage ws (plain_node (words ns)) i) ≡ true) → All (λ w. w < 2 ^ 32) (words ns)
words_fit stage bare ws all few ns low formed =
    all_words ns (λ i h. rw (← plain_node-words ns i no h) (formed-fits stage bare ws all few (plain_node (words ns)) i (omega arith) (formed i h)))

-- ---- the words of a well-formed form and of its condition

module _ (q : Passive) (ws : List ℕ) (good : GoodPassive ws q) (all : AllWidths ws) (small : length (emit q 0) ≤ form_limit) (few : length ws ≤ 2 ^ 32) where
  abbrev form_of : List ℕ
  form_of = words (emit q 0)

  pub form-fits : All (λ w. w < 2 ^ 32) form_of
  unfolding times
  form-fits =
      words_fit Stage.Passive refl ws all few (emit q 0) (omega arith) (λ i h. form-formed q ws good all i (omega (arith, node_count-words (emit q 0))))

  pub condition-fits : All (λ w. w < 2 ^ 32) (words (condition_of form_of))
  unfolding times
  condition-fits =
      let count = node_count-words (emit q 0) in
      let some = (gives_statement (plain_node form_of) q).some 0 in
      words_fit Stage.Condition refl ws all few (condition_of form_of) (omega (arith, length-built form_of, count))
      (entries_formed form_of ws (omega (arith, some, count)) (form-formed q ws good all))
