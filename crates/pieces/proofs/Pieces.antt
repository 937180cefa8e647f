-- Laws of pieces that are written one after the other: nothing, a piece behind a piece, and a piece above the limit. Assumes nothing.
use Prim.Native.Nat.{ℕ, ◌+◌, ◌*◌, ◌-◌, ◌≤◌, ◌<◌}
use native.Mathlib.Decide.{dec_le}
use native.Mathlib.Numerals.{add-one}
use native.Mathlib.Nat.{add-zero}
use native.Mathlib.Omega.{arith}
use mathlib.Core.Path.{◌≡◌, refl, ap, sym, subst, ◌∙◌}
use mathlib.Core.List.{List, [], ◌∷◌, ◌++◌, append_assoc, append-nil}
use lib.ListN.{get_or, length, take, drop, length-append, length-take, length-drop, drop_of_length-le}
use lib.Seq.{length-take-le, take-suc, take_all, take_at, drop_at, drop-drop}
use Rattle.model.specs.Blocks.{words}
use Rattle.model.specs.Emit.{Piece, one, two, past, form_limit}
use Rattle.model.specs.Calls.{over}
use Rattle.model.specs.declared.Node.{Node}
use Rattle.model.proofs.NodeList.{length-words}
use Rattle.pieces.specs.Pieces.{Emitted, Behind, Start}

-- the part of an area from s on, as it is lent, and the area when that part has come back as ys
abbrev pub lent : ℕ → List ℕ → List ℕ
lent s area = take (length area - s) (drop s area)

abbrev pub back : ℕ → List ℕ → List ℕ → List ℕ
back s area ys = take s area ++ (ys ++ drop (length area - s) (drop s area))

words_append : (x y : List Node) → words (x ++ y) ≡ words x ++ words y
unfolding words
words_append [] y = refl
words_append (n ∷ x) y = ap (λ (ws : List ℕ). n.kind ∷ n.a ∷ n.b ∷ n.c ∷ ws) (words_append x y)

-- words, and behind them words into the part that is lent
put-behind : (ws vs before mid ys : List ℕ) (s : ℕ) → mid ≡ over ws before → s ≡ length ws → s ≤ length mid → ys ≡ over vs (lent s mid)
    → back s mid ys ≡ over (ws ++ vs) before
put-behind ws vs before mid ys s m e h y =
    let long : length (drop s mid) ≡ length mid - s = length-drop s mid in
    let whole : lent s mid ≡ drop s mid = take_all (length mid - s) (drop s mid) (omega arith) in
    let none : drop (length mid - s) (drop s mid) ≡ [] = drop_of_length-le (drop s mid) {i = length mid - s} (omega arith) in
    let front : take s mid ≡ ws = ap (take s) m ∙ take_at ws (drop (length ws) before) s (sym e) in
    let rest : drop s mid ≡ drop (length ws) before = ap (drop s) m ∙ drop_at ws (drop (length ws) before) s (sym e) in
    rw (none, front, y, whole, rest) (simp (append_assoc, append-nil, drop-drop, length-append))

-- nothing is written
pub nothing : (at : ℕ) (area : List ℕ) → Emitted [] at area area at
unfolding words
nothing at area = record { onward = omega arith; exact = λ h. sym (add-zero at); large = λ h. omega arith; wrote = λ h k. refl }

-- nothing is said of the area where the limit is passed
pub too_large : (nodes : List Node) (at : ℕ) (area area' : List ℕ) (to : ℕ) → form_limit < past at nodes → at ≤ to → form_limit < to → Emitted nodes at area area' to
too_large nodes at area area' to h k l = record { onward = k; exact = λ g. absurd (omega arith); large = λ g. l; wrote = λ g. absurd (omega arith) }

pub beyond : (nodes : List Node) (at : ℕ) (area area' : List ℕ) → form_limit < at → Emitted nodes at area area' at
beyond nodes at area area' h = too_large nodes at area area' at (omega arith) (omega arith) h

module _ {x : List Node} {at : ℕ} {before mid : List ℕ} {p : ℕ} (e : Emitted x at before mid p) where
  -- the number behind a piece says whether the limit holds
  pub fits_so : p ≤ form_limit → past at x ≤ form_limit
  fits_so h = elim (dec_le (past at x) form_limit) [ yes k ↦ k | no k ↦ let l = e.large (omega arith) in omega arith ]

  pub large_so : form_limit < p → form_limit < past at x
  large_so h = elim (dec_le (past at x) form_limit) [ yes k ↦ let l = e.exact k in omega arith | no k ↦ omega arith ]

  -- a piece behind a piece, in the part of the area that is lent
  pub behind : {y : List Node} {ys : List ℕ} {s q : ℕ} → length mid ≡ length before → Start at p (length mid) s → Emitted y p (lent s mid) ys q
      → Emitted (x ++ y) at before (back s mid ys) q
  behind {y} {ys} {s} {q} same st f =
      let both : length (x ++ y) ≡ length x + length y = length-append x y in
      let lx = length-words x in
      let ly = length-words y in
      let first : past at (x ++ y) ≤ form_limit → past at x ≤ form_limit = λ h. omega arith in
      let onto : past at (x ++ y) ≤ form_limit → past p y ≡ past at (x ++ y) = λ h. let g = e.exact (first h) in omega arith in
      record {
        onward = omega (arith, e.onward, f.onward);
        exact = λ h. let o = onto h in f.exact (omega arith) ∙ o;
        large = λ h.
            elim (dec_le (past at x) form_limit)
            [ yes k ↦ let g = e.exact k in f.large (omega arith) | no k ↦ let g = e.large (omega arith) in omega (arith, f.onward) ];
        wrote = λ h k.
            let o = onto h in
            let g = e.exact (first h) in
            let room : length (words x) + length (words y) ≤ length before = omega (arith, rw (words_append x y, length-append (words x) (words y)) at k) in
            let long : s ≡ length (words x) = st.exact (omega arith) ∙ omega arith in
            let left : length (lent s mid) ≡ length mid - s = simp (length-take, length-drop) (omega arith) in
            rw (words_append x y)
            (put-behind (words x) (words y) before mid ys s (e.wrote (first h) (omega arith)) long st.within (f.wrote (omega arith) (omega arith)));
      }

-- a piece whose nodes go by the number that it begins with
pub then_piece : {x : List Node} {at : ℕ} {before mid : List ℕ} {p : ℕ} → Emitted x at before mid p → {ys : List ℕ} {s q : ℕ}
    → length mid ≡ length before → Start at p (length mid) s → (y : Piece) → Emitted (y p) p (lent s mid) ys q
    → Emitted (x ++ y (past at x)) at before (back s mid ys) q
then_piece {x} {at} {before} {mid} {p} e {ys} {s} {q} same st y f =
    let both : length (x ++ y (past at x)) ≡ length x + length (y (past at x)) = length-append x (y (past at x)) in
    elim (dec_le (past at x) form_limit) [
      | yes h ↦ behind e same st (subst (λ n. Emitted (y n) p (lent s mid) ys q) (e.exact h) f)
      | no h ↦
          let l = e.large (omega arith) in
          too_large (x ++ y (past at x)) at before (back s mid ys) q (omega arith) (omega (arith, e.onward, f.onward)) (omega (arith, f.onward))
    ]

-- the same, where it isn't said what stands before
pub lent_behind : {before ys : List ℕ} {from at s to : ℕ} → Start from at (length before) s → (piece : Piece) → Emitted (piece at) at (lent s before) ys to
    → Behind piece from at before (back s before ys) to
lent_behind st piece f = record { onward = f.onward; counted = λ h. f.exact (fits_so f h); extends = λ same e. then_piece e same st piece f }

-- nothing, behind what stands in the area
pub none-behind : (from at : ℕ) (area : List ℕ) → Behind (λ _. []) from at area area at
none-behind from at area = record { onward = omega arith; counted = λ h. sym (add-zero at); extends = λ same e. rw append-nil e }

-- above the limit, any piece
pub beyond_behind : (piece : Piece) (from at : ℕ) (now : List ℕ) → form_limit < at → Behind piece from at now now at
beyond_behind piece from at now h = record {
  onward = omega arith;
  counted = λ k. absurd (omega arith);
  extends = λ {x} {area} same e.
      let l = large_so e h in
      let both : length (x ++ piece (past from x)) ≡ length x + length (piece (past from x)) = length-append x (piece (past from x)) in
      too_large (x ++ piece (past from x)) from area now at (omega arith) e.onward h;
}

-- a piece alone
pub alone : {piece : Piece} {at : ℕ} {before after : List ℕ} {to : ℕ} → Behind piece at at before after to → Emitted (piece at) at before after to
alone {piece} {at} {before} {after} {to} b =
    subst (λ k. Emitted (piece k) at before after to) (add-zero at) (b.extends refl (nothing at before))

-- Nodes that go by numbers from before: behind the limit it is the same which they are.
pub numbered : {x nodes nodes' : List Node} {from at : ℕ} {area before after : List ℕ} {to : ℕ} → length before ≡ length area
    → Emitted x from area before at → (at ≤ form_limit → nodes ≡ nodes') → (at ≤ form_limit → Behind (λ _. nodes) from at before after to) → at ≤ to
    → Emitted (x ++ nodes') from area after to
numbered {x} {nodes} {nodes'} {from} {at} {area} {before} {after} {to} same e are b on =
    let both : length (x ++ nodes') ≡ length x + length nodes' = length-append x nodes' in
    elim (dec_le at form_limit) [
      | yes h ↦ rw (← are h) ((b h).extends same e)
      | no h ↦
          let l = large_so e (omega arith) in
          too_large (x ++ nodes') from area after to (omega arith) (omega (arith, e.onward)) (omega arith)
    ]

pub past-append : (at : ℕ) (x y : List Node) → past at (x ++ y) ≡ past (past at x) y
past-append at x y = omega (arith, length-append x y)

-- two pieces, and behind them nodes that go by the numbers behind both
abbrev pub pair : Piece → Piece → (ℕ → ℕ → List Node) → Piece
pair a b last at =
    let x = a at in
    let y = b (past at x) in
    x ++ (y ++ last (past at x) (past (past at x) y))

module _ {a b : Piece} (last : ℕ → ℕ → List Node) {from at l r to : ℕ} {area₀ area₁ area₂ area₃ : List ℕ} (first : Behind a from at area₀ area₁ l)
    (s₁ : length area₁ ≡ length area₀) (second : l ≤ form_limit → Behind b from l area₁ area₂ r) (on₂ : l ≤ r) (s₂ : length area₂ ≡ length area₁)
    (third : r ≤ form_limit → Behind (λ _. last l r) from r area₂ area₃ to) (on₃ : r ≤ to) where
  pair_extends : {x : List Node} {area : List ℕ} → length area₀ ≡ length area → Emitted x from area area₀ at
      → Emitted (x ++ pair a b last (past from x)) from area area₃ to
  pair_extends {x} {area} same e =
      let one = first.extends same e in
      let y = a (past from x) in
      let m = past (past from x) y in
      let z = b m in
      let k : past from (x ++ y) ≡ m = past-append from x y in
      let n : past from ((x ++ y) ++ z) ≡ past m z = past-append from (x ++ y) z ∙ ap (λ i. past i z) k in
      elim (dec_le l form_limit) [
        | yes h ↦
            let two : Emitted ((x ++ y) ++ z) from area area₂ r = rw k at ((second h).extends (s₁ ∙ same) one) in
            let are : r ≤ form_limit → last l r ≡ last m (past m z) = λ i. rw (one.exact (fits_so one h) ∙ k, two.exact (fits_so two i) ∙ n) in
            rw (append_assoc (x ++ y) z (last m (past m z)) ∙ append_assoc x y (z ++ last m (past m z))) at
            (numbered (s₂ ∙ s₁ ∙ same) two are third on₃)
        | no h ↦
            let big = large_so one (omega arith) in
            let rest = z ++ last m (past m z) in
            let long : length (x ++ (y ++ rest)) ≡ length (x ++ y) + length rest = rw (← append_assoc x y rest) (length-append (x ++ y) rest) in
            too_large (x ++ (y ++ rest)) from area area₃ to (omega arith) (omega (arith, one.onward)) (omega arith)
      ]

  pair_counted : to ≤ form_limit → to ≡ past at (pair a b last at)
  pair_counted h =
      let f = first.counted (omega arith) in
      let g = (second (omega arith)).counted (omega arith) in
      let i = (third (omega arith)).counted h in
      let y = b l in
      let whole : pair a b last at ≡ a at ++ (y ++ last l r) = rw (← f, ← g) in
      rw whole (omega (arith, length-append (a at) (y ++ last l r), length-append y (last l r)))

  pub pair_behind : Behind (pair a b last) from at area₀ area₃ to
  pair_behind = record { onward = omega (arith, first.onward); counted = pair_counted; extends = pair_extends }

-- a node behind one piece, and behind two
pub one-behind : {a : Piece} (own : ℕ → Node) {from at l to : ℕ} {area₀ area₁ area₂ : List ℕ} → Behind a from at area₀ area₁ l → length area₁ ≡ length area₀
    → Behind (λ _. own (l - 1) ∷ []) from l area₁ area₂ to → Behind (one a own) from at area₀ area₂ to
one-behind own {from} {at} {l} {to} {area₀} {area₁} first s₁ last =
    pair_behind (λ l r. own (l - 1) ∷ []) first s₁ (λ _. none-behind from l area₁) (omega arith) refl (λ _. last) last.onward

pub two-behind : {a b : Piece} (own : ℕ → ℕ → Node) {from at l r to : ℕ} {area₀ area₁ area₂ area₃ : List ℕ} → Behind a from at area₀ area₁ l
    → length area₁ ≡ length area₀ → Behind b from l area₁ area₂ r → length area₂ ≡ length area₁ → Behind (λ _. own (l - 1) (r - 1) ∷ []) from r area₂ area₃ to
    → Behind (two a b own) from at area₀ area₃ to
two-behind own first s₁ second s₂ last =
    pair_behind (λ l r. own (l - 1) (r - 1) ∷ []) first s₁ (λ _. second) second.onward s₂ (λ _. last) last.onward

-- the number grows with a piece that has nodes, and is then above 0
pub grows : {piece : Piece} → ((k : ℕ) → 0 < length (piece k)) → {from at to : ℕ} {before after : List ℕ} → Behind piece from at before after to
    → to ≤ form_limit → at < to
grows some {from} {at} b h = let k = some at in omega (arith, b.counted h)

pub behind-some : {piece : Piece} → ((k : ℕ) → 0 < length (piece k)) → {from at to : ℕ} {before after : List ℕ} → Behind piece from at before after to → 1 ≤ to
behind-some some {from} {at} {to} b = elim (dec_le to form_limit) [ yes h ↦ let k = grows some b h in omega arith | no h ↦ omega arith ]

-- the number behind some nodes is above 0
pub above_none : {x : List Node} {at : ℕ} {before after : List ℕ} {to : ℕ} → 0 < length x → Emitted x at before after to → 1 ≤ to
above_none {x} {at} {before} {after} {to} h e =
    elim (dec_le (past at x) form_limit) [ yes k ↦ let l = e.exact k in omega arith | no k ↦ let l = e.large (omega arith) in omega arith ]

-- a node's words, put where there is room
pub put-node : (n : Node) {before after : List ℕ} {at : ℕ} → (4 ≤ length before → after ≡ over (n.kind ∷ n.a ∷ n.b ∷ n.c ∷ []) before)
    → at ≤ form_limit → Emitted (n ∷ []) at before after (at + 1)
unfolding words
put-node n put h = record { onward = omega arith; exact = λ k. omega arith; large = λ k. omega arith; wrote = λ k l. put l }

-- nodes one behind the other: the words of the first i are written, and then the next one's
pub put-next : (nodes : List Node) {i : ℕ} (area : List ℕ) {mid ys : List ℕ} {n : Node} (d : Node) → i < length nodes → mid ≡ over (words (take i nodes)) area
    → 4 * i ≤ length mid → n ≡ get_or nodes i d → ys ≡ over (n.kind ∷ n.a ∷ n.b ∷ n.c ∷ []) (lent (4 * i) mid)
    → back (4 * i) mid ys ≡ over (words (take (i + 1) nodes)) area
unfolding words
put-next nodes {i} area {mid} {ys} {n} d h m room is y =
    let first = take i nodes in
    let long : 4 * i ≡ length (words first) = omega (arith, length-words first, length-take-le i nodes (omega arith)) in
    rw (add-one i, take-suc nodes i d h, ← is, words_append first (n ∷ []))
    (put-behind (words first) (n.kind ∷ n.a ∷ n.b ∷ n.c ∷ []) area mid ys (4 * i) m long room y)

-- nodes, put where there is room for all of them, and counted as far as the limit and one more
pub put-all : (nodes : List Node) {before after : List ℕ} {at count : ℕ} → (length (words nodes) ≤ length before → after ≡ over (words nodes) before)
    → at ≤ form_limit → (length nodes ≤ form_limit → count ≡ length nodes) → (form_limit < length nodes → form_limit < count)
    → Emitted nodes at before after (at + count)
put-all nodes {before} {after} {at} {count} put h few many =
    record {
      onward = omega arith;
      exact = λ k. let c = few (omega arith) in omega arith;
      large = λ k. elim (dec_le (length nodes) form_limit) [ yes l ↦ let c = few l in omega arith | no l ↦ let c = many (omega arith) in omega arith ];
      wrote = λ k l. put l;
    }

-- a node behind those of a list before it
pub put-more : (nodes : List Node) {i at to to' : ℕ} {area mid after : List ℕ} {n : Node} (d : Node) → i < length nodes → Emitted (take i nodes) at area mid to
    → length mid ≡ length area → n ≡ get_or nodes i d → Behind (λ _. n ∷ []) at to mid after to' → Emitted (take (i + 1) nodes) at area after to'
put-more nodes {i} d h e same is b = rw (add-one i, take-suc nodes i d h, ← is) (b.extends same e)
