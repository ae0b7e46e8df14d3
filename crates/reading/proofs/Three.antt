-- The ways through an unrooted tree's top behind its bracket, from what each step answered: two labels, or three nodes.
-- Assumes nothing.
use mathlib.Core.Path.{◌≡◌, refl, sym, ap, ◌∙◌}
use mathlib.Core.Bool.{Bool, true}
use mathlib.Core.List.{List, [], ◌∷◌, ◌++◌}
use Prim.Native.Nat.{ℕ, ◌+◌, ◌-◌, ◌/◌, ◌≤◌, ◌<◌}
use native.Mathlib.Omega.{arith}
use lib.ListN.{length, drop, get_or, set, length-set}
use lib.Seq.{sets, length-sets}
use Rattle.meaning.specs.Tree.{Tree, leaf, fork, labels, leaves}
use Rattle.meaning.specs.Reading.{Read, got, and_then, skip, byte_at, token, read_node, two_labels, third_at, three_at}
use Rattle.meaning.proofs.Labels.{labels_length}
use Rattle.meaning.proofs.Logic.{clash}
use Rattle.meaning.proofs.Ways.{third-two, third-more}
use Rattle.lent.specs.Runs.{Stands}
use Rattle.lent.proofs.Runs.{sets-start}
use Rattle.held.specs.Held.{nodes, pre}
use Rattle.held.specs.Labels.{labels_within}
use Rattle.held.proofs.Laws.{length-pre, twice, some-nodes}
use Rattle.tokens.specs.Draft.{draft_bytes, seen, Draft, token_at}
use Rattle.tokens.specs.Paper.{Accepts}
use Rattle.reading.specs.Opening.{Halves, HasHalves, TopStands}
use Rattle.tokens.proofs.Draft.{seen-open, draft-open, open-room, closed-by}
use Rattle.reading.proofs.Fork.{Noded, Passed, next-draft, next-seen, next-in}
use Rattle.tokens.proofs.Meet.{token-then}
use Rattle.tokens.proofs.Steps.{then-got}

-- ---- the top's first node follows
module _ (s : List ℕ) (p : ℕ) {node : List ℕ} {marks : List Bool} (d : Draft node marks 0 63) where
  abbrev seconds : Tree → ℕ → Read Tree
  seconds a p₂ = and_then (read_node 62 s p₂ (labels a)) (λ b p₃. third_at (read_node 62 s) s a b p₃)

  pub three-is : three_at (read_node 62 s) s p ≡ and_then (read_node 62 s p (seen (set node 0 0) 1)) (λ a p₁. token 44 s p₁ (seconds a))
  unfolding three_at labels_within
  three-is = rw (seen-open d)

  -- it was accepted
  module _ {node₁ : List ℕ} {marks₁ : List Bool} {q k : ℕ} (A : Noded (read_node 62 s p (seen (set node 0 0) 1)) q (set node 0 0) node₁ marks₁ 1 k) where
    pub three-first : three_at (read_node 62 s) s p ≡ and_then (token_at 44 s q) (λ u p₂. seconds A.value p₂)
    three-first = three-is ∙ then-got (λ a p₁. token 44 s p₁ (seconds a)) A.is ∙ token-then 44 s q (seconds A.value)

    first-seen : seen node₁ k ≡ labels A.value
    unfolding labels_within
    first-seen = next-seen s p (draft-open d) A ∙ ap (λ (l : List ℕ). l ++ labels A.value) (seen-open d)

    -- the fork of the second node and a third is opened
    half-draft : Draft node₁ marks₁ k 63
    half-draft =
        let D : Draft node₁ marks₁ k 62 = next-draft s p (draft-open d) A in
        let n : length (seen node₁ k) ≡ leaves A.value = ap length first-seen ∙ labels_length A.value in
        record { size = D.size; once = D.once; fits = omega (arith, n, A.keeps.count, twice A.value); marked = D.marked }

    pub half_in : k < length node₁
    half_in = open-room half-draft

    pub second-draft : Draft (set node₁ k 0) marks₁ (k + 1) 62
    second-draft = draft-open half-draft

    second-seen : seen (set node₁ k 0) (k + 1) ≡ labels A.value
    second-seen = seen-open half-draft ∙ first-seen

    -- the comma was accepted
    module _ {q' : ℕ} (c : Passed (token_at 44 s q) q') where
      pub three-second : three_at (read_node 62 s) s p ≡ and_then (read_node 62 s q' (seen (set node₁ k 0) (k + 1))) (λ b p₃. third_at (read_node 62 s) s A.value b p₃)
      three-second = rw second-seen (three-first ∙ then-got (λ u p₂. seconds A.value p₂) c.is)

      -- and the second node
      module _ {node₂ : List ℕ} {marks₂ : List Bool} {p₂ end : ℕ} (B : Noded (read_node 62 s q' (seen (set node₁ k 0) (k + 1))) p₂ (set node₁ k 0) node₂ marks₂ (k + 1) end) where
        pub halves : Halves node₂ marks₂ k end A.value B.value
        halves = record {
          start = node;
          cells = B.keeps.cells ∙ ap (λ (l : List ℕ). sets (set l k 0) (k + 1) (pre B.value)) A.keeps.cells;
          middle = A.keeps.count;
          behind = B.keeps.count;
          told = next-seen s q' second-draft B ∙ ap (λ (l : List ℕ). l ++ labels B.value) second-seen;
          draft = next-draft s q' second-draft B;
        }

        pub has-halves : HasHalves node₂ marks₂ k end
        has-halves = record { first = A.value; second = B.value; halves = halves }

        pub three-rest : three_at (read_node 62 s) s p ≡ third_at (read_node 62 s) s A.value B.value p₂
        three-rest = three-second ∙ then-got (λ b p₃. third_at (read_node 62 s) s A.value b p₃) B.is

-- ---- two nodes of a top are two labels where there are two in all
two-labels : (a b : Tree) → nodes a + nodes b ≡ 2 → two_labels (fork a b) ≡ true
unfolding two_labels
two-labels (leaf v) (leaf w) e = refl
two-labels (leaf v) (fork b c) e = absurd (omega (arith, some-nodes b, some-nodes c))
two-labels (fork a b) c e = absurd (omega (arith, some-nodes a, some-nodes b, some-nodes c))

labels-two : (a b : Tree) → two_labels (fork a b) ≡ true → nodes a + nodes b ≡ 2
unfolding two_labels
labels-two (leaf v) (leaf w) e = refl
labels-two (leaf v) (fork b c) e = clash cc
labels-two (fork a b) c e = clash cc

-- then the second label is moved to the first's side, and the byte before both is the fork's
two-stand : (a b : Tree) (start : List ℕ) → nodes a + nodes b ≡ 2 → 4 ≤ length start
    → let node : List ℕ = sets (set (sets (set start 0 0) 1 (pre a)) 2 0) 3 (pre b) in Stands (set (set node 2 (get_or node 3 0)) 0 66) 0 (pre (fork a b))
two-stand (leaf v) (leaf w) (h ∷ i ∷ j ∷ k ∷ l) e n = (w ∷ l, refl)
two-stand (leaf v) (leaf w) (h ∷ i ∷ j ∷ []) e n = absurd (omega arith)
two-stand (leaf v) (leaf w) (h ∷ i ∷ []) e n = absurd (omega arith)
two-stand (leaf v) (leaf w) (h ∷ []) e n = absurd (omega arith)
two-stand (leaf v) (leaf w) [] e n = absurd (omega arith)
two-stand (leaf v) (fork b c) start e n = absurd (omega (arith, some-nodes b, some-nodes c))
two-stand (fork a b) c start e n = absurd (omega (arith, some-nodes a, some-nodes b, some-nodes c))

-- ---- two nodes of a top are read
module _ (s : List ℕ) (p : ℕ) {node : List ℕ} {marks : List Bool} {half end : ℕ} {a b : Tree} (h : Halves node marks half end a b) where
  same_start : length node ≡ length h.start
  same_start = ap length h.cells ∙ simp (length-sets, length-set)

  pub long : length node ≡ 191
  long = h.draft.size

  -- they are two labels, and the bracket is closed behind them
  module _ (four : end ≡ 4) where
    both : nodes a + nodes b ≡ 2
    both = omega (arith, h.middle, h.behind)

    stand : Stands (set (set node 2 (get_or node 3 0)) 0 66) 0 (pre (fork a b))
    stand =
        let two : half ≡ 2 = omega (arith, h.middle, h.behind, some-nodes a, some-nodes b) in
        rw (h.cells, two) (two-stand a b h.start both (omega (arith, same_start, long)))

    pub third-closed : {q x v : ℕ} → q ≡ skip s p → x ≡ get_or s q 0 → x ≡ 41 → v ≡ 66 → Accepts (third_at (read_node 62 s) s a b p) (q + 1) (TopStands (set (set node 2 (get_or node 3 0)) 0 v) 3)
    third-closed {q} e f g z = record {
      value = fork a b;
      is = rw e (third-two (read_node 62 s) s a b p (two-labels a b both) (ap (λ (j : ℕ). get_or s j 0) (sym e) ∙ sym f ∙ g));
      keeps = record { cells = rw z stand; count = omega (arith, both) };
    }

  -- a third node is read behind them
  module _ (q : ℕ) {node₃ : List ℕ} {marks₃ : List Bool} {p₃ last : ℕ} (C : Noded (read_node 62 s q (seen node end)) p₃ node node₃ marks₃ end last) where
    all : last ≡ nodes (fork a (fork b C.value))
    all = omega (arith, h.middle, h.behind, C.keeps.count)

    pub half_room : (half < last) × (last ≤ half + draft_bytes)
    half_room = (omega (arith, h.middle, all), omega (arith, next-in s q h.draft C, long))

    pub top-room : (0 < last) × (last ≤ draft_bytes)
    top-room = (omega (arith, all), omega (arith, next-in s q h.draft C, long))

    pub half-in-third : length node₃ ≡ length node → half < length node₃
    half-in-third n = omega (arith, half_room, top-room, long)

    -- both forks are closed
    closed : (v w : ℕ) → v ≡ 64 + (last - half + 1) / 2 → w ≡ 64 + (last - 0 + 1) / 2 → set (set node₃ half v) 0 w ≡ sets h.start 0 (pre (fork a (fork b C.value)))
    closed v w f g =
        let x = C.value in
        let base : List ℕ = sets (set h.start 0 0) 1 (pre a) in
        let inner : set node₃ half v ≡ sets base half (pre (fork b x)) =
        closed-by base node node₃ half end v b x h.cells h.behind C.keeps.cells (omega (arith, all, h.middle, twice b, twice x)) in
        closed-by h.start base (set node₃ half v) 0 half w a (fork b x) refl h.middle inner (omega (arith, all, twice a, twice b, twice x))

    pub third-stands : (v w : ℕ) → v ≡ 64 + (last - half + 1) / 2 → w ≡ 64 + (last - 0 + 1) / 2 → TopStands (set (set node₃ half v) 0 w) last (fork a (fork b C.value))
    third-stands v w f g =
        let t : Tree = fork a (fork b C.value) in
        record { cells = (drop (length (pre t)) h.start, closed v w f g ∙ sets-start h.start (pre t) (omega (arith, length-pre t, all, top-room, same_start, long))); count = all }

  -- unless they are two labels and the bracket is closed behind them
  module _ (more : end ≡ 4 → byte_at s (skip s p) ≡ 41 → ⊥) where
    abbrev closes : Tree → ℕ → Read Tree
    closes x p₂ = token 41 s p₂ (λ p₃. got (fork a (fork b x)) p₃)

    abbrev thirds : ℕ → Read Tree
    thirds p₁ = and_then (read_node 62 s p₁ (labels a ++ labels b)) closes

    pub third-is : third_at (read_node 62 s) s a b p ≡ and_then (token_at 44 s p) (λ u p₁. thirds p₁)
    third-is = third-more (read_node 62 s) s a b p (λ e f. more (omega (arith, h.middle, h.behind, labels-two a b e)) f) ∙ token-then 44 s p thirds

    module _ {q : ℕ} (c : Passed (token_at 44 s p) q) where
      pub third-rest : third_at (read_node 62 s) s a b p ≡ and_then (read_node 62 s q (seen node end)) closes
      third-rest = rw h.told (third-is ∙ then-got (λ u p₁. thirds p₁) c.is)

      pub third-closes : {x : Tree} {p₃ : ℕ} → read_node 62 s q (seen node end) ≡ got x p₃ → third_at (read_node 62 s) s a b p ≡ and_then (token_at 41 s p₃) (λ u p₄. got (fork a (fork b x)) p₄)
      third-closes {x} {p₃} e = third-rest ∙ then-got closes e ∙ token-then 41 s p₃ (λ p₄. got (fork a (fork b x)) p₄)
