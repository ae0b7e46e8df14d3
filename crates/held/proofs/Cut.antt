-- Cuts of a held tree: which subtree a cut's number names, what is left without it, and what `cut_node` meets on its walk.
-- Assumes nothing.
use mathlib.Core.Path.{◌≡◌, refl, sym, ap, ap₂, subst, ◌∙◌}
use mathlib.Core.List.{List, [], ◌∷◌}
use Prim.Native.Nat.{ℕ, zero, suc, ◌+◌, ◌-◌, ◌≤◌, ◌<◌}
use native.Mathlib.Decide.{ℕ_discrete, dec_lt}
use native.Mathlib.Omega.{arith}
use lib.ListN.{length, get_or, set, replicate}
use Rattle.meaning.specs.Tree.{Tree, leaf, fork, leaves, In, Small, canon, Canonical}
use Rattle.meaning.specs.Move.{Prune, first, second, in_first, in_second, Cut, deeper, cuts, cut_at}
use Rattle.meaning.proofs.Cuts.{cut-first, cut-in-first, cut-second, cut-in-second}
use Rattle.meaning.proofs.Labels.{some-leaves}
use Rattle.meaning.proofs.Lists.{numbered}
use Rattle.meaning.proofs.Moves.{IsCut, prune-in, cut-prune, cuts-length}
use Rattle.lent.specs.Runs.{Wrote}
use Rattle.held.specs.Held.{nodes, byte, pre, Holds, hold, cut_in, HasCut}
use Rattle.held.specs.Node.{subtree, Below, cut_below}
use Rattle.held.specs.declared.node.Node.{Node}
use Rattle.held.proofs.Laws.{twice, children, inside, holding, wrote-fork}
use Rattle.held.proofs.Subtree.{node-holds, at-node}

-- the default of a list of cuts, which no cut's number reaches
abbrev whole : Tree → Cut
whole t = record { rest = t; pruned = t }

get_d_any : (l : List Cut) (i : ℕ) (d e : Cut) → i < length l → get_or l i d ≡ get_or l i e
get_d_any [] i d e h = absurd (omega arith)
get_d_any (x ∷ l) zero d e h = refl
get_d_any (x ∷ l) (suc i) d e h = get_d_any l i d e (omega arith)

-- the cut as the code numbers it is that of the topology
pub cut_in-cut_at : (t : Tree) (c : ℕ) → c < length (cuts (canon t)) → cut_in (canon t) c ≡ cut_at t c
cut_in-cut_at t c h = get_d_any (cuts (canon t)) c (whole (canon t)) (whole t) h

-- every node but the root has a cut
pub cuts-nodes : (t : Tree) → length (cuts t) + 1 ≡ nodes t
cuts-nodes t = omega (arith, cuts-length t, twice t)

-- a cut is a pruning: it keeps the leaves and the labels, and what it takes away of a canonical tree is canonical
prune-leaves : {s t r : Tree} → Prune s t r → leaves r + leaves s ≡ leaves t
prune-leaves first = omega arith
prune-leaves second = omega arith
prune-leaves (in_first p) = omega (arith, prune-leaves p)
prune-leaves (in_second p) = omega (arith, prune-leaves p)

prune-canonical : {s t r : Tree} → Prune s t r → Canonical t → Canonical s
prune-canonical first h = h.0
prune-canonical second h = h.1
prune-canonical (in_first p) h = prune-canonical p h.0
prune-canonical (in_second p) h = prune-canonical p h.1

module _ (t : Tree) (c : ℕ) (h : c < length (cuts t)) where
  pub cut-is : IsCut t (cut_in t c)
  cut-is = cut-prune t (numbered (cuts t) (whole t) c h)

  pub cut-leaves : leaves (cut_in t c).rest + leaves (cut_in t c).pruned ≡ leaves t
  cut-leaves = prune-leaves cut-is

  pub nodes-rest : nodes (cut_in t c).rest < nodes t
  nodes-rest = omega (arith, cut-leaves, twice t, twice (cut_in t c).rest, some-leaves (cut_in t c).pruned)

  pub small-rest : Small t → Small (cut_in t c).rest
  small-rest s l i = s l (prune-in cut-is l (In.second i))

  pub canonical-pruned : Canonical t → Canonical (cut_in t c).pruned
  canonical-pruned = prune-canonical cut-is

-- the cuts of a fork: its children, and the cuts of these
module _ (a b : Tree) where
  pub first-cut : cut_in (fork a b) 0 ≡ record { rest = b; pruned = a }
  first-cut = cut-first a b (whole (fork a b))

  pub second-cut : cut_in (fork a b) (suc (length (cuts a))) ≡ record { rest = a; pruned = b }
  second-cut = cut-second a b (whole (fork a b))

  pub first-deeper : (j : ℕ) → j < length (cuts a) → cut_in (fork a b) (suc j) ≡ deeper (λ r. fork r b) (cut_in a j)
  first-deeper j h = cut-in-first a b (whole (fork a b)) j h ∙ ap (deeper (λ r. fork r b)) (get_d_any (cuts a) j (whole (fork a b)) (whole a) h)

  pub second-deeper : (j : ℕ) → j < length (cuts b) → cut_in (fork a b) (suc (suc (length (cuts a) + j))) ≡ deeper (fork a) (cut_in b j)
  second-deeper j h = cut-in-second a b (whole (fork a b)) j h ∙ ap (deeper (fork a)) (get_d_any (cuts b) j (whole (fork a b)) (whole b) h)

-- which of them cut number c is
pub data Which (a b : Tree) : ℕ → Type 0 where
  at_first : Which a b 0
  at_second : Which a b (suc (length (cuts a)))
  below-first : (j : ℕ) → j < length (cuts a) → Which a b (suc j)
  below-second : (j : ℕ) → j < length (cuts b) → Which a b (suc (suc (length (cuts a) + j)))

pub which : (a b : Tree) (c : ℕ) → c < length (cuts (fork a b)) → Which a b c
which a b zero h = at_first
which a b (suc i) h = go (ℕ_discrete i (length (cuts a))) (dec_lt i (length (cuts a)))
  where
    go : Dec (i ≡ length (cuts a)) → Dec (i < length (cuts a)) → Which a b (suc i)
    go (yes e) l = rw e at_second
    go (no n) (yes l) = below-first i l
    go (no n) (no l) =
        let j : ℕ = i - suc (length (cuts a)) in
        let e : suc (suc (length (cuts a) + j)) ≡ suc i = omega arith in
        subst (Which a b) e (below-second j (omega (arith, cuts-nodes (fork a b), cuts-nodes a, cuts-nodes b)))

-- what a cut takes away is the run of bytes at its node
pub cut_stands : {xs : List ℕ} {k : ℕ} {t : Tree} → Holds xs k t → (c : ℕ) → c < length (cuts t) → Holds xs (k + 1 + c) (cut_in t c).pruned
cut_stands {t = leaf l} h c lt = absurd (omega arith)
cut_stands {xs} {k} {t = fork a b} h c lt = go (cut_stands {k = k + 1} {t = a} (children h).0) (cut_stands {k = k + 1 + nodes a} {t = b} (children h).1) (which a b c lt)
  where
    at : {i j : ℕ} {x y : Cut} → y ≡ x → Holds xs i x.pruned → i ≡ j → Holds xs j y.pruned
    at e g p = rw (e, ← p) g

    go : ((j : ℕ) → j < length (cuts a) → Holds xs (k + 1 + 1 + j) (cut_in a j).pruned)
        → ((j : ℕ) → j < length (cuts b) → Holds xs (k + 1 + nodes a + 1 + j) (cut_in b j).pruned)
        → {c : ℕ} → Which a b c → Holds xs (k + 1 + c) (cut_in (fork a b) c).pruned
    go f g at_first = at (first-cut a b) (children h).0 (omega arith)
    go f g at_second = at (second-cut a b) (children h).1 (omega (arith, cuts-nodes a))
    go f g (below-first j l) = at (first-deeper a b j l) (f j l) (omega arith)
    go f g (below-second j l) = at (second-deeper a b j l) (g j l) (omega (arith, cuts-nodes a))

-- a cut on the walk from the fork of a and b at k, whose children stand at p and q; c is the cut's node, and its number hangs on k
module _ {t a b : Tree} {k p q c : ℕ} (e : t ≡ fork a b) (first-at : p ≡ k + 1) (second-at : q ≡ k + 1 + nodes a) (above : k < c) (inside : c < k + nodes t) where
  abbrev cut : Cut
  cut = cut_in t (c - (k + 1))

  cut-at : (i : ℕ) → c ≡ k + 1 + i → cut ≡ cut_in (fork a b) i
  cut-at i here = ap₂ cut_in e (omega arith)

  pub rest-at-first : c ≡ p → cut.rest ≡ b
  rest-at-first here = ap (λ (x : Cut). x.rest) (cut-at 0 (omega arith) ∙ first-cut a b)

  pub rest-at-second : c ≡ q → cut.rest ≡ a
  rest-at-second here = ap (λ (x : Cut). x.rest) (cut-at (suc (length (cuts a))) (omega (arith, cuts-nodes a)) ∙ second-cut a b)

  -- it is below the first child, and there it has the number i
  module _ (not-here : c ≡ p → ⊥) (before : c < q) where
    abbrev i : ℕ
    i = c - (p + 1)

    first-has : i < length (cuts a)
    first-has = omega (arith, cuts-nodes a)

    in-first-child : cut ≡ deeper (λ r. fork r b) (cut_in a i)
    in-first-child = cut-at (suc i) (omega arith) ∙ first-deeper a b i first-has

    pub inside-first : (p < c) × (c < p + nodes a)
    inside-first = (omega arith, omega arith)

    pub rest-first-room : nodes (cut_in a i).rest < nodes a
    rest-first-room = nodes-rest a i first-has

    pub left-in-first : {v gone : ℕ} {out o₁ o₂ : List ℕ} {at r₁ r₂ : ℕ} → v ≡ byte t - gone → gone ≡ leaves cut.pruned
        → Wrote (pre (cut_in a i).rest) (set out at v) o₁ (at + 1) r₁ → Wrote (pre b) o₁ o₂ r₁ r₂ → Wrote (pre cut.rest) out o₂ at r₂
    left-in-first own gone-is w x =
        rw in-first-child
        (wrote-fork (cut_in a i).rest b (omega (arith, own, ap byte e, gone-is, ap (λ (x : Cut). leaves x.pruned) in-first-child, cut-leaves a i first-has)) w x)

  -- it is below the second child, and there it has the number j
  module _ (not-here : c ≡ q → ⊥) (behind : q ≤ c) where
    abbrev j : ℕ
    j = c - (q + 1)

    second-has : j < length (cuts b)
    second-has = omega (arith, cuts-nodes b, ap nodes e)

    in-second-child : cut ≡ deeper (fork a) (cut_in b j)
    in-second-child = cut-at (suc (suc (length (cuts a) + j))) (omega (arith, cuts-nodes a)) ∙ second-deeper a b j second-has

    pub inside-second : (q < c) × (c < q + nodes b)
    inside-second = (omega arith, omega (arith, ap nodes e))

    pub left-in-second : {v gone : ℕ} {out o₁ o₂ : List ℕ} {at r₁ r₂ : ℕ} → v ≡ byte t - gone → gone ≡ leaves cut.pruned
        → Wrote (pre a) (set out at v) o₁ (at + 1) r₁ → Wrote (pre (cut_in b j).rest) o₁ o₂ r₁ r₂ → Wrote (pre cut.rest) out o₂ at r₂
    left-in-second own gone-is w x =
        rw in-second-child
        (wrote-fork a (cut_in b j).rest (omega (arith, own, ap byte e, gone-is, ap (λ (x : Cut). leaves x.pruned) in-second-child, cut-leaves b j second-has)) w x)

-- a node below another is the one that its cut takes away, and leaves a leaf or more
module _ {x y : Node} (below : Below x y) where
  abbrev number : ℕ
  number = y.at - (x.at + 1)

  has-number : number < length (cuts (subtree x))
  has-number = omega (arith, below.behind, below.inside, cuts-nodes (subtree x))

  pub below-is : subtree y ≡ (cut_below x y).pruned
  below-is =
      let at : x.at + 1 + number ≡ y.at = omega (arith, below.behind) in
      at-node y (below.same, refl) (subst (λ (k : ℕ). Holds x.tree.now k (cut_below x y).pruned) at (cut_stands (node-holds x) number has-number))

  pub below-fewer : leaves (subtree y) < leaves (subtree x)
  below-fewer = omega (arith, ap leaves below-is, cut-leaves (subtree x) number has-number, some-leaves (cut_below x y).rest)

-- a whole array, and its cut number c
module _ {xs : List ℕ} {c : ℕ} (h : HasCut xs c) where
  -- its node is the next
  node-is : c + 1 - (0 + 1) ≡ c
  node-is = omega arith

  pub cut_holds : Holds xs (c + 1) (cut_in h.tree c).pruned
  cut_holds = subst (λ (k : ℕ). Holds xs k (cut_in h.tree c).pruned) (omega arith) (cut_stands h.holds c h.is_cut)

  -- its nodes' cut
  pub cut-below : (root y : Node) → (root.tree.now ≡ xs) × (root.at ≡ 0) → (y.tree.now ≡ xs) × (y.at ≡ c + 1) → Below root y
  cut-below root y r e = record { same = e.0 ∙ sym r.0; behind = omega (arith, r.1, e.1); inside = omega (arith, r.1, e.1, ap nodes (at-node root r h.holds), cuts-nodes h.tree, h.is_cut) }

  module _ (len : length xs ≡ 127) where
    pub rest-fits : nodes (cut_in h.tree c).rest ≤ 127
    rest-fits = omega (arith, nodes-rest h.tree c h.is_cut, inside h.holds)

    -- what is written of it is held
    pub rest-holds : (root y : Node) → (root.tree.now ≡ xs) × (root.at ≡ 0) → y.at ≡ c + 1 → {out : List ℕ} {r : ℕ}
        → Wrote (pre (cut_below root y).rest) (replicate 127 0) out 0 r → Holds out 0 (cut_in h.tree c).rest
    rest-holds root y placed at {out} wrote =
        let rest : Tree = (cut_in h.tree c).rest in
        let number : y.at - (root.at + 1) ≡ c = omega (arith, placed.1, at) in
        let same : cut_below root y ≡ cut_in h.tree c = ap₂ cut_in (at-node root placed h.holds) number in
        let e : out ≡ hold rest = wrote.cells ∙ ap (λ (x : Cut). hold x.rest) same in
        rw e (holding rest (small-rest h.tree c h.is_cut h.holds.small) rest-fits)
