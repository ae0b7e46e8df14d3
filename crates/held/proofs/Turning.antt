-- The leftmost path of a held tree: where its nodes stand, what is above each turned round, and the tree hung at its end.
-- Assumes nothing.
use mathlib.Core.Path.{◌≡◌, ◌∙◌, refl, sym, ap, subst}
use mathlib.Core.Logic.{◌⊎◌, inl, inr}
use mathlib.Core.List.{List}
use Prim.Native.Nat.{ℕ, ◌+◌, ◌-◌, ◌≤◌, ◌<◌}
use native.Mathlib.Omega.{arith}
use lib.ListN.{get_or}
use Rattle.meaning.specs.Tree.{Tree, fork, leaves}
use Rattle.meaning.specs.Unrooted.{spine, turn_round}
use Rattle.held.specs.Held.{nodes, byte, Holds, Held}
use Rattle.held.specs.Node.{subtree}
use Rattle.held.specs.Turning.{Turning, start, deeper}
use Rattle.held.specs.declared.node.Node.{Node}
use Rattle.held.proofs.Laws.{twice, some-nodes, children, forked-by}
use Rattle.held.proofs.Subtree.{node-holds, node-byte, at-node}

module _ {t : Tree} where
  pub turning-some : {k : ℕ} {s up : Tree} → Turning t k s up → 1 ≤ k
  turning-some (start a b e) = omega arith
  turning-some (deeper k a b up p) = omega arith

  -- the leaves of t are those at and below the node, and those above it
  pub turning-leaves : {k : ℕ} {s up : Tree} → Turning t k s up → leaves s + leaves up ≡ leaves t
  turning-leaves (start a b e) = sym (ap leaves e)
  turning-leaves (deeper k a b up p) = omega (arith, turning-leaves p)

  pub turning-nodes : {k : ℕ} {s up : Tree} → Turning t k s up → nodes s + nodes up < nodes t
  turning-nodes {s} {up} p = omega (arith, turning-leaves p, twice s, twice up, twice t)

  -- what is left to turn gives the same tree
  pub turning-round : {k : ℕ} {s up : Tree} → Turning t k s up → turn_round t ≡ spine up s
  turning-round (start a b e) = ap turn_round e
  turning-round (deeper k a b up p) = turning-round p

  -- each node of the path stands behind the one above it
  module _ {xs : List ℕ} (h : Holds xs 0 t) where
    pub turning-holds : {k : ℕ} {s up : Tree} → Turning t k s up → Holds xs k s
    turning-holds (start a b e) = (children (subst (Holds xs 0) e h)).0
    turning-holds (deeper k a b up p) = (children (turning-holds p)).0

    -- the root's byte has the leaves of both
    pub root-byte : {k : ℕ} {s up : Tree} → Turning t k s up → get_or xs 0 0 ≡ 64 + (leaves s + leaves up)
    root-byte {s} {up} p =
        let f = forked-by h (omega (arith, turning-nodes p, some-nodes s, some-nodes up)) in
        omega (arith, f.byte, ap leaves f.is, turning-leaves p)

    -- what is above the node k + 1, at which s stands: the sibling of s, and what is above their fork, if that is not the root
    pub record Above (k : ℕ) (s up : Tree) : Type 0 where
      pub sibling : Tree
      pub holds-sibling : Holds xs (k + 1 + nodes s) sibling
      pub above : ((k ≡ 0) × (up ≡ sibling)) ⊎ ((further : Tree) × (up ≡ fork further sibling) × Turning t k (fork s sibling) further)

    pub above_of : (k : ℕ) {m : ℕ} {s up : Tree} → Turning t m s up → m ≡ k + 1 → Above k s up
    above_of k (start a b e) z =
        let zero-k : k ≡ 0 = omega arith in
        record { sibling = b; holds-sibling = rw zero-k (children (subst (Holds xs 0) e h)).1; above = inl (zero-k, refl) }
    above_of k (deeper j a b up p) z =
        let same : j ≡ k = omega arith in
        record {
          sibling = b;
          holds-sibling = subst (λ (i : ℕ). Holds xs (i + 1 + nodes a) b) same (children (turning-holds p)).1;
          above = inr (up, refl, subst (λ (i : ℕ). Turning t i (fork a b) up) same p);
        }

    module _ {k : ℕ} {s up : Tree} (a : Above k s up) where
      -- their fork is the root
      pub at-root : k ≡ 0 → up ≡ a.sibling
      at-root z = by a.above
        where
          by : ((k ≡ 0) × (up ≡ a.sibling)) ⊎ ((further : Tree) × (up ≡ fork further a.sibling) × Turning t k (fork s a.sibling) further) → up ≡ a.sibling
          by (inl e) = e.1
          by (inr e) = absurd (omega (arith, turning-some e.2))

      -- it is not
      pub record Further : Type 0 where
        pub tree : Tree
        pub is : up ≡ fork tree a.sibling
        pub way : Turning t k (fork s a.sibling) tree

      pub further-of : ¬ (k ≡ 0) → Further
      further-of n = by a.above
        where
          by : ((k ≡ 0) × (up ≡ a.sibling)) ⊎ ((further : Tree) × (up ≡ fork further a.sibling) × Turning t k (fork s a.sibling) further) → Further
          by (inl e) = absurd (n e.0)
          by (inr e) = record { tree = e.0; is = e.1; way = e.2 }

-- the same place of the same tree
pub way-at : {t s u up : Tree} {k j : ℕ} → j ≡ k → u ≡ s → Turning t k s up → Turning t j u up
way-at e f w = rw (e, f) w

-- what is above a node of the path from the root
module _ (root y : Node) (start : root.at ≡ 0) {up : Tree} (way : Turning (subtree root) y.at (subtree y) up) where
  pub root-holds : Holds root.tree.now 0 (subtree root)
  root-holds = subst (λ (k : ℕ). Holds root.tree.now k (subtree root)) start (node-holds root)

  abbrev pub above-node : Above root-holds (y.at - 1) (subtree y) up
  above-node = above_of root-holds (y.at - 1) way (omega (arith, turning-some way))

  -- the root's byte has the leaves of both
  pub root-own : byte (subtree root) ≡ 64 + (leaves (subtree y) + leaves up)
  root-own = sym (node-byte root) ∙ ap (λ (k : ℕ). get_or root.tree.now k 0) start ∙ root-byte root-holds way

  -- its sibling stands behind it
  sibling-holds : {w : ℕ} → w ≡ nodes (subtree y) → Holds root.tree.now (y.at + w) above-node.sibling
  sibling-holds {w} e =
      let here : y.at - 1 + 1 + nodes (subtree y) ≡ y.at + w = omega (arith, turning-some way) in
      subst (λ (k : ℕ). Holds root.tree.now k above-node.sibling) here above-node.holds-sibling

  pub sibling-held : {xs : List ℕ} {w : ℕ} → xs ≡ root.tree.now → w ≡ nodes (subtree y) → Held xs (y.at + w)
  sibling-held {xs} {w} same e = subst (λ (ys : List ℕ). Held ys (y.at + w)) (sym same) (record { tree = above-node.sibling; holds = sibling-holds e })

  pub sibling-is : (x : Node) {w : ℕ} → w ≡ nodes (subtree y) → x.tree.now ≡ root.tree.now → x.at ≡ y.at + w → subtree x ≡ above-node.sibling
  sibling-is x e same at = at-node x (same, at) (sibling-holds e)

  -- it is what is above a child of the root
  pub root-above : y.at ≡ 1 → up ≡ above-node.sibling
  root-above e = at-root root-holds above-node (omega arith)

  -- below another fork there is more
  module _ (deep : ¬ (y.at ≡ 1)) where
    pub further : Further root-holds above-node
    further = further-of root-holds above-node (λ e. deep (omega (arith, turning-some way)))

    parent-holds : Holds root.tree.now (y.at - 1) (fork (subtree y) above-node.sibling)
    parent-holds = turning-holds root-holds further.way

    pub parent-held : {xs : List ℕ} → xs ≡ root.tree.now → Held xs (y.at - 1)
    parent-held {xs} same = subst (λ (ys : List ℕ). Held ys (y.at - 1)) (sym same) (record { tree = fork (subtree y) above-node.sibling; holds = parent-holds })

    pub parent-way : (x : Node) → x.tree.now ≡ root.tree.now → x.at ≡ y.at - 1 → Turning (subtree root) x.at (subtree x) further.tree
    parent-way x same at = way-at at (at-node x (same, at) parent-holds) further.way
