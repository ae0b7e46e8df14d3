-- Marks beside the nodes of a held tree: which subtrees stand where, what a leaf's clade and a fork's are as the machine has them, and one mark more.
-- Assumes nothing.
use mathlib.Core.Path.{◌≡◌, sym, ap, ap₂, subst, ◌∙◌}
use mathlib.Core.List.{List}
use Prim.Native.Nat.{ℕ, ◌+◌, ◌-◌, ◌*◌, ◌%◌, ◌^◌, ◌≤◌, ◌<◌}
use native.Mathlib.Nat.{one-mul}
use native.Mathlib.Decide.{ℕ_discrete, dec_lt}
use native.Mathlib.Omega.{arith}
use lib.ListN.{length, get_or, set}
use lib.Dec.{lit<}
use lib.Pow.{shl_exact}
use lib.Seq.{get_or-set_same, get_or-set_other}
use Rattle.meaning.specs.Limits.{max_label}
use Rattle.meaning.specs.Tree.{Tree, leaf, fork, In, tip, Good}
use Rattle.meaning.specs.Clade.{clade}
use Rattle.meaning.proofs.Same.{good-first, good-second}
use Rattle.meaning.proofs.Clade.{clade-fits}
use Rattle.held.specs.Held.{nodes, Holds}
use Rattle.held.specs.Node.{subtree, Children}
use Rattle.held.specs.declared.node.Node.{Node}
use Rattle.held.proofs.Laws.{children, some-nodes}
use Rattle.held.proofs.Subtree.{node-holds, at-node, children-nodes}
use Rattle.clades.specs.Marks.{Marks}

-- a good tree is held at k and ends before `end`
pub record Sub (xs : List ℕ) (k end : ℕ) : Type 0 where
  pub tree : Tree
  pub holds : Holds xs k tree
  pub good : Good tree
  pub inside : k + nodes tree ≤ end

wider : {xs : List ℕ} {k end end' : ℕ} → end ≤ end' → Sub xs k end → Sub xs k end'
wider le s = record { tree = s.tree; holds = s.holds; good = s.good; inside = omega (arith, s.inside) }

-- k holds one, if it is a node of the tree t that is held at j
abbrev From : List ℕ → ℕ → Tree → ℕ → Type 0
From xs j t k = j ≤ k → k < j + nodes t → Sub xs k (j + nodes t)

-- so for each node of a held tree: the root, a node of the first child, or one of the second
node-from : (t : Tree) {xs : List ℕ} {j : ℕ} → Holds xs j t → Good t → (k : ℕ) → From xs j t k
node-from (leaf l) {xs} {j} h G k le lt =
    let e : j ≡ k = omega arith in
    subst (λ (i : ℕ). Sub xs i (j + 1)) e (record { tree = leaf l; holds = h; good = G; inside = omega arith })
node-from (fork a b) {xs} {j} h G k le lt =
    go (node-from a (children h).0 (good-first G) k) (node-from b (children h).1 (good-second G) k) (ℕ_discrete j k) (dec_lt k (j + 1 + nodes a))
  where
    go : From xs (j + 1) a k → From xs (j + 1 + nodes a) b k → Dec (j ≡ k) → Dec (k < j + 1 + nodes a) → Sub xs k (j + nodes (fork a b))
    go f g (yes e) d = subst (λ (i : ℕ). Sub xs i (j + nodes (fork a b))) e (record { tree = fork a b; holds = h; good = G; inside = omega arith })
    go f g (no n) (yes l) = wider (omega arith) (f (omega arith) l)
    go f g (no n) (no l) = wider (omega arith) (g (omega arith) (omega arith))

pub node_in : (t : Tree) {xs : List ℕ} → Holds xs 0 t → Good t → (k : ℕ) → k < nodes t → Sub xs k (nodes t)
node_in t h G k lt = wider (omega arith) (node-from t h G k (omega arith) (omega arith))

-- one mark more
pub marks-more : (f : Tree → ℕ) (xs m : List ℕ) (k to v : ℕ) → k < length m → ((s : Tree) → Holds xs k s → v ≡ f s)
    → Marks f xs m (k + 1) to → Marks f xs (set m k v) k to
marks-more f xs m k to v room own marks i le lt s h = go (ℕ_discrete k i)
  where
    go : Dec (k ≡ i) → get_or (set m k v) i 0 ≡ f s
    go (yes e) = ap (λ (j : ℕ). get_or (set m k v) j 0) (sym e) ∙ get_or-set_same m k v 0 room ∙ own s (rw e h)
    go (no n) = get_or-set_other m k i v 0 (λ e. n (sym e)) ∙ marks i (omega arith) lt s h

-- a label's bit, shifted, is the clade of its leaf
pub bit_is : (l : ℕ) → l ≤ max_label → {t : Tree} → t ≡ leaf l → (1 * 2 ^ (l - 1)) % 18446744073709551616 ≡ clade t
bit_is l h e = shl_exact {a = 1} 1 (l - 1) 64 (lit< tt) (omega arith) ∙ one-mul (2 ^ (l - 1)) ∙ sym (ap clade e)

-- the node x at k
module _ {xs : List ℕ} {k end : ℕ} (s : Sub xs k end) (x : Node) (at : (x.tree.now ≡ xs) × (x.at ≡ k)) where
  pub label-range : {l : ℕ} → subtree x ≡ leaf l → (1 ≤ l) × (l ≤ max_label)
  label-range {l} e = s.good.small l (subst (λ (t : Tree). In l t) (sym e ∙ at-node x at s.holds) tip)

  module _ {a b : Node} (c : Children x a b) where
    pub behind : (k < a.at) × (a.at < b.at) × (b.at < end)
    behind = (
      omega (arith, at.1, c.first_at),
      omega (arith, c.first_at, c.second_at, some-nodes (subtree a)),
      omega (arith, at.1, c.second_at, ap nodes (at-node x at s.holds), children-nodes c, s.inside, some-nodes (subtree b)),
    )

    -- what is marked at its children
    module _ (f : Tree → ℕ) (m : List ℕ) (marks : Marks f xs m (k + 1) end) where
      pub first-is : get_or m a.at 0 ≡ f (subtree a)
      first-is = marks a.at (omega (arith, behind)) (omega (arith, behind)) (subtree a) (subst (λ (ys : List ℕ). Holds ys a.at (subtree a)) (c.first_in ∙ at.0) (node-holds a))

      pub second_is : get_or m b.at 0 ≡ f (subtree b)
      second_is = marks b.at (omega (arith, behind)) (omega (arith, behind)) (subtree b) (subst (λ (ys : List ℕ). Holds ys b.at (subtree b)) (c.second_in ∙ at.0) (node-holds b))

    -- the sum of their clades is its clade, and it fits
    module _ (m : List ℕ) (marks : Marks clade xs m (k + 1) end) where
      pub sum_is : get_or m a.at 0 + get_or m b.at 0 ≡ clade (subtree x)
      sum_is = ap₂ ◌+◌ (first-is clade m marks) (second_is clade m marks) ∙ sym (ap clade c.is)

      pub sum_fits : get_or m a.at 0 + get_or m b.at 0 < 18446744073709551616
      sum_fits = omega (arith, sum_is, ap clade (at-node x at s.holds), clade-fits s.good)
