-- The tree that is held at a place is the one that `subtree_at` tells.
-- Assumes nothing.
use mathlib.Core.Path.{◌≡◌, refl, sym, ap, subst, ◌∙◌}
use mathlib.Core.List.{List, ◌∷◌, ◌++◌, append_assoc}
use Prim.Native.Nat.{ℕ, zero, suc, ◌+◌, ◌-◌, ◌≤◌, ◌<◌}
use native.Mathlib.Omega.{arith}
use lib.ListN.{length, take, drop, get_or, take-append-drop}
use Rattle.std.proofs.Math.Logic.{∥∥₁_elim}
use base.Stored.{Coded-set, coded_list, coded_ℕ}
use Rattle.std.proofs.Math.Bridge.{le_prop}
use borrow.Author.Tests.{le-leb, lt-leb}
use Rattle.meaning.specs.Tree.{Tree, leaf, fork, leaves, tip, Small}
use Rattle.meaning.proofs.Labels.{some-leaves}
use Rattle.held.specs.Held.{nodes, byte, pre, Holds, Held}
use Rattle.held.specs.Subtree.{first_tree, subtree_at}
use Rattle.held.specs.Node.{subtree, Children}
use Rattle.held.specs.declared.node.Node.{Node}
use Rattle.held.proofs.Laws.{small-first, small-second, inside, taken_is, ForkAt, forked}
use Rattle.held.proofs.Preorder.{own_is}

-- a byte up to 64 is a leaf
leaf_first : (n l : ℕ) (ys : List ℕ) → l ≤ 64 → first_tree (suc n) (l ∷ ys) ≡ (leaf l, ys)
unfolding first_tree
leaf_first n l ys small = rw (le-leb l 64 small) refl

-- a larger one is a fork
fork-first : (n b : ℕ) (ys : List ℕ) → 64 < b
    → first_tree (suc n) (b ∷ ys) ≡ (fork (first_tree n ys).0 (first_tree n (first_tree n ys).1).0, (first_tree n (first_tree n ys).1).1)
unfolding first_tree
fork-first n b ys large = rw (lt-leb b 64 large) refl

first-is : (t : Tree) (n : ℕ) (ys : List ℕ) → Small t → nodes t ≤ n → first_tree n (pre t ++ ys) ≡ (t, ys)
first-is (leaf l) zero ys s few = absurd (omega arith)
first-is (leaf l) (suc n) ys s few = leaf_first n l ys (omega (arith, s l tip))
first-is (fork a b) zero ys s few = absurd (omega arith)
first-is (fork a b) (suc n) ys s few =
    let one : first_tree n ((pre a ++ pre b) ++ ys) ≡ (a, pre b ++ ys) =
    rw (append_assoc (pre a) (pre b) ys) (first-is a n (pre b ++ ys) (small-first s) (omega arith)) in
    let two : first_tree n (pre b ++ ys) ≡ (b, ys) = first-is b n ys (small-second s) (omega arith) in
    rw (fork-first n (64 + (leaves a + leaves b)) ((pre a ++ pre b) ++ ys) (omega (arith, some-leaves a)), one, two) refl

-- one tree is held at a place
pub held-subtree : {xs : List ℕ} {k : ℕ} {t : Tree} → Holds xs k t → subtree_at xs k ≡ t
unfolding subtree_at
held-subtree {xs} {k} {t} h =
    ap (λ (ys : List ℕ). (first_tree (length xs) ys).0) h.stands.1 ∙ ap (λ (p : Tree × List ℕ). p.0) (first-is t (length xs) h.stands.0 h.small (omega (arith, inside h)))

-- so it is the one that stands there
pub holds-subtree : {xs : List ℕ} {k : ℕ} → Held xs k → Holds xs k (subtree_at xs k)
holds-subtree {xs} {k} p = rw (held-subtree p.holds) p.holds

-- so it does at a node: each part of what its field says has one proof at most
pub node-holds : (x : Node) → Holds x.tree.now x.at (subtree x)
node-holds x =
    let run : take (nodes (subtree x)) (drop x.at x.tree.now) ≡ pre (subtree x) = ∥∥₁_elim x.stands (Coded-set (coded_list coded_ℕ) _ _) taken_is in
    record {
      small = λ l i. (∥∥₁_elim x.stands le_prop (λ h. (h.small l i).0), ∥∥₁_elim x.stands le_prop (λ h. (h.small l i).1));
      stands = (
        drop (nodes (subtree x)) (drop x.at x.tree.now),
        sym (take-append-drop (nodes (subtree x)) (drop x.at x.tree.now)) ∙ ap (λ (ys : List ℕ). ys ++ drop (nodes (subtree x)) (drop x.at x.tree.now)) run,
      );
    }

-- its byte is the one that stands there
pub node-byte : (x : Node) → get_or x.tree.now x.at 0 ≡ byte (subtree x)
node-byte x = own_is byte 0 x.tree.now x.at (subtree x) (node-holds x).stands

-- and tells a fork
pub node-fork : (x : Node) {b : ℕ} → b ≡ byte (subtree x) → 64 < b → ForkAt x.tree.now x.at (subtree x)
node-fork x e large = forked (node-holds x) (omega (arith, node-byte x))

-- the node at a place where a tree is held has that tree
pub at-node : (x : Node) {xs : List ℕ} {k : ℕ} {t : Tree} → (x.tree.now ≡ xs) × (x.at ≡ k) → Holds xs k t → subtree x ≡ t
at-node x {xs} {k} {t} e h = subst (λ (ys : List ℕ). subtree_at ys x.at ≡ t) (sym e.0) (subst (λ (i : ℕ). subtree_at xs i ≡ t) (sym e.1) (held-subtree h))

-- so what is so of its subtree is so of each tree that is held there
pub at-each : {xs : List ℕ} {k v : ℕ} (f : Tree → ℕ) (x : Node) → (x.tree.now ≡ xs) × (x.at ≡ k) → v ≡ f (subtree x) → (t : Tree) → Holds xs k t → v ≡ f t
at-each f x at e t h = e ∙ ap f (at-node x at h)

-- the byte tells a leaf from a fork
pub leaf_by : (t : Tree) → byte t ≤ 64 → t ≡ leaf (byte t)
leaf_by (leaf l) small = refl
leaf_by (fork a b) small = absurd (omega (arith, some-leaves a))

pub leaves-by : (t : Tree) → Small t → 64 < byte t → byte t - 64 ≡ leaves t
leaves-by (leaf l) s large = absurd (omega (arith, s l tip))
leaves-by (fork a b) s large = omega arith

-- a fork's nodes are its children's and one, and each child has fewer leaves
module _ {x a b : Node} (c : Children x a b) where
  pub children-nodes : nodes (subtree x) ≡ 1 + nodes (subtree a) + nodes (subtree b)
  children-nodes = omega (arith, ap nodes c.is)

  pub children-leaves : leaves (subtree x) ≡ leaves (subtree a) + leaves (subtree b)
  children-leaves = omega (arith, ap leaves c.is)

  pub first-fewer : leaves (subtree a) < leaves (subtree x)
  first-fewer = omega (arith, children-leaves, some-leaves (subtree b))

  pub second-fewer : leaves (subtree b) < leaves (subtree x)
  second-fewer = omega (arith, children-leaves, some-leaves (subtree a))
