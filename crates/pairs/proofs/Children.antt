-- Held forks, nodes that are forks, and their children.
-- Assumes nothing.
use mathlib.Core.Path.{◌≡◌, refl, sym, ap, subst, subst₂, ◌∙◌}
use mathlib.Core.Bool.{Bool}
use mathlib.Core.List.{List}
use Prim.Native.Nat.{ℕ, ◌+◌}
use native.Mathlib.Omega.{arith}
use Rattle.meaning.specs.Tree.{Tree, leaf, fork}
use Rattle.meaning.specs.Interchange.{Forks, in_order, turned}
use Rattle.lent.specs.Runs.{Says}
use Rattle.held.specs.Held.{Holds, nodes}
use Rattle.held.specs.Node.{subtree}
use Rattle.held.specs.declared.node.Node.{Node}
use Rattle.held.proofs.Laws.{children}
use Rattle.held.proofs.Subtree.{at-node}
use Rattle.pairs.specs.Children.{IsFork, SecondOf}
use Rattle.pairs.specs.Ordered.{HeldFork}

-- r is the index of the second child
abbrev pub SecondAt : List ℕ → ℕ → ℕ → Type 0
SecondAt xs k r = (a b : Tree) → Holds xs k (fork a b) → r ≡ k + 1 + nodes a

-- r says whether the subtree of xs at i is that of ys at j
abbrev pub SameAt : List ℕ → ℕ → List ℕ → ℕ → Bool → Type 0
SameAt xs i ys j r = (s t : Tree) → Holds xs i s → Holds ys j t → Says r (s ≡ t)

module _ {xs : List ℕ} {k : ℕ} {a b : Tree} where
  pub holds-first : Holds xs k (fork a b) → Holds xs (k + 1) a
  holds-first h = (children h).0

  pub holds-second : {r : ℕ} → SecondAt xs k r → Holds xs k (fork a b) → Holds xs r b
  holds-second at h = rw (at a b h) (children h).1

-- ---- x is the node at k of xs, as `Node::new` says
module _ (x : Node) {xs : List ℕ} {k : ℕ} (new : (x.tree.now ≡ xs) × (x.at ≡ k)) where
  pub new-fork : HeldFork xs k → IsFork (subtree x)
  new-fork f = record { first = f.first; second = f.second; is = at-node x new f.holds }

  -- and s its second child
  module _ {s : Node} (c : SecondOf x s) where
    pub second-at : SecondAt xs k s.at
    second-at a b h =
        let whole : subtree x ≡ fork a b = at-node x new h in
        let is = c.children.is in
        let first-is : subtree c.first ≡ a = cc in
        omega (arith, c.children.second_at, new.1, ap nodes first-is)

    pub second-in : s.tree.now ≡ xs
    second-in = c.children.second_in ∙ new.0

    -- so the fork that is held there has its subtree
    pub second-holds : HeldFork xs k → Holds xs k (fork (subtree c.first) (subtree s))
    second-holds f = subst (Holds xs k) (sym (at-node x new f.holds) ∙ c.children.is) f.holds

  -- r says whether its subtree is that of y
  pub same-at : (y : Node) {ys : List ℕ} {j : ℕ} → (y.tree.now ≡ ys) × (y.at ≡ j) → (r : Bool) → Says r (subtree x ≡ subtree y) → SameAt xs k ys j r
  same-at y new' r told s t h g = subst₂ (λ u v. Says r (u ≡ v)) (at-node x new h) (at-node y new' g) told

-- ---- what stands beside a child
-- a leaf is no fork
pub forks-leaf : {s t : Tree} {n : ℕ} → Forks s t (leaf n) → ⊥
forks-leaf f = elim f [ ]

pub leaf-none : {s t : Tree} {n : ℕ} → s ≡ leaf n → (other : Tree) → ¬ Forks other t s
leaf-none {s} {t} e other f = forks-leaf (rw e at f)

module _ {s a b t : Tree} (e : s ≡ fork a b) where
  pub second-beside : a ≡ t → Forks b t s
  second-beside f = subst₂ (Forks b) f (sym e) turned

  pub first-beside : b ≡ t → Forks a t s
  first-beside f = subst₂ (Forks a) f (sym e) in_order

  pub none-beside : ¬ (a ≡ t) → ¬ (b ≡ t) → (other : Tree) → ¬ Forks other t s
  none-beside m n other f = go (rw e at f) m n
    where
      go : {x y z : Tree} → Forks other z (fork x y) → ¬ (x ≡ z) → ¬ (y ≡ z) → ⊥
      go in_order m n = n refl
      go turned m n = m refl
