-- What is left of a tree without one of its nodes, and the way down to that node.
-- Assumes nothing.
use Rattle.std.specs.Prelude.{◌≡◌, cond, ℕ, ◌+◌, ◌<◌, eqb}
use Rattle.meaning.specs.Tree.{Tree, leaf, fork, canon}
use Rattle.meaning.specs.Interchange.{Forks}
use Rattle.held.specs.Held.{nodes}
use Rattle.pairs.specs.Ordered.{InOrder}

-- what is left of the tree that stands at k without the node p; a fork that loses a child is closed up
abbrev pub left : ℕ → ℕ → Tree → Tree
left p k (leaf l) = leaf l
left p k (fork a b) = cond (eqb p (k + 1)) b (cond (eqb p (k + 1 + nodes a)) a (fork (left p (k + 1) a) (left p (k + 1 + nodes a) b)))

-- they have one canonical form
abbrev pub Alike : Tree → Tree → Type 0
Alike s t = canon s ≡ canon t

-- the node p stands below k, where t is
pub record Below (p k : ℕ) (t : Tree) : Type 0 where
  pub above : k < p
  pub inside : p < k + nodes t

-- t, which stands at k, is in order, and the node p stands below it
pub record Cutting (p k : ℕ) (t : Tree) : Type 0 where
  pub in_order : InOrder t
  pub below : Below p k t

-- of t's children, where t stands at k, that which stands at i, `on`, leads to p: it is p, or p stands below it; `off` does not
pub record Leads (p k : ℕ) (t : Tree) (i : ℕ) (on off : Tree) : Type 0 where
  pub children : Forks on off t
  pub further : k < i
  pub here : p ≡ i → left p k t ≡ off
  pub deeper : ¬ (p ≡ i) → Below p i on × Forks (left p i on) off (left p k t)
