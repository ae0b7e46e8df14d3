-- Held trees turned round: the leftmost path of one, and what hangs from it, seen from below.
-- Assumes nothing.
use Rattle.std.specs.Prelude.{◌≡◌, List, ℕ, ◌+◌, get_or}
use Rattle.meaning.specs.Tree.{Tree, leaf, fork, Distinct}
use Rattle.meaning.specs.Unrooted.{turn_round}
use Rattle.held.specs.Held.{Holds}
use Rattle.pairs.specs.Ordered.{InOrder}

-- t is a fork in order
pub record OrderedFork (t : Tree) : Type 0 where
  pub first : Tree
  pub second : Tree
  pub is : t ≡ fork first second
  pub in_order : InOrder t

-- b is the second child of the fork that xs holds at k
pub record HangsOff (xs : List ℕ) (k : ℕ) (b : Tree) : Type 0 where
  pub first : Tree
  pub holds : Holds xs k (fork first b)

-- p is a fork of the leftmost path of the tree at k, and without its first child that tree hangs from it as s: the fork's second child, beside what hangs from the fork above
pub data Turned (xs : List ℕ) (k : ℕ) : ℕ → Tree → Type 0 where
  top : {a b : Tree} → Holds xs k (fork a b) → InOrder b → Turned xs k k b
  down : {p : ℕ} {a b s : Tree} → Turned xs k p s → Holds xs (p + 1) (fork a b) → InOrder b → Turned xs k (p + 1) (fork s b)

-- a tree with distinct labels hangs so from p
pub record TurnedAt (xs : List ℕ) (k p : ℕ) : Type 0 where
  pub tree : Tree
  pub turned : Turned xs k p tree
  pub distinct : Distinct tree

-- p is the last fork of that path, and the tree t at k turned round is the leaf below p beside what hangs from p
pub record Ends (xs : List ℕ) (k p : ℕ) (t : Tree) : Type 0 where
  pub rest : TurnedAt xs k p
  pub is : turn_round t ≡ fork (leaf (get_or xs (p + 1) 0)) rest.tree
