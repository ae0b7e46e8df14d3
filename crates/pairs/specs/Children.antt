-- The children of a node, one told by the other.
-- Assumes nothing.
use Rattle.std.specs.Prelude.{◌≡◌, Option, MatchOption}
use Rattle.meaning.specs.Tree.{Tree, fork}
use Rattle.meaning.specs.Interchange.{Forks}
use Rattle.held.specs.Node.{subtree, Children}
use Rattle.held.specs.declared.node.Node.{Node}

-- t is a fork
pub record IsFork (t : Tree) : Type 0 where
  pub first : Tree
  pub second : Tree
  pub is : t ≡ fork first second

-- s is the second child of x
pub record SecondOf (x s : Node) : Type 0 where
  pub first : Node
  pub children : Children x first s

-- r is the child of x beside y's subtree, or none where that is no child of x
abbrev pub OtherChild : Node → Node → Option Node → Type 0
OtherChild x y r = MatchOption r ((other : Tree) → ¬ Forks other (subtree y) (subtree x)) (λ c. Forks (subtree c) (subtree y) (subtree x))
