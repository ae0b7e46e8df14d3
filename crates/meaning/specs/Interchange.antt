-- The nearest-neighbour interchange, over rooted binary trees. In words: docs/RULES.md, 'The interchange'.
-- Assumes nothing.
use Rattle.meaning.specs.Tree.{Tree, fork, SameTopology}

-- Forks x y t: t is the fork of x and y, in either order
pub data Forks (x y : Tree) : Tree → Type 0 where
  in_order : Forks x y (fork x y)
  turned : Forks x y (fork y x)

-- Interchange t u: a node x of t, its sibling being y and its aunt z, is regrafted on the edge above its aunt, which gives u
pub data Interchange : Tree → Tree → Type 0 where
  here : {x y z parent t : Tree} → Forks x y parent → Forks parent z t → Interchange t (fork y (fork x z))
  in_first : {a b u : Tree} → Interchange a u → Interchange (fork a b) (fork u b)
  in_second : {a b u : Tree} → Interchange b u → Interchange (fork a b) (fork a u)

-- some interchange of t gives a tree of u's topology
pub record OneInterchange (t u : Tree) : Type 0 where
  pub moved : Tree
  pub interchange : Interchange t moved
  pub gives : SameTopology moved u
