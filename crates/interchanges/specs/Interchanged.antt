-- Two trees that differ at their roots by one interchange, part by part as they are held.
-- Assumes nothing.
use Rattle.meaning.specs.Tree.{Tree}
use Rattle.meaning.specs.Interchange.{Forks}

-- a child of the parent p, whose sibling is the aunt z, hangs beside the aunt under the parent q, and its sibling stands alone as s
pub record Regrafted (p z q s : Tree) : Type 0 where
  pub node : Tree
  pub under : Forks node s p
  pub under' : Forks node z q

-- a child of a child of t's root is so regrafted in u
pub record Regrouped (t u : Tree) : Type 0 where
  pub parent : Tree
  pub aunt : Tree
  pub parent' : Tree
  pub sibling : Tree
  pub root : Forks parent aunt t
  pub root' : Forks parent' sibling u
  pub moved : Regrafted parent aunt parent' sibling
