-- Where two trees part that are walked down together.
-- Assumes nothing.
use Rattle.std.specs.Prelude.{◌≡◌, ℕ, ◌+◌, Option, MatchOption}
use Rattle.meaning.specs.Tree.{Tree, leaf, fork, leaves}
use Rattle.held.specs.Held.{nodes}

-- t and u, walked down together as they are held, come to s and r at the node k: to the second children where the first are the same, to the first where the second are
pub data Along (t u : Tree) : ℕ → Tree → Tree → Type 0 where
  root : Along t u 0 t u
  second : {k : ℕ} {a b d : Tree} → Along t u k (fork a b) (fork a d) → Along t u (k + 1 + nodes a) b d
  first : {k : ℕ} {a b c : Tree} → Along t u k (fork a b) (fork c b) → Along t u (k + 1) a c

-- they come at k to forks that differ in both children
pub record PartAt (t u : Tree) (k : ℕ) : Type 0 where
  pub first : Tree
  pub second : Tree
  pub first' : Tree
  pub second' : Tree
  pub along : Along t u k (fork first second) (fork first' second')
  pub differ : ¬ (first ≡ first')
  pub differ' : ¬ (second ≡ second')

-- they come to trees that have not as many leaves, or of which the one is a leaf
pub record Unparted (t u : Tree) : Type 0 where
  pub node : ℕ
  pub one : Tree
  pub two : Tree
  pub along : Along t u node one two
  pub ends : leaves one ≡ leaves two → (n : ℕ) × (one ≡ leaf n)

-- r says where they part, if they do
abbrev pub Parting : Tree → Tree → Option ℕ → Type 0
Parting t u r = MatchOption r (Unparted t u) (PartAt t u)
