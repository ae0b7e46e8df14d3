-- The two kinds of trees, and a tree with its kind. An unrooted tree is given by a rooting of it.
-- Assumes nothing.
use Rattle.std.specs.Prelude.{List, [], ◌∷◌, map}
use Rattle.meaning.specs.Tree.{Tree}

pub data Kind : Type 0 where
  rooted : Kind
  unrooted : Kind

-- a rooted tree, or an unrooted one and the rooting that stands for it
pub record Kinded : Type 0 where
  pub kind : Kind
  pub tree : Tree

-- trees of one kind
pub record Trees : Type 0 where
  pub kind : Kind
  pub trees : List Tree

-- those of a table, all of the kind of the first
abbrev pub as_trees : List Kinded → Trees
as_trees [] = record { kind = rooted; trees = [] }
as_trees (x ∷ xs) = record { kind = x.kind; trees = map (λ (y : Kinded). y.tree) (x ∷ xs) }

-- which kinds are taken: both, or rooted trees only
pub data Takes : Type 0 where
  either : Takes
  rooted_only : Takes
