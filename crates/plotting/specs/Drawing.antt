-- What the drawing of a node asks, and which drawing it is.
-- Assumes nothing.
use Rattle.std.specs.Prelude.{List, ℕ, Float}
use Rattle.meaning.specs.Tree.{Tree}
use Rattle.lent.specs.Runs.{Stands}
use Rattle.held.specs.Held.{Holds}
use Rattle.plots.specs.Plot.{Drawn, tip, joint}
use Rattle.plotting.specs.Placing.{rows_from}
use Rattle.plotting.specs.declared.Drawing.{Drawing}
use Rattle.plotting.specs.declared.Drawing.TheVariants.{Tip, Fork}

-- the rows of t's nodes stand in rs from k on, where c forks are above t and i leaves before it
pub record RowsAt (rs : List Float) (k c i : ℕ) (t : Tree) : Type 0 where
  pub stands : Stands rs k (rows_from c i t)

-- xs holds a tree from k on, and rs has its rows
pub record Drawable (xs : List ℕ) (rs : List Float) (k : ℕ) : Type 0 where
  pub tree : Tree
  pub above : ℕ
  pub before : ℕ
  pub holds : Holds xs k tree
  pub rows_at : RowsAt rs k above before tree

-- the drawing that a `Drawing` is
abbrev pub drawn_by : Drawing → Drawn
drawn_by (Tip x) = tip x
drawn_by (Fork x y z) = joint x y z
