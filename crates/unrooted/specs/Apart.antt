-- One unrooted move, said of the rooted trees that stand for the unrooted ones.
-- Assumes nothing.
use Rattle.std.specs.Prelude.{◌≢◌, ◌⊎◌}
use Rattle.meaning.specs.Tree.{Tree, canon}
use Rattle.meaning.specs.Move.{Apart}
use Rattle.meaning.specs.Unrooted.{Respun}

-- they differ, and only by the place of the root in one subtree
abbrev pub OtherRoot : Tree → Tree → Type 0
OtherRoot t u = (t ≢ u) × Respun t u

-- trees that stand for unrooted ones are one unrooted move apart: by a rooted move, or one is the other but for the place of the root in one subtree
abbrev pub ApartHung : Tree → Tree → Type 0
ApartHung t u = Apart t u ⊎ OtherRoot (canon t) (canon u)
