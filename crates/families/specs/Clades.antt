-- The clades of a tree as 64-bit numbers, and the labels of such a number.
-- Assumes nothing.
use Rattle.std.specs.Prelude.{cond, List, [], ◌∷◌, ◌++◌, ℕ, zero, suc, ◌+◌, ◌/◌, ◌%◌, eqb}
use Rattle.std.specs.Int.Count.{ones_in}
use Rattle.meaning.specs.Limits.{max_label}
use Rattle.meaning.specs.Tree.{Tree, leaf, fork}
use Rattle.meaning.specs.Clade.{clade}

-- how many labels x has: the set bits
unfoldable pub size : ℕ → ℕ
unfolding ones_in
size x = ones_in max_label x

-- the labels of x, where its lowest bit is that of label l and k bits are looked at
unfoldable pub labels_from : ℕ → ℕ → ℕ → List ℕ
labels_from zero l x = []
labels_from (suc k) l x = let rest : List ℕ = labels_from k (suc l) (x / 2) in cond (eqb (x % 2) 1) (l ∷ rest) rest

-- its labels in ascending order
unfoldable pub labels_of : ℕ → List ℕ
labels_of x = labels_from max_label 1 x

-- the clades of two or more labels, at each fork its own first
abbrev pub clades : Tree → List ℕ
clades (leaf n) = []
clades (fork a b) = (clade a + clade b) ∷ (clades a ++ clades b)
