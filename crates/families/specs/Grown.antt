-- The binary tree that grows from clades: at each fork the child with the smallest label is the largest clade of the list that can be it.
-- Assumes nothing.
use Rattle.std.specs.Prelude.{◌≡◌, Bool, cond, not, ◌&&◌, List, [], ◌∷◌, ℕ, zero, suc, ◌+◌, ◌-◌, ◌^◌, max, leb, eqb}
use Rattle.std.specs.Int.Count.{count_trailing_zeros}
use Rattle.meaning.specs.Tree.{Tree, leaf, fork, Good}
use Rattle.meaning.specs.Clade.{lowest, inside, clade}
use Rattle.families.specs.Clades.{size}

-- the smallest label's own clade
abbrev pub low_bit : ℕ → ℕ
low_bit c = 2 ^ count_trailing_zeros 64 c

-- d is a smaller clade in c and has its smallest label
unfoldable pub leads : ℕ → ℕ → Bool
leads c d = inside d c && (not (eqb d c) && inside (low_bit c) d)

-- the child of c with its smallest label: the largest such clade, or that label alone
unfoldable pub first_child : List ℕ → ℕ → ℕ
first_child [] c = low_bit c
first_child (d ∷ ds) c = let more : ℕ = first_child ds c in cond (leads c d) (max d more) more

-- the tree of the clade c, by at most k forks one below another
unfoldable pub grow : ℕ → List ℕ → ℕ → Tree
grow zero cs c = leaf (lowest c)
grow (suc k) cs c =
    let first : ℕ = first_child cs c in
    let both : Tree = fork (grow k cs first) (grow k cs (c - first)) in
    cond (leb (size c) 1) (leaf (lowest c)) both

-- each fork of t splits as the clades of cs say
pub data Grows (cs : List ℕ) : Tree → Type 0 where
  stop : {n : ℕ} → Grows cs (leaf n)
  split : {a b : Tree} → first_child cs (clade a + clade b) ≡ clade a → Grows cs a → Grows cs b → Grows cs (fork a b)

-- t is a tree with the labels of c that so splits
pub record GrowsTo (cs : List ℕ) (c : ℕ) (t : Tree) : Type 0 where
  pub good : Good t
  pub whole : clade t ≡ c
  pub grows : Grows cs t
