-- The tree that stands in bytes at a place.
-- Assumes nothing.
use Rattle.std.specs.Prelude.{List, [], ◌∷◌, ℕ, zero, suc, cond, leb, drop, length}
use Rattle.meaning.specs.Limits.{max_label}
use Rattle.meaning.specs.Tree.{Tree, leaf, fork}

-- the tree that bytes begin with, and the bytes behind it: a byte up to 64 is a leaf, and a larger one stands before its two
-- children; no tree of more than `depth` levels is told
unfoldable pub first_tree : ℕ → List ℕ → Tree × List ℕ
first_tree zero xs = (leaf 0, xs)
first_tree (suc depth) [] = (leaf 0, [])
first_tree (suc depth) (b ∷ xs) =
    let first = first_tree depth xs in
    let second = first_tree depth first.1 in
    cond (leb b max_label) (leaf b, xs) (fork first.0 second.0, second.1)

-- the tree that stands in xs from the place k on, where one does
unfoldable pub subtree_at : List ℕ → ℕ → Tree
subtree_at xs k = (first_tree (length xs) (drop k xs)).0
