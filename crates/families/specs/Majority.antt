-- Trees with any number of children, their clades and text; and the majority tree of a table.
-- Assumes nothing.
use Rattle.std.specs.Prelude.{Bool, true, false, List, [], ◌∷◌, ◌++◌, ℕ, ◌+◌, T}
use Rattle.meaning.specs.Limits.{max_label}
use Rattle.meaning.specs.Lists.{member}
use Rattle.meaning.specs.Tree.{Tree, leaf, fork, digits}
use Rattle.meaning.specs.Clade.{clade}
use Rattle.families.specs.Grown.{grow}
use Rattle.families.specs.Support.{chosen}

-- a tree drawn by joining two at a time: a join that is a node has its two parts as children, and one that is none puts them side by side for the node above
pub data Multi : Type 0 where
  tip : ℕ → Multi
  join : Bool → Multi → Multi → Multi

-- the trees that m puts side by side: itself, if it is a tip or a node
unfoldable pub beside : Multi → List Multi
beside (tip n) = tip n ∷ []
beside (join true a b) = join true a b ∷ []
beside (join false a b) = beside a ++ beside b

-- the children of a node
unfoldable pub children : Multi → List Multi
unfolding beside
children (tip n) = []
children (join node a b) = beside a ++ beside b

-- each join as a fork
abbrev pub drawn : Multi → Tree
drawn (tip n) = leaf n
drawn (join node a b) = fork (drawn a) (drawn b)

-- the clades of its nodes
abbrev pub node_clades : Multi → List ℕ
node_clades (tip n) = []
node_clades (join true a b) = (clade (drawn a) + clade (drawn b)) ∷ (node_clades a ++ node_clades b)
node_clades (join false a b) = node_clades a ++ node_clades b

-- one tree, and not some side by side
abbrev pub Single : Multi → Type 0
Single (tip n) = Unit {0}
Single (join node a b) = T node

-- children are joined one by one, so that there is one drawing of each tree
abbrev pub Tidy : Multi → Type 0
Tidy (tip n) = Unit {0}
Tidy (join node a b) = Single a × Tidy a × Tidy b

-- texts with a comma between each and the next
unfoldable pub commas : List (List ℕ) → List ℕ
commas [] = []
commas (x ∷ []) = x
commas (x ∷ y ∷ ys) = x ++ (44 ∷ commas (y ∷ ys))

-- its text: a node has brackets, and commas stand between children
abbrev pub write_multi : Multi → List ℕ
write_multi (tip n) = digits n
write_multi (join true a b) = (40 ∷ write_multi a) ++ (44 ∷ write_multi b) ++ (41 ∷ [])
write_multi (join false a b) = write_multi a ++ (44 ∷ write_multi b)

-- a binary tree of which only the forks with a clade of the list are nodes
unfoldable pub mark : List ℕ → Tree → Multi
mark cs (leaf n) = tip n
mark cs (fork a b) = join (member (clade a + clade b) cs) (mark cs a) (mark cs b)

-- the majority tree; a table without trees has none
unfoldable pub majority_tree : List Tree → Multi
majority_tree [] = tip 0
majority_tree (t ∷ ts) = mark (chosen (t ∷ ts)) (grow max_label (chosen (t ∷ ts)) (clade t))

-- its text
unfoldable pub majority_text : List Tree → List ℕ
majority_text [] = []
majority_text (t ∷ ts) = write_multi (majority_tree (t ∷ ts)) ++ (59 ∷ [])
