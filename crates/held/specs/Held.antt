-- How a tree is held: its nodes in preorder, one byte each; and what the walks down a held tree ask and leave.
-- Assumes nothing.
use Rattle.std.specs.Prelude.{◌≡◌, List, [], ◌∷◌, ◌++◌, ℕ, suc, ◌+◌, ◌≤◌, ◌<◌, length, get_or, replicate}
use Rattle.std.proofs.lemmas.List.Edits.{sets}
use Rattle.meaning.specs.Limits.{max_label, max_nodes}
use Rattle.meaning.specs.Tree.{Tree, leaf, fork, leaves, Small, least}
use Rattle.meaning.specs.Move.{Cut, cuts}
use Rattle.lent.specs.Runs.{Stands}

-- how many nodes a tree has
abbrev pub nodes : Tree → ℕ
nodes (leaf l) = 1
nodes (fork a b) = suc (nodes a + nodes b)

-- f of the subtree at each node, in preorder
abbrev pub preorder : {A : Type 0} → (Tree → A) → Tree → List A
preorder f (leaf l) = f (leaf l) ∷ []
preorder f (fork a b) = f (fork a b) ∷ (preorder f a ++ preorder f b)

-- a node's byte: a leaf's is its label, a fork's 64 and the leaves below it
abbrev pub byte : Tree → ℕ
byte (leaf l) = l
byte (fork a b) = max_label + (leaves a + leaves b)

-- the bytes of the nodes
abbrev pub pre : Tree → List ℕ
pre t = preorder byte t

-- the bytes xs hold the tree t from the node k on
pub record Holds (xs : List ℕ) (k : ℕ) (t : Tree) : Type 0 where
  pub small : Small t
  pub stands : Stands xs k (pre t)

-- they hold some tree
pub record Held (xs : List ℕ) (k : ℕ) : Type 0 where
  pub tree : Tree
  pub holds : Holds xs k tree

-- they hold some tree whose measure is at most len
pub record Room (measure : Tree → ℕ) (xs : List ℕ) (k len : ℕ) : Type 0 where
  pub tree : Tree
  pub holds : Holds xs k tree
  pub room : measure tree ≤ len

-- the array of as many bytes as a tree can have nodes that holds t and nothing else
abbrev pub hold : Tree → List ℕ
hold t = sets (replicate max_nodes 0) 0 (pre t)

-- the least label at and below each node
abbrev pub leasts : Tree → List ℕ
leasts t = preorder least t

-- the least labels of t's nodes were written over low from k on, which left low', and r is t's own
pub record Noted (t : Tree) (low low' : List ℕ) (k r : ℕ) : Type 0 where
  pub own : r ≡ least t
  pub cells : low' ≡ sets low k (leasts t)

-- low has from k on the least label of each node of t
pub record Marks (low : List ℕ) (k : ℕ) (t : Tree) : Type 0 where
  pub stands : Stands low k (leasts t)

-- cut number c of t as it is written (there is one where c is below the length of the list)
abbrev pub cut_in : Tree → ℕ → Cut
cut_in t c = get_or (cuts t) c (record { rest = t; pruned = t })

-- xs holds a tree that has a cut number c
pub record HasCut (xs : List ℕ) (c : ℕ) : Type 0 where
  pub tree : Tree
  pub holds : Holds xs 0 tree
  pub is_cut : c < length (cuts tree)
