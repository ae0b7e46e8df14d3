-- Unrooted binary trees. One is given by any rooting of it: a rooted tree that is read without its root.
-- Assumes nothing.
use Rattle.std.specs.Prelude.{cond, ◌⊎◌, ◌≡◌, ℕ, leb}
use mathlib.Core.List.{List, [], ◌∷◌, ◌++◌, Memᴰ}
use Rattle.meaning.specs.Tree.{Tree, leaf, fork, In, Distinct, Node, SameClade, least, canon, digits, write}
use Rattle.meaning.specs.Kind.{Kind, rooted, unrooted}
use Rattle.meaning.specs.Move.{Graft, Cut, parts}

-- s is the subtree at a node of t below the root: the edge above it splits the labels of t into those of s and the others
pub data Below (s : Tree) : Tree → Type 0 where
  first : {a b : Tree} → Node s a → Below s (fork a b)
  second : {a b : Tree} → Node s b → Below s (fork a b)

-- each label of t is in one of s and r, and none is in both
pub record Opposite (t s r : Tree) : Type 0 where
  pub cover : (l : ℕ) → In l t → In l s ⊎ In l r
  pub apart : (l : ℕ) → In l s → In l r → ⊥

-- each edge of t splits the labels as an edge of u does, whichever side is below
abbrev pub SplitsWithin : Tree → Tree → Type 0
SplitsWithin t u = (s : Tree) → Below s t → (r : Tree) × Below r u × (SameClade s r ⊎ Opposite t s r)

-- the unrooted trees have one topology: the same labels, and their edges split these alike
abbrev pub SameSplits : Tree → Tree → Type 0
SameSplits t u = SameClade t u × SplitsWithin t u × SplitsWithin u t

-- u is a rooting of the unrooted tree t
pub record Rooting (t u : Tree) : Type 0 where
  pub distinct : Distinct u
  pub splits : SameSplits t u

-- the rooting of fork up t whose root stands at the leaf with t's smallest label
abbrev pub spin : Tree → Tree → Tree
spin up (leaf n) = fork (leaf n) up
spin up (fork a b) = cond (leb (least a) (least b)) (spin (fork up b) a) (spin (fork up a) b)

-- the rooting whose root stands at the leaf with the smallest label: hung at that leaf
abbrev pub hang : Tree → Tree
hang (leaf n) = leaf n
hang (fork a b) = cond (leb (least a) (least b)) (spin b a) (spin a b)

-- the rooted tree that stands for a tree of either kind
abbrev pub standing : Kind → Tree → Tree
standing rooted t = t
standing unrooted t = hang t

-- the same for a canonical tree, whose smallest label is its leftmost: the leftmost path is turned round
abbrev pub spine : Tree → Tree → Tree
spine up (leaf n) = fork (leaf n) up
spine up (fork a b) = spine (fork up b) a

abbrev pub turn_round : Tree → Tree
turn_round (leaf n) = leaf n
turn_round (fork a b) = spine b a

-- the canonical form: so hung, and the child with the smaller least label first at every fork
abbrev pub canon_unrooted : Tree → Tree
canon_unrooted t = canon (hang t)

-- some move of the unrooted t gives a tree of u's topology: an edge is cut (the root stands there), one side stays and is closed up, and the other is joined to an edge of that
pub record OneMoveU (t u : Tree) : Type 0 where
  pub cut : Cut
  pub moved : Tree
  pub edge : Rooting t (parts cut)
  pub graft : Graft cut.pruned cut.rest moved
  pub gives : SameSplits moved u

-- u is a neighbour of t: one move away, and of another topology
abbrev pub ApartU : Tree → Tree → Type 0
ApartU t u = (¬ SameSplits t u) × OneMoveU t u

-- u is t but for one subtree, in whose place another rooting of it stands
pub data Respun : Tree → Tree → Type 0 where
  here : {t u : Tree} → SameSplits t u → Respun t u
  in_first : {a b c : Tree} → Respun a c → Respun (fork a b) (fork c b)
  in_second : {a b c : Tree} → Respun b c → Respun (fork a b) (fork a c)

-- the two cuts at an edge with the sides a and b: either may be the one that is moved
abbrev pub both_ways : Tree → Tree → List Cut
both_ways a b = record { rest = b; pruned = a } ∷ record { rest = a; pruned = b } ∷ []

-- those at the edges inside t, where up is the other side of the edge above t
abbrev pub inside : Tree → Tree → List Cut
inside up (leaf n) = []
inside up (fork a b) = (both_ways a (fork up b) ++ inside (fork up b) a) ++ (both_ways b (fork up a) ++ inside (fork up a) b)

-- the cuts of an unrooted tree
abbrev pub cuts_unrooted : Tree → List Cut
cuts_unrooted (leaf n) = []
cuts_unrooted (fork a b) = both_ways a b ++ (inside b a ++ inside a b)

-- a tree as text without brackets around it
abbrev pub bare : Tree → List ℕ
bare (leaf n) = digits n
bare (fork a b) = write a ++ (44 ∷ write b)

-- a rooting as the text of the unrooted tree: three children at the top, or two leaves, or one
abbrev pub write_unrooted : Tree → List ℕ
write_unrooted (leaf n) = digits n
write_unrooted (fork a b) = (40 ∷ write a) ++ (44 ∷ bare b) ++ (41 ∷ [])

-- the mark [&U]
abbrev pub mark : List ℕ
mark = 91 ∷ 38 ∷ 85 ∷ 93 ∷ []

-- the canonical text, with the top at the inner node next to the smallest label
abbrev pub form_unrooted : Tree → List ℕ
form_unrooted t = mark ++ write_unrooted (canon_unrooted t) ++ (59 ∷ [])

-- the forest text: the side that stays, unrooted, and the side that is moved, rooted by its cut end
abbrev pub forest_unrooted : Cut → List ℕ
forest_unrooted c = write_unrooted (canon_unrooted c.rest) ++ (32 ∷ write (canon c.pruned)) ++ (59 ∷ [])

-- the two unrooted trees have a cut each with the same forest
pub record SharedForestU (t u : Tree) : Type 0 where
  pub cut : Cut
  pub cut' : Cut
  pub is_cut : Memᴰ cut (cuts_unrooted t)
  pub is-cut' : Memᴰ cut' (cuts_unrooted u)
  pub agree : forest_unrooted cut ≡ forest_unrooted cut'
