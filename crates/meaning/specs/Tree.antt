-- Rooted binary trees, their topology and their canonical text. In words: docs/RULES.md, 'Topology and canonical text'.
-- Assumes nothing.
use Rattle.std.specs.Prelude.{cond, List, [], ◌∷◌, ◌++◌, ℕ, zero, suc, ◌+◌, ◌/◌, ◌%◌, ◌≤◌, ◌<◌, min, leb}
use Rattle.meaning.specs.Limits.{max_label}

infix 50 ◌⊆◌
-- a rooted binary tree with a number at each leaf
pub data Tree : Type 0 where
  leaf : ℕ → Tree
  fork : Tree → Tree → Tree

-- its labels, from left to right
abbrev pub labels : Tree → List ℕ
labels (leaf n) = n ∷ []
labels (fork a b) = labels a ++ labels b

-- how many leaves it has
abbrev pub leaves : Tree → ℕ
leaves (leaf n) = 1
leaves (fork a b) = leaves a + leaves b

-- l is a label of t
pub data In (l : ℕ) : Tree → Type 0 where
  tip : In l (leaf l)
  first : {a b : Tree} → In l a → In l (fork a b)
  second : {a b : Tree} → In l b → In l (fork a b)

-- no label occurs twice
abbrev pub Distinct : Tree → Type 0
Distinct (leaf n) = Unit {0}
Distinct (fork a b) = Distinct a × Distinct b × ((l : ℕ) → In l a → In l b → ⊥)

-- every label is 1 to 64
abbrev pub Small : Tree → Type 0
Small t = (l : ℕ) → In l t → (1 ≤ l) × (l ≤ max_label)

-- a tree that a text can hold
pub record Good (t : Tree) : Type 0 where
  pub distinct : Distinct t
  pub small : Small t

-- trees that a text can hold
abbrev pub AllGood : List Tree → Type 0
AllGood [] = Unit {0}
AllGood (t ∷ ts) = Good t × AllGood ts

-- s is the subtree at a node of t
pub data Node (s : Tree) : Tree → Type 0 where
  root : Node s s
  first : {a b : Tree} → Node s a → Node s (fork a b)
  second : {a b : Tree} → Node s b → Node s (fork a b)

-- every label of s is one of r
abbrev pub ◌⊆◌ : Tree → Tree → Type 0
s ⊆ r = (l : ℕ) → In l s → In l r

-- the nodes at which s and r stand have the same clade
abbrev pub SameClade : Tree → Tree → Type 0
SameClade s r = (s ⊆ r) × (r ⊆ s)

-- the clade of each node of t is that of a node of u
abbrev pub Within : Tree → Tree → Type 0
Within t u = (s : Tree) → Node s t → (r : Tree) × Node r u × SameClade s r

-- the two trees have the same set of clades
abbrev pub SameTopology : Tree → Tree → Type 0
SameTopology t u = Within t u × Within u t

-- the smallest label
abbrev pub least : Tree → ℕ
least (leaf n) = n
least (fork a b) = min (least a) (least b)

-- a fork of two trees, the one with the smaller least label first
abbrev pub ordered : Tree → Tree → Tree
ordered a b = cond (leb (least a) (least b)) (fork a b) (fork b a)

-- the canonical form: so ordered at every fork
abbrev pub canon : Tree → Tree
canon (leaf n) = leaf n
canon (fork a b) = ordered (canon a) (canon b)

-- the child with the smaller least label comes first at every fork: `canon t` is the tree of t's topology that is so
abbrev pub Canonical : Tree → Type 0
Canonical (leaf n) = Unit {0}
Canonical (fork a b) = Canonical a × Canonical b × (least a < least b)

-- n in decimal, the last digit after those of n / 10; at most `before` digits stand before the last
abbrev pub decimal : ℕ → ℕ → List ℕ
decimal zero n = (48 + n) ∷ []
decimal (suc before) n = let more : List ℕ = decimal before (n / 10) ++ ((48 + n % 10) ∷ []) in cond (leb n 9) ((48 + n) ∷ []) more

-- n in decimal: fewer than n digits stand before the last
abbrev pub digits : ℕ → List ℕ
digits n = decimal n n

-- a tree as text: ( is 40, ) is 41, the comma is 44
abbrev pub write : Tree → List ℕ
write (leaf n) = digits n
write (fork a b) = (40 ∷ write a) ++ (44 ∷ write b) ++ (41 ∷ [])

-- the canonical text: ; is 59
abbrev pub form : Tree → List ℕ
form t = write (canon t) ++ (59 ∷ [])

-- the canonical texts of many trees, one after another
unfoldable pub forms : List Tree → List ℕ
forms [] = []
forms (t ∷ ts) = form t ++ forms ts
