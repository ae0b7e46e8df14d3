-- Where each node of a rooted tree is drawn: its column, its row in f64, the exact row, and the drawing. In words: docs/RULES.md, 'Plots'.
-- Assumes nothing.
use Rattle.std.specs.Prelude.{List, [], ◌∷◌, ◌++◌, false, ℕ, suc, ◌+◌, ◌*◌, ◌/◌, ◌^◌, ◌≤◌, ◌<◌, max, pos, Float}
use Rattle.std.specs.Float.{binary64}
use Rattle.std.specs.Float.Ieee.{add, mul, of_int, of_bits}
use Rattle.std.specs.Float.Ieee.Exact.{HasValue}
use Rattle.meaning.specs.Tree.{Tree, leaf, fork, leaves}

-- a whole number as f64
abbrev pub whole : ℕ → Float
whole n = of_int binary64 (pos n)

-- 0.5
abbrev pub half : Float
half = of_bits binary64 0x3fe0_0000_0000_0000

-- half the sum of two rows: one sum and one product with 0.5
abbrev pub halfway : Float → Float → Float
halfway x y = mul binary64 (add binary64 x y) half

-- the row of a node, where i leaves stand before the subtree at it: a leaf's is i, a fork's is half the sum of its children's
abbrev pub row : ℕ → Tree → Float
row i (leaf l) = whole i
row i (fork a b) = halfway (row i a) (row (i + leaves a) b)

-- an exact row is a whole number over 2 ^ 63
abbrev pub scale : ℕ
scale = 2 ^ 63

-- that number: the same without rounding
abbrev pub exact : ℕ → Tree → ℕ
exact i (leaf l) = i * scale
exact i (fork a b) = (exact i a + exact (i + leaves a) b) / 2

-- of each node in the order of the text: what f says of the c forks above it, the i leaves before it and the subtree at it
abbrev pub nodes_in_order : {A : Type 0} → (ℕ → ℕ → Tree → A) → ℕ → ℕ → Tree → List A
nodes_in_order f c i (leaf l) = f c i (leaf l) ∷ []
nodes_in_order f c i (fork a b) = f c i (fork a b) ∷ (nodes_in_order f (c + 1) i a ++ nodes_in_order f (c + 1) (i + leaves a) b)

-- the columns: the number of forks above each node
abbrev pub columns : Tree → List ℕ
columns t = nodes_in_order (λ c i s. c) 0 0 t

-- the rows
abbrev pub rows : Tree → List Float
rows t = nodes_in_order (λ c i s. row i s) 0 0 t

-- the exact rows
abbrev pub exacts : Tree → List ℕ
exacts t = nodes_in_order (λ c i s. exact i s) 0 0 t

-- a node's drawing: a tip with its row, or a fork with its row and the rows of its two children
pub data Drawn : Type 0 where
  tip : Float → Drawn
  joint : Float → Float → Float → Drawn

abbrev pub drawn : ℕ → Tree → Drawn
drawn i (leaf l) = tip (row i (leaf l))
drawn i (fork a b) = joint (row i (fork a b)) (row i a) (row (i + leaves a) b)

-- the drawings
abbrev pub drawings : Tree → List Drawn
drawings t = nodes_in_order (λ c i s. drawn i s) 0 0 t

-- s is the subtree at node number k of t, in the order of the text; c forks are above it and i leaves before it
pub data NodeAt (s : Tree) : (k c i : ℕ) → Tree → Type 0 where
  here : NodeAt s 0 0 0 s
  first : {k c i : ℕ} {a b : Tree} → NodeAt s k c i a → NodeAt s (suc k) (suc c) i (fork a b)
  second : {k c i : ℕ} {a b : Tree} → NodeAt s k c i b → NodeAt s (2 * leaves a + k) (suc c) (leaves a + i) (fork a b)

-- how many forks the longest way down passes
abbrev pub height : Tree → ℕ
height (leaf l) = 0
height (fork a b) = suc (max (height a) (height b))

-- x is a number, num / den, that is at most far / 2 ^ 63 away from e / 2 ^ 63
pub record Off (far : ℕ) (x : Float) (e : ℕ) : Type 0 where
  pub num : ℕ
  pub den : ℕ
  pub some : 0 < den
  pub value : HasValue x false num den
  pub not_above : num * scale ≤ (e + far) * den
  pub not_below : e * den ≤ num * scale + far * den

-- 2 ^ -42, over 2 ^ 63
abbrev pub tolerance : ℕ
tolerance = 2 ^ 21

-- each of the numbers is within 2 ^ -42 of the exact one beside it
pub data EachWithin : List Float → List ℕ → Type 0 where
  none : EachWithin [] []
  more : {x : Float} {e : ℕ} {xs : List Float} {es : List ℕ} → Off tolerance x e → EachWithin xs es → EachWithin (x ∷ xs) (e ∷ es)
