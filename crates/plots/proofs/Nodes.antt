-- The lists of a plot: their length, what stands at each node, the columns of children, the rows of the tips, and the drawings as the rows say.
-- Assumes nothing.
use mathlib.Core.Path.{◌≡◌, refl, sym, ap, ap₂, ◌∙◌}
use mathlib.Core.Bool.{Bool, true, false, not}
use mathlib.Core.List.{List, [], ◌∷◌, ◌++◌, append_assoc, map, map-append}
use Prim.Native.Nat.{ℕ, zero, suc, ◌+◌, ◌-◌, ◌*◌, ◌≤◌, ◌<◌}
use native.Mathlib.Nat.{add-zero, zero-add, add_assoc}
use native.Mathlib.Omega.{arith}
use native.Mathlib.Numerals.{add-one}
use lib.Dec.{T, ltb, ltb→lt, nltb→le}
use lib.ListN.{length, get_or, length-append, get_or-append}
use lib.Seq.{get_or-append-add}
use lib.Ieee.{Float, nan}
use Rattle.meaning.specs.Lists.{positions}
use Rattle.meaning.specs.Tree.{Tree, leaf, fork, leaves}
use Rattle.meaning.proofs.Labels.{some-leaves}
use Rattle.plots.specs.Plot.{whole, row, nodes_in_order, columns, rows, Drawn, tip, joint, drawn, drawings, NodeAt, here, first, second}

-- ---- node numbers
-- a node's number is below the number of nodes, 2n - 1
pub node-below : {s t : Tree} {k c i : ℕ} → NodeAt s k c i t → k + 1 < 2 * leaves t
node-below {s} here = omega (arith, some-leaves s)
node-below (first {b} n) = omega (arith, node-below n, some-leaves b)
node-below (second n) = omega (arith, node-below n)

-- the children of a fork have one fork more above them; the first is the next node, the second is behind all nodes of the first
renumber : {s t : Tree} {k k' c i i' : ℕ} → k ≡ k' → i ≡ i' → NodeAt s k c i t → NodeAt s k' c i' t
renumber e f n = rw (← e, ← f) n

pub first-child : {a b t : Tree} {k c i : ℕ} → NodeAt (fork a b) k c i t → NodeAt a (suc k) (suc c) i t
first-child here = first here
first-child (first n) = first (first-child n)
first-child (second n) = renumber (omega arith) refl (second (first-child n))

pub second-child : {a b t : Tree} {k c i : ℕ} → NodeAt (fork a b) k c i t → NodeAt b (k + 2 * leaves a) (suc c) (i + leaves a) t
second-child here = renumber (omega arith) (omega arith) (second here)
second-child (first n) = renumber (omega arith) refl (first (second-child n))
second-child (second n) = renumber (omega arith) (omega arith) (second (second-child n))

-- a subtree with its forks above and leaves before it
pub record Found (k : ℕ) (t : Tree) : Type 0 where
  pub subtree : Tree
  pub above : ℕ
  pub before : ℕ
  pub at : NodeAt subtree k above before t

-- every number below 2n - 1 is that of a node
pub every-node : (t : Tree) (k : ℕ) → k + 1 < 2 * leaves t → Found k t
every-node (leaf l) zero h = record { subtree = leaf l; above = 0; before = 0; at = here }
every-node (leaf l) (suc k) h = absurd (omega arith)
every-node (fork a b) zero h = record { subtree = fork a b; above = 0; before = 0; at = here }
every-node (fork a b) (suc k) h =
    go (ltb (k + 1) (2 * leaves a)) (ltb→lt (k + 1) (2 * leaves a)) (nltb→le (k + 1) (2 * leaves a)) (every-node a k) (every-node b (k + 1 - 2 * leaves a))
  where
    behind : (j : ℕ) → 2 * leaves a + j ≡ suc k → Found j b → Found (suc k) (fork a b)
    behind j e f = record { subtree = f.subtree; above = suc f.above; before = leaves a + f.before; at = renumber e refl (second f.at) }

    go : (d : Bool) → (T d → k + 1 < 2 * leaves a) → (T (not d) → 2 * leaves a ≤ k + 1)
        → (k + 1 < 2 * leaves a → Found k a) → (k + 1 - 2 * leaves a + 1 < 2 * leaves b → Found (k + 1 - 2 * leaves a) b) → Found (suc k) (fork a b)
    go true f g p q =
        let n = p (f tt) in
        record { subtree = n.subtree; above = suc n.above; before = n.before; at = first n.at }
    go false f g p q =
        let l = g tt in
        behind (k + 1 - 2 * leaves a) (omega (arith, l)) (q (omega (arith, l, h)))

-- ---- any list over the nodes
module _ {A : Type 0} (f : ℕ → ℕ → Tree → A) where
  -- it has 2n - 1 members
  pub order-length : (c i : ℕ) (t : Tree) → length (nodes_in_order f c i t) + 1 ≡ 2 * leaves t
  order-length c i (leaf l) = refl
  order-length c i (fork a b) =
      omega (arith, length-append (nodes_in_order f (c + 1) i a) (nodes_in_order f (c + 1) (i + leaves a) b), order-length (c + 1) i a, order-length (c + 1) (i + leaves a) b)

  one_more : (x y : ℕ) → x + 1 + y ≡ x + suc y
  one_more x y = omega arith

  own : (d : A) (c i : ℕ) (t : Tree) → get_or (nodes_in_order f c i t) 0 d ≡ f c i t
  own d c i (leaf l) = refl
  own d c i (fork a b) = refl

  -- at a node's number stands what f says of it
  pub node-is : (d : A) {s t : Tree} {k c i : ℕ} → NodeAt s k c i t → (above before : ℕ) → get_or (nodes_in_order f above before t) k d ≡ f (above + c) (before + i) s
  node-is d {s} here above before = own d above before s ∙ ap₂ (λ (x y : ℕ). f x y s) (sym (add-zero above)) (sym (add-zero before))
  node-is d {s} (first {k} {c} {i} {a} {b} n) above before =
      let xs = nodes_in_order f (above + 1) before a in
      let ys = nodes_in_order f (above + 1) (before + leaves a) b in
      get_or-append xs ys d k (omega (arith, order-length (above + 1) before a, node-below n))
      ∙ node-is d n (above + 1) before ∙ ap (λ (x : ℕ). f x (before + i) s) (one_more above c)
  node-is d {s} (second {k} {c} {i} {a} {b} n) above before =
      let xs = nodes_in_order f (above + 1) before a in
      let ys = nodes_in_order f (above + 1) (before + leaves a) b in
      let e : 2 * leaves a + k ≡ suc (length xs + k) = omega (arith, order-length (above + 1) before a) in
      ap (λ (j : ℕ). get_or (f above before (fork a b) ∷ (xs ++ ys)) j d) e
      ∙ get_or-append-add xs ys k d
      ∙ node-is d n (above + 1) (before + leaves a) ∙ ap₂ (λ (x y : ℕ). f x y s) (one_more above c) (add_assoc before (leaves a) i)

-- ---- columns and rows of a node
module _ {s t : Tree} {k c i : ℕ} (n : NodeAt s k c i t) where
  -- the column is the number of forks above it
  pub column-is : get_or (columns t) k 0 ≡ c
  column-is = node-is (λ c i s. c) 0 n 0 0 ∙ zero-add c

  -- the row is that of the subtree, with the leaves before it
  pub row_is : get_or (rows t) k nan ≡ row i s
  row_is = node-is (λ c i s. row i s) nan n 0 0 ∙ ap (λ (j : ℕ). row j s) (zero-add i)

  pub drawing-is : (d : Drawn) → get_or (drawings t) k d ≡ drawn i s
  drawing-is d = node-is (λ c i s. drawn i s) d n 0 0 ∙ ap (λ (j : ℕ). drawn j s) (zero-add i)

-- the root's column is 0
pub root-column : (t : Tree) → get_or (columns t) 0 0 ≡ 0
root-column t = let n : NodeAt t 0 0 0 t = here in column-is n

-- a leaf's row is the number of leaves before it
pub leaf-row : {l k c i : ℕ} {t : Tree} → NodeAt (leaf l) k c i t → get_or (rows t) k nan ≡ whole i
leaf-row n = row_is n

-- a leaf's drawing is a tip with its row
pub leaf-drawing : {l k c i : ℕ} {t : Tree} → NodeAt (leaf l) k c i t → (d : Drawn) → get_or (drawings t) k d ≡ tip (get_or (rows t) k nan)
leaf-drawing n d = drawing-is n d ∙ ap tip (sym (row_is n))

module _ {a b t : Tree} {k c i : ℕ} (n : NodeAt (fork a b) k c i t) where
  -- a child's column is one more than its fork's
  pub first-column : get_or (columns t) (suc k) 0 ≡ suc (get_or (columns t) k 0)
  first-column = column-is (first-child n) ∙ ap suc (sym (column-is n))

  pub second-column : get_or (columns t) (k + 2 * leaves a) 0 ≡ suc (get_or (columns t) k 0)
  second-column = column-is (second-child n) ∙ ap suc (sym (column-is n))

  -- a fork's drawing has its row and those of its two children
  pub fork-drawing : (d : Drawn) → get_or (drawings t) k d ≡ joint (get_or (rows t) k nan) (get_or (rows t) (suc k) nan) (get_or (rows t) (k + 2 * leaves a) nan)
  fork-drawing d = drawing-is n d ∙ sym (joined (row_is n) (row_is (first-child n)) (row_is (second-child n)))
    where
      joined : {x x' y y' z z' : Float} → x ≡ x' → y ≡ y' → z ≡ z' → joint x y z ≡ joint x' y' z'
      joined e f g = rw (e, f, g)

-- ---- the tips, from the first to the last: rows 0, 1, 2 and on
abbrev pub tips : List Drawn → List Float
tips [] = []
tips (tip x ∷ ds) = x ∷ tips ds
tips (joint x y z ∷ ds) = tips ds

tips-append : (xs ys : List Drawn) → tips (xs ++ ys) ≡ tips xs ++ tips ys
tips-append [] ys = refl
tips-append (tip x ∷ xs) ys = ap (λ (l : List Float). x ∷ l) (tips-append xs ys)
tips-append (joint x y z ∷ xs) ys = tips-append xs ys

tips-behind : (t : Tree) (c i : ℕ) → map whole (positions i) ++ tips (nodes_in_order (λ c i s. drawn i s) c i t) ≡ map whole (positions (i + leaves t))
unfolding positions
tips-behind (leaf l) c i = sym (ap (λ (n : ℕ). map whole (positions n)) (add-one i) ∙ map-append whole (positions i) (i ∷ []))
tips-behind (fork a b) c i =
    let xs = nodes_in_order (λ c i s. drawn i s) (c + 1) i a in
    let ys = nodes_in_order (λ c i s. drawn i s) (c + 1) (i + leaves a) b in
    ap (λ (l : List Float). map whole (positions i) ++ l) (tips-append xs ys) ∙ sym (append_assoc (map whole (positions i)) (tips xs) (tips ys))
    ∙ ap (λ (l : List Float). l ++ tips ys) (tips-behind a (c + 1) i) ∙ tips-behind b (c + 1) (i + leaves a)
    ∙ ap (λ (n : ℕ). map whole (positions n)) (add_assoc i (leaves a) (leaves b))

pub tip-rows : (t : Tree) → tips (drawings t) ≡ map whole (positions (leaves t))
unfolding positions
tip-rows t = tips-behind t 0 0 ∙ ap (λ (n : ℕ). map whole (positions n)) (zero-add (leaves t))
