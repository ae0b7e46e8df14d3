-- Rows: the test accepts the rows of trees and nothing else, equal rows are one topology, and the tree of a row undoes the row of a tree.
-- Assumes nothing.
use mathlib.Core.Path.{◌≡◌, sym, ap, ap₂, subst, ◌∙◌}
use mathlib.Core.Logic.{◌↔◌, ◌⊎◌, inl, inr}
use mathlib.Core.List.Memᴰ
use mathlib.Core.List.{List, [], ◌∷◌, Memᴰ}
use Prim.Native.Nat.{ℕ, ◌-◌, ◌≤◌, ◌<◌}
use native.Mathlib.Omega.{arith}
use native.Mathlib.Decide.{dec_le}
use lib.Dec.{T, ltb}
use lib.ListN.{length, get_or, drop}
use Rattle.meaning.specs.Limits.{max_label}
use Rattle.meaning.specs.Tree.{Tree, fork, Good, Node, root, SameTopology, Canonical, canon, leaves, form}
use Rattle.meaning.specs.Clade.{clade}
use Rattle.meaning.proofs.Canon.{topology-iff-canon, canonical-canon}
use Rattle.meaning.proofs.Labels.{some-leaves}
use Rattle.meaning.proofs.Length.{leaves-64}
use Rattle.meaning.proofs.Text.{form-iff}
use Rattle.meaning.proofs.Clade.{clade-fits}
use Rattle.meaning.specs.Lists.{SameMembers}
use Rattle.families.specs.Clades.{size, clades}
use Rattle.meaning.specs.Sorted.{sort_by, Sorted}
use Rattle.families.specs.Grown.{first_child, grow, Grows, GrowsTo}
use Rattle.families.specs.Row.{row, is_row, row_tree}
use Rattle.families.proofs.Sizes.{size-some}
use Rattle.families.proofs.Clades.{node-good, size-leaves, node-clades, clades-iff, clades-length, clades-under, clades-size, clades-fit, clades-nodup, topology-iff-clades}
use Rattle.meaning.proofs.Sorted.{sort-in, sort-length, sort_sorted, sorted-nodup, sorted-same}
use Rattle.families.proofs.Grown.{grown-fork}
use Rattle.families.proofs.Laminar.{Made, family-made, family-all}
use Rattle.families.proofs.RowTest.{rising, RowOf, is-row-iff}

-- the clades of a tree, sorted
pub row-ascends : (t : Tree) → Good t → Sorted ltb (sort_by ltb (clades t))
row-ascends t G = sort_sorted ltb rising (clades t) (λ y m. tt) (clades-nodup t G)

-- the row of a tree passes the test
row_of : (t : Tree) → Good t → RowOf (clade t) (sort_by ltb (clades t))
row_of t G =
    let same = sort-in ltb (clades t) in
    record {
      small = clade-fits G;
      number = omega (arith, size-leaves G, clades-length t, sort-length ltb (clades t));
      ascending = row-ascends t G;
      family = record {
        once = sorted-nodup ltb rising (sort_by ltb (clades t)) (row-ascends t G);
        large = λ c m. clades-size t G c ((same c).0 m);
        fit = λ c d m n. clades-fit t G c d ((same c).0 m) ((same d).0 n);
      };
      parts = λ c m. clades-under t G c ((same c).0 m);
    }

pub row-is-row : (t : Tree) → Good t → T (is_row (row t))
row-is-row t G = (is-row-iff (clade t) (sort_by ltb (clades t))).1 (row_of t G)

-- a subtree splits as the tree does, and a fork's second subtree is one
node-grows : {cs : List ℕ} {u t : Tree} → Node u t → Grows cs t → Grows cs u
node-grows root g = g
node-grows (Node.first n) (Grows.split e p q) = node-grows n p
node-grows (Node.second n) (Grows.split e p q) = node-grows n q

second-node : {a b t : Tree} → Node (fork a b) t → Node b t
second-node root = Node.second root
second-node (Node.first n) = Node.first (second-node n)
second-node (Node.second n) = Node.second (second-node n)

-- ---- the tree of numbers that pass it
module _ {s : ℕ} {cs : List ℕ} (R : RowOf s cs) where
  some : 0 < s
  some = size-some s (omega (arith, R.number))

  made : Made cs R.family s (grow max_label cs s)
  made = family-made cs R.family s some R.small R.parts

  all-clades : SameMembers (clades (grow max_label cs s)) cs
  all-clades = family-all cs R.family s some R.small R.parts (sym R.number)

  -- what is left of a clade without its first child is one label or a clade
  pub row-rest : (c : ℕ) → Memᴰ c cs → (size (c - first_child cs c) ≡ 1) ⊎ Memᴰ (c - first_child cs c) cs
  row-rest c m =
      let (u, n, e, h) = (clades-iff c (grow max_label cs s)).0 ((all-clades c).1 m) in
      let F = grown-fork u (record { good = node-good n made.good; whole = e; grows = node-grows n made.grows }) (R.family.large c m) in
      go F.second F.second_grows (second-node (subst (λ (t : Tree). Node t (grow max_label cs s)) F.is n)) (dec_le 2 (leaves F.second))
    where
      go : (b : Tree) → GrowsTo cs (c - first_child cs c) b → Node b (grow max_label cs s) → Dec (2 ≤ leaves b) → (size (c - first_child cs c) ≡ 1) ⊎ Memᴰ (c - first_child cs c) cs
      go b g n (yes h) = inr (subst (λ (x : ℕ). Memᴰ x cs) g.whole ((all-clades (clade b)).0 (node-clades n h)))
      go b g n (no f) = inl (omega (arith, ap size g.whole, size-leaves g.good, some-leaves b))

  made_row : row (grow max_label cs s) ≡ s ∷ cs
  made_row =
      let t = grow max_label cs s in
      let same : SameMembers (sort_by ltb (clades t)) cs = λ d. (λ m. (all-clades d).0 ((sort-in ltb (clades t) d).0 m), λ m. (sort-in ltb (clades t) d).1 ((all-clades d).1 m)) in
      ap₂ (λ (x : ℕ) (l : List ℕ). x ∷ l) made.whole (sorted-same ltb rising (sort_by ltb (clades t)) cs (row-ascends t made.good) R.ascending same)

-- it is good, in canonical order, and has that row
pub row-tree-good : (xs : List ℕ) → T (is_row xs) → Good (row_tree xs)
unfolding row_tree is_row
row-tree-good [] t = absurd t
row-tree-good (s ∷ cs) t = (made ((is-row-iff s cs).0 t)).good

pub row-tree-canonical : (xs : List ℕ) → T (is_row xs) → Canonical (row_tree xs)
unfolding row_tree is_row
row-tree-canonical [] t = absurd t
row-tree-canonical (s ∷ cs) t = (made ((is-row-iff s cs).0 t)).canonical

pub row-tree-row : (xs : List ℕ) → T (is_row xs) → row (row_tree xs) ≡ xs
unfolding row_tree is_row
row-tree-row [] t = absurd t
row-tree-row (s ∷ cs) t = made_row ((is-row-iff s cs).0 t)

-- and splits as the row's clades say
pub row-tree-grows : (xs : List ℕ) → T (is_row xs) → GrowsTo (drop 1 xs) (get_or xs 0 0) (row_tree xs)
unfolding row_tree is_row
row-tree-grows [] t = absurd t
row-tree-grows (s ∷ cs) t = let M = made ((is-row-iff s cs).0 t) in record { good = M.good; whole = M.whole; grows = M.grows }

-- its label set is the row's first number
pub row-tree-clade : (xs : List ℕ) → T (is_row xs) → clade (row_tree xs) ≡ get_or xs 0 0
row-tree-clade xs t = (row-tree-grows xs t).whole

-- of two or more labels the label set is among the clades
pub row-whole : (s : ℕ) (cs : List ℕ) → T (is_row (s ∷ cs)) → 2 ≤ size s → Memᴰ s cs
row-whole s cs t h =
    let R = (is-row-iff s cs).0 t in
    let M = made R in
    (all-clades R s).0 (Memᴰ.cast (sym M.whole) (node-clades {s = grow max_label cs s} root (omega (arith, h, size-leaves M.good, ap size M.whole))))

-- ---- the theorems
-- the test tells the rows of trees from all other numbers
pub row-iff : (xs : List ℕ) → T (is_row xs) ↔ ((t : Tree) × Good t × (row t ≡ xs))
row-iff xs = (
  λ t. (row_tree xs, row-tree-good xs t, row-tree-row xs t),
  λ (t, G, e). subst (λ (l : List ℕ). T (is_row l)) e (row-is-row t G),
)

-- equal rows, one topology
pub row-iff-topology : {t u : Tree} → Good t → Good u → (row t ≡ row u) ↔ SameTopology t u
row-iff-topology {t} {u} G H = (
  λ e.
      let rest : sort_by ltb (clades t) ≡ sort_by ltb (clades u) = ap (drop 1) e in (topology-iff-clades G H).1 (
        ap (λ (l : List ℕ). get_or l 0 0) e,
        λ c. (
          λ m. (sort-in ltb (clades u) c).0 (subst (Memᴰ c) rest ((sort-in ltb (clades t) c).1 m)),
          λ m. (sort-in ltb (clades t) c).0 (subst (Memᴰ c) (sym rest) ((sort-in ltb (clades u) c).1 m)),
        ),
      ),
  λ e.
      let (whole, same) = (topology-iff-clades G H).0 e in
      ap₂ (λ (x : ℕ) (l : List ℕ). x ∷ l) whole (sorted-same ltb rising (sort_by ltb (clades t)) (sort_by ltb (clades u)) (row-ascends t G) (row-ascends u H) (λ c. (
        λ m. (sort-in ltb (clades u) c).1 ((same c).0 ((sort-in ltb (clades t) c).0 m)),
        λ m. (sort-in ltb (clades t) c).1 ((same c).1 ((sort-in ltb (clades u) c).0 m)),
      ))),
)

-- as many numbers as leaves, so at most 64
pub row-length : (t : Tree) → length (row t) ≡ leaves t
row-length t = omega (arith, sort-length ltb (clades t), clades-length t)

pub row-length-64 : {t : Tree} → Good t → length (row t) ≤ max_label
row-length-64 {t} G = omega (arith, row-length t, leaves-64 G)

-- from a tree to its row and back: the canonical form, and so the canonical text
pub tree-row-tree : (t : Tree) → Good t → row_tree (row t) ≡ canon t
tree-row-tree t G =
    let is = row-is-row t G in
    let H = row-tree-good (row t) is in
    sym (canonical-canon (row_tree (row t)) (row-tree-canonical (row t) is)) ∙ (topology-iff-canon H.distinct G.distinct).0 ((row-iff-topology H G).0 (row-tree-row (row t) is))

pub row-form : (t : Tree) → Good t → form (row_tree (row t)) ≡ form t
row-form t G =
    let is = row-is-row t G in
    let H = row-tree-good (row t) is in
    (form-iff H G).1 ((row-iff-topology H G).0 (row-tree-row (row t) is))
