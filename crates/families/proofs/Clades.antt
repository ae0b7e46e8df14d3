-- The clades of a tree as numbers: any two are nested or disjoint, and trees have one topology exactly when they have the same.
-- Assumes nothing.
use mathlib.Core.Path.{◌≡◌, refl, sym, ap, ◌∙◌, subst, subst₂}
use mathlib.Core.Logic.{◌↔◌, ◌⊎◌, inl, inr}
use mathlib.Core.List.Memᴰ
use mathlib.Core.List.{Memᴰ}
use Prim.Native.Nat.{ℕ, suc, ◌+◌, ◌-◌, ◌≤◌, ◌<◌}
use native.Mathlib.Omega.{arith}
use lib.ListN.{length, length-append}
use Rattle.meaning.specs.Lists.{NoDup}
use Rattle.meaning.specs.Tree.{Tree, leaf, fork, In, tip, Good, Node, root, Within, SameTopology, leaves}
use Rattle.meaning.specs.Clade.{clade}
use Rattle.meaning.proofs.Same.{good-first, good-second, node_in, within_in}
use Rattle.meaning.proofs.Labels.{some-leaves}
use Rattle.meaning.proofs.Lists.{nodup_append}
use Rattle.meaning.proofs.LabelBits.{Clear, Under}
use Rattle.meaning.proofs.Clade.{children-clear, under-clade, clade-iff}
use Rattle.meaning.specs.Lists.{SameMembers}
use Rattle.families.specs.Clades.{size, clades}
use Rattle.families.proofs.Sizes.{size-add, size-pow, clear-sym, clear-parts, clear-differ, under-size}

-- a subtree of a good tree is good
pub node-good : {s t : Tree} → Node s t → Good t → Good s
node-good root G = G
node-good (Node.first n) G = node-good n (good-first G)
node-good (Node.second n) G = node-good n (good-second G)

-- as many set bits as leaves
pub size-leaves : {t : Tree} → Good t → size (clade t) ≡ leaves t
size-leaves {t = leaf n} G = let h = G.small n tip in size-pow (n - 1) (omega arith)
size-leaves {t = fork a b} G = omega (arith, size-add (clade a) (clade b) (children-clear G), size-leaves (good-first G), size-leaves (good-second G))

-- c is the clade of a fork of t
abbrev pub ForkAt : ℕ → Tree → Type 0
ForkAt c t = (s : Tree) × Node s t × (clade s ≡ c) × (2 ≤ leaves s)

clades-node : (c : ℕ) (t : Tree) → Memᴰ c (clades t) → ForkAt c t
clades-node c (leaf n) m = absurd (Memᴰ.not-nil m)
clades-node c (fork a b) m = go (clades-node c a) (clades-node c b) m
  where
    side : (Memᴰ c (clades a) → ForkAt c a) → (Memᴰ c (clades b) → ForkAt c b) → Memᴰ c (clades a) ⊎ Memᴰ c (clades b) → ForkAt c (fork a b)
    side f g (inl m) = let (s, n, e, h) = f m in (s, Node.first n, e, h)
    side f g (inr m) = let (s, n, e, h) = g m in (s, Node.second n, e, h)

    go : (Memᴰ c (clades a) → ForkAt c a) → (Memᴰ c (clades b) → ForkAt c b) → Memᴰ c (clades (fork a b)) → ForkAt c (fork a b)
    go f g (Memᴰ.head e) = (fork a b, root, sym e, omega (arith, some-leaves a, some-leaves b))
    go f g (Memᴰ.tail m) = side f g (Memᴰ.append_cases (clades a) m)

fork-clade : (s : Tree) → 2 ≤ leaves s → Memᴰ (clade s) (clades s)
fork-clade (leaf n) h = absurd (omega arith)
fork-clade (fork a b) h = Memᴰ.head refl

-- a node of two or more leaves is one
pub node-clades : {s t : Tree} → Node s t → 2 ≤ leaves s → Memᴰ (clade s) (clades t)
node-clades {s} root h = fork-clade s h
node-clades (Node.first {b} n) h = Memᴰ.tail (Memᴰ.append_left (clades b) (node-clades n h))
node-clades (Node.second {a} n) h = Memᴰ.tail (Memᴰ.append_right (clades a) (node-clades n h))

-- the clades of two or more labels are those of the forks
pub clades-iff : (c : ℕ) (t : Tree) → Memᴰ c (clades t) ↔ ForkAt c t
clades-iff c t = (clades-node c t, λ (s, n, e, h). Memᴰ.cast (sym e) (node-clades n h))

-- one fewer than leaves
pub clades-length : (t : Tree) → suc (length (clades t)) ≡ leaves t
clades-length (leaf n) = refl
clades-length (fork a b) = simp length-append (omega (arith, clades-length a, clades-length b))

-- each lies in the whole
pub clades-under : (t : Tree) → Good t → (c : ℕ) → Memᴰ c (clades t) → Under c (clade t)
clades-under t G c m = let (s, n, e, h) = clades-node c t m in subst (λ (x : ℕ). Under x (clade t)) e ((under-clade (node-good n G) G).1 (node_in n))

-- and has two or more labels
pub clades-size : (t : Tree) → Good t → (c : ℕ) → Memᴰ c (clades t) → 2 ≤ size c
clades-size t G c m = let (s, n, e, h) = clades-node c t m in omega (arith, ap size e, size-leaves (node-good n G))

-- nested, one way or the other, or clear of each other
pub data Fit (c d : ℕ) : Type 0 where
  within : Under c d → Fit c d
  around : Under d c → Fit c d
  beside : Clear c d → Fit c d

across : {s r a b : Tree} → Good (fork a b) → Node s a → Node r b → Clear (clade s) (clade r)
across G n m =
    let A = good-first G in
    let B = good-second G in
    clear-parts ((under-clade (node-good n A) A).1 (node_in n)) ((under-clade (node-good m B) B).1 (node_in m)) (children-clear G)

nodes-fit : {s r t : Tree} → Good t → Node s t → Node r t → Fit (clade s) (clade r)
nodes-fit G root m = around ((under-clade (node-good m G) G).1 (node_in m))
nodes-fit G (Node.first n) root = within ((under-clade (node-good n (good-first G)) G).1 (node_in (Node.first n)))
nodes-fit G (Node.second n) root = within ((under-clade (node-good n (good-second G)) G).1 (node_in (Node.second n)))
nodes-fit G (Node.first n) (Node.first m) = nodes-fit (good-first G) n m
nodes-fit G (Node.first n) (Node.second m) = beside (across G n m)
nodes-fit G (Node.second n) (Node.first m) = beside (clear-sym (across G m n))
nodes-fit G (Node.second n) (Node.second m) = nodes-fit (good-second G) n m

-- any two clades of a tree are nested or disjoint
pub clades-fit : (t : Tree) → Good t → (c d : ℕ) → Memᴰ c (clades t) → Memᴰ d (clades t) → Fit c d
clades-fit t G c d m n =
    let (s, i, e, _) = clades-node c t m in
    let (r, j, f, _) = clades-node d t n in
    subst₂ Fit e f (nodes-fit G i j)

-- a child has fewer labels
child-size : (a b : Tree) → Good (fork a b) → (size (clade a) < size (clade a + clade b)) × (size (clade b) < size (clade a + clade b))
child-size a b G =
    let e = size-leaves G in
    (omega (arith, e, size-leaves (good-first G), some-leaves b), omega (arith, e, size-leaves (good-second G), some-leaves a))

-- no clade twice
pub clades-nodup : (t : Tree) → Good t → NoDup (clades t)
clades-nodup (leaf n) G = tt
clades-nodup (fork a b) G = (λ m. new (Memᴰ.append_cases (clades a) m), nodup_append (clades a) (clades b) (clades-nodup a A) (clades-nodup b B) apart)
  where
    A : Good a
    A = good-first G

    B : Good b
    B = good-second G

    apart : (c : ℕ) → Memᴰ c (clades a) → Memᴰ c (clades b) → ⊥
    apart c i j = clear-differ (clear-parts (clades-under a A c i) (clades-under b B c j) (children-clear G)) (clades-size a A c i)

    new : Memᴰ (clade a + clade b) (clades a) ⊎ Memᴰ (clade a + clade b) (clades b) → ⊥
    new (inl m) = omega (arith, under-size (clades-under a A (clade a + clade b) m), (child-size a b G).0)
    new (inr m) = omega (arith, under-size (clades-under b B (clade a + clade b) m), (child-size a b G).1)

-- a label is a node
in-node : {l : ℕ} {t : Tree} → In l t → Node (leaf l) t
in-node tip = root
in-node (In.first i) = Node.first (in-node i)
in-node (In.second i) = Node.second (in-node i)

module _ {t u : Tree} (G : Good t) (H : Good u) where
  clades-of-within : Within t u → (c : ℕ) → Memᴰ c (clades t) → Memᴰ c (clades u)
  clades-of-within w c m =
      let (s, n, e, h) = clades-node c t m in
      let (r, k, f) = w s n in
      let g : clade s ≡ clade r = (clade-iff (node-good n G) (node-good k H)).1 f in
      Memᴰ.cast (sym e ∙ g) (node-clades k (omega (arith, ap size g, size-leaves (node-good n G), size-leaves (node-good k H))))

  within-of-clades : clade t ≡ clade u → ((c : ℕ) → Memᴰ c (clades t) → Memᴰ c (clades u)) → Within t u
  within-of-clades e f (leaf l) n = (leaf l, in-node (((clade-iff G H).0 e).0 l (node_in n l tip)), (λ k i. i, λ k i. i))
  within-of-clades e f (fork a b) n =
      let (r, k, g, _) = clades-node (clade a + clade b) u (f (clade a + clade b) (node-clades n (omega (arith, some-leaves a, some-leaves b)))) in
      (r, k, (clade-iff (node-good n G) (node-good k H)).0 (sym g))

-- one topology: the same labels and the same clades of two or more
pub topology-iff-clades : {t u : Tree} → Good t → Good u → SameTopology t u ↔ ((clade t ≡ clade u) × SameMembers (clades t) (clades u))
topology-iff-clades G H = (
  λ e. ((clade-iff G H).1 (within_in e.0, within_in e.1), λ c. (clades-of-within G H e.0 c, clades-of-within H G e.1 c)),
  λ (e, f). (within-of-clades G H e (λ c. (f c).0), within-of-clades H G (sym e) (λ c. (f c).1)),
)
