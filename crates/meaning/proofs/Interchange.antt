-- An interchange is a move, gives another topology, can be undone, and hangs on the topologies only.
-- Assumes nothing.
use mathlib.Core.Path.{◌≡◌}
use Prim.Native.Nat.{ℕ}
use native.Mathlib.Omega.{arith}
use Rattle.meaning.specs.Tree.{Tree, fork, In, Distinct, SameTopology, leaves}
use Rattle.meaning.specs.Move.{Prune, Graft, above, on_first, on_second, OneMove, Apart}
use Rattle.meaning.specs.Interchange.{Forks, in_order, turned, Interchange, here, OneInterchange}
use Rattle.meaning.proofs.Labels.{some-leaves}
use Rattle.meaning.proofs.Same.{◌≈◌, same, swap, ≈-refl, ≈-sym, ≈-trans, ≈-in, ≈-distinct, ≈-leaves, ≈-topology, topology-≈, topology-sym, topology-trans, flip, some}
use Rattle.meaning.proofs.Moves.{prune-distinct, graft-distinct}

-- ---- forks in either order
-- those of trees that differ in the order of children only
pub ≈-forks : {x y t t' : Tree} → Forks x y t → t ≈ t' → (x' : Tree) × (y' : Tree) × Forks x' y' t' × (x ≈ x') × (y ≈ y')
≈-forks in_order (same {c} {d} p q) = (c, d, in_order, p, q)
≈-forks in_order (swap {c} {d} p q) = (d, c, turned, p, q)
≈-forks turned (same {c} {d} p q) = (d, c, turned, q, p)
≈-forks turned (swap {c} {d} p q) = (c, d, in_order, q, p)

-- the fork of the two
pub forks-≈ : {x y t : Tree} → Forks x y t → fork x y ≈ t
forks-≈ {x} {y} in_order = ≈-refl (fork x y)
forks-≈ {x} {y} turned = flip x y

≈-interchange : {t t' u : Tree} → t ≈ t' → Interchange t u → (u' : Tree) × Interchange t' u' × (u ≈ u')
≈-interchange e (here f g) =
    let (p, z, g', ep, ez) = ≈-forks g e in
    let (x, y, f', ex, ey) = ≈-forks f ep in
    (fork y (fork x z), here f' g', same ey (same ex ez))
≈-interchange (same {d} p q) (Interchange.in_first i) = let (u, i', e) = ≈-interchange p i in (fork u d, Interchange.in_first i', same e q)
≈-interchange (swap {c} p q) (Interchange.in_first i) = let (u, i', e) = ≈-interchange p i in (fork c u, Interchange.in_second i', swap e q)
≈-interchange (same {c} p q) (Interchange.in_second i) = let (u, i', e) = ≈-interchange q i in (fork c u, Interchange.in_second i', same p e)
≈-interchange (swap {d} p q) (Interchange.in_second i) = let (u, i', e) = ≈-interchange q i in (fork u d, Interchange.in_first i', swap p e)

-- ---- one prune and one regraft
forks-prune : {x y t : Tree} → Forks x y t → Prune x t y
forks-prune in_order = Prune.first
forks-prune turned = Prune.second

-- the node that is moved, what is left without it, and what regrafting it gives, up to the order of the children
record Regraft (t u : Tree) : Type 0 where
  node : Tree
  rest : Tree
  result : Tree
  prune : Prune node t rest
  graft : Graft node rest result
  is : result ≈ u

regraft : {t u : Tree} → Interchange t u → Regraft t u
regraft (here {x} {y} {z} f in_order) =
    record { node = x; rest = fork y z; result = fork y (fork x z); prune = Prune.in_first (forks-prune f); graft = on_second above; is = ≈-refl (fork y (fork x z)) }
regraft (here {x} {y} {z} f turned) =
    record { node = x; rest = fork z y; result = fork (fork x z) y; prune = Prune.in_second (forks-prune f); graft = on_first above; is = flip (fork x z) y }
regraft (Interchange.in_first {b} i) =
    let r = regraft i in
    record { node = r.node; rest = fork r.rest b; result = fork r.result b; prune = Prune.in_first r.prune; graft = on_first r.graft; is = same r.is (≈-refl b) }
regraft (Interchange.in_second {a} i) =
    let r = regraft i in
    record { node = r.node; rest = fork a r.rest; result = fork a r.result; prune = Prune.in_second r.prune; graft = on_second r.graft; is = same (≈-refl a) r.is }

-- so an interchange is a move
pub interchange-move : {t u : Tree} → Interchange t u → OneMove t u
interchange-move i =
    let r = regraft i in
    record { pruned = r.node; rest = r.rest; moved = r.result; prune = r.prune; graft = r.graft; gives = ≈-topology r.is }

pub interchange-distinct : {t u : Tree} → Distinct t → Interchange t u → Distinct u
interchange-distinct D i = let r = regraft i in ≈-distinct r.is (graft-distinct r.graft (prune-distinct r.prune D))

pub interchange-leaves : {t u : Tree} → Interchange t u → leaves t ≡ leaves u
interchange-leaves (here f g) = omega (arith, ≈-leaves (forks-≈ f), ≈-leaves (forks-≈ g))
interchange-leaves (Interchange.in_first i) = omega (arith, interchange-leaves i)
interchange-leaves (Interchange.in_second i) = omega (arith, interchange-leaves i)

-- ---- another topology
-- trees without a common label differ
pub unlike : {a b : Tree} → ((l : ℕ) → In l a → In l b → ⊥) → a ≈ b → ⊥
unlike {a} f e = let (l, i) = some a in f l i (≈-in e l i)

-- and so do a tree and a fork that it is a child of
pub larger : {x y p : Tree} → Forks x y p → p ≈ y → ⊥
larger {x} f e = absurd (omega (arith, ≈-leaves (forks-≈ f), ≈-leaves e, some-leaves x))

-- the sibling and the aunt have no common label
pub aunt-apart : {x y z parent t : Tree} → Forks x y parent → Forks parent z t → Distinct t → (l : ℕ) → In l y → In l z → ⊥
aunt-apart f g D l i j = (≈-distinct (≈-sym (forks-≈ g)) D).2 l (≈-in (forks-≈ f) l (In.second i)) j

around : {x y z parent : Tree} → Forks x y parent → ((l : ℕ) → In l y → In l z → ⊥) → fork parent z ≈ fork y (fork x z) → ⊥
around f differ (same p q) = larger f p
around f differ (swap p q) = unlike differ (≈-sym q)

changes : {t u : Tree} → Distinct t → Interchange t u → t ≈ u → ⊥
changes D (here f g) e = around f (aunt-apart f g D) (≈-trans (forks-≈ g) e)
changes D (Interchange.in_first i) (same p q) = changes D.0 i p
changes D (Interchange.in_first i) (swap p q) = unlike D.2 p
changes D (Interchange.in_second i) (same p q) = changes D.1 i q
changes D (Interchange.in_second i) (swap p q) = unlike (λ l x y. D.2 l y x) q

pub interchange-differs : {t u : Tree} → Distinct t → Interchange t u → ¬ SameTopology t u
interchange-differs D i e = changes D i (topology-≈ D (interchange-distinct D i) e)

-- so two trees one interchange apart are neighbours
pub interchange-apart : {t u : Tree} → Distinct t → OneInterchange t u → Apart t u
interchange-apart D o =
    let m = interchange-move o.interchange in (
      λ e. interchange-differs D o.interchange (topology-trans e (topology-sym o.gives)),
      record { pruned = m.pruned; rest = m.rest; moved = m.moved; prune = m.prune; graft = m.graft; gives = topology-trans m.gives o.gives },
    )

-- ---- undone
-- the same node, whose sibling is now the aunt and whose aunt the sibling
undo : {t u : Tree} → Interchange t u → (v : Tree) × Interchange u v × (v ≈ t)
undo (here {x} {y} {z} f g) = (fork z (fork x y), here in_order turned, ≈-trans (≈-trans (flip z (fork x y)) (same (forks-≈ f) (≈-refl z))) (forks-≈ g))
undo (Interchange.in_first {b} i) = let (v, j, e) = undo i in (fork v b, Interchange.in_first j, same e (≈-refl b))
undo (Interchange.in_second {a} i) = let (v, j, e) = undo i in (fork a v, Interchange.in_second j, same (≈-refl a) e)

-- what an interchange of t gives, one of each tree of t's topology gives
pub interchange-like : {t t' u u' : Tree} → t ≈ t' → SameTopology u u' → OneInterchange t u → OneInterchange t' u'
interchange-like e f o =
    let (v, i, g) = ≈-interchange e o.interchange in
    record { moved = v; interchange = i; gives = topology-trans (≈-topology (≈-sym g)) (topology-trans o.gives f) }

-- the relation reads the same from either tree
pub interchange-sym : {t u : Tree} → Distinct t → Distinct u → OneInterchange t u → OneInterchange u t
interchange-sym D E o =
    let (v, i, e) = undo o.interchange in
    interchange-like (topology-≈ (interchange-distinct D o.interchange) E o.gives) (≈-topology e)
    (record { moved = v; interchange = i; gives = ≈-topology (≈-refl v) })

-- and hangs on the topologies only
pub interchange-topology : {t t' u u' : Tree} → Distinct t → Distinct t' → SameTopology t t' → SameTopology u u' → OneInterchange t u → OneInterchange t' u'
interchange-topology D D' e f = interchange-like (topology-≈ D D' e) f
