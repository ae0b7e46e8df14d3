-- Two trees in canonical order are one interchange apart where they agree in one child and their other children are one interchange apart,
-- or where they are regrouped at their roots; and only one of these can be.
-- Assumes nothing.
use mathlib.Core.Path.{◌≡◌, refl, sym, subst, subst₂, ◌∙◌}
use mathlib.Core.Logic.{◌↔◌, ◌⊎◌, inl, inr}
use Prim.Native.Nat.{ℕ}
use native.Mathlib.Omega.{arith}
use Rattle.meaning.specs.Tree.{Tree, fork, In, Distinct, Canonical, SameClade, SameTopology, least}
use Rattle.meaning.specs.Interchange.{Forks, in_order, turned, Interchange, here, OneInterchange}
use Rattle.meaning.proofs.Same.{◌≈◌, same, swap, ≈-refl, ≈-sym, ≈-trans, ≈-in, ≈-clade, ≈-distinct, ≈-topology, topology-≈, flip}
use Rattle.meaning.proofs.Canon.{least-in, least-le}
use Rattle.meaning.proofs.Moves.{move-labels}
use Rattle.meaning.proofs.Interchange.{forks-≈, ≈-forks, interchange-move, interchange-distinct, interchange-apart, unlike, larger, aunt-apart}
use Rattle.interchanges.specs.Interchanged.{Regrouped}
use Rattle.pairs.proofs.Ordered.{ordered_same}

-- ---- canonical order
forks-canonical : {x y t : Tree} → Forks x y t → Canonical t → Canonical x × Canonical y
forks-canonical in_order K = (K.0, K.1)
forks-canonical turned K = (K.1, K.0)

forks-distinct : {x y t : Tree} → Forks x y t → Distinct t → Distinct x × Distinct y
forks-distinct in_order D = (D.0, D.1)
forks-distinct turned D = (D.1, D.0)

forks-same : {x x' y y' t : Tree} → x ≡ x' → y ≡ y' → Forks x' y' t → Forks x y t
forks-same {t} e f = subst₂ (λ a b. Forks a b t) (sym e) (sym f)

-- the same labels, the same least
least-same : {s r : Tree} → SameClade s r → least s ≡ least r
least-same {s} {r} e =
    let one = least-le (e.1 (least r) (least-in r)) in
    let two = least-le (e.0 (least s) (least-in s)) in
    omega arith

-- so no child takes the other's place
not-turned : {a b c d a' b' : Tree} → Canonical (fork a b) → Canonical (fork c d) → SameClade a a' → SameClade b b' → a' ≈ d → b' ≈ c → ⊥
not-turned K L e f p q = absurd (omega (arith, K.2, L.2, least-same e, least-same f, least-same (≈-clade p), least-same (≈-clade q)))

interchange-labels : {t u : Tree} → Interchange t u → SameClade t u
interchange-labels i = move-labels (interchange-move i)

self-labels : (t : Tree) → SameClade t t
self-labels t = ≈-clade (≈-refl t)

-- ---- regrouped at the roots
pub regrouped-interchange : {t u : Tree} → Regrouped t u → OneInterchange t u
regrouped-interchange r = record {
  moved = fork r.sibling (fork r.moved.node r.aunt);
  interchange = here r.moved.under r.root;
  gives = ≈-topology (≈-trans (≈-trans (flip r.sibling (fork r.moved.node r.aunt)) (same (forks-≈ r.moved.under') (≈-refl r.sibling))) (forks-≈ r.root'));
}

-- a child is one of the two
forks-child : {x y s s' t : Tree} → Forks x y t → Forks s s' t → (s ≡ x) ⊎ (s ≡ y)
forks-child in_order in_order = inl refl
forks-child in_order turned = inr refl
forks-child turned in_order = inr refl
forks-child turned turned = inl refl

-- the two parents differ
parents-differ : {x y z p q : Tree} → Distinct p → Forks x y p → Forks x z q → ((l : ℕ) → In l y → In l z → ⊥) → p ≡ q → ⊥
parents-differ {x} {y} {z} {p} {q} D f g apart e = unlike-sibling (λ l i. ≈-in (≈-sym (forks-≈ g)) l (subst (In l) e (≈-in (forks-≈ f) l (In.second i))))
  where
    unlike-sibling : ((l : ℕ) → In l y → In l (fork x z)) → ⊥
    unlike-sibling h = let l = least y in let i = least-in y in go l i (h l i)
      where
        go : (l : ℕ) → In l y → In l (fork x z) → ⊥
        go l i (In.first j) = (≈-distinct (≈-sym (forks-≈ f)) D).2 l j i
        go l i (In.second j) = apart l i j

-- so regrouped trees have no child in common
pub no_shared : {s s' s'' t u : Tree} → Distinct t → Regrouped t u → Forks s s' t → Forks s s'' u → ⊥
no_shared {s} {t} D r f g = go (forks-child r.root f) (forks-child r.root' g)
  where
    apart : (l : ℕ) → In l r.sibling → In l r.aunt → ⊥
    apart = aunt-apart r.moved.under r.root D

    equal : {a b : Tree} → a ≡ b → a ≈ b
    equal {a} e = subst (λ v. a ≈ v) e (≈-refl a)

    go : (s ≡ r.parent) ⊎ (s ≡ r.aunt) → (s ≡ r.parent') ⊎ (s ≡ r.sibling) → ⊥
    go (inl d) (inl e) = parents-differ (forks-distinct r.root D).0 r.moved.under r.moved.under' apart (sym d ∙ e)
    go (inl d) (inr e) = larger r.moved.under (equal (sym d ∙ e))
    go (inr d) (inl e) = larger r.moved.under' (equal (sym e ∙ d))
    go (inr d) (inr e) = unlike apart (equal (sym e ∙ d))

-- ---- a step down
module _ {a b c d : Tree} (D : Distinct (fork a b)) (E : Distinct (fork c d)) (K : Canonical (fork a b)) (L : Canonical (fork c d)) where
  abbrev Ways : Type 0
  Ways = ((a ≡ c) × OneInterchange b d) ⊎ (((b ≡ d) × OneInterchange a c) ⊎ Regrouped (fork a b) (fork c d))

  -- an interchange at the roots
  at-root : {x y z parent : Tree} → Forks x y parent → Forks parent z (fork a b) → fork y (fork x z) ≈ fork c d → Regrouped (fork a b) (fork c d)
  at-root {x} {y} {z} {parent} f g e =
      let (q, y', g', eq, ey) = ≈-forks turned e in
      let (x', z', f', ex, ez) = ≈-forks in_order eq in
      let (KP, KZ) = forks-canonical g K in
      let (KX, KY) = forks-canonical f KP in
      let (LQ, LY) = forks-canonical g' L in
      let (LX, LZ) = forks-canonical f' LQ in
      let (DP, DZ) = forks-distinct g D in
      let (DX, DY) = forks-distinct f DP in
      let x-is : x ≡ x' = ordered_same DX KX LX ex in
      let y-is : y ≡ y' = ordered_same DY KY LY ey in
      let z-is : z ≡ z' = ordered_same DZ KZ LZ ez in
      record {
        parent = parent;
        aunt = z;
        parent' = q;
        sibling = y;
        root = g;
        root' = forks-same refl y-is g';
        moved = record { node = x; under = f; under' = forks-same x-is z-is f' };
      }

  one_way : {u : Tree} → Interchange (fork a b) u → u ≈ fork c d → Ways
  one_way (here f g) e = inr (inr (at-root f g e))
  one_way (Interchange.in_first {u} i) (same p q) = inr (inl (ordered_same D.1 K.1 L.1 q, record { moved = u; interchange = i; gives = ≈-topology p }))
  one_way (Interchange.in_first i) (swap p q) = absurd (not-turned K L (interchange-labels i) (self-labels b) p q)
  one_way (Interchange.in_second {u} i) (same p q) = inl (ordered_same D.0 K.0 L.0 p, record { moved = u; interchange = i; gives = ≈-topology q })
  one_way (Interchange.in_second i) (swap p q) = absurd (not-turned K L (self-labels a) (interchange-labels i) p q)

  ways : OneInterchange (fork a b) (fork c d) → Ways
  ways o = one_way o.interchange (topology-≈ (interchange-distinct D o.interchange) E o.gives)

  -- the first children agree
  pub step-second : a ≡ c → OneInterchange (fork a b) (fork c d) ↔ OneInterchange b d
  step-second e = (λ o. go (ways o), λ o. back o)
    where
      go : Ways → OneInterchange b d
      go (inl w) = w.1
      go (inr (inl w)) = absurd ((interchange-apart D.0 w.1).0 (subst (SameTopology a) e (≈-topology (≈-refl a))))
      go (inr (inr r)) = absurd (no_shared D r in_order (forks-same e refl in_order))

      back : OneInterchange b d → OneInterchange (fork a b) (fork c d)
      back o =
          let g = topology-≈ (interchange-distinct D.1 o.interchange) E.1 o.gives in
          record { moved = fork a o.moved; interchange = Interchange.in_second o.interchange; gives = ≈-topology (same (subst (λ v. a ≈ v) e (≈-refl a)) g) }

  -- the second do, and the first don't
  pub step-first : b ≡ d → OneInterchange (fork a b) (fork c d) ↔ OneInterchange a c
  step-first e = (λ o. go (ways o), λ o. back o)
    where
      go : Ways → OneInterchange a c
      go (inl w) = absurd ((interchange-apart D.1 w.1).0 (subst (SameTopology b) e (≈-topology (≈-refl b))))
      go (inr (inl w)) = w.1
      go (inr (inr r)) = absurd (no_shared D r turned (forks-same e refl turned))

      back : OneInterchange a c → OneInterchange (fork a b) (fork c d)
      back o =
          let g = topology-≈ (interchange-distinct D.0 o.interchange) E.0 o.gives in
          record { moved = fork o.moved b; interchange = Interchange.in_first o.interchange; gives = ≈-topology (same g (subst (λ v. b ≈ v) e (≈-refl b))) }

  -- none do
  pub step-here : ¬ (a ≡ c) → ¬ (b ≡ d) → OneInterchange (fork a b) (fork c d) ↔ Regrouped (fork a b) (fork c d)
  step-here m n = (λ o. go (ways o), regrouped-interchange)
    where
      go : Ways → Regrouped (fork a b) (fork c d)
      go (inl w) = absurd (m w.0)
      go (inr (inl w)) = absurd (n w.0)
      go (inr (inr r)) = r
