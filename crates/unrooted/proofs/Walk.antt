-- Two trees told of by those that they are where they part.
-- Assumes nothing.
use mathlib.Core.Path.{◌≡◌, refl, sym, ap, ap₂, subst, ◌∙◌}
use mathlib.Core.Logic.{◌↔◌}
use mathlib.Core.Bool.{Bool}
use mathlib.Core.List.{List}
use Prim.Native.Nat.{ℕ}
use native.Mathlib.Omega.{arith}
use Rattle.meaning.specs.Tree.{Tree, leaf, fork, leaves, Distinct, SameClade}
use Rattle.meaning.specs.Unrooted.{SameSplits, Respun, here}
use Rattle.meaning.proofs.Logic.{iff-then}
use Rattle.meaning.proofs.Same.{≈-leaves, not-leaf}
use Rattle.meaning.proofs.Rootings.{◌∼◌, order, roll, splits-∼, least-same}
use Rattle.meaning.proofs.Respun.{respun-clade, walk-second, walk_first, walk_here}
use Rattle.lent.specs.Runs.{Says}
use Rattle.lent.proofs.Says.{says}
use Rattle.held.specs.Held.{Holds}
use Rattle.held.specs.Node.{subtree}
use Rattle.held.specs.declared.node.Node.{Node}
use Rattle.held.proofs.Subtree.{at-node}
use Rattle.pairs.specs.Ordered.{InOrder}
use Rattle.pairs.specs.Parting.{Along, PartAt, Unparted}
use Rattle.pairs.proofs.Walk.{Told, along-told, along-held}
use Rattle.unrooted.specs.Apart.{OtherRoot}
use Rattle.unrooted.specs.Turned.{OrderedFork}

-- ---- trees
-- one that has the labels of a leaf is that leaf
leaf-alone : {m : ℕ} {u : Tree} → Distinct u → SameClade (leaf m) u → leaf m ≡ u
leaf-alone {u = leaf n} E e = ap leaf (least-same e)
leaf-alone {u = fork c d} E e = absurd (not-leaf c d E e.1)

-- a step down, where the first children are the same, where the second are, and where neither are
module _ {a b c d : Tree} (D : Distinct (fork a b)) (E : Distinct (fork c d)) where
  root-second : a ≡ c → OtherRoot (fork a b) (fork c d) ↔ OtherRoot b d
  root-second e = (λ o. (λ f. o.0 (ap₂ fork e f), (walk-second D E e).0 o.1), λ o. (λ f. o.0 cc, (walk-second D E e).1 o.1))

  root-first : b ≡ d → OtherRoot (fork a b) (fork c d) ↔ OtherRoot a c
  root-first e = (λ o. (λ f. o.0 (ap₂ fork f e), (walk_first D E e).0 o.1), λ o. (λ f. o.0 cc, (walk_first D E e).1 o.1))

  root-here : ¬ (a ≡ c) → ¬ (b ≡ d) → OtherRoot (fork a b) (fork c d) ↔ SameSplits (fork a b) (fork c d)
  root-here n m = (λ o. (walk_here D E n m).0 o.1, λ h. (λ e. n cc, (walk_here D E n m).1 h))

-- trees that differ by a root have as many leaves
∼-leaves : {t u : Tree} → t ∼ u → leaves t ≡ leaves u
∼-leaves (order p) = ≈-leaves p
∼-leaves (roll p q) = omega (arith, ≈-leaves p, ∼-leaves q)

respun-leaves : {t u : Tree} → Distinct t → Distinct u → Respun t u → leaves t ≡ leaves u
respun-leaves D E (here h) = ∼-leaves (splits-∼ D E h)
respun-leaves D E (Respun.in_first k) = omega (arith, respun-leaves D.0 E.0 k)
respun-leaves D E (Respun.in_second k) = omega (arith, respun-leaves D.1 E.1 k)

-- ---- where they are walked down together, the trees that are come to tell the answer
abbrev Answers : Tree → Tree → Tree → Tree → Type 0
Answers = Told OtherRoot (λ _ _ _ D E. root-second D.distinct E.distinct refl) (λ _ _ _ D E. root-first D.distinct E.distinct refl)

told : {t u s r : Tree} {k : ℕ} → InOrder t → InOrder u → Along t u k s r → Answers t u s r
told = along-told OtherRoot (λ _ _ _ D E. root-second D.distinct E.distinct refl) (λ _ _ _ D E. root-first D.distinct E.distinct refl)

pub unparted-no : {t u : Tree} → InOrder t → InOrder u → Unparted t u → ¬ OtherRoot t u
unparted-no o o' P q =
    let T = told o o' P.along in
    let (n, k) = T.answer.0 q in
    let (m, e) = P.ends (respun-leaves T.one.distinct T.two.distinct k) in
    n (e ∙ leaf-alone T.two.distinct (subst (λ v. SameClade v P.two) e (respun-clade k)))

-- and the nodes x and y at which they part
module _ {xs ys : List ℕ} {k : ℕ} {t u : Tree} (o : InOrder t) (o' : InOrder u) (h : Holds xs 0 t) (g : Holds ys 0 u) (P : PartAt t u k) (x y : Node)
    (new : (x.tree.now ≡ xs) × (x.at ≡ k)) (new' : (y.tree.now ≡ ys) × (y.at ≡ k)) where
  forks : Answers t u (fork P.first P.second) (fork P.first' P.second')
  forks = told o o' P.along

  is-x : subtree x ≡ fork P.first P.second
  is-x = at-node x new (along-held h g P.along).0

  is-y : subtree y ≡ fork P.first' P.second'
  is-y = at-node y new' (along-held h g P.along).1

  pub part-forks : OrderedFork (subtree x) × OrderedFork (subtree y)
  part-forks = (
    record { first = P.first; second = P.second; is = is-x; in_order = subst InOrder (sym is-x) forks.one },
    record { first = P.first'; second = P.second'; is = is-y; in_order = subst InOrder (sym is-y) forks.two },
  )

  pub parted-says : (r : Bool) → Says r (SameSplits (subtree x) (subtree y)) → Says r (OtherRoot t u)
  parted-says r says-here =
      let step = iff-then forks.answer (root-here forks.one.distinct forks.two.distinct P.differ P.differ') in
      says (SameSplits (fork P.first P.second) (fork P.first' P.second')) (OtherRoot t u) step.1 step.0 r (rw (is-x, is-y) at says-here)
