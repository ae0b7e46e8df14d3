-- Two trees told of by those that they are where they part.
-- Assumes nothing.
use mathlib.Core.Path.{◌≡◌, refl, subst, ◌∙◌}
use mathlib.Core.Logic.{◌↔◌}
use mathlib.Core.Bool.{Bool}
use mathlib.Core.List.{List}
use Prim.Native.Nat.{ℕ}
use Rattle.meaning.specs.Tree.{Tree, leaf, fork, leaves, Distinct, canon}
use Rattle.meaning.specs.Interchange.{Forks, Interchange, here, OneInterchange}
use Rattle.meaning.proofs.Logic.{clash, iff-then}
use Rattle.meaning.proofs.Same.{≈-leaves, topology-≈, topology-sym}
use Rattle.meaning.proofs.Canon.{canon-distinct, canon-topology}
use Rattle.meaning.proofs.Interchange.{interchange-leaves, interchange-distinct, interchange-topology}
use Rattle.lent.specs.Runs.{Says}
use Rattle.lent.proofs.Says.{says}
use Rattle.held.specs.Held.{Holds}
use Rattle.held.specs.Node.{subtree}
use Rattle.held.specs.declared.node.Node.{Node}
use Rattle.held.proofs.Subtree.{at-node}
use Rattle.held.specs.Kept.{Keeps}
use Rattle.held.specs.declared.Tree.{Tree as Record}
use Rattle.interchanges.specs.Interchanged.{Regrouped}
use Rattle.pairs.specs.Ordered.{InOrder}
use Rattle.pairs.specs.Parting.{Along, PartAt, Unparted}
use Rattle.pairs.proofs.Children.{forks-leaf}
use Rattle.pairs.proofs.Walk.{Told, along-told, along-held}
use Rattle.interchanges.proofs.Regroup.{step-second, step-first, step-here}

-- ---- leaves
one-leaves : {t u : Tree} → Distinct t → Distinct u → OneInterchange t u → leaves t ≡ leaves u
one-leaves D E o = interchange-leaves o.interchange ∙ ≈-leaves (topology-≈ (interchange-distinct D o.interchange) E o.gives)

no-interchange : {t u : Tree} {n : ℕ} → Interchange t u → t ≡ leaf n → ⊥
no-interchange (here {z} {parent} f g) e = forks-leaf (subst (Forks parent z) e g)
no-interchange (Interchange.in_first i) e = clash cc
no-interchange (Interchange.in_second i) e = clash cc

-- ---- where they are walked down together, the trees that are come to tell the answer
to_second : (a b d : Tree) → InOrder (fork a b) → InOrder (fork a d) → OneInterchange (fork a b) (fork a d) ↔ OneInterchange b d
to_second a b d D E = step-second D.distinct E.distinct D.canonical E.canonical refl

to_first : (a b c : Tree) → InOrder (fork a b) → InOrder (fork c b) → OneInterchange (fork a b) (fork c b) ↔ OneInterchange a c
to_first a b c D E = step-first D.distinct E.distinct D.canonical E.canonical refl

along : {t u s r : Tree} {k : ℕ} → InOrder t → InOrder u → Along t u k s r → Told OneInterchange to_second to_first t u s r
along = along-told OneInterchange to_second to_first

pub unparted-no : {t u : Tree} → InOrder t → InOrder u → Unparted t u → ¬ OneInterchange t u
unparted-no o o' P q =
    let T = along o o' P.along in
    let i = T.answer.0 q in
    no-interchange i.interchange (P.ends (one-leaves T.one.distinct T.two.distinct i)).1

-- and the nodes x and y at which they part
pub parted-says : {xs ys : List ℕ} {k : ℕ} {t u : Tree} → InOrder t → InOrder u → Holds xs 0 t → Holds ys 0 u → PartAt t u k
    → (x y : Node) → (x.tree.now ≡ xs) × (x.at ≡ k) → (y.tree.now ≡ ys) × (y.at ≡ k)
    → (r : Bool) → Says r (Regrouped (subtree x) (subtree y)) → Says r (OneInterchange t u)
parted-says {t} {u} o o' h g P x y new new' r told =
    let T = along o o' P.along in
    let (one, two) = along-held h g P.along in
    let step = iff-then T.answer (step-here T.one.distinct T.two.distinct T.one.canonical T.two.canonical P.differ P.differ') in
    says (Regrouped (fork P.first P.second) (fork P.first' P.second')) (OneInterchange t u) step.1 step.0 r (rw (at-node x new one, at-node y new' two) at told)

-- ---- records
-- what is said of the canonical forms is said of the trees
pub kept-says : {one two : Record} {t u : Tree} → Keeps one t → Keeps two u → (q : Bool) → Says q (OneInterchange (canon t) (canon u)) → Says q (OneInterchange t u)
kept-says {t} {u} k l =
    let D = k.good.distinct in
    let D' = canon-distinct t D in
    says (OneInterchange (canon t) (canon u)) (OneInterchange t u) (interchange-topology D' D (canon-topology t) (canon-topology u))
    (interchange-topology D D' (topology-sym (canon-topology t)) (topology-sym (canon-topology u)))
