-- Two trees in order are one unrooted tree exactly when, turned round, they have the same leaf at the root and the same beside it.
-- Assumes nothing.
use mathlib.Core.Path.{◌≡◌, sym, ap, subst, ◌∙◌}
use mathlib.Core.Bool.{Bool}
use mathlib.Core.List.{List}
use Prim.Native.Nat.{ℕ, ◌+◌, ◌<◌}
use lib.ListN.{length, get_or}
use Rattle.meaning.specs.Tree.{Tree, leaf, fork, Distinct, least}
use Rattle.meaning.specs.Unrooted.{SameSplits, turn_round}
use Rattle.meaning.proofs.Same.{◌≈◌, same}
use Rattle.meaning.proofs.Canon.{≈-iff-canon}
use Rattle.meaning.proofs.Splits.{clade-refl, splits-sym, splits-trans, ≈-splits, same-sides}
use Rattle.meaning.proofs.Rootings.{Hung, hung, hang-hung, hang-turned, hang-distinct, hang-splits, least-same}
use Rattle.lent.specs.Runs.{Says}
use Rattle.lent.proofs.Says.{says}
use Rattle.held.proofs.Laws.{within}
use Rattle.pairs.specs.Ordered.{InOrder}
use Rattle.pairs.specs.Left.{Alike}
use Rattle.pairs.proofs.Children.{holds-first}
use Rattle.pairs.proofs.Ways.{alike}
use Rattle.unrooted.specs.Turned.{OrderedFork, TurnedAt, Ends}
use Rattle.unrooted.proofs.Path.{step_of}

-- t hangs from its smallest label m, and s is beside it
record Round (t : Tree) (m : ℕ) (s : Tree) : Type 0 where
  smallest : least t ≡ m
  distinct : Distinct (fork (leaf m) s)
  splits : SameSplits t (fork (leaf m) s)

at_leaf : {l m : ℕ} {s t : Tree} → Hung l t → t ≡ fork (leaf m) s → l ≡ m
at_leaf (hung r) e = cc

round : {a b : Tree} → InOrder (fork a b) → {m : ℕ} {s : Tree} → turn_round (fork a b) ≡ fork (leaf m) s → Round (fork a b) m s
round {a} {b} D e =
    let t = fork a b in
    let f = hang-turned t D.canonical ∙ e in
    record { smallest = at_leaf (hang-hung a b) f; distinct = subst Distinct f (hang-distinct t D.distinct); splits = subst (SameSplits t) f (hang-splits t D.distinct) }

round-of : {xs : List ℕ} {k p : ℕ} {t : Tree} → OrderedFork t → (e : Ends xs k p t) → Round t (get_or xs (p + 1) 0) e.rest.tree
round-of o e = go o.is o.in_order e.is
  where
    go : {v a b : Tree} {m : ℕ} {s : Tree} → v ≡ fork a b → InOrder v → turn_round v ≡ fork (leaf m) s → Round v m s
    go f D g = rw f (round (rw f at D) (rw f at g))

module _ {t u : Tree} {m n : ℕ} {s r : Tree} (R : Round t m s) (S : Round u n r) where
  same-leaf : SameSplits t u → m ≡ n
  same-leaf h = sym R.smallest ∙ least-same h.0 ∙ S.smallest

  splits-parts : SameSplits t u → s ≈ r
  splits-parts h =
      let e = ap leaf (sym (same-leaf h)) in
      let E = subst (λ v. Distinct (fork v r)) e S.distinct in
      let k = subst (λ v. SameSplits u (fork v r)) e S.splits in
      (same-sides R.distinct E (clade-refl (leaf m)) (splits-trans (splits-sym R.splits) (splits-trans h k))).1

  parts-splits : m ≡ n → s ≈ r → SameSplits t u
  parts-splits e p = splits-trans R.splits (splits-trans (≈-splits (same (alike (ap leaf e)) p)) (splits-sym S.splits))

-- the leaf is in the array
pub leaf-fits : {xs : List ℕ} {k p : ℕ} → TurnedAt xs k p → p + 1 < length xs
leaf-fits t = within (holds-first (step_of t).holds)

-- so a test of both says whether they are one unrooted tree
module _ {xs ys : List ℕ} {k l p q : ℕ} {t u : Tree} (o : OrderedFork t) (o' : OrderedFork u) (e : Ends xs k p t) (f : Ends ys l q u) where
  pub other-leaf : ¬ (get_or xs (p + 1) 0 ≡ get_or ys (q + 1) 0) → ¬ SameSplits t u
  other-leaf n h = n (same-leaf (round-of o e) (round-of o' f) h)

  pub splits-says : get_or xs (p + 1) 0 ≡ get_or ys (q + 1) 0 → (d : Bool) → Says d (Alike e.rest.tree f.rest.tree) → Says d (SameSplits t u)
  splits-says equal =
      let R = round-of o e in
      let S = round-of o' f in
      let iff = ≈-iff-canon e.rest.distinct in
      says (Alike e.rest.tree f.rest.tree) (SameSplits t u) (λ a. parts-splits R S equal (iff.1 a)) (λ h. iff.0 (splits-parts R S h))
