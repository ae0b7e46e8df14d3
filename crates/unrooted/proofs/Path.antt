-- The leftmost path of a held tree in order: down to its last fork, and up again.
-- Assumes nothing.
use mathlib.Core.Path.{◌≡◌, refl, sym, ap, subst, ◌∙◌}
use mathlib.Core.List.{List}
use Prim.Native.Nat.{ℕ, zero, suc, ◌+◌, ◌-◌, ◌≤◌, ◌<◌}
use native.Mathlib.Omega.{arith}
use lib.ListN.{length, get_or}
use Rattle.meaning.specs.Tree.{Tree, leaf, fork, Distinct}
use Rattle.meaning.specs.Interchange.{Forks, in_order}
use Rattle.meaning.specs.Unrooted.{spine, turn_round}
use Rattle.meaning.proofs.Rootings.{hang-distinct, hang-turned}
use Rattle.held.specs.Held.{Holds}
use Rattle.held.proofs.Laws.{within, leafed, forked, unique}
use Rattle.pairs.specs.Ordered.{InOrder, HeldFork}
use Rattle.pairs.proofs.Children.{holds-first}
use Rattle.pairs.proofs.Ways.{parts-in-order}
use Rattle.unrooted.specs.Turned.{OrderedFork, HangsOff, Turned, top, down, TurnedAt, Ends}

-- ---- down the path
-- p is a fork of it, and t turned round is what hangs from p, on the path below p turned round
pub record Going (xs : List ℕ) (k p : ℕ) (t : Tree) : Type 0 where
  pub rest : Tree
  pub below : Tree
  pub turned : Turned xs k p rest
  pub holds : Holds xs (p + 1) below
  pub in_order : InOrder below
  pub is : turn_round t ≡ spine rest below

pub starts : {xs : List ℕ} {k : ℕ} {t : Tree} → Holds xs k t → OrderedFork t → Going xs k k t
starts {xs} {k} h f =
    let whole = subst (Holds xs k) f.is h in
    let (first, second, _) = parts-in-order in_order (subst InOrder f.is f.in_order) in
    record { rest = f.second; below = f.first; turned = top whole second; holds = holds-first whole; in_order = first; is = ap turn_round f.is }

module _ {xs : List ℕ} {k p : ℕ} {t : Tree} (g : Going xs k p t) where
  pub goes_on : 64 < get_or xs (p + 1) 0 → Going xs k (p + 1) t
  goes_on large = by (forked g.holds large).is
    where
      by : {a b : Tree} → g.below ≡ fork a b → Going xs k (p + 1) t
      by {a} {b} e =
          let h = subst (Holds xs (p + 1)) e g.holds in
          let (first, second, _) = parts-in-order in_order (subst InOrder e g.in_order) in
          record {
            rest = fork g.rest b;
            below = a;
            turned = down g.turned h second;
            holds = holds-first h;
            in_order = first;
            is = g.is ∙ ap (spine g.rest) e;
          }

  pub ends : InOrder t → get_or xs (p + 1) 0 ≤ 64 → Ends xs k p t
  ends D small =
      let e : turn_round t ≡ fork (leaf (get_or xs (p + 1) 0)) g.rest = g.is ∙ ap (spine g.rest) (leafed g.holds small) in
      let E = subst Distinct (hang-turned t D.canonical ∙ e) (hang-distinct t D.distinct) in
      record { rest = record { tree = g.rest; turned = g.turned; distinct = E.1 }; is = e }

-- the c bytes behind k are forks', and the next is not: so many are below k
module _ {xs : List ℕ} {k c : ℕ} {t : Tree} (h : Holds xs k t) (f : OrderedFork t) (forks : (i : ℕ) → i < c → 64 < get_or xs (k + 1 + i) 0) where
  going : (i : ℕ) → i ≤ c → Going xs k (k + i) t
  going zero le = let e : k ≡ k + 0 = omega arith in subst (λ (p : ℕ). Going xs k p t) e (starts h f)
  going (suc i) le =
      let e : k + i + 1 ≡ k + suc i = omega arith in
      let at : k + 1 + i ≡ k + i + 1 = omega arith in
      subst (λ (p : ℕ). Going xs k p t) e (goes_on (going i (omega arith)) (rw at at (forks i (omega arith))))

  pub path-fits : k + c + 1 < length xs
  path-fits = within (going c (omega arith)).holds

  pub path-ends : get_or xs (k + c + 1) 0 ≤ 64 → Ends xs k (k + c) t
  path-ends = ends (going c (omega arith)) f.in_order

-- ---- up the path
-- what hangs from p: what hangs off it, beside what hangs from the fork above it
pub record Step (xs : List ℕ) (k p : ℕ) (s : Tree) : Type 0 where
  pub first : Tree
  pub off : Tree
  pub above : Tree
  pub holds : Holds xs p (fork first off)
  pub in_order : InOrder off
  pub low : k ≤ p
  pub here : p ≤ k → s ≡ off
  pub higher : k < p → (s ≡ fork above off) × Turned xs k (p - 1) above

pub step : {xs : List ℕ} {k p : ℕ} {s : Tree} → Turned xs k p s → Step xs k p s
step (top {a} {b} h D) = record { first = a; off = b; above = b; holds = h; in_order = D; low = omega arith; here = λ _. refl; higher = λ l. absurd (omega arith) }
step {xs} {k} (down {p} {a} {b} {s} t h D) =
    let low = (step t).low in
    let e : p ≡ p + 1 - 1 = omega arith in
    record { first = a; off = b; above = s; holds = h; in_order = D; low = omega arith; here = λ l. absurd (omega arith); higher = λ l. (refl, subst (λ (q : ℕ). Turned xs k q s) e t) }

module _ {xs : List ℕ} {k p : ℕ} (t : TurnedAt xs k p) where
  abbrev pub step_of : Step xs k p t.tree
  step_of = step t.turned

  abbrev pub fork_at : HeldFork xs p
  fork_at = record { first = step_of.first; second = step_of.off; holds = step_of.holds }

  -- what hangs off, as `off_path` says
  module _ {b : Tree} (h : HangsOff xs p b) where
    off-is : step_of.off ≡ b
    off-is = let e = unique step_of.holds h.holds in cc

    pub off-ordered : InOrder b
    off-ordered = subst InOrder off-is step_of.in_order

    pub off-last : p ≤ k → t.tree ≡ b
    off-last low = step_of.here low ∙ off-is

    -- beside what hangs from the fork above
    module _ (l : k < p) where
      pub parts : Forks step_of.above b t.tree
      parts = subst (λ v. Forks step_of.above v t.tree) off-is (subst (Forks step_of.above step_of.off) (sym (step_of.higher l).0) in_order)

      pub distinct-parts : Distinct (fork step_of.above b)
      distinct-parts = subst (λ v. Distinct (fork step_of.above v)) off-is (subst Distinct (step_of.higher l).0 t.distinct)

  abbrev pub above_at : k < p → TurnedAt xs k (p - 1)
  above_at l = record { tree = step_of.above; turned = (step_of.higher l).1; distinct = (subst Distinct (step_of.higher l).0 t.distinct).0 }
