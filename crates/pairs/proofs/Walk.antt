-- The walk down two held trees to where they part.
-- Assumes nothing.
use mathlib.Core.Path.{◌≡◌, sym, ap, subst, subst₂, ◌∙◌}
use mathlib.Core.Logic.{◌↔◌}
use mathlib.Core.Bool.{Bool, true, false}
use mathlib.Core.List.{List}
use Prim.Native.Nat.{ℕ, ◌+◌, ◌≤◌, ◌<◌}
use native.Mathlib.Omega.{arith}
use native.Mathlib.Decide.{dec_le}
use lib.ListN.{length, get_or}
use Rattle.meaning.specs.Limits.{max_nodes}
use Rattle.meaning.specs.Tree.{Tree, leaf, fork, leaves}
use Rattle.meaning.specs.Interchange.{in_order}
use Rattle.meaning.proofs.Logic.{iff-then}
use Rattle.meaning.proofs.Labels.{some-leaves}
use Rattle.lent.specs.Runs.{Common}
use Rattle.lent.proofs.Says.{said, denied}
use Rattle.held.specs.Held.{Holds, nodes}
use Rattle.held.proofs.Laws.{ForkAt, children, leafed, forked, within}
use Rattle.pairs.specs.Ordered.{InOrder, HeldFork}
use Rattle.pairs.specs.Parting.{Along, root, PartAt, Unparted}
use Rattle.pairs.proofs.Children.{SecondAt, SameAt, holds-second}
use Rattle.pairs.proofs.Runs.{common-same, common-differ}
use Rattle.pairs.proofs.Ways.{parts-in-order}

-- what the walk comes to is held there
pub along-held : {xs ys : List ℕ} {t u s r : Tree} {k : ℕ} → Holds xs 0 t → Holds ys 0 u → Along t u k s r → Holds xs k s × Holds ys k r
along-held h g root = (h, g)
along-held h g (Along.second w) = let (a, b) = along-held h g w in ((children a).1, (children b).1)
along-held h g (Along.first w) = let (a, b) = along-held h g w in ((children a).0, (children b).0)

-- ---- a relation that holds of forks with a common child where it holds of their other children
module _ (R : Tree → Tree → Type 0)
    (to_second : (a b d : Tree) → InOrder (fork a b) → InOrder (fork a d) → R (fork a b) (fork a d) ↔ R b d)
    (to_first : (a b c : Tree) → InOrder (fork a b) → InOrder (fork c b) → R (fork a b) (fork c b) ↔ R a c) where
  -- it holds of t and u where it holds of s and r
  pub record Told (t u s r : Tree) : Type 0 where
    pub one : InOrder s
    pub two : InOrder r
    pub answer : R t u ↔ R s r

  pub along-told : {t u s r : Tree} {k : ℕ} → InOrder t → InOrder u → Along t u k s r → Told t u s r
  along-told o o' root = record { one = o; two = o'; answer = (λ x. x, λ x. x) }
  along-told o o' (Along.second w) =
      let T = along-told o o' w in
      record { one = (parts-in-order in_order T.one).1; two = (parts-in-order in_order T.two).1; answer = iff-then T.answer (to_second _ _ _ T.one T.two) }
  along-told o o' (Along.first w) =
      let T = along-told o o' w in
      record { one = (parts-in-order in_order T.one).0; two = (parts-in-order in_order T.two).0; answer = iff-then T.answer (to_first _ _ _ T.one T.two) }

-- ---- the walk, from t and u: nothing before k differs
pub record Walked (xs ys : List ℕ) (same k : ℕ) (t u : Tree) : Type 0 where
  pub one : Tree
  pub two : Tree
  pub along : Along t u k one two
  pub holds_one : Holds xs k one
  pub holds_two : Holds ys k two
  pub near : k ≤ same

pub walk_starts : {xs ys : List ℕ} {same : ℕ} (t u : Tree) → Holds xs 0 t → Holds ys 0 u → Walked xs ys same 0 t u
walk_starts t u h g = record { one = t; two = u; along = root; holds_one = h; holds_two = g; near = omega arith }

module _ {xs ys : List ℕ} {same k : ℕ} {t u : Tree} (w : Walked xs ys same k t u) where
  -- at a leaf it ends
  pub leaf-ends : get_or xs k 0 ≤ 64 → Unparted t u
  leaf-ends small = record { node = k; one = w.one; two = w.two; along = w.along; ends = λ _. (get_or xs k 0, leafed w.holds_one small) }

  module _ (C : Common xs ys max_nodes same) (long : length xs ≡ max_nodes) where
    -- and where the first bytes differ
    pub common-ends : same ≤ k → Unparted t u
    common-ends far = record { node = k; one = w.one; two = w.two; along = w.along; ends = λ e. go e (dec_le (get_or xs k 0) 64) (dec_le (get_or ys k 0) 64) }
      where
        differ : ¬ (get_or xs k 0 ≡ get_or ys k 0)
        differ =
            let e : same ≡ k = omega (arith, w.near) in
            subst (λ (m : ℕ). ¬ (get_or xs m 0 ≡ get_or ys m 0)) e (C.differ (omega (arith, within w.holds_one)))

        go : leaves w.one ≡ leaves w.two → Dec (get_or xs k 0 ≤ 64) → Dec (get_or ys k 0 ≤ 64) → (n : ℕ) × (w.one ≡ leaf n)
        go e (yes small) _ = (get_or xs k 0, leafed w.holds_one small)
        go e (no large) (yes small) =
            let f = forked w.holds_one (omega arith) in
            absurd (omega (arith, e, ap leaves f.is, ap leaves (leafed w.holds_two small), some-leaves f.first, some-leaves f.second))
        go e (no large) (no large') =
            let f = forked w.holds_one (omega arith) in
            let g = forked w.holds_two (omega arith) in
            absurd (differ (omega (arith, f.byte, g.byte, ap leaves f.is, ap leaves g.is, e)))

    -- two forks, whose first bytes are the same
    module _ (within-common : k < same) (large : 64 < get_or xs k 0) where
      abbrev f : ForkAt xs k w.one
      f = forked w.holds_one large

      abbrev g : ForkAt ys k w.two
      g = forked w.holds_two (omega (arith, C.same k within-common))

      forks : Along t u k (fork f.first f.second) (fork g.first g.second)
      forks = subst₂ (Along t u k) f.is g.is w.along

      one : Holds xs k (fork f.first f.second)
      one = subst (Holds xs k) f.is w.holds_one

      two : Holds ys k (fork g.first g.second)
      two = subst (Holds ys k) g.is w.holds_two

      pub fork_one : HeldFork xs k
      fork_one = record { first = f.first; second = f.second; holds = one }

      pub fork_two : HeldFork ys k
      fork_two = record { first = g.first; second = g.second; holds = two }

      -- the second child of the one stands at i
      module _ {i : ℕ} (at : SecondAt xs k i) where
        here-is : i ≡ k + 1 + nodes f.first
        here-is = at f.first f.second one

        -- the first children are the same: on to the second
        pub walk-second : i ≤ same → Walked xs ys same i t u
        walk-second fits =
            let e : f.first ≡ g.first = common-same C f.holds-first g.holds-first (omega (arith, here-is)) in
            let there : k + 1 + nodes g.first ≡ i = sym (here-is ∙ ap (λ (v : Tree). k + 1 + nodes v) e) in
            let along = Along.second (subst (λ v. Along t u k (fork f.first f.second) (fork v g.second)) (sym e) forks) in
            record {
              one = f.second;
              two = g.second;
              along = rw here-is along;
              holds_one = rw here-is f.holds-second;
              holds_two = rw there at g.holds-second;
              near = fits;
            }

        module _ {j : ℕ} (at' : SecondAt ys k j) (r : Bool) (told : SameAt xs i ys j r) where
          second-told : (r ≡ true → f.second ≡ g.second) × (r ≡ false → ¬ (f.second ≡ g.second))
          second-told =
              let same = told f.second g.second (holds-second at one) (holds-second at' two) in
              (λ e. said (f.second ≡ g.second) e same, λ e. denied (f.second ≡ g.second) e same)

          -- the second children are the same: on to the first
          pub walk-first : r ≡ true → Walked xs ys same (k + 1) t u
          walk-first e =
              let same = second-told.0 e in
              record {
                one = f.first;
                two = g.first;
                along = Along.first (subst (λ v. Along t u k (fork f.first f.second) (fork g.first v)) (sym same) forks);
                holds_one = f.holds-first;
                holds_two = g.holds-first;
                near = omega arith;
              }

          -- both differ
          pub parts-here : same < i → r ≡ false → PartAt t u k
          parts-here far e =
              let fits = within (holds-second at one) in
              record {
                first = f.first;
                second = f.second;
                first' = g.first;
                second' = g.second;
                along = forks;
                differ = common-differ C f.holds-first g.holds-first (omega arith) (omega (arith, here-is)) (omega (arith, fits));
                differ' = second-told.1 e;
              }
