-- Trees beside what hangs from a fork of a leftmost path, and two of these, compared step by step up the paths.
-- Assumes nothing.
use mathlib.Core.Path.{◌≡◌, subst}
use mathlib.Core.Logic.{◌↔◌}
use mathlib.Core.Bool.{Bool, true, false}
use mathlib.Core.List.{List}
use Prim.Native.Nat.{ℕ, ◌-◌, ◌≤◌, ◌<◌}
use Rattle.meaning.specs.Tree.{Tree}
use Rattle.meaning.specs.Interchange.{Forks}
use Rattle.meaning.proofs.Logic.{iff-then}
use Rattle.meaning.proofs.Same.{◌≈◌, ≈-sym}
use Rattle.meaning.proofs.Canon.{≈-iff-canon}
use Rattle.lent.specs.Runs.{Says}
use Rattle.lent.proofs.Says.{said, denied, says}
use Rattle.pairs.specs.Left.{Alike}
use Rattle.pairs.proofs.Ways.{Beside, beside_end, beside-none, beside-on, both-same, both-crossed}
use Rattle.unrooted.specs.Turned.{HangsOff, TurnedAt}
use Rattle.unrooted.proofs.Path.{step_of, off-ordered, off-last, parts, distinct-parts, above_at}

-- ---- r says whether s is what hangs from q on the leftmost path of ys from j, as `is_turned` says
abbrev pub TurnedSays : Tree → List ℕ → ℕ → ℕ → Bool → Type 0
TurnedSays s ys j q r = (t : TurnedAt ys j q) → Says r (Alike s t.tree)

-- ---- a tree beside what hangs from a fork, from l of ys; Q is what is asked
pub record BesideTurned (ys : List ℕ) (j : ℕ) (s : Tree) (l : ℕ) (Q : Type 0) : Type 0 where
  pub turned : TurnedAt ys j l
  pub beside : Beside s turned.tree Q

module _ {ys : List ℕ} {j l : ℕ} {s b : Tree} {Q : Type 0} (B : BesideTurned ys j s l Q) (h : HangsOff ys l b) where
  -- at the end of the path what hangs off is all
  pub turned-end : l ≤ j → (d : Bool) → Says d (s ≡ b) → Says d Q
  turned-end low = beside_end B.beside (off-ordered B.turned h) (off-last B.turned h low)

  module _ (up : j < l) where
    pub turned-none : ((other : Tree) → ¬ Forks other b s) → ¬ Q
    turned-none = beside-none B.beside (off-ordered B.turned h) (parts B.turned h up)

    pub turned-on : {other : Tree} → Forks other b s → BesideTurned ys j other (l - 1) Q
    turned-on f = record { turned = above_at B.turned up; beside = beside-on B.beside (off-ordered B.turned h) (parts B.turned h up) f }

-- ---- what hangs from two forks: the one from k of xs, the other from l of ys; Q is what is asked
pub record Both (xs ys : List ℕ) (i j k l : ℕ) (Q : Type 0) : Type 0 where
  pub one : TurnedAt xs i k
  pub two : TurnedAt ys j l
  pub answer : Q ↔ (one.tree ≈ two.tree)

pub both-start : {xs ys : List ℕ} {i j p q : ℕ} (s : TurnedAt xs i p) (t : TurnedAt ys j q) → Both xs ys i j p q (Alike s.tree t.tree)
both-start s t = let iff = ≈-iff-canon s.distinct in record { one = s; two = t; answer = (iff.1, iff.0) }

module _ {xs ys : List ℕ} {i j k l : ℕ} {Q : Type 0} (B : Both xs ys i j k l Q) where
  -- the first path is at its end
  pub ends-one : k ≤ i → {a : Tree} → HangsOff xs k a → (d : Bool) → TurnedSays a ys j l d → Says d Q
  ends-one low {a} h d told =
      let iff = ≈-iff-canon (off-ordered B.one h).distinct in
      let asked = subst (λ v. Q ↔ (v ≈ B.two.tree)) (off-last B.one h low) B.answer in
      says (Alike a B.two.tree) Q (λ e. asked.1 (iff.1 e)) (λ q. iff.0 (asked.0 q)) d (told B.two)

  module _ {b : Tree} (h' : HangsOff ys l b) where
    iff-two : {s : Tree} → (b ≈ s) ↔ Alike b s
    iff-two = ≈-iff-canon (off-ordered B.two h').distinct

    -- the second is
    pub ends-two : l ≤ j → (d : Bool) → TurnedSays b xs i k d → Says d Q
    ends-two low d told =
        let asked = subst (λ v. Q ↔ (B.one.tree ≈ v)) (off-last B.two h' low) B.answer in
        says (Alike b B.one.tree) Q (λ e. asked.1 (≈-sym (iff-two.1 e))) (λ q. iff-two.0 (≈-sym (asked.0 q))) d (told B.one)

    -- neither is
    module _ (up : i < k) (up' : j < l) {a : Tree} (h : HangsOff xs k a) where
      -- and the same hangs off both: both paths are followed
      pub followed : a ≡ b → Both xs ys i j (k - 1) (l - 1) Q
      followed e = record {
        one = above_at B.one up;
        two = above_at B.two up';
        answer = iff-then B.answer (both-same (parts B.one h up) (parts B.two h' up') (distinct-parts B.one h up).2 e);
      }

      -- or what hangs off differs: each has to be what hangs from the fork above the other
      module _ (differ : ¬ (a ≡ b)) where
        crossed : Q ↔ ((a ≈ (step_of B.two).above) × (b ≈ (step_of B.one).above))
        crossed = iff-then B.answer (both-crossed (parts B.one h up) (parts B.two h' up') (off-ordered B.one h) (off-ordered B.two h') differ)

        iff-one : {s : Tree} → (a ≈ s) ↔ Alike a s
        iff-one = ≈-iff-canon (off-ordered B.one h).distinct

        module _ (d : Bool) (told : TurnedSays a ys j (l - 1) d) where
          pub crossed-no : d ≡ false → ¬ Q
          crossed-no f q = denied (Alike a (step_of B.two).above) f (told (above_at B.two up')) (iff-one.0 (crossed.0 q).0)

          pub crossed-says : d ≡ true → (d' : Bool) → TurnedSays b xs i (k - 1) d' → Says d' Q
          crossed-says f d' told' =
              let yes-one = iff-one.1 (said (Alike a (step_of B.two).above) f (told (above_at B.two up'))) in
              says (Alike b (step_of B.one).above) Q (λ g. crossed.1 (yes-one, iff-two.1 g)) (λ q. iff-two.0 (crossed.0 q).1) d' (told' (above_at B.one up))
