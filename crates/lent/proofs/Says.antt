-- What a test's answer says.
-- Assumes nothing.
use mathlib.Core.Path.{◌≡◌, refl, ◌∙◌}
use mathlib.Core.Logic.{◌⊎◌, inl, inr}
use Rattle.std.specs.Bool.{Decides}
use mathlib.Core.Bool.{Bool, true, false}
use Rattle.lent.specs.Runs.{Says}

module _ (P : Type 0) where
  pub said : {r : Bool} → r ≡ true → Says r P → P
  said e s = rw e at s

  pub denied : {r : Bool} → r ≡ false → Says r P → ¬ P
  denied e s = rw e at s

  pub deny : {r : Bool} → r ≡ false → ¬ P → Says r P
  deny e n = rw e n

  pub affirm : {r : Bool} → r ≡ true → P → Says r P
  affirm e p = rw e p

  pub says_decided : (r : Bool) → Decides r P → Says r P
  says_decided true d = d.0 refl
  says_decided false d = λ p. cc (d.1 p)

  -- the same of each Q that is so exactly when P is
  pub says : (Q : Type 0) → (P → Q) → (Q → P) → (r : Bool) → Says r P → Says r Q
  says Q f g true p = f p
  says Q f g false n = λ q. n (g q)

-- of two tests the second is made where the first says no
module _ (P Q : Type 0) {r v : Bool} (one : Says r P) where
  pub either_first : r ≡ true → v ≡ r → Says v (P ⊎ Q)
  either_first e i = affirm (P ⊎ Q) (i ∙ e) (inl (said P e one))

  pub either_second : {s : Bool} → r ≡ false → v ≡ s → Says s Q → Says v (P ⊎ Q)
  either_second {s} e i two = rw i (says Q (P ⊎ Q) inr go s two)
    where
      go : P ⊎ Q → Q
      go (inl p) = absurd (denied P e one p)
      go (inr q) = q
