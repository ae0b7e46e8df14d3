-- An answer as a reply.
-- Assumes nothing.
use mathlib.Core.Path.{◌≡◌, refl, ap, ◌∙◌}
use Prim.Native.Nat.{ℕ, zero, suc, ◌≤◌}
use native.Mathlib.Omega.{arith}
use Rattle.meaning.specs.Answer.{Answer, refusal}
use Rattle.tokens.specs.declared.Refusal.{Refusal}
use Rattle.tokens.specs.Paper.{number_of, refusal_of}
use Rattle.tokens.proofs.Steps.{numbered}
use Rattle.replies.specs.Coded.{coded}
use Rattle.replies.specs.declared.Reply.{Reply}

module _ {A : Type 0} (value : ℕ → ℕ → Answer A) where
  -- the answer that a reply is
  abbrev pub said : Reply → Answer A
  said r = coded value r.result r.first r.second

  -- a refusal's number is not 0
  coded-refusal : (n i p : ℕ) → 1 ≤ n → coded value n i p ≡ refusal n i p
  coded-refusal zero i p h = absurd (omega arith)
  coded-refusal (suc n) i p h = refl

  pub said-refused : {r : Reply} (x : Refusal) → r ≡ record { result = number_of x.reason; first = x.text; second = x.place } → said r ≡ refusal_of x
  said-refused x e = ap said e ∙ coded-refusal (number_of x.reason) x.text x.place (numbered x.reason)
