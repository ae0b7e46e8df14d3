-- An answer of a call on clades as a reply with three numbers, and that the promise of its exported function determines them and the lent slices at exit.
-- Assumes nothing.
use mathlib.Core.Path.{◌≡◌, refl, sym, ap, ◌∙◌}
use mathlib.Core.List.{List}
use Prim.Native.Nat.{ℕ, zero, suc, ◌≤◌}
use native.Mathlib.Omega.{arith}
use Rattle.meaning.specs.Answer.{Answer, accepted, refusal, Outcome}
use Rattle.tokens.specs.declared.Refusal.{Refusal}
use Rattle.tokens.specs.Paper.{number_of, refusal_of}
use Rattle.tokens.proofs.Steps.{numbered}
use Rattle.families.specs.SupportCall.{SupportSize, SupportMemory, support_call}
use Rattle.replies.specs.Coded.{Numbered}
use Rattle.replies.specs.LongCoded.{support_value, support_coded}
use Rattle.replies.specs.declared.clade_replies.LongReply.{LongReply}
use Rattle.replies.proofs.Numbered.{support-numbered, numbered-as}

abbrev pub long_reply : ℕ → ℕ → ℕ → ℕ → LongReply
long_reply r x y z = record { result = r; first = x; second = y; third = z }

-- the answer that a reply is
abbrev said : LongReply → Answer SupportSize
said r = support_value r.result r.first r.second r.third

coded-refusal : (n i p : ℕ) → 1 ≤ n → support_value n i p 0 ≡ refusal n i p
coded-refusal zero i p h = absurd (omega (arith, h))
coded-refusal (suc n) i p h = refl

pub said-refused : {r : LongReply} (x : Refusal) → r ≡ long_reply (number_of x.reason) x.text x.place 0 → said r ≡ refusal_of x
said-refused x e = ap said e ∙ coded-refusal (number_of x.reason) x.text x.place (numbered x.reason)

-- ---- the numbers of an answer
abbrev numbers : Answer SupportSize → LongReply
numbers (accepted a) = long_reply 0 a.clades a.bytes a.trees
numbers (refusal n i p) = long_reply n i p 0

-- they are the ones that code it, where a refusal has a number
back : (r x y z : ℕ) → Numbered (support_value r x y z) → numbers (support_value r x y z) ≡ long_reply r x y z
back zero x y z h = refl
back (suc r) x y zero h = refl
back (suc r) x y (suc z) h = absurd (omega (arith, h))

pub support-code-determined : (s : List ℕ) (memory : SupportMemory) {r r' x x' y y' z z' : ℕ} {clades clades' trees trees' out out' : List ℕ}
    → support_coded r x y z clades trees out ≡ support_call s memory → support_coded r' x' y' z' clades' trees' out' ≡ support_call s memory
    → (long_reply r x y z ≡ long_reply r' x' y' z') × (clades ≡ clades') × (trees ≡ trees') × (out ≡ out')
support-code-determined s memory {r} {r'} {x} {x'} {y} {y'} {z} {z'} e f =
    let h = e ∙ sym f in
    let n = support-numbered s memory in (
      sym (back r x y z (numbered-as e n)) ∙ ap (λ (o : Outcome SupportSize SupportMemory). numbers o.answer) h ∙ back r' x' y' z' (numbered-as f n),
      ap (λ (o : Outcome SupportSize SupportMemory). o.memory.clades) h,
      ap (λ (o : Outcome SupportSize SupportMemory). o.memory.numbers) h,
      ap (λ (o : Outcome SupportSize SupportMemory). o.memory.text) h,
    )
