-- The nodes of a tree that grows to a clade: a leaf's byte, or a fork's and those of its two subtrees.
-- Assumes nothing.
use mathlib.Core.Path.{◌≡◌, sym, subst}
use mathlib.Core.List.{List, [], ◌∷◌}
use Prim.Native.Nat.{ℕ, ◌+◌, ◌≤◌, ◌<◌}
use native.Mathlib.Omega.{arith}
use lib.ListN.{set}
use Rattle.meaning.specs.Limits.{max_label}
use Rattle.meaning.specs.Tree.{Tree, least}
use Rattle.meaning.specs.Clade.{lowest}
use Rattle.meaning.proofs.Canon.{least-in}
use Rattle.meaning.proofs.Clade.{lowest-least}
use Rattle.lent.specs.Runs.{Wrote}
use Rattle.lent.proofs.Runs.{wrote_one}
use Rattle.held.specs.Held.{pre}
use Rattle.held.proofs.Laws.{wrote-fork}
use Rattle.families.specs.Clades.{size}
use Rattle.families.specs.Grown.{GrowsTo}
use Rattle.families.proofs.Grown.{grown-leaf, Forked}

-- the smallest label of such a clade
pub grown-low : {cs : List ℕ} {c : ℕ} {t : Tree} → GrowsTo cs c t → lowest c ≤ max_label
grown-low {t = t} g = subst (λ (x : ℕ). lowest x ≤ max_label) g.whole (omega (arith, lowest-least g.good, (g.good.small (least t) (least-in t)).1))

pub leaf-written : {cs : List ℕ} {c : ℕ} (t : Tree) → GrowsTo cs c t → size c < 2 → {v : ℕ} → v ≡ lowest c → (out : List ℕ) (at : ℕ) → Wrote (pre t) out (set out at v) at (at + 1)
leaf-written t g few {v} smallest out at =
    subst (λ (u : Tree). Wrote (pre u) out (set out at v) at (at + 1)) (sym (grown-leaf t g few))
    (subst (λ (l : ℕ). Wrote (l ∷ []) out (set out at v) at (at + 1)) smallest (wrote_one out at v))

pub fork-written : {cs : List ℕ} {c n : ℕ} {t : Tree} → n ≡ size c → (F : Forked cs c t) {out out₁ out₂ : List ℕ} {at r₁ r₂ : ℕ}
    → Wrote (pre F.first) (set out at (64 + n)) out₁ (at + 1) r₁ → Wrote (pre F.second) out₁ out₂ r₁ r₂ → Wrote (pre t) out out₂ at r₂
fork-written labels F {out} {out₂ = out₂} {at} {r₂ = r₂} first second =
    subst (λ (u : Tree). Wrote (pre u) out out₂ at r₂) (sym F.is) (wrote-fork F.first F.second (omega (arith, labels, F.leaves_sum)) first second)
