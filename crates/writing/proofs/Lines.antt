-- The lines of a sheet: how long they are, and their parts written one after another.
-- Assumes nothing.
use mathlib.Core.Path.{◌≡◌, subst}
use mathlib.Core.List.{List, ◌++◌, append_assoc}
use Prim.Native.Nat.{ℕ, ◌+◌}
use native.Mathlib.Omega.{arith}
use lib.ListN.{length, take, length-append}
use lib.Seq.{take-length}
use Rattle.meaning.specs.Bytes.{bytes}
use Rattle.meaning.specs.Tree.{Tree, digits}
use Rattle.meaning.specs.Kind.{Kind}
use Rattle.meaning.specs.EitherKind.{form_as}
use Rattle.meaning.specs.Sheet.{two_fields, tree_line}
use Rattle.lent.specs.Runs.{Wrote}
use Rattle.lent.proofs.Runs.{wrote-more}

-- a whole text
pub wrote-whole : {text out o₁ : List ℕ} {at r : ℕ} → Wrote (take (length text) text) out o₁ at r → Wrote text out o₁ at r
wrote-whole {text} w = rw take-length at w

-- two numbers, each with a text before it
regroup-two : (a n b m z : List ℕ) → (a ++ n) ++ (b ++ m) ++ z ≡ a ++ n ++ b ++ m ++ z
regroup-two a n b m z = simp append_assoc

module _ (a : List ℕ) (n : ℕ) (b : List ℕ) (m : ℕ) where
  pub two-length : length (two_fields a n b m) ≡ length (a ++ digits n) + length (b ++ digits m) + 1
  unfolding two_fields
  two-length = simp length-append (omega arith)

  pub two-wrote : {out o₁ o₂ o₃ : List ℕ} {at r₁ r₂ r₃ : ℕ} → Wrote (a ++ digits n) out o₁ at r₁ → Wrote (b ++ digits m) o₁ o₂ r₁ r₂ → Wrote (bytes "\n") o₂ o₃ r₂ r₃
      → Wrote (two_fields a n b m) out o₃ at r₃
  unfolding two_fields
  two-wrote {out} {o₃} {at} {r₃} first second end =
      subst (λ (ys : List ℕ). Wrote ys out o₃ at r₃) (regroup-two a (digits n) b (digits m) (bytes "\n")) (wrote-more (wrote-more first second) end)

-- the line of a tree: three numbers, each with a text before it, and the canonical text
regroup-three : (a i b n c u s t z : List ℕ) → (a ++ i) ++ (b ++ n) ++ (c ++ u) ++ s ++ t ++ z ≡ a ++ i ++ b ++ n ++ c ++ u ++ s ++ t ++ z
regroup-three a i b n c u s t z = simp append_assoc

module _ (k : Kind) (i n u : ℕ) (t : Tree) where
  pub tree-length : length (tree_line k i n u t) ≡ 29 + length (digits i) + length (digits n) + length (digits u) + length (form_as k t)
  unfolding tree_line
  tree-length = simp length-append (omega arith)

  pub tree-wrote : {out o₁ o₂ o₃ o₄ o₅ o₆ : List ℕ} {at r₁ r₂ r₃ r₄ r₅ r₆ : ℕ} → Wrote (bytes "tree " ++ digits i) out o₁ at r₁ → Wrote (bytes " neighbours " ++ digits n) o₁ o₂ r₁ r₂
      → Wrote (bytes " unlinked " ++ digits u) o₂ o₃ r₂ r₃ → Wrote (bytes " ") o₃ o₄ r₃ r₄ → Wrote (form_as k t) o₄ o₅ r₄ r₅ → Wrote (bytes "\n") o₅ o₆ r₅ r₆
      → Wrote (tree_line k i n u t) out o₆ at r₆
  unfolding tree_line
  tree-wrote {out} {o₆} {at} {r₆} first second third space text end =
      let parts = regroup-three (bytes "tree ") (digits i) (bytes " neighbours ") (digits n) (bytes " unlinked ") (digits u) (bytes " ") (form_as k t) (bytes "\n") in
      subst (λ (ys : List ℕ). Wrote ys out o₆ at r₆) parts (wrote-more (wrote-more (wrote-more (wrote-more (wrote-more first second) third) space) text) end)
