-- Unrooted trees, written piece by piece, and the room that they take; and a tree of either kind as its record tells it.
-- Assumes nothing.
use mathlib.Core.Path.{◌≡◌, refl, sym, ap, subst, ◌∙◌}
use mathlib.Core.List.{List, [], ◌∷◌, ◌++◌, append_assoc}
use Prim.Native.Nat.{ℕ, ◌+◌}
use native.Mathlib.Omega.{arith}
use lib.ListN.{length, set, length-append}
use Rattle.meaning.specs.Tree.{Tree, leaf, fork, canon, write}
use Rattle.meaning.specs.Kind.{Kind as KindOf, Kinded}
use Rattle.meaning.specs.Unrooted.{bare, write_unrooted, mark}
use Rattle.meaning.specs.EitherKind.{write_as, form_as}
use Rattle.lent.specs.Runs.{Wrote}
use Rattle.lent.proofs.Runs.{wrote_one, wrote-more}
use Rattle.held.specs.Kept.{kind_of, KeepsKind}
use Rattle.held.specs.declared.Kind.TheVariants.{Rooted, Unrooted}
use Rattle.held.specs.declared.Tree.{Tree as Record}

-- a leaf has no brackets of its own
pub leaf-bare : {t : Tree} {l : ℕ} → t ≡ leaf l → bare t ≡ write t
leaf-bare e = rw e refl

pub leaf-top : {t : Tree} {l : ℕ} → t ≡ leaf l → write_unrooted t ≡ write t
leaf-top e = rw e refl

module _ {t a b : Tree} (e : t ≡ fork a b) where
  -- a fork without brackets: its first child and a comma, then its second
  pub bare-room : length (bare t) ≡ length (write a) + 1 + length (write b)
  bare-room = ap (λ (u : Tree). length (bare u)) e ∙ simp length-append (omega arith)

  pub wrote-bare : {out o₁ o₂ : List ℕ} {at r₁ r₂ : ℕ} → Wrote (write a ++ (44 ∷ [])) out o₁ at r₁ → Wrote (write b) o₁ o₂ r₁ r₂ → Wrote (bare t) out o₂ at r₂
  wrote-bare {out} {o₂} {at} {r₂} p q = rw e (subst (λ (ys : List ℕ). Wrote ys out o₂ at r₂) (append_assoc (write a) (44 ∷ []) (write b)) (wrote-more p q))

  -- an unrooted tree: a bracket, the first child and a comma, the second without brackets, a bracket
  pub top-room : length (write_unrooted t) ≡ length (write a) + 1 + length (bare b) + 2
  top-room = ap (λ (u : Tree). length (write_unrooted u)) e ∙ simp length-append (omega arith)

  pub wrote-top : {out o₁ o₂ : List ℕ} {at r₁ r₂ : ℕ} → Wrote (write a ++ (44 ∷ [])) (set out at 40) o₁ (at + 1) r₁ → Wrote (bare b) o₁ o₂ r₁ r₂
      → Wrote (write_unrooted t) out (set o₂ r₂ 41) at (r₂ + 1)
  wrote-top {out} {o₂} {at} {r₂} p q =
      rw e
      (subst (λ (ys : List ℕ). Wrote ys out (set o₂ r₂ 41) at (r₂ + 1)) (ap (λ (ys : List ℕ). 40 ∷ (ys ++ (41 ∷ []))) (append_assoc (write a) (44 ∷ []) (bare b)))
      (wrote-more (wrote-more (wrote-more (wrote_one out at 40) p) q) (wrote_one o₂ r₂ 41)))

-- the record's kind says how the tree is written
module _ {tree : Record} {x : Kinded} (k : KeepsKind tree x) where
  abbrev text : KindOf → List ℕ
  text j = write_as j (canon x.tree)

  pub rooted-text : tree.kind ≡ Rooted → text x.kind ≡ write (canon x.tree)
  rooted-text e = ap text (sym k.kind ∙ ap kind_of e)

  pub unrooted-text : tree.kind ≡ Unrooted → text x.kind ≡ mark ++ write_unrooted (canon x.tree)
  unrooted-text e = ap text (sym k.kind ∙ ap kind_of e)

  -- its canonical form is that of the tree that stands for it
  pub form-text : form_as x.kind x.tree ≡ text x.kind ++ (59 ∷ [])
  form-text = ap (λ (t : Tree). write_as x.kind t ++ (59 ∷ [])) k.stands
