-- The tests for one kind and for equal label sets, and trees that are like the first.
-- Assumes nothing.
use mathlib.Core.Path.{◌≡◌, refl, sym}
use mathlib.Core.Logic.{◌↔◌}
use mathlib.Core.Bool.{true, cond}
use mathlib.Core.List.{List, [], ◌∷◌, ◌++◌, Memᴰ}
use Prim.Native.Nat.{ℕ, suc}
use native.Mathlib.Omega.{arith}
use Rattle.meaning.specs.Lists.{within}
use Rattle.meaning.specs.Tree.{Tree, labels, ◌⊆◌, SameClade}
use Rattle.meaning.specs.Kind.{Kind, rooted, unrooted, Kinded, Takes, either, rooted_only}
use Rattle.meaning.specs.Reading.{same_labels, same_kind, untaken, unlike, like_first}
use Rattle.meaning.specs.Refusals.{unlike_refusals}
use Rattle.meaning.specs.Grammar.{LikeIt, Alike, AllAlike}
use Rattle.meaning.specs.Prefix.{LikeFirst}
use Rattle.meaning.proofs.Labels.{in-labels, labels_in}
use Rattle.meaning.proofs.Lists.{within_all, all-within}
use Rattle.meaning.proofs.Logic.{and_left, and_right, cases, clash}
use Rattle.meaning.proofs.Complete.{taken-iff}

-- the test says which labels are in which tree, and which trees have the same
sub-iff : (t u : Tree) → (within (labels t) (labels u) ≡ true) ↔ (t ⊆ u)
sub-iff t u = (
  λ e l i. labels_in u (within_all (labels t) (labels u) e l (in-labels i)),
  λ f. all-within (labels t) (labels u) (λ l m. in-labels (f l (labels_in t m))),
)

pub same-labels-iff : (t u : Tree) → (same_labels t u ≡ true) ↔ SameClade t u
same-labels-iff t u =
    let first = within (labels t) (labels u) in
    let second = within (labels u) (labels t) in (
      λ e. ((sub-iff t u).0 (and_left first second e), (sub-iff u t).0 (and_right first second e)),
      λ c. rw ((sub-iff t u).1 c.0, (sub-iff u t).1 c.1),
    )

-- the test for one kind
kind-iff : (k j : Kind) → (same_kind k j ≡ true) ↔ (k ≡ j)
kind-iff rooted rooted = (λ e. refl, λ e. refl)
kind-iff rooted unrooted = (λ e. clash cc, λ e. clash cc)
kind-iff unrooted rooted = (λ e. clash cc, λ e. clash cc)
kind-iff unrooted unrooted = (λ e. refl, λ e. refl)

-- no line says that y can't stand beside x where they are of one kind and have the same labels
pub unlike-iff : (x y : Kinded) → (unlike x y ≡ 0) ↔ LikeIt x y
unlike-iff x y =
    cases (λ d. (◌≡◌ {A = ℕ} (cond d (cond (same_labels x.tree y.tree) 0 5) 10) 0) ↔ LikeIt x y) (same_kind x.kind y.kind)
    (λ k. cases (λ d. (◌≡◌ {A = ℕ} (cond d 0 5) 0) ↔ LikeIt x y) (same_labels x.tree y.tree)
    (λ e. (λ _. record { kinds = (kind-iff x.kind y.kind).0 k; labels = (same-labels-iff x.tree y.tree).0 e }, λ _. refl))
    (λ e. (λ z. absurd (omega (arith, z)), λ c. let f = (same-labels-iff x.tree y.tree).1 c.labels in clash cc)))
    (λ k. (λ z. absurd (omega (arith, z)), λ c. let f = (kind-iff x.kind y.kind).1 c.kinds in clash cc))

-- line 10 where the kinds differ
pub unlike-ten : (x y : Kinded) → (x.kind ≡ y.kind → ⊥) → unlike x y ≡ 10
unlike-ten x y f = cases (λ d. ◌≡◌ {A = ℕ} (cond d (cond (same_labels x.tree y.tree) 0 5) 10) 10) (same_kind x.kind y.kind) (λ k. absurd (f ((kind-iff x.kind y.kind).0 k))) (λ k. refl)

-- and then line 5 where the labels do
pub unlike-five : (x y : Kinded) → x.kind ≡ y.kind → (SameClade x.tree y.tree → ⊥) → unlike x y ≡ 5
unlike-five x y e f =
    rw ((kind-iff x.kind y.kind).1 e)
    (cases (λ d. ◌≡◌ {A = ℕ} (cond d 0 5) 5) (same_labels x.tree y.tree) (λ z. absurd (f ((same-labels-iff x.tree y.tree).0 z))) (λ z. refl))

-- else the line is one of those that can
pub unlike-line : (x y : Kinded) {n : ℕ} → unlike x y ≡ suc n → Memᴰ (suc n) unlike_refusals
unlike-line x y {n} e =
    cases (λ d. cond d (cond (same_labels x.tree y.tree) 0 5) 10 ≡ suc n → Memᴰ (suc n) unlike_refusals) (same_kind x.kind y.kind)
    (λ _. cases (λ d. cond d 0 5 ≡ suc n → Memᴰ (suc n) unlike_refusals) (same_labels x.tree y.tree) (λ _ z. absurd (omega (arith, z))) (λ _ z. Memᴰ.tail (Memᴰ.head (sym z))))
    (λ _ z. Memᴰ.head (sym z)) e

pub untaken-ten : (takes : Takes) (k : Kind) {n : ℕ} → untaken takes k ≡ suc n → suc n ≡ 10
untaken-ten either k e = absurd (omega (arith, e))
untaken-ten rooted_only rooted e = absurd (omega (arith, e))
untaken-ten rooted_only unrooted e = sym e

module _ (takes : Takes) where
  pub first-line : (xs : List Kinded) (x : Kinded) {n : ℕ} → like_first takes xs x ≡ suc n → Memᴰ (suc n) unlike_refusals
  first-line [] x e = Memᴰ.head (untaken-ten takes x.kind e)
  first-line (first ∷ xs) x e = unlike-line first x e

  -- so it is for the first of trees
  pub like-first-iff : (xs : List Kinded) (x : Kinded) → (like_first takes xs x ≡ 0) ↔ LikeFirst takes xs x
  unfolding LikeFirst
  like-first-iff [] x = taken-iff takes x.kind
  like-first-iff (first ∷ xs) x = unlike-iff first x

  -- the trees ys, behind the trees xs, are like the first of all
  abbrev pub Like : List Kinded → List Kinded → Type 0
  Like [] ys = AllAlike takes ys
  Like (first ∷ xs) ys = Alike first ys

  -- where no tree follows, nothing is asked
  pub like-none : (xs : List Kinded) → Like xs []
  unfolding AllAlike Alike
  like-none [] = tt
  like-none (first ∷ xs) = tt

  module _ (x : Kinded) (ys : List Kinded) where
    -- a tree that passes the test may come before others that are like the first
    pub like-more : (xs : List Kinded) → like_first takes xs x ≡ 0 → Like (xs ++ (x ∷ [])) ys → Like xs (x ∷ ys)
    unfolding AllAlike Alike
    like-more [] e h = ((taken-iff takes x.kind).0 e, h)
    like-more (first ∷ xs) e h = ((unlike-iff first x).0 e, h)

    -- and of trees that are like the first, the next passes the test, and the others may come behind it
    pub like-first : (xs : List Kinded) → Like xs (x ∷ ys) → like_first takes xs x ≡ 0
    unfolding AllAlike Alike
    like-first [] h = (taken-iff takes x.kind).1 h.0
    like-first (first ∷ xs) h = (unlike-iff first x).1 h.0

    pub like-rest : (xs : List Kinded) → Like xs (x ∷ ys) → Like (xs ++ (x ∷ [])) ys
    unfolding AllAlike Alike
    like-rest [] h = h.1
    like-rest (first ∷ xs) h = h.1
