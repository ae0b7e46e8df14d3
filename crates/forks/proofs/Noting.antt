-- The clades of a tree, node by node in preorder.
-- Assumes nothing.
use mathlib.Core.Path.{◌≡◌, refl, sym, ap, ap₂, subst, ◌∙◌}
use mathlib.Core.List.{List, [], ◌∷◌, ◌++◌, append_assoc, append-nil}
use Prim.Native.Nat.{ℕ, zero, suc, ◌+◌, ◌-◌, ◌≤◌, ◌<◌}
use native.Mathlib.Nat.{add-zero, zero-add}
use native.Mathlib.Decide.{dec_lt}
use native.Mathlib.Numerals.{add-one}
use native.Mathlib.Omega.{arith}
use lib.ListN.{length, get_or, take, drop, set, length-append, get_or-append, take-append-drop}
use lib.Seq.{get_or-append-add, take-suc, take_all}
use Rattle.meaning.specs.Tree.{Tree, leaf, fork, Good}
use Rattle.meaning.specs.Clade.{clade}
use Rattle.meaning.proofs.Length.{leaves-64}
use Rattle.lent.specs.Runs.{Wrote}
use Rattle.lent.proofs.Runs.{wrote_one, wrote-more}
use Rattle.held.specs.Held.{nodes, preorder, Holds}
use Rattle.held.proofs.Laws.{children, unique, leafed, forked}
use Rattle.held.proofs.Preorder.{length-preorder}
use Rattle.families.specs.Clades.{clades}
use Rattle.families.proofs.Clades.{clades-length}
use Rattle.forks.specs.Noting.{own_clades, joined}

-- what preorder has at node k is that of the subtree held there
module _ {A : Type 0} (f : Tree → A) (d : A) where
  root-at : (t : Tree) {xs : List ℕ} {j : ℕ} → Holds xs j t → (s : Tree) → Holds xs (j + 0) s → t ≡ s
  root-at t {xs} {j} h s g = unique h (subst (λ (i : ℕ). Holds xs i s) (add-zero j) g)

  preorder-at : (t : Tree) {xs : List ℕ} {j : ℕ} → Holds xs j t → (k : ℕ) → k < nodes t → (s : Tree) → Holds xs (j + k) s → get_or (preorder f t) k d ≡ f s
  preorder-at (leaf l) h zero lt s g = ap f (root-at (leaf l) h s g)
  preorder-at (leaf l) h (suc k) lt s g = absurd (omega arith)
  preorder-at (fork a b) h zero lt s g = ap f (root-at (fork a b) h s g)
  preorder-at (fork a b) {xs} {j} h (suc i) lt s g = go (dec_lt i (nodes a)) (preorder-at a (children h).0) (preorder-at b (children h).1)
    where
      go : Dec (i < nodes a) → ((k : ℕ) → k < nodes a → (s : Tree) → Holds xs (j + 1 + k) s → get_or (preorder f a) k d ≡ f s)
          → ((k : ℕ) → k < nodes b → (s : Tree) → Holds xs (j + 1 + nodes a + k) s → get_or (preorder f b) k d ≡ f s) → get_or (preorder f a ++ preorder f b) i d ≡ f s
      go (yes l) first second =
          let at : j + suc i ≡ j + 1 + i = omega arith in
          get_or-append (preorder f a) (preorder f b) d i (omega (arith, length-preorder f a)) ∙ first i l s (subst (λ (n : ℕ). Holds xs n s) at g)
      go (no l) first second =
          let k : ℕ = i - nodes a in
          let e : length (preorder f a) + k ≡ i = omega (arith, length-preorder f a) in
          let at : j + suc i ≡ j + 1 + nodes a + k = omega arith in
          ap (λ (n : ℕ). get_or (preorder f a ++ preorder f b) n d) (sym e) ∙ get_or-append-add (preorder f a) (preorder f b) k d
          ∙ second k (omega arith) s (subst (λ (n : ℕ). Holds xs n s) at g)

joined-append : (xss yss : List (List ℕ)) → joined (xss ++ yss) ≡ joined xss ++ joined yss
joined-append [] yss = refl
joined-append (xs ∷ xss) yss = ap (λ (l : List ℕ). xs ++ l) (joined-append xss yss) ∙ sym (append_assoc xs (joined xss) (joined yss))

joined-clades : (t : Tree) → joined (preorder own_clades t) ≡ clades t
joined-clades (leaf l) = refl
joined-clades (fork a b) = ap (λ (l : List ℕ). (clade a + clade b) ∷ l) (joined-append (preorder own_clades a) (preorder own_clades b) ∙ ap₂ ◌++◌ (joined-clades a) (joined-clades b))

-- ---- the clades of the first k nodes of t are noted
pub record Noting (t : Tree) (xs xs' : List ℕ) (at next k : ℕ) : Type 0 where
  pub inside : k ≤ nodes t
  pub wrote : Wrote (joined (take k (preorder own_clades t))) xs xs' at next

pub noting-none : (t : Tree) (xs : List ℕ) (at : ℕ) → Noting t xs xs at at 0
noting-none t xs at = record { inside = omega arith; wrote = record { behind = omega arith; cells = refl } }

module _ {t : Tree} {xs xs' : List ℕ} {at next k : ℕ} (P : Noting t xs xs' at next k) where
  -- there is room for the next
  pub noting-room : Good t → next + 1 ≤ at + 64
  noting-room G =
      let all = ap length (ap joined (sym (take-append-drop k (preorder own_clades t))) ∙ joined-append (take k (preorder own_clades t)) (drop k (preorder own_clades t))) in
      omega (arith, P.wrote.behind, all, ap length (joined-clades t), length-append (joined (take k (preorder own_clades t))) (joined (drop k (preorder own_clades t))), clades-length t, leaves-64 G)

  -- all are noted
  pub noting-all : nodes t ≤ k → Wrote (clades t) xs xs' at next
  noting-all all = rw (← whole) P.wrote
    where
      whole : joined (take k (preorder own_clades t)) ≡ clades t
      whole = ap joined (take_all k (preorder own_clades t) (omega (arith, length-preorder own_clades t))) ∙ joined-clades t

  -- one node more, where s stands
  module _ {ns : List ℕ} (h : Holds ns 0 t) (lt : k < nodes t) {s : Tree} (g : Holds ns k s) where
    next-own : joined (take (k + 1) (preorder own_clades t)) ≡ joined (take k (preorder own_clades t)) ++ own_clades s
    next-own =
        let e : get_or (preorder own_clades t) k [] ≡ own_clades s = preorder-at own_clades [] t h k lt s (subst (λ (i : ℕ). Holds ns i s) (sym (zero-add k)) g) in
        ap joined (ap (λ (i : ℕ). take i (preorder own_clades t)) (add-one k) ∙ take-suc (preorder own_clades t) k [] (omega (arith, length-preorder own_clades t)))
        ∙ joined-append (take k (preorder own_clades t)) (get_or (preorder own_clades t) k [] ∷ [])
        ∙ ap (λ (l : List ℕ). joined (take k (preorder own_clades t)) ++ l) (append-nil (get_or (preorder own_clades t) k []) ∙ e)

    pub noting-leaf : get_or ns k 0 ≤ 64 → Noting t xs xs' at next (k + 1)
    noting-leaf small =
        let none : joined (take (k + 1) (preorder own_clades t)) ≡ joined (take k (preorder own_clades t)) = next-own ∙ rw (leafed g small) (append-nil (joined (take k (preorder own_clades t)))) in
        record { inside = omega arith; wrote = rw none P.wrote }

    pub noting-fork : 64 < get_or ns k 0 → (v : ℕ) → v ≡ clade s → Noting t xs (set xs' next v) at (next + 1) (k + 1)
    noting-fork large v e =
        let f = forked g large in
        let own : own_clades s ≡ v ∷ [] = ap own_clades f.is ∙ ap (λ (c : ℕ). c ∷ []) (sym (e ∙ ap clade f.is)) in
        record { inside = omega arith; wrote = rw (next-own, own) (wrote-more P.wrote (wrote_one xs' next v)) }
