-- Forest texts of a tree that is kept.
-- Assumes nothing.
use mathlib.Core.Path.{◌≡◌, sym, ap, subst, ◌∙◌}
use mathlib.Core.List.{List, [], ◌∷◌, ◌++◌, append_assoc}
use Prim.Native.Nat.{ℕ, ◌+◌, ◌*◌, ◌-◌, ◌≤◌, ◌<◌}
use native.Mathlib.Omega.{arith}
use lib.ListN.{length, length-append}
use Rattle.meaning.specs.Tree.{Tree, fork, In, Good, leaves, canon, write}
use Rattle.meaning.specs.Move.{Cut, cuts, cut_at, forest}
use Rattle.meaning.proofs.Canon.{canon-canonical, canonical-canon}
use Rattle.meaning.proofs.Forests.{cuts-canon, cut_at-good}
use Rattle.lent.specs.Runs.{Wrote}
use Rattle.lent.proofs.Runs.{wrote-more, wrote-length}
use Rattle.held.specs.Held.{Holds, Held, HasCut, hold, cut_in}
use Rattle.held.specs.Node.{subtree}
use Rattle.held.specs.declared.node.Node.{Node}
use Rattle.held.proofs.Subtree.{at-node}
use Rattle.held.specs.Kept.{Keeps}
use Rattle.held.specs.declared.Tree.{Tree as Record}
use Rattle.held.proofs.Laws.{unique}
use Rattle.held.proofs.Canon.{leaves-canon}
use Rattle.held.proofs.Kept.{keeps-holds}
use Rattle.held.proofs.Cut.{cut_holds, canonical-pruned, cut_in-cut_at}
use Rattle.writing.specs.Writing.{ForestFits}

-- the second component of a cut is a good tree
good-second : {a b : Tree} → Good (fork a b) → Good b
good-second G = record { distinct = G.distinct.1; small = λ l i. G.small l (In.second i) }

-- what a cut leaves of the tree and what it takes away, in canonical order
module _ {tree : Record} {t : Tree} (k : Keeps tree t) {c : ℕ} (h : c < 2 * leaves t - 2) where
  is_cut : c < length (cuts (canon t))
  is_cut = omega (arith, cuts-canon t)

  has-cut : HasCut tree.node c
  has-cut = record { tree = canon t; holds = keeps-holds k; is_cut = is_cut }

  left-holds : (left : Record) → ((u : Tree) → Holds tree.node 0 u → left.node ≡ hold (canon (cut_in u c).rest)) → Holds left.node 0 (canon (cut_at t c).rest)
  left-holds left gives =
      keeps-holds {tree = left} (record { good = good-second (cut_at-good k.good c h); bytes = gives (canon t) (keeps-holds k) ∙ ap (λ (x : Cut). hold (canon x.rest)) (cut_in-cut_at t c is_cut) })

  pruned-holds : Holds tree.node (c + 1) (canon (cut_at t c).pruned)
  unfolding has-cut
  pruned-holds =
      let s = (cut_in (canon t) c).pruned in
      let order : s ≡ canon s = sym (canonical-canon s (canonical-pruned (canon t) c is_cut (canon-canonical t k.good.distinct))) in
      subst (λ (x : Cut). Holds tree.node (c + 1) (canon x.pruned)) (cut_in-cut_at t c is_cut) (subst (Holds tree.node (c + 1)) order (cut_holds has-cut))

-- the forest text, each component with the byte behind it
regroup : (a b z : List ℕ) (s : ℕ) → (a ++ (s ∷ [])) ++ (b ++ z) ≡ a ++ (s ∷ b) ++ z
regroup a b z s = simp append_assoc

module _ (k : Cut) where
  abbrev a : List ℕ
  a = write (canon k.rest)

  abbrev b : List ℕ
  b = write (canon k.pruned)

  length-forest : length (forest k) ≡ (length a + 1) + (length b + 1)
  length-forest = simp length-append (omega arith)

  wrote-forest : {out o₁ o₂ : List ℕ} {at r₁ r₂ : ℕ} → Wrote (a ++ (32 ∷ [])) out o₁ at r₁ → Wrote (b ++ (59 ∷ [])) o₁ o₂ r₁ r₂ → Wrote (forest k) out o₂ at r₂
  wrote-forest {out} {o₂} {at} {r₂} p q = subst (λ (ys : List ℕ). Wrote ys out o₂ at r₂) (regroup a b (59 ∷ []) 32) (wrote-more p q)

-- what the contract of `write_forest` tells
module _ {tree : Record} {c at len : ℕ} (f : ForestFits tree c at len) where
  abbrev k : Cut
  k = cut_at f.topology c

  pub cut-of-tree : HasCut tree.node c
  cut-of-tree = has-cut f.keeps f.is_cut

  -- each component's node; `left` is what `remainder` returns
  module _ (left : Record) (gives : (u : Tree) → Holds tree.node 0 u → left.node ≡ hold (canon (cut_in u c).rest)) where
    pub rest-held : Held left.node 0
    rest-held = record { tree = canon k.rest; holds = left-holds f.keeps f.is_cut left gives }

    pub pruned-held : Held tree.node (c + 1)
    pruned-held = record { tree = canon k.pruned; holds = pruned-holds f.keeps f.is_cut }

    module _ (rest pruned : Node) (at-rest : (rest.tree.now ≡ left.node) × (rest.at ≡ 0)) (at-pruned : (pruned.tree.now ≡ tree.node) × (pruned.at ≡ c + 1)) where
      module _ {t : Tree} (l : Keeps tree t) (h : c < 2 * leaves t - 2) where
        rest-is : subtree rest ≡ canon (cut_at t c).rest
        rest-is = at-node rest at-rest (left-holds l h left gives)

        pruned-is : subtree pruned ≡ canon (cut_at t c).pruned
        pruned-is = at-node pruned at-pruned (pruned-holds l h)

      parts-room : length (forest k) ≡ (length (write (subtree rest)) + 1) + (length (write (subtree pruned)) + 1)
      parts-room = omega (arith, length-forest k, ap (λ (t : Tree). length (write t)) (rest-is f.keeps f.is_cut), ap (λ (t : Tree). length (write t)) (pruned-is f.keeps f.is_cut))

      pub room-left : at + length (write (subtree rest)) + 1 ≤ len
      room-left = omega (arith, f.room, parts-room)

      pub room-pruned : {out o₁ : List ℕ} {r : ℕ} → length out ≡ len → Wrote (write (subtree rest) ++ (32 ∷ [])) out o₁ at r
          → r + length (write (subtree pruned)) + 1 ≤ length o₁
      room-pruned same w = omega (arith, f.room, parts-room, w.behind, wrote-length w, length-append (write (subtree rest)) (32 ∷ []))

      -- whichever tree of the topology is named
      pub wrote-parts : {out o₁ o₂ : List ℕ} {r₁ r₂ : ℕ} → Wrote (write (subtree rest) ++ (32 ∷ [])) out o₁ at r₁ → Wrote (write (subtree pruned) ++ (59 ∷ [])) o₁ o₂ r₁ r₂
          → (t : Tree) → Keeps tree t → Wrote (forest (cut_at t c)) out o₂ at r₂
      wrote-parts p q t l =
          let same : leaves (canon t) ≡ leaves (canon f.topology) = ap leaves (unique (keeps-holds l) (keeps-holds f.keeps)) in
          let h : c < 2 * leaves t - 2 = omega (arith, f.is_cut, leaves-canon t, leaves-canon f.topology) in
          wrote-forest (cut_at t c) (rw (rest-is l h) at p) (rw (pruned-is l h) at q)
