-- What is left of a held tree without a node: fork by fork, its labels, as a cut leaves it, and the way down to the node.
-- Assumes nothing.
use mathlib.Core.Path.{◌≡◌, refl, sym, ap, ap₂, subst, ◌∙◌}
use Prim.Native.Nat.{ℕ, suc, ◌+◌, ◌≤◌, ◌<◌}
use native.Mathlib.Decide.{ℕ_discrete}
use native.Mathlib.Omega.{arith}
use borrow.Author.Tests.{eq-eqb, ne_eqb}
use lib.ListN.{length}
use Rattle.meaning.specs.Tree.{Tree, leaf, fork, In, Distinct, ◌⊆◌}
use Rattle.meaning.specs.Move.{Cut, cuts}
use Rattle.meaning.specs.Interchange.{Forks, in_order, turned}
use Rattle.held.specs.Held.{nodes, cut_in}
use Rattle.held.proofs.Laws.{some-nodes}
use Rattle.held.proofs.Cut.{cuts-nodes, first-cut, second-cut, first-deeper, second-deeper, Which, at_first, at_second, below-first, below-second, which}
use Rattle.pairs.specs.Left.{left, Below, Leads}

-- ---- fork by fork
module _ (p k : ℕ) (a b : Tree) where
  pub left-first : p ≡ k + 1 → left p k (fork a b) ≡ b
  left-first e = rw (eq-eqb p (k + 1) e)

  pub left-second : p ≡ k + 1 + nodes a → left p k (fork a b) ≡ a
  left-second e = rw (ne_eqb p (k + 1) (λ e'. omega (arith, some-nodes a)), eq-eqb p (k + 1 + nodes a) e)

  left_open : (p ≡ k + 1 → ⊥) → (p ≡ k + 1 + nodes a → ⊥) → left p k (fork a b) ≡ fork (left p (k + 1) a) (left p (k + 1 + nodes a) b)
  left_open n n' = rw (ne_eqb p (k + 1) n, ne_eqb p (k + 1 + nodes a) n')

-- where p does not stand below the tree, all is left
left_out : (p k : ℕ) (t : Tree) → (k < p → p < k + nodes t → ⊥) → left p k t ≡ t
left_out p k (leaf l) out = refl
left_out p k (fork a b) out =
    left_open p k a b (λ e. out (omega arith) (omega (arith, some-nodes a))) (λ e. out (omega arith) (omega (arith, some-nodes b)))
    ∙ ap₂ fork (left_out p (k + 1) a (λ f g. out (omega arith) (omega arith))) (left_out p (k + 1 + nodes a) b (λ f g. out (omega arith) (omega arith)))

-- where it stands below a child, that child loses it
module _ (p k : ℕ) (a b : Tree) where
  pub left-in-first : k + 1 < p → p < k + 1 + nodes a → left p k (fork a b) ≡ fork (left p (k + 1) a) b
  left-in-first f g = left_open p k a b (λ e. omega arith) (λ e. omega arith) ∙ ap (fork (left p (k + 1) a)) (left_out p (k + 1 + nodes a) b (λ u v. omega arith))

  pub left-in-second : k + 1 + nodes a < p → left p k (fork a b) ≡ fork a (left p (k + 1 + nodes a) b)
  left-in-second f =
      left_open p k a b (λ e. omega (arith, some-nodes a)) (λ e. omega arith) ∙ ap (λ (s : Tree). fork s (left p (k + 1 + nodes a) b)) (left_out p (k + 1) a (λ u v. omega arith))

-- ---- the way down from t at k, whose children a and b stand at i and j
module _ {p k i j : ℕ} {t a b : Tree} where
  pub leads_one : t ≡ fork a b → i ≡ k + 1 → j ≡ k + 1 + nodes a → Below p k t → p < j → Leads p k t i a b
  leads_one e f g B l =
      let deeper : ¬ (p ≡ k + 1) → Below p (k + 1) a × Forks (left p (k + 1) a) b (left p k (fork a b)) = λ n.
      let above : k + 1 < p = omega (arith, B.above) in
      (record { above = above; inside = omega arith }, subst (Forks (left p (k + 1) a) b) (sym (left-in-first p k a b above (omega arith))) in_order) in
      rw (e, f) (record { children = in_order; further = omega arith; here = left-first p k a b; deeper = deeper })

  pub leads-two : t ≡ fork a b → i ≡ k + 1 → j ≡ k + 1 + nodes a → Below p k t → j ≤ p → Leads p k t j b a
  leads-two e f g B l =
      let deeper : ¬ (p ≡ k + 1 + nodes a) → Below p (k + 1 + nodes a) b × Forks (left p (k + 1 + nodes a) b) a (left p k (fork a b)) = λ n.
      let above : k + 1 + nodes a < p = omega arith in
      (record { above = above; inside = omega (arith, B.inside, ap nodes e) }, subst (Forks (left p (k + 1 + nodes a) b) a) (sym (left-in-second p k a b above)) turned) in
      rw (e, g) (record { children = turned; further = omega arith; here = left-second p k a b; deeper = deeper })

-- ---- its labels are the tree's
pub left-labels : (p k : ℕ) (t : Tree) → left p k t ⊆ t
left-labels p k (leaf l) m i = i
left-labels p k (fork a b) m i = go (ℕ_discrete p (k + 1)) (ℕ_discrete p (k + 1 + nodes a)) (left-labels p (k + 1) a m) (left-labels p (k + 1 + nodes a) b m)
  where
    below : (In m (left p (k + 1) a) → In m a) → (In m (left p (k + 1 + nodes a) b) → In m b) → In m (fork (left p (k + 1) a) (left p (k + 1 + nodes a) b)) → In m (fork a b)
    below f g (In.first j) = In.first (f j)
    below f g (In.second j) = In.second (g j)

    go : Dec (p ≡ k + 1) → Dec (p ≡ k + 1 + nodes a) → (In m (left p (k + 1) a) → In m a) → (In m (left p (k + 1 + nodes a) b) → In m b) → In m (fork a b)
    go (yes e) _ f g = In.second (subst (In m) (left-first p k a b e) i)
    go (no n) (yes e) f g = In.first (subst (In m) (left-second p k a b e) i)
    go (no n) (no n') f g = below f g (subst (In m) (left_open p k a b n n') i)

-- so they are distinct where the tree's are
pub left-distinct : (p k : ℕ) (t : Tree) → Distinct t → Distinct (left p k t)
left-distinct p k (leaf l) D = tt
left-distinct p k (fork a b) D = go (ℕ_discrete p (k + 1)) (ℕ_discrete p (k + 1 + nodes a)) (left-distinct p (k + 1) a D.0) (left-distinct p (k + 1 + nodes a) b D.1)
  where
    go : Dec (p ≡ k + 1) → Dec (p ≡ k + 1 + nodes a) → Distinct (left p (k + 1) a) → Distinct (left p (k + 1 + nodes a) b) → Distinct (left p k (fork a b))
    go (yes e) _ f g = rw (left-first p k a b e) D.1
    go (no n) (yes e) f g = rw (left-second p k a b e) D.0
    go (no n) (no n') f g = rw (left_open p k a b n n') (f, g, λ l i j. D.2 l (left-labels p (k + 1) a l i) (left-labels p (k + 1 + nodes a) b l j))

-- ---- cut number c is node number c + 1
pub left-rest : (k : ℕ) (t : Tree) (c : ℕ) → c < length (cuts t) → left (k + 1 + c) k t ≡ (cut_in t c).rest
left-rest k (leaf l) c h = absurd (omega arith)
left-rest k (fork a b) c h = go (left-rest (k + 1) a) (left-rest (k + 1 + nodes a) b) (which a b c h)
  where
    at : {i j : ℕ} (e : i ≡ j) → left i k (fork a b) ≡ left j k (fork a b)
    at e = ap (λ (i : ℕ). left i k (fork a b)) e

    rest : {c d : Cut} → c ≡ d → d.rest ≡ c.rest
    rest e = sym (ap (λ (x : Cut). x.rest) e)

    go : ((j : ℕ) → j < length (cuts a) → left (k + 1 + 1 + j) (k + 1) a ≡ (cut_in a j).rest)
        → ((j : ℕ) → j < length (cuts b) → left (k + 1 + nodes a + 1 + j) (k + 1 + nodes a) b ≡ (cut_in b j).rest)
        → {c : ℕ} → Which a b c → left (k + 1 + c) k (fork a b) ≡ (cut_in (fork a b) c).rest
    go f g at_first = left-first (k + 1 + 0) k a b (omega arith) ∙ rest (first-cut a b)
    go f g at_second = left-second (k + 1 + suc (length (cuts a))) k a b (omega (arith, cuts-nodes a)) ∙ rest (second-cut a b)
    go f g (below-first j l) =
        let p = k + 1 + 1 + j in
        let e : k + 1 + suc j ≡ p = omega arith in
        at e ∙ left-in-first p k a b (omega arith) (omega (arith, cuts-nodes a)) ∙ ap (λ (s : Tree). fork s b) (f j l) ∙ rest (first-deeper a b j l)
    go f g (below-second j l) =
        let p = k + 1 + nodes a + 1 + j in
        let e : k + 1 + suc (suc (length (cuts a) + j)) ≡ p = omega (arith, cuts-nodes a) in
        at e ∙ left-in-second p k a b (omega arith) ∙ ap (fork a) (g j l) ∙ rest (second-deeper a b j l)
