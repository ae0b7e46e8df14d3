-- Prints beside the nodes of a held tree, and the shares of a fork in the prints of what is left.
-- Assumes nothing.
use mathlib.Core.Path.{◌≡◌, sym, ap, ap₂, ◌∙◌}
use mathlib.Core.List.{List}
use Prim.Native.Nat.{ℕ, ◌+◌, ◌≤◌, ◌<◌}
use native.Mathlib.Decide.{ℕ_discrete}
use native.Mathlib.Omega.{arith}
use lib.ListN.{length, get_or, set, length-set}
use lib.Seq.{get_or-set_same, get_or-set_other}
use Rattle.meaning.specs.Clade.{clade}
use Rattle.held.specs.Node.{subtree, Children}
use Rattle.held.specs.declared.node.Node.{Node}
use Rattle.held.proofs.Laws.{some-nodes}
use Rattle.held.proofs.Subtree.{at-node}
use Rattle.clades.specs.Marks.{Marks}
use Rattle.clades.proofs.Laws.{Sub, first-is, second_is}
use Rattle.prints.specs.Print.{max_print, spread, print}
use Rattle.prints.specs.Rest.{Added, share, PassRoom, Passed}
use Rattle.prints.proofs.Print.{print-fits}

-- ---- the print of a fork whose children are marked; x is the node at k
module _ {xs : List ℕ} {k end : ℕ} (s : Sub xs k end) (x : Node) (at : (x.tree.now ≡ xs) × (x.at ≡ k)) {a b : Node} (c : Children x a b) where
  module _ (m f : List ℕ) (clades : Marks clade xs m 0 end) (prints : Marks print xs f (k + 1) end) where
    pub fork-print : spread (get_or m k 0) + (get_or f a.at 0 + get_or f b.at 0) ≡ print (subtree x)
    fork-print =
        let own : get_or m k 0 ≡ clade s.tree = clades k (omega arith) (omega (arith, s.inside, some-nodes s.tree)) s.tree s.holds in
        let is = sym (at-node x at s.holds) ∙ c.is in
        ap₂ ◌+◌ (ap spread (own ∙ ap clade is)) (ap₂ ◌+◌ (first-is s x at c print f prints) (second_is s x at c print f prints)) ∙ sym (ap print c.is)

    pub fork-print-fits : spread (get_or m k 0) + (get_or f a.at 0 + get_or f b.at 0) ≤ max_print
    fork-print-fits = omega (arith, fork-print, ap print (at-node x at s.holds), print-fits s.good)

-- ---- one number more
module _ (g : ℕ → ℕ) {from p : ℕ} {rest rest' : List ℕ} (A : Added g from p rest rest')
    (v : ℕ) (is : v ≡ g p) (above : from < p) (room : p < length rest') where
  abbrev next : List ℕ
  next = set rest' p (get_or rest' p 0 + v)

  pub added_more : Added g from (p + 1) rest next
  added_more = record { own = λ q f t. own q f t (ℕ_discrete q p); others = others; long = simp length-set A.long }
    where
      own : (q : ℕ) → from < q → q < p + 1 → Dec (q ≡ p) → get_or next q 0 ≡ get_or rest q 0 + g q
      own q f t (yes e) = rw e (get_or-set_same rest' p (get_or rest' p 0 + v) 0 room ∙ ap₂ ◌+◌ (A.others p (λ u w. omega arith)) is)
      own q f t (no n) = get_or-set_other rest' p q (get_or rest' p 0 + v) 0 n ∙ A.own q f (omega arith)

      others : (q : ℕ) → (from < q → q < p + 1 → ⊥) → get_or next q 0 ≡ get_or rest q 0
      others q out = get_or-set_other rest' p q (get_or rest' p 0 + v) 0 (λ e. out (omega arith) (omega arith)) ∙ A.others q (λ f t. out f (omega arith))

-- ---- the child got its share, then the nodes below it that stand before p
abbrev child-shared : List ℕ → ℕ → ℕ → List ℕ
child-shared rest beside from = set rest from (get_or rest from 0 + beside)

module _ {m rest : List ℕ} {whole beside from to : ℕ} (R : PassRoom m rest whole beside from to)
    {rest' : List ℕ} {p : ℕ} (A : Added (share m whole beside) from p (child-shared rest beside from) rest') where
  stays : (q : ℕ) → ¬ (q ≡ from) → get_or (child-shared rest beside from) q 0 ≡ get_or rest q 0
  stays q n = get_or-set_other rest from q (get_or rest from 0 + beside) 0 n

  shared-length : length rest' ≡ length rest
  shared-length = A.long ∙ length-set rest from (get_or rest from 0 + beside)

  pub shared-room : p < to → p < length rest'
  shared-room t = omega (arith, shared-length, R.room, R.long)

  pub share-fits : from < p → p < to → get_or rest' p 0 + share m whole beside p ≤ max_print
  share-fits f t = omega (arith, A.others p (λ u v. omega arith), stays p (λ e. omega arith), R.below_fits p f t)

  pub passed : p ≡ to → Passed m rest rest' whole beside from to
  passed e =
      record {
        child = A.others from (λ f t. omega arith) ∙ get_or-set_same rest from (get_or rest from 0 + beside) 0 (omega (arith, R.some, R.room, R.long));
        below = λ q f t. omega (arith, A.own q f (omega arith), stays q (λ e. omega arith));
        others = λ q out. A.others q (λ f t. out (omega arith) (omega arith)) ∙ stays q (λ e. out (omega arith) (omega (arith, R.some)));
        long = shared-length;
      }
