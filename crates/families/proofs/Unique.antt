-- There is no other tree with the majority clades and children by smallest label, and it is one tree.
-- Assumes nothing.
use mathlib.Core.Path.{◌≡◌, refl, sym, ap, ap₂, ◌∙◌, subst}
use mathlib.Core.Logic.{◌↔◌, inl, inr, ◌≢◌}
use mathlib.Core.Bool.{Bool, true, false, cond, not}
use mathlib.Core.List.Memᴰ
use mathlib.Core.List.{List, ◌∷◌, Memᴰ}
use Prim.Native.Nat.{ℕ, zero, suc, ◌+◌, ◌-◌, ◌^◌, ◌≤◌, ◌<◌}
use native.Mathlib.Omega.{arith}
use lib.Count.{count_trailing_zeros}
use lib.Dec.{T, leb, leb→le, nleb→lt}
use Rattle.meaning.specs.Limits.{max_label}
use Rattle.meaning.specs.Lists.{member}
use Rattle.meaning.specs.Tree.{Tree, leaf, fork, tip, Good, Canonical, least, leaves}
use Rattle.meaning.specs.Clade.{HasLabel, lowest, clade}
use Rattle.meaning.proofs.Logic.{both-tests}
use Rattle.meaning.proofs.Lists.{member-in, in-member}
use Rattle.meaning.proofs.Same.{good-first, good-second}
use Rattle.meaning.proofs.Canon.{least-in}
use Rattle.meaning.proofs.Labels.{some-leaves}
use Rattle.meaning.proofs.Length.{leaves-64}
use Rattle.meaning.proofs.LabelBits.{Under, Clear, under-le, under-iff, clear-iff, pow-has}
use Rattle.meaning.proofs.Clade.{label-iff, children-clear, lowest-least}
use Rattle.families.specs.Clades.{size}
use Rattle.families.specs.Grown.{low_bit, first_child, grow}
use Rattle.families.specs.Support.{chosen}
use Rattle.families.specs.Majority.{Multi, join, drawn, Single, Tidy, mark, majority_tree}
use Rattle.families.proofs.Sizes.{under-self, under-trans, under-size, sum_left, sum-right, clear-parts, clear-differ}
use Rattle.families.proofs.Clades.{size-leaves, clades-under}
use Rattle.families.proofs.FirstChild.{Choice, first-choice, first-most, leads-of, of-leads, single-in}
use Rattle.families.proofs.Support.{EachGood, OneSet}
use Rattle.families.proofs.Chosen.{chosen-iff, chosen-family, whole-majority}
use Rattle.families.proofs.Majority.{whole, Has, Parted, join-cases, join-in, join-own, node-clade, IsMajority, majority-tree}

-- a part with the smallest label is no smaller than one tree that has it
at_least : (m : Multi) (f : ℕ) → Good (drawn m) → Single m → HasLabel (least (drawn m)) f → (Has (whole m) m → whole m ≤ f) → whole m ≤ f
at_least (Multi.tip n) f G s h g =
    let r = G.small n tip in
    let e : n ≡ suc (n - 1) = omega arith in
    under-le (2 ^ (n - 1)) f (single-in (n - 1) f (subst (λ (l : ℕ). HasLabel l f) e h))
at_least (join true a b) f G s h g = g (Memᴰ.head refl)
at_least (join false a b) f G s h g = absurd s

-- the list's clades inside the labels of m are those of its nodes
abbrev Told : List ℕ → Multi → Type 0
Told cs m = (d : ℕ) → Has d m ↔ (Memᴰ d cs × Under d (whole m))

module _ (node : Bool) (a b : Multi) (G : Good (drawn (join node a b))) where
  clear : Clear (whole a) (whole b)
  clear = children-clear G

  sizes : size (whole a + whole b) ≡ leaves (drawn a) + leaves (drawn b)
  sizes = size-leaves G

  in_left : (d : ℕ) → Has d a → Under d (whole a)
  in_left d i = clades-under (drawn a) (good-first G) d (node-clade d a i)

  in_right : (d : ℕ) → Has d b → Under d (whole b)
  in_right d i = clades-under (drawn b) (good-second G) d (node-clade d b i)

  not_left : Under (whole a + whole b) (whole a) → ⊥
  not_left u = omega (arith, under-size u, sizes, size-leaves (good-first G), some-leaves (drawn b))

  not_right : Under (whole a + whole b) (whole b) → ⊥
  not_right u = omega (arith, under-size u, sizes, size-leaves (good-second G), some-leaves (drawn a))

  -- a join whose own clade is that of a node is that node
  own-node : Parted (whole a + whole b) node a b → node ≡ true
  own-node (inl (_, q)) = q
  own-node (inr (inl i)) = absurd (not_left (in_left (whole a + whole b) i))
  own-node (inr (inr i)) = absurd (not_right (in_right (whole a + whole b) i))

  module _ (cs : List ℕ) (large : (c : ℕ) → Memᴰ c cs → 2 ≤ size c) (H : Told cs (join node a b)) where
    -- so of each part
    told-left : Told cs a
    told-left d = (
      λ i. (((H d).0 (join-in d node a b (inl i))).0, in_left d i),
      λ (m, u). go m u (join-cases d node a b ((H d).1 (m, under-trans u (sum_left clear)))),
    )
      where
        go : Memᴰ d cs → Under d (whole a) → Parted d node a b → Has d a
        go m u (inl (e, _)) = absurd (not_left (subst (λ (x : ℕ). Under x (whole a)) e u))
        go m u (inr (inl i)) = i
        go m u (inr (inr i)) = absurd (clear-differ (clear-parts u (in_right d i) clear) (large d m))

    told-right : Told cs b
    told-right d = (
      λ i. (((H d).0 (join-in d node a b (inr i))).0, in_right d i),
      λ (m, u). go m u (join-cases d node a b ((H d).1 (m, under-trans u (sum-right clear)))),
    )
      where
        go : Memᴰ d cs → Under d (whole b) → Parted d node a b → Has d b
        go m u (inl (e, _)) = absurd (not_right (subst (λ (x : ℕ). Under x (whole b)) e u))
        go m u (inr (inl i)) = absurd (clear-differ (clear-parts (in_left d i) u clear) (large d m))
        go m u (inr (inr i)) = i

    -- a join is a node exactly when its clade is in the list
    node-told : member (whole a + whole b) cs ≡ node
    node-told =
        let c = whole a + whole b in
        both-tests (member c cs) node
        (λ q. own-node (join-cases c node a b ((H c).1 (member-in c cs q, under-self))), λ q. in-member ((H c).0 (join-own c node a b q refl)).0)

    -- the first part is the first child
    module _ (C : Canonical (drawn (join node a b))) (S : Single a) where
      abbrev c : ℕ
      c = whole a + whole b

      low : lowest (whole a + whole b) ≡ least (drawn a)
      low = lowest-least G ∙ omega (arith, C.2)

      label-left : HasLabel (lowest c) (whole a)
      label-left = subst (λ (l : ℕ). HasLabel l (whole a)) (sym low) ((label-iff (good-first G) (least (drawn a))).1 (least-in (drawn a)))

      no-right : (d : ℕ) → HasLabel (lowest c) d → Under d (whole b) → ⊥
      no-right d h u = (clear-iff (whole a) (whole b)).0 clear (lowest c) label-left ((under-iff d (whole b)).0 u (lowest c) h)

      first-le : Choice cs c (first_child cs c) → first_child cs c ≤ whole a
      first-le (inl e) = omega (arith, under-le (low_bit c) (whole a) (single-in (count_trailing_zeros 64 c) (whole a) label-left))
      first-le (inr (m, t)) =
          let (u, n, h) = of-leads c (first_child cs c) t in
          go n h (join-cases (first_child cs c) node a b ((H (first_child cs c)).1 (m, u)))
        where
          go : first_child cs c ≢ c → HasLabel (lowest c) (first_child cs c) → Parted (first_child cs c) node a b → first_child cs c ≤ whole a
          go n h (inl (e, _)) = absurd (n e)
          go n h (inr (inl i)) = under-le (first_child cs c) (whole a) (in_left (first_child cs c) i)
          go n h (inr (inr i)) = absurd (no-right (first_child cs c) h (in_right (first_child cs c) i))

      first-low : Choice cs c (first_child cs c) → HasLabel (lowest c) (first_child cs c)
      first-low (inl e) = subst (HasLabel (lowest c)) (sym e) (pow-has (count_trailing_zeros 64 c))
      first-low (inr (m, t)) = (of-leads c (first_child cs c) t).2

      not-whole : whole a ≢ c
      not-whole e = not_left (subst (λ (x : ℕ). Under x (whole a)) e under-self)

      leads-first : Has (whole a) a → whole a ≤ first_child cs c
      leads-first i =
          let m = ((H (whole a)).0 (join-in (whole a) node a b (inl i))).0 in
          first-most cs c (whole a) m (leads-of c (whole a) (sum_left clear) not-whole label-left)

      first-is : first_child cs c ≡ whole a
      first-is =
          let q = first-choice cs c in
          let h = subst (λ (l : ℕ). HasLabel l (first_child cs c)) low (first-low q) in
          omega (arith, first-le q, at_least a (first_child cs c) (good-first G) S h leads-first)

      rest-is : c - first_child cs c ≡ whole b
      rest-is = omega (arith, first-is)

      large-join : 1 < size c
      large-join = omega (arith, sizes, some-leaves (drawn a), some-leaves (drawn b))

module _ (cs : List ℕ) (large : (c : ℕ) → Memᴰ c cs → 2 ≤ size c) where
  -- the drawing is what grows from the list
  grows : (k : ℕ) (m : Multi) → Good (drawn m) → Canonical (drawn m) → Tidy m → Told cs m → leaves (drawn m) ≤ suc k → grow k cs (whole m) ≡ drawn m
  unfolding grow
  grows zero (Multi.tip n) G C Y H h = ap leaf (lowest-least G)
  grows (suc k) (Multi.tip n) G C Y H h = go (leb (size c) 1) (nleb→lt (size c) 1) (fork (grow k cs (first_child cs c)) (grow k cs (c - first_child cs c)))
    where
      c : ℕ
      c = 2 ^ (n - 1)

      go : (q : Bool) → (T (not q) → 1 < size c) → (t : Tree) → cond q (leaf (lowest c)) t ≡ leaf n
      go true f t = ap leaf (lowest-least G)
      go false f t = absurd (omega (arith, f tt, size-leaves G))
  grows zero (join node a b) G C Y H h = absurd (omega (arith, some-leaves (drawn a), some-leaves (drawn b)))
  grows (suc k) (join node a b) G C Y H h =
      let p = grows k a (good-first G) C.0 Y.1 (told-left node a b G cs large H) (omega (arith, some-leaves (drawn b))) in
      let r = grows k b (good-second G) C.1 Y.2 (told-right node a b G cs large H) (omega (arith, some-leaves (drawn a))) in
      let e = ap (grow k cs) (first-is node a b G cs large H C Y.0) in
      let f = ap (grow k cs) (rest-is node a b G cs large H C Y.0) in
      go (leb (size w) 1) (leb→le (size w) 1) (e ∙ p) (f ∙ r)
    where
      w : ℕ
      w = whole a + whole b

      both : Tree
      both = fork (grow k cs (first_child cs w)) (grow k cs (w - first_child cs w))

      go : (q : Bool) → (T q → size w ≤ 1) → grow k cs (first_child cs w) ≡ drawn a → grow k cs (w - first_child cs w) ≡ drawn b
          → cond q (leaf (lowest w)) both ≡ fork (drawn a) (drawn b)
      go true f p r = absurd (omega (arith, f tt, large-join node a b G cs large H C Y.0))
      go false f p r = ap₂ fork p r

  -- and the nodes are those that the list marks
  marks : (m : Multi) → Good (drawn m) → Told cs m → mark cs (drawn m) ≡ m
  unfolding mark
  marks (Multi.tip n) G H = refl
  marks (join node a b) G H =
      ap (λ (q : Bool). join q (mark cs (drawn a)) (mark cs (drawn b))) (node-told node a b G cs large H)
      ∙ ap₂ (join node) (marks a (good-first G) (told-left node a b G cs large H)) (marks b (good-second G) (told-right node a b G cs large H))

-- there is no other
pub majority-unique : (t : Tree) (ts : List Tree) → EachGood (t ∷ ts) → (m : Multi) → IsMajority (t ∷ ts) m → m ≡ majority_tree (t ∷ ts)
unfolding majority_tree
majority-unique t ts A m M =
    let cs = chosen (t ∷ ts) in
    let large = (chosen-family (t ∷ ts) A).large in
    let H : Told cs m = λ d. (
      λ i. ((chosen-iff (t ∷ ts) d).1 ((M.has d).0 i), clades-under (drawn m) M.good d (node-clade d m i)),
      λ (i, _). (M.has d).1 ((chosen-iff (t ∷ ts) d).0 i),
    ) in
    let e = grows cs large max_label m M.good M.ordered M.tidy H (omega (arith, leaves-64 M.good)) in
    sym (marks cs large m M.good H) ∙ ap (mark cs) (sym e) ∙ ap (λ (x : ℕ). mark cs (grow max_label cs x)) (M.whole t (Memᴰ.head refl))

-- it is one tree, and not some side by side
pub majority-single : (t : Tree) (ts : List Tree) → EachGood (t ∷ ts) → OneSet (clade t) (t ∷ ts) → Single (majority_tree (t ∷ ts))
majority-single t ts A one = go (majority_tree (t ∷ ts)) (majority-tree t ts A one)
  where
    G : Good t
    G = A t (Memᴰ.head refl)

    go : (m : Multi) → IsMajority (t ∷ ts) m → Single m
    go (Multi.tip n) M = tt
    go (join node a b) M =
        let e = M.whole t (Memᴰ.head refl) in
        let h : 2 ≤ leaves t = omega (arith, ap size e, size-leaves M.good, size-leaves G, some-leaves (drawn a), some-leaves (drawn b)) in
        let i = (M.has (clade t)).1 (whole-majority t ts A one h) in
        subst T (sym (own-node node a b M.good (join-cases (whole a + whole b) node a b (Memᴰ.cast e i)))) tt
