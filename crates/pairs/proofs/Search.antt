-- The search for a forest that two held trees share: which cuts there are, and what the tests tell of two of them.
-- Assumes nothing.
use mathlib.Core.Path.{◌≡◌, sym, ap, subst, subst₂, ◌∙◌}
use mathlib.Core.Bool.{Bool, true, false}
use mathlib.Core.List.{List}
use Prim.Native.Nat.{ℕ, ◌+◌, ◌-◌, ◌<◌, ◌≤◌}
use native.Mathlib.Omega.{arith}
use lib.ListN.{length, get_or}
use Rattle.meaning.specs.Limits.{max_nodes}
use Rattle.meaning.specs.Tree.{Tree, Good, canon}
use Rattle.meaning.specs.Move.{cuts}
use Rattle.meaning.specs.Clade.{clade}
use Rattle.lent.specs.Runs.{Says}
use Rattle.lent.proofs.Says.{said, denied, says}
use Rattle.held.specs.Held.{nodes, Holds, Held, HasCut, cut_in}
use Rattle.held.specs.Node.{subtree}
use Rattle.held.specs.declared.node.Node.{Node}
use Rattle.held.proofs.Subtree.{at-node}
use Rattle.pairs.specs.Ordered.{InOrder}
use Rattle.held.proofs.Laws.{inside, each}
use Rattle.held.proofs.Cut.{cuts-nodes, cut_holds}
use Rattle.clades.specs.Marks.{Noted}
use Rattle.pairs.specs.Left.{left, Alike, Cutting}
use Rattle.pairs.specs.Pair.{OrderedCut, Marked, SameForest, SharesForest}
use Rattle.pairs.proofs.Left.{left-rest}

pub marked-held : {xs m : List ℕ} → Marked xs m → Held xs 0
marked-held p = record { tree = p.whole.tree; holds = p.whole.holds }

-- the node p of the tree that xs holds has a cut, number p - 1, and m has the clades of the nodes
pub record CutAt (xs m : List ℕ) (p : ℕ) : Type 0 where
  pub node : 1 ≤ p
  pub cut : OrderedCut xs (p - 1)
  pub good : Good cut.tree
  pub few : nodes cut.tree ≤ max_nodes
  pub marks : Noted clade xs m

-- every node but the root has one; w is the width of the whole tree, as `width` says
pub cut-at : {xs m : List ℕ} {w p : ℕ} (k : Marked xs m) → w ≡ nodes k.whole.tree → 1 ≤ p → p < w → CutAt xs m p
cut-at k e low lt =
    let h = k.whole in
    record {
      node = low;
      cut = record { tree = h.tree; holds = h.holds; in_order = h.in_order; is_cut = omega (arith, cuts-nodes h.tree) };
      good = k.good;
      few = omega (arith, inside h.holds, h.long);
      marks = k.marks;
    }

-- what a cut takes away is held at its node
module _ {xs : List ℕ} {c : ℕ} (k : HasCut xs c) where
  pub pruned-held : Held xs (c + 1)
  pruned-held = record { tree = (cut_in k.tree c).pruned; holds = cut_holds k }

  pub pruned-holds : (t : Tree) → Holds xs 0 t → Holds xs (c + 1) (cut_in t c).pruned
  pruned-holds = each (λ (t : Tree). Holds xs (c + 1) (cut_in t c).pruned) k.holds (cut_holds k)

module _ {xs : List ℕ} {c : ℕ} (k : OrderedCut xs c) where
  pub has-cut : HasCut xs c
  has-cut = record { tree = k.tree; holds = k.holds; is_cut = k.is_cut }

  -- and what it leaves is what is left without that node, of the tree at the root x
  pub cutting : (x : Node) → (x.tree.now ≡ xs) × (x.at ≡ 0) → Cutting (c + 1) x.at (subtree x)
  cutting x new =
      let e : subtree x ≡ k.tree = at-node x new k.holds in
      record {
        in_order = subst InOrder (sym e) k.in_order;
        below = record { above = omega (arith, new.1); inside = omega (arith, new.1, ap nodes e, cuts-nodes k.tree, k.is_cut) };
      }

  rest-is : (x : Node) → (x.tree.now ≡ xs) × (x.at ≡ 0) → (t : Tree) → Holds xs 0 t → left (c + 1) x.at (subtree x) ≡ (cut_in t c).rest
  rest-is x new t h =
      let e : 0 + 1 + c ≡ c + 1 = omega arith in
      let lt = each (λ (t : Tree). c < length (cuts t)) k.holds k.is_cut t h in
      ap (λ (i : ℕ). left (c + 1) i (subtree x)) new.1 ∙ ap (left (c + 1) 0) (at-node x new h) ∙ subst (λ (p : ℕ). left p 0 t ≡ (cut_in t c).rest) e (left-rest 0 t c lt)

pub says-rest : {xs ys : List ℕ} {c d : ℕ} → OrderedCut xs c → OrderedCut ys d → (x y : Node) → (x.tree.now ≡ xs) × (x.at ≡ 0) → (y.tree.now ≡ ys) × (y.at ≡ 0)
    → (r : Bool) → Says r (Alike (left (c + 1) x.at (subtree x)) (left (d + 1) y.at (subtree y)))
    → (t u : Tree) → Holds xs 0 t → Holds ys 0 u → Says r (canon (cut_in t c).rest ≡ canon (cut_in u d).rest)
says-rest k k' x y new new' r told t u g h = subst₂ (λ (s v : Tree). Says r (Alike s v)) (rest-is k x new t g) (rest-is k' y new' u h) told

-- the clade that a cut takes away stands at its node
module _ {xs m : List ℕ} {p : ℕ} (k : CutAt xs m p) where
  node_in : p < nodes k.cut.tree
  node_in = omega (arith, cuts-nodes k.cut.tree, k.cut.is_cut, k.node)

  pub node-fits : p < max_nodes
  node-fits = omega (arith, node_in, k.few)

  pub pruned-mark : (t : Tree) → Holds xs 0 t → get_or m p 0 ≡ clade (cut_in t (p - 1)).pruned
  pruned-mark t h =
      let e : p - 1 + 1 ≡ p = omega (arith, k.node) in
      k.marks k.cut.tree k.cut.holds p (omega arith) node_in (cut_in t (p - 1)).pruned (rw e at (pruned-holds (has-cut k.cut) t h))

-- the cuts at node p of the one tree and node q of the other have two forests
abbrev pub Other : List ℕ → ℕ → List ℕ → ℕ → Type 0
Other xs p ys q = (t u : Tree) → Holds xs 0 t → Holds ys 0 u → ¬ SameForest (cut_in t (p - 1)) (cut_in u (q - 1))

-- where the clades that they take away differ
pub other-clade : {xs m ys n : List ℕ} {p q : ℕ} → CutAt xs m p → CutAt ys n q → ¬ (get_or m p 0 ≡ get_or n q 0) → Other xs p ys q
other-clade k k' differ t u g h f = differ (pruned-mark k t g ∙ ap clade f.pruned ∙ sym (pruned-mark k' u h))

-- r tells whether the same subtree is pruned, and q whether the same tree is left
module _ {xs ys : List ℕ} (c d : ℕ) (r : Bool) (prunes : (t u : Tree) → Holds xs 0 t → Holds ys 0 u → Says r ((cut_in t c).pruned ≡ (cut_in u d).pruned)) where
  pub other-pruned : r ≡ false → (t u : Tree) → Holds xs 0 t → Holds ys 0 u → ¬ SameForest (cut_in t c) (cut_in u d)
  other-pruned e t u g h f = denied ((cut_in t c).pruned ≡ (cut_in u d).pruned) e (prunes t u g h) f.pruned

  pub says-forest : r ≡ true → (q : Bool) → ((t u : Tree) → Holds xs 0 t → Holds ys 0 u → Says q (canon (cut_in t c).rest ≡ canon (cut_in u d).rest))
      → (t u : Tree) → Holds xs 0 t → Holds ys 0 u → Says q (SameForest (cut_in t c) (cut_in u d))
  says-forest e q leaves t u g h =
      says (canon (cut_in t c).rest ≡ canon (cut_in u d).rest) (SameForest (cut_in t c) (cut_in u d))
      (λ rest. record { pruned = said ((cut_in t c).pruned ≡ (cut_in u d).pruned) e (prunes t u g h); rest = rest }) (λ f. f.rest) q (leaves t u g h)

-- two cuts have the same forest
pub shared : {xs ys : List ℕ} {c d : ℕ} → OrderedCut xs c → OrderedCut ys d → ((t u : Tree) → Holds xs 0 t → Holds ys 0 u → SameForest (cut_in t c) (cut_in u d))
    → (t u : Tree) → Holds xs 0 t → Holds ys 0 u → SharesForest t u
shared {c} {d} k k' f t u g h = record {
  one = c;
  two = d;
  is_cut = each (λ (v : Tree). c < length (cuts v)) k.holds k.is_cut t g;
  is-cut' = each (λ (v : Tree). d < length (cuts v)) k'.holds k'.is_cut u h;
  agree = f t u g h;
}

-- no two cuts have the same forest
pub none : {xs ys : List ℕ} {w v : ℕ} (t u : Tree) → Holds xs 0 t → Holds ys 0 u → w ≡ nodes t → v ≡ nodes u
    → ((p : ℕ) → p < w → 1 ≤ p → (q : ℕ) → q < v → 1 ≤ q → Other xs p ys q) → ¬ SharesForest t u
none t u g h e e' others s =
    let c : s.one + 1 - 1 ≡ s.one = omega arith in
    let d : s.two + 1 - 1 ≡ s.two = omega arith in
    others (s.one + 1) (omega (arith, s.is_cut, cuts-nodes t)) (omega arith) (s.two + 1) (omega (arith, s.is-cut', cuts-nodes u)) (omega arith) t u g h (rw (c, d) s.agree)
