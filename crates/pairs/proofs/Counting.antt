-- How many forests the search compares, cut by cut: a cut counts where the clade that it takes away is met at a node of the other tree.
-- Assumes nothing.
use mathlib.Core.Path.{◌≡◌, refl, sym, ap, subst, ◌∙◌}
use mathlib.Core.Bool.{Bool}
use mathlib.Core.List.{List, [], ◌∷◌}
use Prim.Native.Nat.{ℕ, suc, ◌+◌, ◌-◌, ◌<◌, ◌≤◌}
use native.Mathlib.Omega.{arith}
use borrow.Author.Count.{below_more}
use lib.Dec.{T}
use lib.ListN.{length, get_or, drop, drop_of_length-le}
use lib.Seq.{drop-cons}
use Rattle.meaning.specs.Lists.{bit}
use Rattle.meaning.specs.Tree.{Tree, Good, Canonical, canon}
use Rattle.meaning.specs.Reading.{same_labels}
use Rattle.meaning.specs.Move.{Cut, cuts}
use Rattle.meaning.specs.Decide.{is_same_forest}
use Rattle.meaning.specs.Compared.{is_sharing, has_clade, through}
use Rattle.meaning.proofs.Lists.{any-mem, mem-any, number, numbered}
use Rattle.meaning.proofs.Sums.{bit-one, bit-none}
use Rattle.meaning.proofs.Same.{good-first}
use Rattle.meaning.proofs.Canon.{canonical-canon}
use Rattle.meaning.proofs.Clade.{clade-iff}
use Rattle.meaning.proofs.Moves.{prune-good}
use Rattle.meaning.proofs.Decide.{forest-test}
use Rattle.meaning.proofs.Compared.{clade-test, stops, goes_on}
use Rattle.held.specs.Held.{nodes, Holds, cut_in}
use Rattle.held.proofs.Laws.{each}
use Rattle.held.proofs.Cut.{cuts-nodes, cut-is, canonical-pruned}
use Rattle.pairs.specs.Pair.{Marked, SameForest}
use Rattle.pairs.proofs.Search.{CutAt, Other, cut-at, pruned-mark}

-- the cut at node p of a tree
abbrev at : Tree → ℕ → Cut
at t p = cut_in t (p - 1)

module _ {xs m : List ℕ} {p : ℕ} (k : CutAt xs m p) (t : Tree) (g : Holds xs 0 t) where
  is_cut : p - 1 < length (cuts t)
  is_cut = each (λ (v : Tree). p - 1 < length (cuts v)) k.cut.holds k.cut.is_cut t g

  good-pruned : Good (at t p).pruned
  good-pruned = good-first (prune-good (cut-is t (p - 1) is_cut) (each Good k.cut.holds k.good t g))

  pruned-canonical : canon (at t p).pruned ≡ (at t p).pruned
  pruned-canonical = canonical-canon (at t p).pruned (canonical-pruned t (p - 1) is_cut (each Canonical k.cut.holds k.cut.in_order.canonical t g))

-- ---- a cut of the one tree beside one of the other
module _ {xs m ys n : List ℕ} {p q : ℕ} (k : CutAt xs m p) (k' : CutAt ys n q) (t u : Tree) (g : Holds xs 0 t) (h : Holds ys 0 u) where
  -- they take away the same clade exactly where the numbers at their nodes are equal
  marks-met : get_or m p 0 ≡ get_or n q 0 → T (same_labels (at t p).pruned (at u q).pruned)
  marks-met e =
      (clade-test (at t p).pruned (at u q).pruned).1 ((clade-iff (good-pruned k t g) (good-pruned k' u h)).0 (sym (pruned-mark k t g) ∙ e ∙ pruned-mark k' u h))

  met-marks : T (same_labels (at t p).pruned (at u q).pruned) → get_or m p 0 ≡ get_or n q 0
  met-marks s =
      pruned-mark k t g ∙ (clade-iff (good-pruned k t g) (good-pruned k' u h)).1 ((clade-test (at t p).pruned (at u q).pruned).0 s) ∙ sym (pruned-mark k' u h)

  -- so the other tree has the clade
  has-clade : get_or m p 0 ≡ get_or n q 0 → T (has_clade (cuts u) (at t p))
  has-clade e = mem-any (λ d. same_labels (at t p).pruned d.pruned) (numbered (cuts u) (record { rest = u; pruned = u }) (q - 1) (is_cut k' u h)) (marks-met e)

  -- and where they have the same forest, it shares that
  shares : SameForest (at t p) (at u q) → T (is_sharing (cuts u) (at t p))
  shares f =
      mem-any (is_same_forest (at t p)) (numbered (cuts u) (record { rest = u; pruned = u }) (q - 1) (is_cut k' u h))
      ((forest-test (at t p) (at u q)).1 (f.rest, ap canon f.pruned))

  -- the forests are those that the test finds equal
  same-forest : T (is_same_forest (at t p) (at u q)) → SameForest (at t p) (at u q)
  same-forest s =
      let (rest, pruned) = (forest-test (at t p) (at u q)).0 s in
      record { pruned = sym (pruned-canonical k t g) ∙ pruned ∙ pruned-canonical k' u h; rest = rest }

-- ---- a cut of the one tree beside all of the other; v is the width of the other tree
module _ {xs m ys n : List ℕ} {p v : ℕ} (k : CutAt xs m p) (M : Marked ys n) (w : v ≡ nodes M.whole.tree) (t u : Tree) (g : Holds xs 0 t) (h : Holds ys 0 u) where
  -- a cut of it that passes a test stands at a node
  found_at : (test : Cut → Bool) {d : Cut} → T (test d) → (i : ℕ) × (i < length (cuts u)) × (cut_in u i ≡ d) → (q : ℕ) × (q < v) × (1 ≤ q) × T (test (at u q))
  found_at test s (i, lt, e) =
      let z : i + 1 - 1 ≡ i = omega arith in
      let width : v ≡ nodes u = w ∙ ap nodes (each (λ (x : Tree). M.whole.tree ≡ x) M.whole.holds refl u h) in
      (i + 1, omega (arith, width, cuts-nodes u), omega arith, rw z (subst (λ (d : Cut). T (test d)) (sym e) s))

  no-clade : ((q : ℕ) → q < v → 1 ≤ q → ¬ (get_or m p 0 ≡ get_or n q 0)) → ¬ T (has_clade (cuts u) (at t p))
  no-clade none s =
      let (d, mem, e) = any-mem (λ d. same_labels (at t p).pruned d.pruned) (cuts u) s in
      let (q, lt, low, f) = found_at (λ d. same_labels (at t p).pruned d.pruned) e (number (record { rest = u; pruned = u }) mem) in
      none q lt low (met-marks k (cut-at M w low lt) t u g h f)

  no-share : ((q : ℕ) → q < v → 1 ≤ q → Other xs p ys q) → ¬ T (is_sharing (cuts u) (at t p))
  no-share others s =
      let (d, mem, e) = any-mem (is_same_forest (at t p)) (cuts u) s in
      let (q, lt, low, f) = found_at (is_same_forest (at t p)) e (number (record { rest = u; pruned = u }) mem) in
      others q lt low t u g h (same-forest k (cut-at M w low lt) t u g h f)

-- ---- what the loops know
-- the number that was counted before node p, and what is counted from there on, is the whole number
abbrev pub Counted : List ℕ → List ℕ → ℕ → ℕ → Type 0
Counted xs ys p forests = (t u : Tree) → Holds xs 0 t → Holds ys 0 u → through (cuts u) (cuts t) ≡ forests + through (cuts u) (drop (p - 1) (cuts t))

pub none-counted : (xs ys : List ℕ) → Counted xs ys 1 0
none-counted xs ys t u g h = omega arith

-- `forests` is one more than `before` where one of the first v nodes has the number `gone`; it is the same where none below q has it
pub data Met (n : List ℕ) (v gone q before forests : ℕ) : Type 0 where
  unmet : forests ≡ before → ((j : ℕ) → j < q → 1 ≤ j → ¬ (gone ≡ get_or n j 0)) → Met n v gone q before forests
  met : forests ≡ before + 1 → (j : ℕ) → j < v → 1 ≤ j → gone ≡ get_or n j 0 → Met n v gone q before forests

pub none-met : {n : List ℕ} {v gone before : ℕ} → Met n v gone 1 before before
none-met = unmet refl (λ j lt low. absurd (omega arith))

pub met-few : {n : List ℕ} {v gone q before forests : ℕ} → Met n v gone q before forests → forests ≤ before + 1
met-few (unmet e none) = omega (arith, e)
met-few (met e j lt low f) = omega (arith, e)

-- the node q has it, or has another
module _ {n : List ℕ} {v gone q before forests : ℕ} where
  pub met-here : forests ≡ before + 1 → q < v → 1 ≤ q → get_or n q 0 ≡ gone → Met n v gone (q + 1) before forests
  met-here e lt low f = met e q lt low (sym f)

  pub met-on : {forests' : ℕ} → forests' ≡ forests → ¬ (get_or n q 0 ≡ gone) → Met n v gone q before forests → Met n v gone (q + 1) before forests'
  met-on e other (unmet e' none) = unmet (e ∙ e') (below_more (λ (j : ℕ). 1 ≤ j → ¬ (gone ≡ get_or n j 0)) q none (λ _ f. other (sym f)))
  met-on e other (met e' j lt low f) = met (e ∙ e') j lt low f

module _ {xs m ys : List ℕ} {p : ℕ} (before : ℕ) (k : CutAt xs m p) (C : Counted xs ys p before) (t u : Tree) (g : Holds xs 0 t) (h : Holds ys 0 u) where
  from-here : through (cuts u) (cuts t) ≡ before + through (cuts u) (at t p ∷ drop p (cuts t))
  from-here =
      let z : suc (p - 1) ≡ p = omega (arith, k.node) in
      let next = drop-cons (cuts t) (p - 1) (record { rest = t; pruned = t }) (is_cut k t g) ∙ ap (λ (i : ℕ). at t p ∷ drop i (cuts t)) z in
      C t u g h ∙ ap (λ (cs : List Cut). before + through (cuts u) cs) next

  -- the search is over: this cut counts, and none behind it
  pub counted-here : {n : List ℕ} {q : ℕ} → CutAt ys n q → get_or n q 0 ≡ get_or m p 0 → SameForest (at t p) (at u q) → before + 1 ≡ through (cuts u) (cuts t)
  counted-here k' e f =
      omega (arith, from-here, stops (cuts u) (at t p) (drop p (cuts t)) (shares k k' t u g h f), bit-one (has_clade (cuts u) (at t p)) (has-clade k k' t u g h (sym e)))

-- no cut of the other tree has the same forest: it goes on behind this cut
pub counted-on : {xs m ys n : List ℕ} {p v before forests : ℕ} → CutAt xs m p → (M : Marked ys n) → v ≡ nodes M.whole.tree
    → {q : ℕ} → v ≤ q → Counted xs ys p before → Met n v (get_or m p 0) q before forests → ((j : ℕ) → j < v → 1 ≤ j → Other xs p ys j) → Counted xs ys (p + 1) forests
counted-on {m} {n} {p} {v} {before} {forests} k M w {q} all C b others t u g h =
    let z : p + 1 - 1 ≡ p = omega arith in
    rw z (omega (arith, from-here before k C t u g h, goes_on (cuts u) (at t p) (drop p (cuts t)) (no-share k M w t u g h others), counts b))
  where
    counts : Met n v (get_or m p 0) q before forests → forests ≡ before + bit (has_clade (cuts u) (at t p))
    counts (unmet e none) = omega (arith, e, bit-none (has_clade (cuts u) (at t p)) (no-clade k M w t u g h (λ j lt. none j (omega arith))))
    counts (met e j lt low f) = omega (arith, e, bit-one (has_clade (cuts u) (at t p)) (has-clade k (cut-at M w low lt) t u g h f))

-- all cuts are behind: the number is whole
pub all-counted : {xs ys : List ℕ} {p forests : ℕ} → Counted xs ys p forests → (t u : Tree) → Holds xs 0 t → Holds ys 0 u → nodes t ≤ p → forests ≡ through (cuts u) (cuts t)
all-counted {p} {forests} C t u g h lt =
    let rest : drop (p - 1) (cuts t) ≡ [] = drop_of_length-le (cuts t) {i = p - 1} (omega (arith, cuts-nodes t)) in
    omega (arith, C t u g h ∙ ap (λ (cs : List Cut). forests + through (cuts u) cs) rest)
