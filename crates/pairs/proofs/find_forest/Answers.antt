-- A cut of each tree is looked at where the loops are; they share a forest where the search is left, and no cuts do where it is not.
use Rattle.std.proofs.Common.{◌≡◌, ℕ, ◌-◌, ◌≤◌, ◌<◌, ◌∙◌, sym, ap, arith}
use borrow.Author.Count.{below_more}
use Rattle.lent.proofs.Says.{said, denied, deny}
use Rattle.meaning.specs.Tree.{Tree}
use Rattle.held.specs.Held.{Holds, nodes, cut_in}
use Rattle.held.proofs.Subtree.{at-node}
use Rattle.pairs.specs.Pair.{SameForest, SharesForest}
use Rattle.pairs.proofs.Search.{marked-held, CutAt, Other, cut-at, node-fits, other-clade, shared, none}
use Rattle.pairs.proofs.Counting.{met-here, met-on, met-few, counted-here, counted-on, all-counted}
use Rattle.pairs.proofs.find_forest.Goals.{At-search, In-search, In-loop-q, then-n-q+else-same_forest, else-n-q}
use Rattle.pairs.proofs.find_forest.Goals as goal

-- the widths are those of whatever trees are held
wide-x : (c : At-search) (t : Tree) → Holds c.args.x.now 0 t → c.width-nodes.result ≡ nodes t
wide-x c t h = c.width-nodes.ensures ∙ ap nodes (at-node c.new.result c.new.ensures h)

wide-y : (c : At-search) (u : Tree) → Holds c.args.y.now 0 u → c.width-others.result ≡ nodes u
wide-y c u h = c.width-others.ensures ∙ ap nodes (at-node c.new-2.result c.new-2.ensures h)

pub new-requires : goal.new-requires
new-requires c = marked-held c.requires.0

pub new-requires-2 : goal.new-requires-2
new-requires-2 c = marked-held c.requires.1

cut-of-x : (c : In-search) → CutAt c.args.x.now c.args.m.now c.search.p
cut-of-x c = let k = c.requires.0 in cut-at k (wide-x (goal.at.In-search c).At-search k.whole.tree k.whole.holds) (omega arith) (omega arith)

cut-of-y : (c : In-loop-q) → CutAt c.args.y.now c.args.n.now c.loop-q.q
cut-of-y c = let k = c.requires.1 in cut-at k (wide-y (goal.at.In-loop-q c).At-search k.whole.tree k.whole.holds) (omega arith) (omega arith)

pub offset_bounds-m-p : goal.offset_bounds-m-p
offset_bounds-m-p c = omega (arith, node-fits (cut-of-x (goal.at.offset_bounds-m-p c).In-search))

pub bounds-m-p : goal.bounds-m-p
bounds-m-p c = node-fits (cut-of-x (goal.at.bounds-m-p c).In-search)

pub offset_bounds-n-q : goal.offset_bounds-n-q
offset_bounds-n-q c = omega (arith, node-fits (cut-of-y (goal.at.offset_bounds-n-q c).In-loop-q))

pub bounds-n-q : goal.bounds-n-q
bounds-n-q c = node-fits (cut-of-y (goal.at.bounds-n-q c).In-loop-q)

pub same_forest-requires : goal.same_forest-requires
same_forest-requires c = ((cut-of-x (goal.at.same_forest-requires c).In-search).cut, (cut-of-y (goal.at.same_forest-requires c).In-loop-q).cut)

pub loop-q-preserved : goal.loop-q-preserved
loop-q-preserved c =
    let inv = c.loop-q.invariant in
    let p = c.search.p in
    let q = c.loop-q.q in
    elim c.if-n-q.branch [
      | then-n-q+else-same_forest w ↦ (
        inv.0,
        below_more _ _ inv.1 (λ _ t u g h. denied (SameForest (cut_in t (p - 1)) (cut_in u (q - 1))) w.if-same_forest.false (w.same_forest.ensures t u g h)),
        met-here w.forests-is (omega arith) (omega arith) w.if-n-q.true,
      )
      | else-n-q w ↦ (
        inv.0,
        below_more _ _ inv.1 (λ _. other-clade (cut-of-x (goal.at.loop-q-preserved c).In-search) (cut-of-y (goal.at.loop-q-preserved c).In-loop-q) (λ e. w.if-n-q.false (sym e))),
        met-on w.forests-is w.if-n-q.false inv.2,
      )
    ]

pub search-preserved : goal.search-preserved
search-preserved c =
    let inv = c.loop-q.invariant in
    let M = c.requires.1 in
    let passed : (j : ℕ) → j < c.width-others.result → 1 ≤ j → Other c.args.x.now c.search.p c.args.y.now j = λ j lt low. inv.1 j (omega arith) low in (
      omega (arith, c.search.invariant.0, met-few inv.2),
      inv.0,
      below_more _ _ c.search.invariant.2 (λ _. passed),
      counted-on (cut-of-x (goal.at.search-preserved c).In-search) M (wide-y (goal.at.search-preserved c).At-search M.whole.tree M.whole.holds) (omega arith) c.search.invariant.3 inv.2 passed,
    )

pub returns-after-search : goal.returns-after-search
returns-after-search c t u g h =
    let inv = c.search.invariant in
    let at = (goal.at.returns-after-search c).At-search in
    record {
      shares = deny (SharesForest t u) inv.1 (none t u g h (wide-x at t g) (wide-y at u h) (λ i lt low. inv.2 i (omega arith) low));
      number = all-counted {p = c.search.p} inv.3 t u g h (omega (arith, wide-x at t g));
    }

pub returns-then-same_forest : goal.returns-then-same_forest
returns-then-same_forest c t u g h =
    let p = c.search.p in
    let q = c.loop-q.q in
    let one = cut-of-x (goal.at.returns-then-same_forest c).In-search in
    let two = cut-of-y (goal.at.returns-then-same_forest c).In-loop-q in
    let same : (t u : Tree) → Holds c.args.x.now 0 t → Holds c.args.y.now 0 u → SameForest (cut_in t (p - 1)) (cut_in u (q - 1)) = λ t u g h. said (SameForest (cut_in t (p - 1)) (cut_in u (q - 1))) c.if-same_forest.true (c.same_forest.ensures t u g h) in
    record {
      shares = shared one.cut two.cut same t u g h;
      number = counted-here c.search.forests one c.search.invariant.3 t u g h two c.if-n-q.true (same t u g h);
    }
