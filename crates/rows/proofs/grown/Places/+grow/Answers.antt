use Rattle.std.proofs.Common.{◌≡◌, ◌∙◌, ℕ, ◌+◌, ◌-◌, ◌<◌, drop, arith, ap, subst, refl}
use lib.ListN.{length-set}
use Rattle.meaning.specs.Tree.{Tree}
use Rattle.meaning.proofs.Clade.{clade-some}
use Rattle.lent.proofs.Runs.{wrote-length}
use Rattle.held.specs.Held.{nodes}
use Rattle.held.proofs.Laws.{length-pre}
use Rattle.families.specs.Clades.{size}
use Rattle.families.specs.Grown.{first_child, GrowsTo}
use Rattle.families.proofs.Sizes.{size-le}
use Rattle.families.proofs.Grown.{Forked, grown-fork, first-grown, second-grown}
use Rattle.rows.proofs.Nodes.{grown-low, leaf-written, fork-written}
use Rattle.rows.proofs.Noted.{placed-large, placed_first, first-placed, first-inside, second-placed}
use Rattle.rows.proofs.Places.{row-long}
use Rattle.rows.proofs.grown.Places.+grow.Goals as goal
use Rattle.rows.proofs.grown.Places.+grow.Goals.{After-clade_at-child}

pub returns-then-leaf : goal.returns-then-leaf
returns-then-leaf t c =
    let one = c.requires.placed.alone (omega (arith, c.if-leaf.true)) in
    λ u g. leaf-written u g (omega (arith, one)) c.smallest.ensures c.args.out.now c.args.at

pub bounds-self-from : goal.bounds-self-from
bounds-self-from t c =
    let p = c.requires in
    omega (arith, c.from.ensures, (p.placed.stands (omega (arith, c.if-leaf.false))).0, row-long c.args.self.now.row.now c.args.self.now.noted.a_row)

pub clade_at-child-requires : goal.clade_at-child-requires
clade_at-child-requires t c =
    let p = c.requires in
    (rw c.from.ensures (first-inside c.args.self.now.noted p (omega (arith, c.if-leaf.false))), subst (λ (x : ℕ). 0 < x) p.grows.whole (clade-some p.tree))

-- the first child is known
stands : (t : ℕ) (d : After-clade_at-child t) → 0 < d.args.place
stands t d = omega (arith, d.if-leaf.false)

child : (t : ℕ) (d : After-clade_at-child t) → d.clade_at-child.result ≡ first_child (drop 1 d.args.self.now.row.now) d.args.c
child t d = d.clade_at-child.ensures ∙ rw d.from.ensures (placed_first d.args.self.now.noted d.requires (stands t d))

fork-of : (t : ℕ) (d : After-clade_at-child t) (u : Tree) → GrowsTo (drop 1 d.args.self.now.row.now) d.args.c u → Forked (drop 1 d.args.self.now.row.now) d.args.c u
fork-of t d u g = grown-fork u g (placed-large d.args.self.now.noted d.requires (stands t d))

-- that of the tree for which there is room
abbrev own-fork : (t : ℕ) (d : After-clade_at-child t) → Forked (drop 1 d.args.self.now.row.now) d.args.c d.requires.tree
own-fork t d = fork-of t d d.requires.tree d.requires.grows

pub overflow_add-out : goal.overflow_add-out
overflow_add-out t c = let h = size-le c.args.c in omega (arith, h, c.labels.ensures)

pub grow-next-requires : goal.grow-next-requires
grow-next-requires t c =
    let d = (goal.at.grow-next-requires t c).After-clade_at-child in
    let p = c.requires in
    let F = own-fork t d in (
      omega (arith, F.first-less, ap size (child t d), c.decreases),
      record {
        placed = rw c.from.ensures (first-placed c.args.self.now.noted p (stands t d) (child t d));
        tree = F.first;
        grows = first-grown (child t d) F;
        room = simp length-set (omega (arith, p.room, ap nodes F.is));
      },
    )

pub without-rest-requires : goal.without-rest-requires
without-rest-requires t c = let d = (goal.at.without-rest-requires t c).After-clade_at-child in omega (arith, (own-fork t d).part, child t d)

-- the rest, to which the second child of that tree grows
rest-grows : (t : ℕ) (d : After-clade_at-child t) {r : ℕ} → r ≡ d.args.c - d.clade_at-child.result → GrowsTo (drop 1 d.args.self.now.row.now) r (own-fork t d).second
rest-grows t d e = rw e (second-grown (child t d) (own-fork t d))

pub last_like-second-requires : goal.last_like-second-requires
last_like-second-requires t c = let d = (goal.at.last_like-second-requires t c).After-clade_at-child in grown-low (rest-grows t d c.without-rest.ensures)

pub grow-requires : goal.grow-requires
grow-requires t c =
    let d = (goal.at.grow-requires t c).After-clade_at-child in
    let p = c.requires in
    let F = own-fork t d in
    let w = c.grow-next.ensures F.first (first-grown (child t d) F) in
    let long = wrote-length w ∙ length-set c.args.out.now c.args.at (64 + c.labels.result) in (
      omega (arith, F.second-less, ap (λ (x : ℕ). size (c.args.c - x)) (child t d), ap size c.without-rest.ensures, c.decreases),
      rw c.without-rest.ensures (record {
        placed = rw (c.last_like-second.ensures, c.without-rest.ensures) (second-placed c.args.self.now.noted p (stands t d) (child t d));
        tree = F.second;
        grows = rest-grows t d refl;
        room = omega (arith, p.room, ap nodes F.is, long, w.behind, length-pre F.first);
      }),
    )

pub returns : goal.returns
returns t c =
    let d = (goal.at.returns t c).After-clade_at-child in
    λ u g.
    let F = fork-of t d u g in
    fork-written c.labels.ensures F (c.grow-next.ensures F.first (first-grown (child t d) F)) (c.grow.ensures F.second (rw c.without-rest.ensures (second-grown (child t d) F)))
