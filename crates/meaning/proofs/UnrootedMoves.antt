-- Lemma 2.3: two unrooted trees are one move apart exactly when they share a forest of two components, the moved one rooted and the other not.
-- Assumes nothing.
use mathlib.Core.Logic.{◌↔◌}
use Prim.Native.Nat.{ℕ}
use Rattle.meaning.specs.Tree.{Tree, leaf, fork, Distinct, SameClade}
use Rattle.meaning.specs.Move.{first, Graft, above, on_first, on_second, OneMove, Cut, parts, Shares}
use Rattle.meaning.specs.Unrooted.{SameSplits, Rooting, OneMoveU, ApartU}
use Rattle.meaning.proofs.Same.{◌≈◌, same, ≈-refl, ≈-sym, flip, clade-trans, ≈-topology}
use Rattle.meaning.proofs.Moves.{graft-prune, prune-graft, ≈-graft, prune-in, graft-in, graft-distinct, moved-distinct}
use Rattle.meaning.proofs.Splits.{≈-splits, splits-sym, splits-trans, topology-splits}
use Rattle.meaning.proofs.Rootings.{◌∼◌, order, roll, ∼-refl, ∼-trans, ∼-sym, shift, shift_back, ∼-distinct, ∼-splits, splits-∼}

-- the edge by which s is grafted is an edge of the whole: s on its one side, on the other a rooting of what s was grafted on
graft-edge-in : {s a w : Tree} → Graft s a w → (b : Tree) → (q : Tree) × (fork w b ∼ fork s q) × (q ∼ fork a b)
graft-edge-in {s} {a} above b = (fork a b, shift s a b, ∼-refl (fork a b))
graft-edge-in (on_first {a} {b = c} {u} g) b =
    let (q, e, f) = graft-edge-in g (fork c b) in
    (q, ∼-trans (shift u c b) e, ∼-trans f (shift_back a c b))
graft-edge-in (on_second {a = c} {b = a} {u} g) b =
    let (q, e, f) = graft-edge-in g (fork c b) in
    (q, ∼-trans (order (same (flip c u) (≈-refl b))) (∼-trans (shift u c b) e), ∼-trans f (∼-trans (shift_back a c b) (order (same (flip a c) (≈-refl b)))))

graft-edge : {s r w : Tree} → Graft s r w → (q : Tree) × (w ∼ fork s q) × (q ∼ r)
graft-edge {s} {r} above = (r, ∼-refl (fork s r), ∼-refl r)
graft-edge (on_first {b} g) = graft-edge-in g b
graft-edge (on_second {a} {b} {u} g) = let (q, e, f) = graft-edge-in g a in (q, ∼-trans (order (flip a u)) e, ∼-trans f (order (flip b a)))

-- where the root of what stays stands, makes no difference to a graft
graft-shift : {s a b c w : Tree} → Graft s (fork (fork a b) c) w → (v : Tree) × Graft s (fork a (fork b c)) v × (w ∼ v)
graft-shift {s} {a} {b} {c} above =
    (fork a (fork b (fork s c)), on_second (on_second above), ∼-trans (order (same (≈-refl s) (flip (fork a b) c))) (∼-trans (shift_back s c (fork a b)) (∼-trans (order (flip (fork s c) (fork a b))) (shift a b (fork s c)))))
graft-shift {s} {a} {b} {c} (on_first above) =
    (fork a (fork b (fork s c)), on_second (on_second above), ∼-trans (order (same (flip s (fork a b)) (≈-refl c))) (∼-trans (shift (fork a b) s c) (shift a b (fork s c))))
graft-shift {b} {c} (on_first (on_first {u} g)) = (fork u (fork b c), on_first g, shift u b c)
graft-shift {a} {c} (on_first (on_second {u} g)) = (fork a (fork u c), on_second (on_first g), shift a u c)
graft-shift {a} {b} (on_second {u} g) = (fork a (fork b u), on_second (on_second g), shift a b u)

pub graft-∼ : {s r q w : Tree} → r ∼ q → Graft s r w → (v : Tree) × Graft s q v × (w ∼ v)
graft-∼ {s} (order p) g = let (v, h, e) = ≈-graft (≈-refl s) p g in (v, h, order e)
graft-∼ {s} (roll p q) g =
    let (x, h, e) = ≈-graft (≈-refl s) p g in
    let (y, k, f) = graft-shift h in
    let (v, l, i) = graft-∼ q k in
    (v, l, ∼-trans (order e) (∼-trans f i))

-- c is a cut of the unrooted t
abbrev pub AtU : Tree → Cut → Type 0
AtU t c = t ∼ parts c

-- a forest of two components that both trees have: the moved one rooted, the other not
-- the sides that stay have one topology, and so have the sides that are moved, rooted by their cut ends
abbrev pub SamePartsU : Cut → Cut → Type 0
SamePartsU c d = (c.rest ∼ d.rest) × (c.pruned ≈ d.pruned)

abbrev pub ShareU : Tree → Tree → Type 0
ShareU t u = Shares (AtU t) (AtU u) SamePartsU

pub share-sym_unrooted : {t u : Tree} → ShareU t u → ShareU u t
share-sym_unrooted h = record { one = h.two; two = h.one; is_cut = h.is-cut'; is-cut' = h.is_cut; agree = (∼-sym h.agree.0, ≈-sym h.agree.1) }

-- trees of the same unrooted topology have the same forests
pub ∼-share : {t t' u u' : Tree} → t ∼ t' → u ∼ u' → ShareU t u → ShareU t' u'
∼-share p q h = record { one = h.one; two = h.two; is_cut = ∼-trans (∼-sym p) h.is_cut; is-cut' = ∼-trans (∼-sym q) h.is-cut'; agree = (h.agree.0, h.agree.1) }

-- Lemma 2.3
pub move-share_unrooted : {t u : Tree} → Distinct t → Distinct u → OneMoveU t u → ShareU t u
move-share_unrooted D E m =
    let F = m.edge.distinct in
    let (q, e, f) = graft-edge m.graft in
    record {
      one = m.cut;
      two = record { rest = q; pruned = m.cut.pruned };
      is_cut = splits-∼ D F m.edge.splits;
      is-cut' = ∼-trans (∼-sym (splits-∼ (graft-distinct m.graft F) E m.gives)) e;
      agree = (∼-sym f, ≈-refl m.cut.pruned);
    }

pub share-move_unrooted : {t u : Tree} → Distinct t → ShareU t u → OneMoveU t u
share-move_unrooted D h =
    let F = ∼-distinct h.is_cut D in
    let (v, g, e) = graft-∼ {s = h.one.pruned} (∼-sym h.agree.0) above in
    record {
      cut = h.one;
      moved = v;
      edge = record { distinct = F; splits = ∼-splits h.is_cut D };
      graft = g;
      gives = ∼-splits (∼-trans (∼-sym e) (∼-trans (order (same h.agree.1 (≈-refl h.two.rest))) (∼-sym h.is-cut'))) (graft-distinct g F);
    }

pub move-iff-share_unrooted : {t u : Tree} → Distinct t → Distinct u → OneMoveU t u ↔ ShareU t u
move-iff-share_unrooted D E = (move-share_unrooted D E, share-move_unrooted D)

pub move-sym_unrooted : {t u : Tree} → Distinct t → Distinct u → OneMoveU t u → OneMoveU u t
move-sym_unrooted D E m = share-move_unrooted E (share-sym_unrooted (move-share_unrooted D E m))

pub apart-sym_unrooted : {t u : Tree} → Distinct t → Distinct u → ApartU t u → ApartU u t
apart-sym_unrooted D E a = (λ e. a.0 (splits-sym e), move-sym_unrooted D E a.1)

-- whether two trees are one move apart hangs on their unrooted topologies only
pub move-splits : {t t' u u' : Tree} → SameSplits t t' → SameSplits u u' → OneMoveU t u → OneMoveU t' u'
move-splits e f m = record { cut = m.cut; moved = m.moved; edge = record { distinct = m.edge.distinct; splits = splits-trans (splits-sym e) m.edge.splits }; graft = m.graft; gives = splits-trans m.gives f }

pub apart-splits : {t t' u u' : Tree} → SameSplits t t' → SameSplits u u' → ApartU t u → ApartU t' u'
apart-splits e f a = (λ g. a.0 (splits-trans e (splits-trans g (splits-sym f))), move-splits e f a.1)

-- a move keeps the labels
graft-clade : {s r w : Tree} → Graft s r w → SameClade (fork s r) w
graft-clade g = (prune-in (graft-prune g), graft-in g)

pub move-labels_unrooted : {t u : Tree} → OneMoveU t u → SameClade t u
move-labels_unrooted m = clade-trans m.edge.splits.0 (clade-trans (graft-clade m.graft) m.gives.0)

-- where one leaf stays, nothing is changed
leaf-graft : {s w : Tree} {n : ℕ} → Graft s (leaf n) w → SameSplits (fork s (leaf n)) w
leaf-graft {s} {n} above = ≈-splits (≈-refl (fork s (leaf n)))

pub leaf-stays : {t u s w : Tree} {n : ℕ} → SameSplits t (fork s (leaf n)) → Graft s (leaf n) w → SameSplits w u → SameSplits t u
leaf-stays e g f = splits-trans e (splits-trans (leaf-graft g) f)

-- a move of rooted trees is one of the unrooted trees
pub move-unrooted : {t u : Tree} → Distinct t → Distinct u → OneMove t u → OneMoveU t u
move-unrooted {t} {u} D E m =
    let (x, g, e) = prune-graft m.prune in
    let (q, f, h) = graft-edge g in
    let (v, k, i) = graft-∼ (∼-sym h) m.graft in
    let p : t ∼ fork m.pruned q = ∼-trans (order (≈-sym e)) f in
    record {
      cut = record { rest = q; pruned = m.pruned };
      moved = v;
      edge = record { distinct = ∼-distinct p D; splits = ∼-splits p D };
      graft = k;
      gives = splits-trans (splits-sym (∼-splits i (moved-distinct m D))) (topology-splits (moved-distinct m D) E m.gives);
    }

-- so two unrooted trees are one move apart exactly when rootings of them are
pub record RootedMove (t u : Tree) : Type 0 where
  pub from : Tree
  pub to : Tree
  pub start : Rooting t from
  pub finish : Rooting u to
  pub move : OneMove from to

pub move-iff-rooted : {t u : Tree} → OneMoveU t u ↔ RootedMove t u
move-iff-rooted {t} {u} = (
  λ m. record { from = parts m.cut; to = m.moved; start = m.edge; finish = record { distinct = graft-distinct m.graft m.edge.distinct; splits = splits-sym m.gives }; move = record { pruned = m.cut.pruned; rest = m.cut.rest; moved = m.moved; prune = first; graft = m.graft; gives = ≈-topology (≈-refl m.moved) } },
  λ m. move-splits (splits-sym m.start.splits) (splits-sym m.finish.splits) (move-unrooted m.start.distinct m.finish.distinct m.move),
)
