-- What decides an unrooted move: the hung trees are one rooted move apart (the side without the smallest label is moved), or one is the other but for the place of the root in a subtree (the side with that label is moved).
-- Assumes nothing.
use mathlib.Core.Path.{◌≡◌, refl, sym, subst}
use mathlib.Core.Logic.{◌↔◌, ◌≢◌, ◌⊎◌, inl, inr}
use mathlib.Core.Bool.{Bool, true, false, cond}
use Prim.Native.Nat.{ℕ}
use lib.Dec.{leb}
use Rattle.meaning.specs.Tree.{Tree, leaf, fork, In, Distinct, SameClade, SameTopology, least, ordered, canon}
use Rattle.meaning.specs.Move.{Prune, first, second, in_first, in_second, OneMove, Apart}
use Rattle.meaning.specs.Unrooted.{SameSplits, Respun, here, spin, hang, canon_unrooted, OneMoveU, ApartU}
use Rattle.meaning.proofs.Same.{◌≈◌, same, ≈-refl, ≈-sym, ≈-trans, flip, ≈-clade, turned}
use Rattle.meaning.proofs.Canon.{canon-≈, ≈-canon, canon-distinct, topology-iff-canon}
use Rattle.meaning.proofs.Moves.{Share, move-share, share-move, ≈-share}
use Rattle.meaning.proofs.Splits.{clade-refl, splits-sym, splits-trans, ≈-splits, shift-distinct, same-sides}
use Rattle.meaning.proofs.Rootings.{◌∼◌, order, ∼-trans, ∼-sym, shift, shift_back, ∼-distinct, ∼-splits, splits-∼, least-same, hang-distinct, splits-hang, splits-iff-canon, canon_unrooted-distinct, canon_unrooted-splits}
use Rattle.meaning.proofs.UnrootedMoves.{ShareU, ∼-share, move-share_unrooted, share-move_unrooted, move-splits, move-unrooted}

-- the labels are the same
beside : {a b c d : Tree} → SameClade a c → SameClade b d → SameClade (fork a b) (fork c d)
beside {a} {b} {c} {d} e f = (into e.0 f.0, into e.1 f.1)
  where
    into : {a b c d : Tree} → ((l : ℕ) → In l a → In l c) → ((l : ℕ) → In l b → In l d) → (l : ℕ) → In l (fork a b) → In l (fork c d)
    into f g l (In.first i) = In.first (f l i)
    into f g l (In.second i) = In.second (g l i)

pub respun-clade : {t u : Tree} → Respun t u → SameClade t u
respun-clade (here h) = h.0
respun-clade (Respun.in_first {b} k) = beside (respun-clade k) (clade-refl b)
respun-clade (Respun.in_second {a} k) = beside (clade-refl a) (respun-clade k)

-- all around the subtree is one side of its edge, and is moved
respun-share : {a c : Tree} → Respun a c → (b : Tree) → Distinct (fork a b) → Distinct (fork c b) → ShareU (fork a b) (fork c b)
respun-share {a} {c} (here h) b D E = record { one = record { rest = a; pruned = b }; two = record { rest = c; pruned = b }; is_cut = order (flip a b); is-cut' = order (flip c b); agree = (splits-∼ D.0 E.0 h, ≈-refl b) }
respun-share (Respun.in_first {a} {b = x} {c} k) b D E = ∼-share (shift_back a x b) (shift_back c x b) (respun-share k (fork x b) (shift-distinct a x b D) (shift-distinct c x b E))
respun-share (Respun.in_second {a = x} {b = a} {c} k) b D E =
    let p = ∼-trans (order (same (flip x a) (≈-refl b))) (shift a x b) in
    let q = ∼-trans (order (same (flip x c) (≈-refl b))) (shift c x b) in
    ∼-share (∼-sym p) (∼-sym q) (respun-share k (fork x b) (∼-distinct p D) (∼-distinct q E))

pub respun-move : {t u : Tree} → Distinct t → Distinct u → Respun t u → SameSplits t u ⊎ OneMoveU t u
respun-move D E (here h) = inl h
respun-move D E (Respun.in_first {b} k) = inr (share-move_unrooted D (respun-share k b D E))
respun-move D E (Respun.in_second {a} {b} {c} k) = inr (share-move_unrooted D (∼-share (order (flip b a)) (order (flip c a)) (respun-share k a (turned D) (turned E))))

-- hung and in canonical order it is so again
either : (R : Tree → Tree → Type 0) {x y x' y' : Tree} (q : Bool) → R x x' → R y y' → R (cond q x y) (cond q x' y')
either R true h k = h
either R false h k = k

respun-spin : {up up' : Tree} → Respun up up' → (t : Tree) → Respun (spin up t) (spin up' t)
respun-spin k (leaf n) = Respun.in_second k
respun-spin k (fork a b) = either Respun (leb (least a) (least b)) (respun-spin (Respun.in_first k) a) (respun-spin (Respun.in_first k) b)

canon-clade : (t : Tree) → SameClade (canon t) t
canon-clade t = ≈-clade (canon-≈ t)

respun-canon : {t u : Tree} → Respun t u → Respun (canon t) (canon u)
respun-canon {t} {u} (here h) = here (splits-trans (≈-splits (canon-≈ t)) (splits-trans h (≈-splits (≈-sym (canon-≈ u)))))
respun-canon (Respun.in_first {a} {b} {c} k) = first-in-order (respun-canon k)
  where
    first-in-order : Respun (canon a) (canon c) → Respun (ordered (canon a) (canon b)) (ordered (canon c) (canon b))
    first-in-order h = subst (λ (m : ℕ). Respun (ordered (canon a) (canon b)) (cond (leb m (least (canon b))) (fork (canon c) (canon b)) (fork (canon b) (canon c)))) (least-same (respun-clade h))
        (either Respun (leb (least (canon a)) (least (canon b))) (Respun.in_first h) (Respun.in_second h))
respun-canon (Respun.in_second {a} {b} {c} k) = second-in-order (respun-canon k)
  where
    second-in-order : Respun (canon b) (canon c) → Respun (ordered (canon a) (canon b)) (ordered (canon a) (canon c))
    second-in-order h = subst (λ (m : ℕ). Respun (ordered (canon a) (canon b)) (cond (leb (least (canon a)) m) (fork (canon a) (canon c)) (fork (canon c) (canon a)))) (least-same (respun-clade h))
        (either Respun (leb (least (canon a)) (least (canon b))) (Respun.in_second h) (Respun.in_first h))

-- the subtree that hangs at the root edge of a tree is pruned off the hung tree: what is left is hung too
prune-spin : {s up up' : Tree} → Prune s up up' → (t : Tree) → Prune s (spin up t) (spin up' t)
prune-spin p (leaf n) = in_second p
prune-spin {s} p (fork a b) = either (Prune s) (leb (least a) (least b)) (prune-spin (in_first p) a) (prune-spin (in_first p) b)

prune-hang : (s t : Tree) → Prune s (spin s t) (hang t)
prune-hang s (leaf n) = second
prune-hang s (fork a b) = either (Prune s) (leb (least a) (least b)) (prune-spin first a) (prune-spin first b)

-- s and r, or s and q, at the ends of the root edge: where r and q are the same but for their roots, s or the other side is moved
module _ (s r q : Tree) (h : SameSplits r q) (e : hang r ≈ hang q) where
  one_side : Share (hang (fork s r)) (hang (fork s q)) ⊎ Respun (hang (fork s r)) (hang (fork s q))
  one_side = subst (λ (m : ℕ). Share (hang (fork s r)) (cond (leb (least s) m) (spin q s) (spin s q)) ⊎ Respun (hang (fork s r)) (cond (leb (least s) m) (spin q s) (spin s q))) (least-same h.0) (go (leb (least s) (least r)))
    where
      go : (p : Bool) → Share (cond p (spin r s) (spin s r)) (cond p (spin q s) (spin s q)) ⊎ Respun (cond p (spin r s) (spin s r)) (cond p (spin q s) (spin s q))
      go true = inr (respun-spin (here h) s)
      go false = inl (record { one = record { rest = hang r; pruned = s }; two = record { rest = hang q; pruned = s }; is_cut = prune-hang s r; is-cut' = prune-hang s q; agree = (e, ≈-refl s) })

-- one of the two ways, on the canonical forms
abbrev pub EitherWay : Tree → Tree → Type 0
EitherWay t u = OneMove (canon_unrooted t) (canon_unrooted u) ⊎ Respun (canon_unrooted t) (canon_unrooted u)

-- a rooted move does not see the order of the children
canon-move-iff : (t u : Tree) → Distinct t → Distinct u → OneMove (canon t) (canon u) ↔ OneMove t u
canon-move-iff t u D E = (
  λ m. share-move (≈-share (canon-≈ t) (canon-≈ u) (move-share (canon-distinct t D) (canon-distinct u E) m)),
  λ m. share-move (≈-share (≈-sym (canon-≈ t)) (≈-sym (canon-≈ u)) (move-share D E m)),
)

module _ {t u : Tree} (D : Distinct t) (E : Distinct u) where
  share-decide : ShareU t u → EitherWay t u
  share-decide k =
      let s = k.one.pruned in
      let r = k.one.rest in
      let q = k.two.rest in
      let f : u ∼ fork s q = ∼-trans k.is-cut' (order (same (≈-sym k.agree.1) (≈-refl q))) in
      let F = ∼-distinct k.is_cut D in
      let G = ∼-distinct f E in
      let h = ∼-splits k.agree.0 F.1 in
      go s r q F G (splits-hang D F (∼-splits k.is_cut D)) (splits-hang E G (∼-splits f E)) (one_side s r q h (splits-hang F.1 G.1 h))
    where
      go : (s r q : Tree) → Distinct (fork s r) → Distinct (fork s q) → hang t ≈ hang (fork s r) → hang u ≈ hang (fork s q) → Share (hang (fork s r)) (hang (fork s q)) ⊎ Respun (hang (fork s r)) (hang (fork s q))
          → EitherWay t u
      go s r q F G e f (inl k) = inl (share-move (≈-share (≈-sym (≈-trans (canon-≈ (hang t)) e)) (≈-sym (≈-trans (canon-≈ (hang u)) f)) k))
      go s r q F G e f (inr k) = inr (rw (≈-canon (hang-distinct t D) e, ≈-canon (hang-distinct u E) f) (respun-canon k))

  decide-share : ¬ SameSplits t u → EitherWay t u → OneMoveU t u
  decide-share n k = move-splits (canon_unrooted-splits t D) (canon_unrooted-splits u E) (go k)
    where
      other : SameSplits (canon_unrooted t) (canon_unrooted u) ⊎ OneMoveU (canon_unrooted t) (canon_unrooted u) → OneMoveU (canon_unrooted t) (canon_unrooted u)
      other (inl h) = absurd (n (splits-trans (splits-sym (canon_unrooted-splits t D)) (splits-trans h (canon_unrooted-splits u E))))
      other (inr m) = m

      go : EitherWay t u → OneMoveU (canon_unrooted t) (canon_unrooted u)
      go (inl m) = move-unrooted (canon_unrooted-distinct t D) (canon_unrooted-distinct u E) m
      go (inr k) = other (respun-move (canon_unrooted-distinct t D) (canon_unrooted-distinct u E) k)

  pub move-iff-decide : ¬ SameSplits t u → OneMoveU t u ↔ EitherWay t u
  move-iff-decide n = (λ m. share-decide (move-share_unrooted D E m), decide-share n)

  -- what a program tests, on the canonical forms
  pub apart-iff-decide : ApartU t u ↔ ((canon_unrooted t ≢ canon_unrooted u) × EitherWay t u)
  apart-iff-decide =
      let e = splits-iff-canon D E in (
        λ a. (λ h. a.0 (e.1 h), (move-iff-decide a.0).0 a.1),
        λ a. let n : ¬ SameSplits t u = λ h. a.0 (e.0 h) in (n, (move-iff-decide n).1 a.1),
      )

  -- and with the rooted pair test at hand
  pub apart-iff-hung : ApartU t u ↔ (Apart (hang t) (hang u) ⊎ ((canon_unrooted t ≢ canon_unrooted u) × Respun (canon_unrooted t) (canon_unrooted u)))
  apart-iff-hung = (λ a. to (apart-iff-decide.0 a), λ k. apart-iff-decide.1 (from k))
    where
      e : SameTopology (hang t) (hang u) ↔ (canon_unrooted t ≡ canon_unrooted u)
      e = topology-iff-canon (hang-distinct t D) (hang-distinct u E)

      to : (canon_unrooted t ≢ canon_unrooted u) × EitherWay t u → Apart (hang t) (hang u) ⊎ ((canon_unrooted t ≢ canon_unrooted u) × Respun (canon_unrooted t) (canon_unrooted u))
      to (n, inl m) = inl (λ h. n (e.0 h), (canon-move-iff (hang t) (hang u) (hang-distinct t D) (hang-distinct u E)).0 m)
      to (n, inr k) = inr (n, k)

      from : Apart (hang t) (hang u) ⊎ ((canon_unrooted t ≢ canon_unrooted u) × Respun (canon_unrooted t) (canon_unrooted u)) → (canon_unrooted t ≢ canon_unrooted u) × EitherWay t u
      from (inl a) = (λ h. a.0 (e.1 h), inl ((canon-move-iff (hang t) (hang u) (hang-distinct t D) (hang-distinct u E)).1 a.1))
      from (inr k) = (k.0, inr k.1)

-- where the first children are the same, the difference is in the second, and so the other way round
second-apart : {a a' b c : Tree} → a ≡ a' → Distinct (fork a b) → Distinct (fork a' c) → Respun (fork a b) (fork a' c) → Respun b c
second-apart {a} e D E (here h) = here (≈-splits (same-sides D E (subst (SameClade a) e (clade-refl a)) h).1)
second-apart {b} e D E (Respun.in_first k) = here (≈-splits (≈-refl b))
second-apart e D E (Respun.in_second k) = k

second-differs : {a b c : Tree} → Distinct (fork a b) → Distinct (fork a c) → Respun (fork a b) (fork a c) → Respun b c
second-differs D E k = second-apart refl D E k

first-apart : {a b b' c : Tree} → b ≡ b' → Distinct (fork a b) → Distinct (fork c b') → Respun (fork a b) (fork c b') → Respun a c
first-apart {a} {b} {b'} {c} e D E (here h) = here (≈-splits (same-sides (turned D) (turned E) (subst (SameClade b) e (clade-refl b)) (splits-trans (≈-splits (flip b a)) (splits-trans h (≈-splits (flip c b'))))).1)
first-apart e D E (Respun.in_first k) = k
first-apart {a} e D E (Respun.in_second k) = here (≈-splits (≈-refl a))

first-differs : {a b c : Tree} → Distinct (fork a b) → Distinct (fork c b) → Respun (fork a b) (fork c b) → Respun a c
first-differs D E k = first-apart refl D E k

none-same : {a b c d : Tree} → a ≢ c → b ≢ d → Respun (fork a b) (fork c d) → SameSplits (fork a b) (fork c d)
none-same n m (here h) = h
none-same n m (Respun.in_first k) = absurd (m refl)
none-same n m (Respun.in_second k) = absurd (n refl)

-- so a program walks down to one place, and looks there
module _ {a b c d : Tree} (D : Distinct (fork a b)) (E : Distinct (fork c d)) where
  pub walk-second : a ≡ c → Respun (fork a b) (fork c d) ↔ Respun b d
  walk-second e = (
    λ k. second-differs D (subst (λ (x : Tree). Distinct (fork x d)) (sym e) E) (subst (λ (x : Tree). Respun (fork a b) (fork x d)) (sym e) k),
    λ k. subst (λ (x : Tree). Respun (fork a b) (fork x d)) e (Respun.in_second k),
  )

  pub walk_first : b ≡ d → Respun (fork a b) (fork c d) ↔ Respun a c
  walk_first e = (
    λ k. first-differs D (subst (λ (x : Tree). Distinct (fork c x)) (sym e) E) (subst (λ (x : Tree). Respun (fork a b) (fork c x)) (sym e) k),
    λ k. subst (λ (x : Tree). Respun (fork a b) (fork c x)) e (Respun.in_first k),
  )

  pub walk_here : a ≢ c → b ≢ d → Respun (fork a b) (fork c d) ↔ SameSplits (fork a b) (fork c d)
  walk_here n m = (none-same n m, here)
