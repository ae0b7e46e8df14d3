-- The canonical text of an unrooted tree can be read back: equal texts, one topology. And so for the forests of Lemma 2.3.
-- Assumes nothing.
use mathlib.Core.Path.{◌≡◌, sym, ap, ap₂, ◌∙◌}
use mathlib.Core.Logic.{◌↔◌, ◌≢◌}
use mathlib.Core.List.{List, [], ◌∷◌, ◌++◌, append_assoc}
use Prim.Native.Nat.{ℕ, ◌≤◌}
use native.Mathlib.Omega.{arith}
use lib.ListN.{length, length-append}
use Rattle.meaning.specs.Tree.{Tree, leaf, fork, In, tip, Small, Good, SameTopology, canon, write}
use Rattle.meaning.specs.Move.{Cut, parts}
use Rattle.meaning.specs.Unrooted.{SameSplits, canon_unrooted, OneMoveU, ApartU, bare, write_unrooted, mark, form_unrooted, forest_unrooted, SharedForestU}
use Rattle.meaning.proofs.Same.{≈-sym, ≈-trans, topology-≈}
use Rattle.meaning.proofs.Canon.{canon-good, ≈-canon, topology-iff-canon}
use Rattle.meaning.proofs.Length.{form-length}
use Rattle.meaning.proofs.Text.{Stop, digits-begin, write_read}
use Rattle.meaning.proofs.Same.{good-first, good-second}
use Rattle.meaning.proofs.Edges.{cuts_unrooted-sound, cuts_unrooted-complete}
use Rattle.meaning.proofs.Rootings.{order, ∼-trans, ∼-splits, splits-∼, splits-iff-canon, hang-good, canon_unrooted-good, ∼-distinct, ∼-good}
use Rattle.meaning.proofs.UnrootedMoves.{move-share_unrooted, share-move_unrooted}

bare-fork : (a b : Tree) (xs : List ℕ) → bare (fork a b) ++ xs ≡ write a ++ (44 ∷ (write b ++ xs))
bare-fork a b xs = simp append_assoc

-- a bare text before a closing bracket tells the tree and where it ends: a label is followed by that bracket, a first child by a comma
bare-read : (a b : Tree) (xs ys : List ℕ) → Small a → Small b → bare a ++ (41 ∷ xs) ≡ bare b ++ (41 ∷ ys) → (a ≡ b) × (xs ≡ ys)
bare-read (leaf m) (leaf n) xs ys A B e = let (p, q) = write_read (leaf m) (leaf n) (41 ∷ xs) (41 ∷ ys) A B (omega arith) (omega arith) e in (p, cc q)
bare-read (leaf m) (fork c d) xs ys A B e =
    let (p, q) = write_read (leaf m) c (41 ∷ xs) (44 ∷ (write d ++ (41 ∷ ys))) A (λ l i. B l (In.first i)) (omega arith) (omega arith) (e ∙ bare-fork c d (41 ∷ ys)) in
    let z : ◌≡◌ {A = ℕ} 41 44 = cc q in absurd (omega arith)
bare-read (fork a b) (leaf n) xs ys A B e =
    let (p, q) = write_read a (leaf n) (44 ∷ (write b ++ (41 ∷ xs))) (41 ∷ ys) (λ l i. A l (In.first i)) B (omega arith) (omega arith) (sym (bare-fork a b (41 ∷ xs)) ∙ e) in
    let z : ◌≡◌ {A = ℕ} 44 41 = cc q in absurd (omega arith)
bare-read (fork a b) (fork c d) xs ys A B e =
    let (p, q) = write_read a c (44 ∷ (write b ++ (41 ∷ xs))) (44 ∷ (write d ++ (41 ∷ ys))) (λ l i. A l (In.first i)) (λ l i. B l (In.first i)) (omega arith) (omega arith) (sym (bare-fork a b (41 ∷ xs)) ∙ e ∙ bare-fork c d (41 ∷ ys)) in
    let q' : write b ++ (41 ∷ xs) ≡ write d ++ (41 ∷ ys) = cc q in
    let (r, s) = write_read b d (41 ∷ xs) (41 ∷ ys) (λ l i. A l (In.second i)) (λ l i. B l (In.second i)) (omega arith) (omega arith) q' in
    (ap₂ fork p r, cc s)

write_unrooted-fork : (a b : Tree) (xs : List ℕ) → write_unrooted (fork a b) ++ xs ≡ 40 ∷ (write a ++ (44 ∷ (bare b ++ (41 ∷ xs))))
write_unrooted-fork a b xs = simp append_assoc

-- the text of an unrooted tree tells its rooting and where it ends
pub write_unrooted-read : (a b : Tree) (xs ys : List ℕ) → Small a → Small b → Stop xs → Stop ys → write_unrooted a ++ xs ≡ write_unrooted b ++ ys → (a ≡ b) × (xs ≡ ys)
write_unrooted-read (leaf m) (leaf n) xs ys A B f g e = write_read (leaf m) (leaf n) xs ys A B f g e
write_unrooted-read (leaf m) (fork c d) xs ys A B f g e = absurd (digits-begin m 40 xs _ (A m tip).1 (omega arith) (e ∙ write_unrooted-fork c d ys))
write_unrooted-read (fork a b) (leaf n) xs ys A B f g e = absurd (digits-begin n 40 ys _ (B n tip).1 (omega arith) (sym e ∙ write_unrooted-fork a b xs))
write_unrooted-read (fork a b) (fork c d) xs ys A B f g e =
    let p = sym (write_unrooted-fork a b xs) ∙ e ∙ write_unrooted-fork c d ys in
    let p' : write a ++ (44 ∷ (bare b ++ (41 ∷ xs))) ≡ write c ++ (44 ∷ (bare d ++ (41 ∷ ys))) = cc p in
    let (q, r) = write_read a c (44 ∷ (bare b ++ (41 ∷ xs))) (44 ∷ (bare d ++ (41 ∷ ys))) (λ l i. A l (In.first i)) (λ l i. B l (In.first i)) (omega arith) (omega arith) p' in
    let r' : bare b ++ (41 ∷ xs) ≡ bare d ++ (41 ∷ ys) = cc r in
    let (s, t) = bare-read b d xs ys (λ l i. A l (In.second i)) (λ l i. B l (In.second i)) r' in
    (ap₂ fork q s, t)

-- equal canonical texts, one unrooted topology
pub form-iff_unrooted : {t u : Tree} → Good t → Good u → (form_unrooted t ≡ form_unrooted u) ↔ SameSplits t u
form-iff_unrooted {t} {u} G H = (to, λ h. ap (λ (v : Tree). mark ++ write_unrooted v ++ (59 ∷ [])) ((splits-iff-canon G.distinct H.distinct).0 h))
  where
    to : form_unrooted t ≡ form_unrooted u → SameSplits t u
    to p =
        let q : write_unrooted (canon_unrooted t) ++ (59 ∷ []) ≡ write_unrooted (canon_unrooted u) ++ (59 ∷ []) = cc p in
        (splits-iff-canon G.distinct H.distinct).1 (write_unrooted-read (canon_unrooted t) (canon_unrooted u) (59 ∷ []) (59 ∷ []) (canon_unrooted-good G).small (canon_unrooted-good H).small (omega arith) (omega arith) q).0

-- no rooted tree's text begins with the mark
pub write-no-mark : (t : Tree) (xs ys : List ℕ) → Small t → write t ++ xs ≡ 91 ∷ ys → ⊥
write-no-mark (leaf n) xs ys S e = digits-begin n 91 xs ys (S n tip).1 (omega arith) e
write-no-mark (fork a b) xs ys S e = let z : ◌≡◌ {A = ℕ} 40 91 = cc e in omega arith

-- it is at most four bytes longer than the rooted one
bare-length : (t : Tree) → length (bare t) ≤ length (write t)
bare-length (leaf n) = omega arith
bare-length (fork a b) = simp length-append (omega arith)

write_unrooted-length : (t : Tree) → length (write_unrooted t) ≤ length (write t)
write_unrooted-length (leaf n) = omega arith
write_unrooted-length (fork a b) = simp length-append (omega (arith, bare-length b))

pub form-length_unrooted : {t : Tree} → Good t → length (form_unrooted t) ≤ 313
form-length_unrooted {t} G = simp length-append (omega (arith, write_unrooted-length (canon_unrooted t), length-append (write (canon_unrooted t)) (59 ∷ []), form-length (hang-good G)))

-- equal forest texts: the side that stays is the same unrooted tree, the one that is moved the same rooted tree
module _ (c d : Cut) where
  forest-canon_unrooted : Good (parts c) → Good (parts d) → forest_unrooted c ≡ forest_unrooted d → (canon_unrooted c.rest ≡ canon_unrooted d.rest) × (canon c.pruned ≡ canon d.pruned)
  forest-canon_unrooted G H e =
      let (i, j) = write_unrooted-read (canon_unrooted c.rest) (canon_unrooted d.rest) (32 ∷ (write (canon c.pruned) ++ (59 ∷ []))) (32 ∷ (write (canon d.pruned) ++ (59 ∷ []))) (canon_unrooted-good (good-second G)).small (canon_unrooted-good (good-second H)).small (omega arith) (omega arith) (simp append_assoc at e) in
      let k : write (canon c.pruned) ++ (59 ∷ []) ≡ write (canon d.pruned) ++ (59 ∷ []) = cc j in
      (i, (write_read (canon c.pruned) (canon d.pruned) (59 ∷ []) (59 ∷ []) (canon-good (good-first G)).small (canon-good (good-first H)).small (omega arith) (omega arith) k).0)

  canon-forest_unrooted : canon_unrooted c.rest ≡ canon_unrooted d.rest → canon c.pruned ≡ canon d.pruned → forest_unrooted c ≡ forest_unrooted d
  canon-forest_unrooted p q = ap₂ (λ (r s : Tree). write_unrooted r ++ (32 ∷ write s) ++ (59 ∷ [])) p q

  pub forest-iff_unrooted : Good (parts c) → Good (parts d) → (forest_unrooted c ≡ forest_unrooted d) ↔ (SameSplits c.rest d.rest × SameTopology c.pruned d.pruned)
  forest-iff_unrooted G H =
      let rest = splits-iff-canon G.distinct.1 H.distinct.1 in
      let pruned = topology-iff-canon G.distinct.0 H.distinct.0 in (
        λ e. let (p, q) = forest-canon_unrooted G H e in (rest.1 p, pruned.1 q),
        λ e. canon-forest_unrooted (rest.0 e.0) (pruned.0 e.1),
      )

-- Lemma 2.3 for the texts: two unrooted trees are one move apart exactly when a cut of each has the same forest text
module _ {t u : Tree} (G : Good t) (H : Good u) where
  move-shared_unrooted : OneMoveU t u → SharedForestU t u
  move-shared_unrooted m =
      let k = move-share_unrooted G.distinct H.distinct m in
      let (c, i, e, f) = cuts_unrooted-complete t k.one G.distinct k.is_cut in
      let (d, j, e', f') = cuts_unrooted-complete u k.two H.distinct k.is-cut' in
      let F = ∼-distinct (cuts_unrooted-sound t i) G.distinct in
      let E = ∼-distinct (cuts_unrooted-sound u j) H.distinct in
      let rest = ∼-trans (order (≈-sym e)) (∼-trans k.agree.0 (order e')) in
      let pruned = ≈-trans (≈-sym f) (≈-trans k.agree.1 f') in
      record { cut = c; cut' = d; is_cut = i; is-cut' = j; agree = canon-forest_unrooted c d ((splits-iff-canon F.1 E.1).0 (∼-splits rest F.1)) (≈-canon F.0 pruned) }

  shared-move_unrooted : SharedForestU t u → OneMoveU t u
  shared-move_unrooted f =
      let p = cuts_unrooted-sound t f.is_cut in
      let q = cuts_unrooted-sound u f.is-cut' in
      let F = ∼-good p G in
      let E = ∼-good q H in
      let (r, s) = (forest-iff_unrooted f.cut f.cut' F E).0 f.agree in
      share-move_unrooted G.distinct (record { one = f.cut; two = f.cut'; is_cut = p; is-cut' = q; agree = (splits-∼ F.distinct.1 E.distinct.1 r, topology-≈ F.distinct.0 E.distinct.0 s) })

  pub move-iff-shared_unrooted : OneMoveU t u ↔ SharedForestU t u
  move-iff-shared_unrooted = (move-shared_unrooted, shared-move_unrooted)

  pub apart-iff-shared_unrooted : ApartU t u ↔ ((form_unrooted t ≢ form_unrooted u) × SharedForestU t u)
  apart-iff-shared_unrooted = (
    λ a. (λ e. a.0 ((form-iff_unrooted G H).0 e), move-shared_unrooted a.1),
    λ a. (λ e. a.0 ((form-iff_unrooted G H).1 e), shared-move_unrooted a.1),
  )
