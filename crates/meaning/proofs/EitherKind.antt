-- What holds of trees of either kind: two clauses where the kinds differ, one proof of all that follows.
-- Assumes nothing.
use mathlib.Core.Path.{◌≡◌, refl, sym, ap}
use mathlib.Core.Logic.{◌↔◌}
use mathlib.Core.List.{List, [], ◌∷◌, ◌++◌}
use Prim.Native.Nat.{ℕ, ◌≤◌, ◌<◌}
use native.Mathlib.Omega.{arith}
use lib.Dec.{T}
use lib.ListN.{length}
use Rattle.meaning.specs.Tree.{Tree, Distinct, Small, Good, SameClade, SameTopology, canon}
use Rattle.meaning.specs.Listing.{Listing, At, tree_of}
use Rattle.meaning.specs.Unrooted.{standing, write_unrooted}
use Rattle.meaning.specs.Kind.{Kind, rooted, unrooted}
use Rattle.meaning.specs.EitherKind.{SameAs, OneMoveAs, ApartAs, canon_as, write_as, form_as, is_apart_as}
use Rattle.meaning.proofs.Same.{topology-sym, topology-trans}
use Rattle.meaning.proofs.Canon.{canon-good, canon-canonical, canonical-canon, topology-iff-canon}
use Rattle.meaning.proofs.Moves.{apart-sym, apart-topology, move-labels}
use Rattle.meaning.proofs.Text.{Stop, write_read}
use Rattle.meaning.proofs.Length.{form-length}
use Rattle.meaning.proofs.Decide.{apart-iff}
use Rattle.meaning.specs.Loops.{pairs_of}
use Rattle.meaning.proofs.Listing.{listing-iff, pairs_of-lists}
use Rattle.meaning.proofs.Splits.{splits-sym, splits-trans, topology-splits}
use Rattle.meaning.proofs.Rootings.{hang-distinct, hang-splits, splits-iff-hang, splits-iff-canon, canon_unrooted-idem, standing-good}
use Rattle.meaning.proofs.UnrootedMoves.{apart-sym_unrooted, apart-splits, move-labels_unrooted}
use Rattle.meaning.proofs.UnrootedText.{write_unrooted-read, write-no-mark, form-length_unrooted}
use Rattle.meaning.proofs.UnrootedDecide.{apart_unrooted-iff}

-- where the kinds differ
pub same-sym_as : (k : Kind) (t u : Tree) → SameAs k t u → SameAs k u t
same-sym_as rooted t u e = topology-sym e
same-sym_as unrooted t u e = splits-sym e

pub same-trans_as : (k : Kind) (t u v : Tree) → SameAs k t u → SameAs k u v → SameAs k t v
same-trans_as rooted t u v e f = topology-trans e f
same-trans_as unrooted t u v e f = splits-trans e f

pub same-iff-canon_as : (k : Kind) (t u : Tree) → Distinct t → Distinct u → SameAs k t u ↔ (canon_as k t ≡ canon_as k u)
same-iff-canon_as rooted t u D E = topology-iff-canon D E
same-iff-canon_as unrooted t u D E = splits-iff-canon D E

-- trees of one rooted topology are of one topology, whatever their kind
pub topology-same_as : (k : Kind) (t u : Tree) → Distinct t → Distinct u → SameTopology t u → SameAs k t u
topology-same_as rooted t u D E e = e
topology-same_as unrooted t u D E e = topology-splits D E e

pub same-iff-hung_as : (k : Kind) (t u : Tree) → Distinct t → Distinct u → SameAs k t u ↔ SameTopology (standing k t) (standing k u)
same-iff-hung_as rooted t u D E = (λ e. e, λ e. e)
same-iff-hung_as unrooted t u D E = splits-iff-hang D E

pub canon-idem_as : (k : Kind) (t : Tree) → Distinct t → canon_as k (canon_as k t) ≡ canon_as k t
canon-idem_as rooted t D = canonical-canon (canon t) (canon-canonical t D)
canon-idem_as unrooted t D = canon_unrooted-idem t D

write-read_as : (k : Kind) (a b : Tree) (xs ys : List ℕ) → Small a → Small b → Stop xs → Stop ys → write_as k a ++ xs ≡ write_as k b ++ ys → (a ≡ b) × (xs ≡ ys)
write-read_as rooted a b xs ys A B f g e = write_read a b xs ys A B f g e
write-read_as unrooted a b xs ys A B f g e = let e' : write_unrooted a ++ xs ≡ write_unrooted b ++ ys = cc e in write_unrooted-read a b xs ys A B f g e'

pub form-length_as : (k : Kind) {t : Tree} → Good t → length (form_as k t) ≤ 313
form-length_as rooted G = omega (arith, form-length G)
form-length_as unrooted G = form-length_unrooted G

pub apart-sym_as : (k : Kind) (t u : Tree) → Distinct t → Distinct u → ApartAs k t u → ApartAs k u t
apart-sym_as rooted t u D E a = apart-sym D E a
apart-sym_as unrooted t u D E a = apart-sym_unrooted D E a

pub apart-same_as : (k : Kind) (t t' u u' : Tree) → Distinct t → Distinct t' → Distinct u → Distinct u' → SameAs k t t' → SameAs k u u' → ApartAs k t u → ApartAs k t' u'
apart-same_as rooted t t' u u' D D' E E' e f a = apart-topology D D' E E' e f a
apart-same_as unrooted t t' u u' D D' E E' e f a = apart-splits e f a

pub apart_as-iff : (k : Kind) (t u : Tree) → Distinct t → Distinct u → T (is_apart_as k t u) ↔ ApartAs k t u
apart_as-iff rooted t u D E = apart-iff t u D E
apart_as-iff unrooted t u D E = apart_unrooted-iff t u D E

pub move-labels_as : (k : Kind) (t u : Tree) → OneMoveAs k t u → SameClade t u
move-labels_as rooted t u m = move-labels m
move-labels_as unrooted t u m = move-labels_unrooted m

-- a canonical text tells the kind
pub kind-told : (k j : Kind) {t u : Tree} → Good t → Good u → form_as k t ≡ form_as j u → k ≡ j
kind-told rooted rooted G H e = refl
kind-told rooted unrooted {t} {u} G H e = absurd (write-no-mark (canon t) (59 ∷ []) _ (canon-good G).small e)
kind-told unrooted rooted {t} {u} G H e = absurd (write-no-mark (canon u) (59 ∷ []) _ (canon-good H).small (sym e))
kind-told unrooted unrooted G H e = refl

-- the tree that stands for one of this kind is its own
pub standing-own : (k : Kind) (t : Tree) → Distinct t → canon_as k (standing k t) ≡ canon (standing k t)
standing-own rooted t D = refl
standing-own unrooted t D = sym ((splits-iff-canon D (hang-distinct t D)).0 (hang-splits t D))

-- each of the trees ts stands for one of the kind k
abbrev pub AllStand : Kind → List Tree → Type 0
AllStand k ts = (i : ℕ) → i < length ts → canon_as k (tree_of ts i) ≡ canon (tree_of ts i)

-- what follows
module _ (k : Kind) where
  pub canon_as-good : {t : Tree} → Good t → Good (canon_as k t)
  canon_as-good G = canon-good (standing-good k G)

  -- equal canonical texts, one topology
  pub form-iff_as : {t u : Tree} → Good t → Good u → (form_as k t ≡ form_as k u) ↔ SameAs k t u
  form-iff_as {t} {u} G H =
      let e = same-iff-canon_as k t u G.distinct H.distinct in (
        λ p. e.1 (write-read_as k (canon_as k t) (canon_as k u) (59 ∷ []) (59 ∷ []) (canon_as-good G).small (canon_as-good H).small (omega arith) (omega arith) p).0,
        λ h. ap (λ (v : Tree). write_as k v ++ (59 ∷ [])) (e.0 h),
      )

  -- the listing of the trees that are one move apart
  pub apart-listing_as : (ts : List Tree) → ((i : ℕ) → i < length ts → Distinct (tree_of ts i)) → Listing (length ts) (At (ApartAs k) ts) (pairs_of (length ts) (λ i j. is_apart_as k (tree_of ts i) (tree_of ts j)))
  apart-listing_as ts D =
      listing-iff (λ i j h l. apart_as-iff k (tree_of ts i) (tree_of ts j) (D i (omega arith)) (D j l)) (pairs_of-lists (length ts) (λ i j. is_apart_as k (tree_of ts i) (tree_of ts j)))
