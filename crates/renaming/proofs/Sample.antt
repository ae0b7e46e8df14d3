-- One sample before and after labels are replaced and trees put in another order: the same positions are linked, and the same are copies.
-- Assumes nothing.
use mathlib.Core.Path.{refl}
use mathlib.Core.Logic.{◌↔◌}
use mathlib.Core.List.{List}
use Prim.Native.Nat.{ℕ, ◌<◌}
use native.Mathlib.Omega.{arith}
use lib.Dec.{T}
use lib.ListN.{length}
use Rattle.meaning.specs.Tree.{Tree, Distinct, AllGood}
use Rattle.meaning.specs.Interchange.{OneInterchange}
use Rattle.meaning.specs.Kind.{Kind, rooted, Trees}
use Rattle.meaning.specs.EitherKind.{SameAs, ApartAs}
use Rattle.meaning.specs.Listing.{At, tree_of, copy_of}
use Rattle.meaning.proofs.Same.{≈-refl, ≈-topology}
use Rattle.meaning.proofs.TableText.{good-at}
use Rattle.meaning.proofs.EitherKind.{AllStand, same-sym_as, same-trans_as, same-iff-canon_as, apart-sym_as, apart-same_as}
use Rattle.meaning.proofs.Interchange.{interchange-sym, interchange-topology, interchange-apart}
use Rattle.meaning.proofs.Unlinked.{copy-iff_as}
use Rattle.renaming.specs.Renaming.{rename}
use Rattle.renaming.specs.Reordering.{came, SameSample}
use Rattle.renaming.proofs.Renamed.{Back, rename-distinct, same-renamed, apart-renamed, interchange-renamed}
use Rattle.renaming.proofs.Rules.{back, back_at}
use Rattle.renaming.proofs.Orders.{came-inside}
use Rattle.renaming.proofs.MovedPairs.{Carried}

-- R is a relation of topologies: it reads the same from either tree, no tree has it to itself, and neither the order of children nor the names of labels matter
pub record OfTopologies (k : Kind) (R : Tree → Tree → Type 0) : Type 0 where
  pub turns : (t u : Tree) → Distinct t → Distinct u → R t u → R u t
  pub differ : (t : Tree) → Distinct t → R t t → ⊥
  pub same : (t t' u u' : Tree) → Distinct t → Distinct t' → Distinct u → Distinct u' → SameAs k t t' → SameAs k u u' → R t u → R t' u'
  pub renamed : (f g : ℕ → ℕ) (t u : Tree) → Back f g t → Back f g u → R t u ↔ R (rename f t) (rename f u)

pub same-itself : (k : Kind) (t : Tree) → Distinct t → SameAs k t t
same-itself k t D = (same-iff-canon_as k t t D D).1 refl

-- so are the moves
pub moves_so : (k : Kind) → OfTopologies k (ApartAs k)
moves_so k = record {
  turns = apart-sym_as k;
  differ = λ t D a. a.0 (same-itself k t D);
  same = apart-same_as k;
  renamed = λ f g t u b c. apart-renamed f g k t u b c;
}

-- and the interchanges of rooted trees
pub interchanges-so : OfTopologies rooted OneInterchange
interchanges-so = record {
  turns = λ t u D E a. interchange-sym D E a;
  differ = λ t D a. (interchange-apart D a).0 (≈-topology (≈-refl t));
  same = λ t t' u u' D D' E E' e d a. interchange-topology D D' e d a;
  renamed = λ f g t u b c. interchange-renamed f g rooted t u b c;
}

module _ {f : ℕ → ℕ} {order : List ℕ} {table table' : Trees} (S : SameSample f order table table') (G : AllGood table.trees) (G' : AllGood table'.trees) where
  abbrev k : Kind
  k = table.kind

  abbrev ts : List Tree
  ts = table.trees

  abbrev us : List Tree
  us = table'.trees

  -- the tree at a position of us, its topology, and where it came from
  from : (i : ℕ) → i < length ts → came order i < length ts
  from i h = came-inside S.placed i h

  here : (i : ℕ) → i < length ts → i < length us
  here i h = omega (arith, S.as_many)

  abbrev old : ℕ → Tree
  old i = tree_of ts (came order i)

  distinct-old : (i : ℕ) → i < length ts → Distinct (old i)
  distinct-old i h = (good-at ts G (came order i) (from i h)).distinct

  back-old : (i : ℕ) → i < length ts → Back f (back S.rule) (old i)
  back-old i h = back_at S.rule (came order i) (from i h)

  distinct-renamed : (i : ℕ) → i < length ts → Distinct (rename f (old i))
  distinct-renamed i h = rename-distinct f (back S.rule) (old i) (back-old i h) (distinct-old i h)

  distinct-new : (i : ℕ) → i < length ts → Distinct (tree_of us i)
  distinct-new i h = (good-at us G' i (here i h)).distinct

  told : (i : ℕ) → i < length ts → SameAs k (tree_of us i) (rename f (old i))
  told i h = S.tree i h

  told_back : (i : ℕ) → i < length ts → SameAs k (rename f (old i)) (tree_of us i)
  told_back i h = same-sym_as k (tree_of us i) (rename f (old i)) (told i h)

  -- a relation of topologies holds after it exactly where it held before
  module _ {R : Tree → Tree → Type 0} (O : OfTopologies k R) where
    related : (i j : ℕ) → i < length ts → j < length ts → At R us i j ↔ At R ts (came order i) (came order j)
    related i j h l =
        let e = O.renamed f (back S.rule) (old i) (old j) (back-old i h) (back-old j l) in (
          λ a. e.1 (O.same (tree_of us i) (rename f (old i)) (tree_of us j) (rename f (old j))
              (distinct-new i h) (distinct-renamed i h) (distinct-new j l) (distinct-renamed j l) (told i h) (told j l) a),
          λ a. O.same (rename f (old i)) (tree_of us i) (rename f (old j)) (tree_of us j)
              (distinct-renamed i h) (distinct-new i h) (distinct-renamed j l) (distinct-new j l) (told_back i h) (told_back j l) (e.0 a),
        )

    pub carried : Carried (length ts) order (At R ts) (At R us)
    carried = record {
      placed = S.placed;
      either_way = record {
        turns = λ i j h l a. O.turns (tree_of ts i) (tree_of ts j) (good-at ts G i h).distinct (good-at ts G j l).distinct a;
        differ = λ i h a. O.differ (tree_of ts i) (good-at ts G i h).distinct a;
      };
      agree = related;
    }

  -- one topology after it exactly when one before
  same-moved : (i j : ℕ) → i < length ts → j < length ts → SameAs k (tree_of us i) (tree_of us j) ↔ SameAs k (old i) (old j)
  same-moved i j h l =
      let e = same-renamed f (back S.rule) k (old i) (old j) (back-old i h) (back-old j l) in (
        λ a. e.1 (same-trans_as k (rename f (old i)) (tree_of us i) (rename f (old j)) (told_back i h) (same-trans_as k (tree_of us i) (tree_of us j) (rename f (old j)) a (told j l))),
        λ a. same-trans_as k (tree_of us i) (rename f (old i)) (tree_of us j) (told i h) (same-trans_as k (rename f (old i)) (rename f (old j)) (tree_of us j) (e.0 a) (told_back j l)),
      )

  -- so copies are copies
  pub copies-moved : AllStand k ts → AllStand k us → (i j : ℕ) → i < length ts → j < length ts → T (copy_of us i j) ↔ T (copy_of ts (came order i) (came order j))
  copies-moved W W' i j h l =
      let a = copy-iff_as k us G' W' i j (here i h) (here j l) in
      let b = copy-iff_as k ts G W (came order i) (came order j) (from i h) (from j l) in
      let c = same-moved i j h l in
      (λ t. b.1 (c.0 (a.0 t)), λ t. a.1 (c.1 (b.0 t)))
