-- The trees of a table that was read stand for trees of its kind, so that its copies are the trees of one topology of that kind.
-- Assumes nothing.
use mathlib.Core.Path.{◌≡◌, refl, sym, subst}
use mathlib.Core.Logic.{◌↔◌}
use mathlib.Core.List.{List, [], ◌∷◌, map}
use Prim.Native.Nat.{ℕ, zero, suc, ◌<◌}
use native.Mathlib.Omega.{arith}
use lib.Dec.{T}
use lib.ListN.{length}
use Rattle.meaning.specs.Tree.{canon}
use Rattle.meaning.specs.Kind.{Kind, Kinded, Trees, as_trees, Takes}
use Rattle.meaning.specs.EitherKind.{SameAs, canon_as}
use Rattle.meaning.specs.Listing.{tree_of, copy_of}
use Rattle.meaning.specs.Grammar.{TreeText, is_tree, TreesText, none, more, Alike, AllAlike}
use Rattle.meaning.proofs.EitherKind.{standing-own, AllStand}
use Rattle.meaning.proofs.Unlinked.{copy-iff_as}
use Rattle.meaning.proofs.Calls.{TableGiven}

-- a tree that was read stands for one of its kind
text-stands : {x : Kinded} {y : List ℕ} → TreeText x y → canon_as x.kind x.tree ≡ canon x.tree
text-stands (is_tree {k} {t} m x y G) = standing-own k t G.distinct

-- so do trees of one kind
abbrev pub OfKind : Kind → List Kinded → Type 0
OfKind k [] = Unit {0}
OfKind k (x ∷ xs) = (x.kind ≡ k) × OfKind k xs

texts-stand : (k : Kind) {xs : List Kinded} {y : List ℕ} → TreesText xs y → OfKind k xs → AllStand k (map (λ (x : Kinded). x.tree) xs)
texts-stand k (none x b) o i h = absurd (omega arith)
texts-stand k (more {t} T R) o zero h = subst (λ (j : Kind). canon_as j t.tree ≡ canon t.tree) o.0 (text-stands T)
texts-stand k (more T R) o (suc i) h = texts-stand k R o.1 i (omega arith)

-- all are of the first one's kind
pub alike-kind : (x : Kinded) (xs : List Kinded) → Alike x xs → OfKind x.kind xs
unfolding Alike
alike-kind x [] h = tt
alike-kind x (y ∷ ys) h = (sym h.0.kinds, alike-kind x ys h.1)

listed-stand : (takes : Takes) (xs : List Kinded) {s : List ℕ} → TreesText xs s → AllAlike takes xs → AllStand (as_trees xs).kind (as_trees xs).trees
unfolding AllAlike
listed-stand takes [] T A i h = absurd (omega arith)
listed-stand takes (x ∷ xs) T A i h = texts-stand x.kind T (refl, alike-kind x xs A.1) i h

pub given-stand : {takes : Takes} {s : List ℕ} {table : Trees} → TableGiven takes s table → AllStand table.kind table.trees
given-stand {takes} g = rw g.is (listed-stand takes g.listed g.text.trees g.text.alike)

-- copies among them are trees of one topology
pub given-copies : {takes : Takes} {s : List ℕ} {table : Trees} → TableGiven takes s table → (i j : ℕ) → i < length table.trees → j < length table.trees
    → T (copy_of table.trees i j) ↔ SameAs table.kind (tree_of table.trees i) (tree_of table.trees j)
given-copies {table} g i j h l = copy-iff_as table.kind table.trees g.good (given-stand g) i j h l
