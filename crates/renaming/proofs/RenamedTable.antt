-- A table's text with every label replaced is read as the renamed trees.
-- Assumes nothing.
use mathlib.Core.Path.{◌≡◌, refl, sym, ap, ◌∙◌, subst}
use mathlib.Core.List.{List, [], ◌∷◌, ◌++◌, map, append_assoc}
use Prim.Native.Nat.{ℕ, suc, ◌≤◌}
use native.Mathlib.Omega.{arith}
use lib.ListN.{length}
use Rattle.meaning.specs.Limits.{max_trees}
use Rattle.meaning.specs.Tree.{Tree, In, Distinct, Good, SameClade}
use Rattle.meaning.specs.Kind.{Kind, rooted, unrooted, Kinded, Takes}
use Rattle.meaning.specs.Unrooted.{standing}
use Rattle.meaning.specs.EitherKind.{SameAs}
use Rattle.meaning.specs.Reading.{is_digit}
use Rattle.meaning.specs.Grammar.{TreeText, is_tree, TreesText, LikeIt, Alike, AllAlike, Taken, TableText}
use Rattle.meaning.proofs.Same.{≈-refl, ≈-topology, clade-trans}
use Rattle.meaning.proofs.Splits.{clade-refl, clade-sym}
use Rattle.meaning.proofs.Rootings.{hang-splits}
use Rattle.meaning.proofs.Complete.{token-no-digit}
use Rattle.renaming.specs.Renaming.{rename, rename_text, LabelOf, here, later, Rule}
use Rattle.renaming.proofs.Renamed.{rename-clade}
use Rattle.renaming.proofs.Rules.{rename-good}
use Rattle.renaming.proofs.RenamedText.{all-blank, token-stays, mark-stays, top-becomes}

-- the trees of a list
abbrev pub trees_of : List Kinded → List Tree
trees_of xs = map (λ (x : Kinded). x.tree) xs

-- the tree that stands for one has its topology, so its labels
pub standing-same : (k : Kind) (t : Tree) → Distinct t → SameAs k t (standing k t)
standing-same rooted t D = ≈-topology (≈-refl t)
standing-same unrooted t D = hang-splits t D

pub standing-clade : (k : Kind) (t : Tree) → Distinct t → SameClade t (standing k t)
standing-clade rooted t D = clade-refl t
standing-clade unrooted t D = (hang-splits t D).0

-- y is x with its labels replaced: their texts write t and the renamed t
pub data Renames (f : ℕ → ℕ) : Kinded → Kinded → Type 0 where
  renames : (k : Kind) (t : Tree) → Good t → Good (rename f t) → Renames f (record { kind = k; tree = standing k t }) (record { kind = k; tree = standing k (rename f t) })

-- so are the members of two lists
pub data AllRenamed (f : ℕ → ℕ) : List Kinded → List Kinded → Type 0 where
  none : AllRenamed f [] []
  more : {x y : Kinded} {xs ys : List Kinded} → Renames f x y → AllRenamed f xs ys → AllRenamed f (x ∷ xs) (y ∷ ys)

-- what the text x of a tree becomes
record TreeBecomes (f : ℕ → ℕ) (t : Kinded) (x : List ℕ) : Type 0 where
  new : Kinded
  renamed : Renames f t new
  text : List ℕ
  derives : TreeText new text
  replaced : (y : List ℕ) → rename_text f (x ++ y) ≡ text ++ rename_text f y

-- a rule for the labels of the trees ts
module _ {f : ℕ → ℕ} {ts : List Tree} (r : Rule f ts) where
  tree-becomes : {t : Kinded} {x : List ℕ} → ((l : ℕ) → In l t.tree → LabelOf l ts) → TreeText t x → TreeBecomes f t x
  unfolding is_digit
  tree-becomes o (is_tree {k} {t} {m} {x} {y} M X Y G) =
      let within : (l : ℕ) → In l t → LabelOf l ts = λ l i. o l ((standing-clade k t G.distinct).0 l i) in
      let B = top-becomes f (λ l. LabelOf l ts) r.small within X in
      let G' = rename-good r t within G in
      record {
        new = record { kind = k; tree = standing k (rename f t) };
        renamed = renames k t G G';
        text = m ++ (B.text ++ y);
        derives = is_tree M B.derives Y G';
        replaced = λ z.
            let parts : (m ++ (x ++ y)) ++ z ≡ m ++ (x ++ (y ++ z)) = simp append_assoc in
            rw (parts, mark-stays f M (x ++ (y ++ z)), B.replaced (y ++ z) (token-no-digit Y z refl), token-stays f Y refl z) (simp append_assoc);
      }

  trees-become : {xs : List Kinded} {s : List ℕ} → ((l : ℕ) → LabelOf l (trees_of xs) → LabelOf l ts) → TreesText xs s → (ys : List Kinded) × AllRenamed f xs ys × TreesText ys (rename_text f s)
  trees-become o (TreesText.none x blank) = ([], AllRenamed.none, rw (all-blank f x blank) (TreesText.none x blank))
  trees-become o (TreesText.more {x} {y} T R) =
      let B = tree-becomes (λ l i. o l (here i)) T in
      let (ys, A, Q) = trees-become (λ l i. o l (later i)) R in
      (B.new ∷ ys, AllRenamed.more B.renamed A, subst (TreesText (B.new ∷ ys)) (sym (B.replaced y)) (TreesText.more B.derives Q))

-- ---- one kind and one label set
renames-kind : {f : ℕ → ℕ} {x y : Kinded} → Renames f x y → y.kind ≡ x.kind
renames-kind (renames k t G H) = refl

-- the new labels are those of the old
renames-clade : {f : ℕ → ℕ} {x y : Kinded} → Renames f x y → SameClade (rename f x.tree) y.tree
renames-clade {f} (renames k t G H) =
    clade-trans {s = rename f (standing k t)} {r = rename f t} {v = standing k (rename f t)}
    (rename-clade f (standing k t) t (clade-sym (standing-clade k t G.distinct))) (standing-clade k (rename f t) H.distinct)

renames-like : {f : ℕ → ℕ} {x y x' y' : Kinded} → Renames f x x' → Renames f y y' → LikeIt x y → LikeIt x' y'
renames-like {f} {x} {y} {x'} {y'} a b h = record {
  kinds = renames-kind a ∙ h.kinds ∙ sym (renames-kind b);
  labels = clade-trans {s = x'.tree} {r = rename f x.tree} {v = y'.tree} (clade-sym (renames-clade a))
      (clade-trans {s = rename f x.tree} {r = rename f y.tree} {v = y'.tree} (rename-clade f x.tree y.tree h.labels) (renames-clade b));
}

renamed-alike : {f : ℕ → ℕ} {x x' : Kinded} → Renames f x x' → {ys ys' : List Kinded} → AllRenamed f ys ys' → Alike x ys → Alike x' ys'
unfolding Alike
renamed-alike a AllRenamed.none h = tt
renamed-alike a (AllRenamed.more b c) h = (renames-like a b h.0, renamed-alike a c h.1)

renamed-all-alike : {f : ℕ → ℕ} (takes : Takes) {xs ys : List Kinded} → AllRenamed f xs ys → AllAlike takes xs → AllAlike takes ys
unfolding AllAlike
renamed-all-alike takes AllRenamed.none h = tt
renamed-all-alike takes (AllRenamed.more a b) h = (subst (Taken takes) (sym (renames-kind a)) h.0, renamed-alike a b h.1)

renamed-many : {f : ℕ → ℕ} {xs ys : List Kinded} → AllRenamed f xs ys → length ys ≡ length xs
renamed-many AllRenamed.none = refl
renamed-many (AllRenamed.more a b) = ap suc (renamed-many b)

-- the text with every label replaced is that of the renamed trees
pub table-becomes : {f : ℕ → ℕ} {takes : Takes} {xs : List Kinded} {s : List ℕ} → Rule f (trees_of xs) → TableText takes xs s
    → (ys : List Kinded) × AllRenamed f xs ys × TableText takes ys (rename_text f s)
table-becomes {takes} r T =
    let (ys, A, Q) = trees-become r (λ l i. i) T.trees in
    let few : length ys ≤ max_trees = omega (arith, renamed-many A, T.few) in
    (ys, A, record { trees = Q; few = few; alike = renamed-all-alike takes A T.alike })
