-- The trees of a table that was read: each is good and all have one label set, so what is listed and written has room.
-- Assumes nothing.
use mathlib.Core.Path.{◌≡◌, refl, sym, ap, subst}
use mathlib.Core.List.Memᴰ
use mathlib.Core.List.{List, [], ◌∷◌, map}
use Prim.Native.Nat.{ℕ, ◌≤◌}
use native.Mathlib.Omega.{arith}
use lib.ListN.{length, length-map}
use Rattle.meaning.specs.Limits.{form_bytes, max_trees}
use Rattle.meaning.specs.Tree.{Tree, Good, AllGood}
use Rattle.meaning.specs.Kind.{Kinded, Trees, as_trees, Takes}
use Rattle.meaning.specs.Clade.{clade}
use Rattle.meaning.specs.Grammar.{Alike, AllAlike}
use Rattle.meaning.proofs.Clade.{clade-iff}
use Rattle.meaning.proofs.Calls.{TableGiven}
use Rattle.families.specs.Support.{holders, supported, support, max_clades}
use Rattle.families.specs.Majority.{majority_tree, majority_text}
use Rattle.families.proofs.Support.{EachGood, OneSet, supported-9921}
use Rattle.families.proofs.Majority.{IsMajority, majority-tree}
use Rattle.families.proofs.MajorityText.{majority-length}

-- the trees one by one
pub each-good : (ts : List Tree) → AllGood ts → EachGood ts
each-good [] A u m = absurd (Memᴰ.not-nil m)
each-good (t ∷ ts) A u (Memᴰ.head e) = subst Good (sym e) A.0
each-good (t ∷ ts) A u (Memᴰ.tail m) = each-good ts A.1 u m

-- the labels of the first of them, as one number
abbrev pub whole_of : List Tree → ℕ
whole_of [] = 0
whole_of (t ∷ ts) = clade t

abbrev trees_of : List Kinded → List Tree
trees_of xs = map (λ (x : Kinded). x.tree) xs

alike_set : (x : Kinded) (ys : List Kinded) → Good x.tree → AllGood (trees_of ys) → Alike x ys → OneSet (clade x.tree) (trees_of ys)
unfolding Alike
alike_set x [] G A h u m = absurd (Memᴰ.not-nil m)
alike_set x (y ∷ ys) G A h u (Memᴰ.head e) = subst (λ (t : Tree). clade t ≡ clade x.tree) (sym e) (sym ((clade-iff G A.0).1 h.0.labels))
alike_set x (y ∷ ys) G A h u (Memᴰ.tail m) = alike_set x ys G A.1 h.1 u m

all_set : (takes : Takes) (xs : List Kinded) → AllGood (as_trees xs).trees → AllAlike takes xs → OneSet (whole_of (as_trees xs).trees) (as_trees xs).trees
unfolding AllAlike
all_set takes [] A h u m = absurd (Memᴰ.not-nil m)
all_set takes (x ∷ xs) A h u (Memᴰ.head e) = subst (λ (t : Tree). clade t ≡ clade x.tree) (sym e) refl
all_set takes (x ∷ xs) A h u (Memᴰ.tail m) = alike_set x xs A.0 A.1 h.1 u m

-- those of a table that was read have one label set
pub one_set : {takes : Takes} {s : List ℕ} {table : Trees} → TableGiven takes s table → OneSet (whole_of table.trees) table.trees
one_set {takes} g =
    let e = ap (λ (x : Trees). x.trees) g.is in
    subst (λ (ts : List Tree). OneSet (whole_of ts) ts) (sym e) (all_set takes g.listed (subst AllGood e g.good) g.text.alike)

-- 9,921 clades are enough
pub table-clades : (ts : List Tree) → AllGood ts → OneSet (whole_of ts) ts → length ts ≤ max_trees → length (supported ts) ≤ max_clades
table-clades ts A one few = supported-9921 ts (each-good ts A) (whole_of ts) one few

-- and as many numbers
pub table-numbers : (ts : List Tree) → AllGood ts → OneSet (whole_of ts) ts → length ts ≤ max_trees → length (support ts) ≤ max_clades
table-numbers ts A one few = omega (arith, length-map (supported ts) (holders ts), table-clades ts A one few)

-- so are 309 bytes
pub table-text : (ts : List Tree) → AllGood ts → OneSet (whole_of ts) ts → length (majority_text ts) ≤ form_bytes
unfolding majority_text
table-text [] A one = omega arith
table-text (t ∷ ts) A one = majority-length t ts (each-good (t ∷ ts) A) one

-- and the tree written is the majority tree
pub table-majority : (t : Tree) (ts : List Tree) → AllGood (t ∷ ts) → OneSet (clade t) (t ∷ ts) → IsMajority (t ∷ ts) (majority_tree (t ∷ ts))
table-majority t ts A one = majority-tree t ts (each-good (t ∷ ts) A) one
