-- The majority tree: there is a tree with the majority clades and children by smallest label.
-- Assumes nothing.
use mathlib.Core.Path.{◌≡◌, refl, sym, ap, ap₂, ◌∙◌, subst}
use mathlib.Core.Logic.{◌↔◌, ◌⊎◌, inl, inr}
use mathlib.Core.Bool.{Bool, true, false}
use mathlib.Core.List.Memᴰ
use mathlib.Core.List.{List, ◌∷◌, Memᴰ}
use Prim.Native.Nat.{ℕ, ◌+◌}
use lib.Dec.{T}
use Rattle.meaning.specs.Limits.{max_label}
use Rattle.meaning.specs.Lists.{member}
use Rattle.meaning.specs.Tree.{Tree, leaf, fork, Good, Canonical}
use Rattle.meaning.specs.Clade.{clade}
use Rattle.meaning.proofs.Logic.{clash}
use Rattle.meaning.proofs.Lists.{member-in, in-member}
use Rattle.meaning.proofs.LabelBits.{Under}
use Rattle.meaning.proofs.Clade.{clade-fits, clade-some}
use Rattle.families.specs.Clades.{clades}
use Rattle.families.specs.Grown.{grow, GrowsTo}
use Rattle.families.specs.Support.{majority, chosen}
use Rattle.families.specs.Majority.{Multi, join, drawn, node_clades, Tidy, mark, majority_tree}
use Rattle.families.proofs.Laminar.{Made, family-made}
use Rattle.families.proofs.Support.{EachGood, OneSet}
use Rattle.families.proofs.Chosen.{chosen-iff, chosen-family, chosen-parts}

-- ---- the clades of a tree's nodes
-- its label set as one number
abbrev pub whole : Multi → ℕ
whole m = clade (drawn m)

-- d is the clade of a node of m
abbrev pub Has : ℕ → Multi → Type 0
Has d m = Memᴰ d (node_clades m)

-- of a join: its own if it is a node, and those of its parts
abbrev pub Parted : ℕ → Bool → Multi → Multi → Type 0
Parted d node a b = ((d ≡ whole a + whole b) × (node ≡ true)) ⊎ (Has d a ⊎ Has d b)

pub join-cases : (d : ℕ) (node : Bool) (a b : Multi) → Has d (join node a b) → Parted d node a b
join-cases d true a b (Memᴰ.head e) = inl (e, refl)
join-cases d true a b (Memᴰ.tail i) = inr (Memᴰ.append_cases (node_clades a) i)
join-cases d false a b i = inr (Memᴰ.append_cases (node_clades a) i)

pub join-in : (d : ℕ) (node : Bool) (a b : Multi) → Has d a ⊎ Has d b → Has d (join node a b)
join-in d true a b (inl i) = Memᴰ.tail (Memᴰ.append_left (node_clades b) i)
join-in d true a b (inr i) = Memᴰ.tail (Memᴰ.append_right (node_clades a) i)
join-in d false a b (inl i) = Memᴰ.append_left (node_clades b) i
join-in d false a b (inr i) = Memᴰ.append_right (node_clades a) i

pub join-own : (d : ℕ) (node : Bool) (a b : Multi) → node ≡ true → d ≡ whole a + whole b → Has d (join node a b)
join-own d true a b q e = Memᴰ.head e
join-own d false a b q e = clash cc

-- they are clades of the drawing
pub node-clade : (d : ℕ) (m : Multi) → Has d m → Memᴰ d (clades (drawn m))
node-clade d (Multi.tip n) i = i
node-clade d (join node a b) i = go (node-clade d a) (node-clade d b) (join-cases d node a b i)
  where
    go : (Has d a → Memᴰ d (clades (drawn a))) → (Has d b → Memᴰ d (clades (drawn b))) → Parted d node a b
        → Memᴰ d (clades (fork (drawn a) (drawn b)))
    go f g (inl (e, _)) = Memᴰ.head e
    go f g (inr (inl i)) = Memᴰ.tail (Memᴰ.append_left (clades (drawn b)) (f i))
    go f g (inr (inr i)) = Memᴰ.tail (Memᴰ.append_right (clades (drawn a)) (g i))

-- ---- a binary tree of which some forks are nodes
-- marking changes no fork
pub mark-drawn : (cs : List ℕ) (t : Tree) → drawn (mark cs t) ≡ t
unfolding mark
mark-drawn cs (leaf n) = refl
mark-drawn cs (fork a b) = ap₂ fork (mark-drawn cs a) (mark-drawn cs b)

-- the nodes have those clades of the tree that are in the list
abbrev Marked : List ℕ → ℕ → Tree → Type 0
Marked cs d t = Has d (mark cs t) ↔ (Memᴰ d (clades t) × Memᴰ d cs)

-- of a marked tree
pub mark-clades : (cs : List ℕ) (d : ℕ) (t : Tree) → Marked cs d t
unfolding mark
mark-clades cs d (leaf n) = (λ i. absurd (Memᴰ.not-nil i), λ (i, _). i)
mark-clades cs d (fork a b) = go (mark-clades cs d a) (mark-clades cs d b)
  where
    same : whole (mark cs a) + whole (mark cs b) ≡ clade a + clade b
    same = ap₂ (λ (x y : Tree). clade x + clade y) (mark-drawn cs a) (mark-drawn cs b)

    there : Marked cs d a → Marked cs d b → Parted d (member (clade a + clade b) cs) (mark cs a) (mark cs b) → Memᴰ d (clades (fork a b)) × Memᴰ d cs
    there f g (inl (e, q)) = (Memᴰ.head (e ∙ same), Memᴰ.cast (e ∙ same) (member-in (clade a + clade b) cs q))
    there f g (inr (inl i)) = let (j, k) = f.0 i in (Memᴰ.tail (Memᴰ.append_left (clades b) j), k)
    there f g (inr (inr i)) = let (j, k) = g.0 i in (Memᴰ.tail (Memᴰ.append_right (clades a) j), k)

    side : Marked cs d a → Marked cs d b → Memᴰ d cs → Memᴰ d (clades a) ⊎ Memᴰ d (clades b) → Has d (mark cs a) ⊎ Has d (mark cs b)
    side f g j (inl i) = inl (f.1 (i, j))
    side f g j (inr i) = inr (g.1 (i, j))

    back : Marked cs d a → Marked cs d b → Memᴰ d cs → Memᴰ d (clades (fork a b)) → Has d (join (member (clade a + clade b) cs) (mark cs a) (mark cs b))
    back f g j (Memᴰ.head e) = join-own d (member (clade a + clade b) cs) (mark cs a) (mark cs b) (in-member (Memᴰ.cast (sym e) j)) (e ∙ sym same)
    back f g j (Memᴰ.tail i) = join-in d (member (clade a + clade b) cs) (mark cs a) (mark cs b) (side f g j (Memᴰ.append_cases (clades a) i))

    go : Marked cs d a → Marked cs d b → Marked cs d (fork a b)
    go f g = (λ i. there f g (join-cases d (member (clade a + clade b) cs) (mark cs a) (mark cs b) i), λ (i, j). back f g j i)

-- ---- there is a majority tree
-- what it is: a tree over the table's labels, children by smallest label, the nodes of which have exactly the majority clades
pub record IsMajority (ts : List Tree) (m : Multi) : Type 0 where
  pub good : Good (drawn m)
  pub ordered : Canonical (drawn m)
  pub tidy : Tidy m
  pub whole : (t : Tree) → Memᴰ t ts → clade (drawn m) ≡ clade t
  pub has : (c : ℕ) → Memᴰ c (node_clades m) ↔ T (majority ts c)

module _ (t : Tree) (ts : List Tree) (A : EachGood (t ∷ ts)) (one : OneSet (clade t) (t ∷ ts)) where
  parts : (d : ℕ) → Memᴰ d (chosen (t ∷ ts)) → Under d (clade t)
  parts = chosen-parts (t ∷ ts) A (clade t) one

  made : Made (chosen (t ∷ ts)) (chosen-family (t ∷ ts) A) (clade t) (grow max_label (chosen (t ∷ ts)) (clade t))
  made = family-made (chosen (t ∷ ts)) (chosen-family (t ∷ ts) A) (clade t) (clade-some t) (clade-fits (A t (Memᴰ.head refl))) parts

  -- the drawing grows from the chosen clades
  pub majority-grows : GrowsTo (chosen (t ∷ ts)) (clade t) (grow max_label (chosen (t ∷ ts)) (clade t))
  majority-grows = record { good = made.good; whole = made.whole; grows = made.grows }

  -- there is one
  pub majority-tree : IsMajority (t ∷ ts) (majority_tree (t ∷ ts))
  unfolding majority_tree
  majority-tree =
      let b = grow max_label (chosen (t ∷ ts)) (clade t) in
      let e = mark-drawn (chosen (t ∷ ts)) b in record {
        good = subst Good (sym e) made.good;
        ordered = subst Canonical (sym e) made.canonical;
        tidy = made.tidy;
        whole = λ u m. ap clade e ∙ made.whole ∙ sym (one u m);
        has = λ c. (
          λ i. (chosen-iff (t ∷ ts) c).0 ((mark-clades (chosen (t ∷ ts)) c b).0 i).1,
          λ m. let i = (chosen-iff (t ∷ ts) c).1 m in (mark-clades (chosen (t ∷ ts)) c b).1 (made.has c i (parts c i), i),
        );
      }
