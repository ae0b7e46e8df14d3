-- The majority tree's text: at most 309 bytes, and where all trees have one topology it is their canonical text.
-- Assumes nothing.
use mathlib.Core.Path.{◌≡◌, refl, sym, ap, ap₂, ◌∙◌, subst}
use mathlib.Core.Bool.{Bool, true, false}
use mathlib.Core.List.Memᴰ
use mathlib.Core.List.{List, [], ◌∷◌, ◌++◌, Memᴰ}
use Prim.Native.Nat.{ℕ, ◌+◌, ◌≤◌}
use native.Mathlib.Omega.{arith}
use lib.Dec.{T}
use lib.ListN.{length, length-append}
use Rattle.meaning.specs.Limits.{form_bytes}
use Rattle.meaning.specs.Tree.{Tree, leaf, fork, Good, Canonical, SameTopology, canon, write, form}
use Rattle.meaning.specs.Clade.{clade}
use Rattle.meaning.proofs.Lists.{in-member}
use Rattle.meaning.proofs.Canon.{canon-good, canon-topology, canon-canonical, canonical-canon}
use Rattle.meaning.proofs.Length.{form-length}
use Rattle.meaning.specs.Lists.{SameMembers}
use Rattle.families.specs.Clades.{clades}
use Rattle.families.specs.Support.{majority}
use Rattle.families.specs.Majority.{Multi, join, drawn, Single, Tidy, write_multi, mark, majority_tree, majority_text}
use Rattle.families.proofs.Clades.{topology-iff-clades}
use Rattle.families.proofs.Support.{EachGood, OneSet}
use Rattle.families.proofs.Chosen.{majority-occurs, everywhere-majority}
use Rattle.families.proofs.Majority.{IsMajority, mark-drawn, mark-clades, majority-tree}
use Rattle.families.proofs.Unique.{majority-unique}

-- ---- its length
-- brackets are only left out
write-le : (m : Multi) → length (write_multi m) ≤ length (write (drawn m))
write-le (Multi.tip n) = omega arith
write-le (join true a b) = simp length-append (omega (arith, write-le a, write-le b))
write-le (join false a b) = simp length-append (omega (arith, write-le a, write-le b))

multi-length : (m : Multi) → Good (drawn m) → Canonical (drawn m) → length (write_multi m ++ (59 ∷ [])) ≤ form_bytes
multi-length m G C =
    let text : Tree → ℕ = λ t. length (write t ++ (59 ∷ [])) in
    let e : length (form (drawn m)) ≡ length (write (drawn m) ++ (59 ∷ [])) = ap text (canonical-canon (drawn m) C) in
    simp length-append (omega (arith, write-le m, form-length G, e, length-append (write (drawn m)) (59 ∷ [])))

-- at most 309 bytes
pub majority-length : (t : Tree) (ts : List Tree) → EachGood (t ∷ ts) → OneSet (clade t) (t ∷ ts) → length (majority_text (t ∷ ts)) ≤ form_bytes
unfolding majority_text
majority-length t ts A one = let M = majority-tree t ts A one in multi-length (majority_tree (t ∷ ts)) M.good M.ordered

-- ---- one topology
-- every clade of the tree is in the list
abbrev AllIn : Tree → List ℕ → Type 0
AllIn t cs = (d : ℕ) → Memᴰ d (clades t) → Memᴰ d cs

module _ (cs : List ℕ) where
  module _ (a b : Tree) (f : AllIn (fork a b) cs) where
    all_left : AllIn a cs
    all_left d i = f d (Memᴰ.tail (Memᴰ.append_left (clades b) i))

    all_right : AllIn b cs
    all_right d i = f d (Memᴰ.tail (Memᴰ.append_right (clades a) i))

  -- then all forks are nodes
  single-all : (t : Tree) → AllIn t cs → Single (mark cs t)
  unfolding mark
  single-all (leaf n) f = tt
  single-all (fork a b) f = subst T (sym (in-member (f (clade a + clade b) (Memᴰ.head refl)))) tt

  mark-tidy : (t : Tree) → AllIn t cs → Tidy (mark cs t)
  unfolding mark
  mark-tidy (leaf n) f = tt
  mark-tidy (fork a b) f = (single-all a (all_left a b f), mark-tidy a (all_left a b f), mark-tidy b (all_right a b f))

  -- and the text is the tree's
  mark-write : (t : Tree) → AllIn t cs → write_multi (mark cs t) ≡ write t
  unfolding mark
  mark-write (leaf n) f = refl
  mark-write (fork a b) f =
      ap (λ (q : Bool). write_multi (join q (mark cs a) (mark cs b))) (in-member (f (clade a + clade b) (Memᴰ.head refl)))
      ∙ ap₂ (λ (x y : List ℕ). (40 ∷ x) ++ (44 ∷ y) ++ (41 ∷ [])) (mark-write a (all_left a b f)) (mark-write b (all_right a b f))

-- trees of one topology: the majority text is their canonical text
pub majority-form : (t : Tree) (ts : List Tree) → EachGood (t ∷ ts) → ((u : Tree) → Memᴰ u (t ∷ ts) → SameTopology u t) → majority_text (t ∷ ts) ≡ form t
unfolding majority_text
majority-form t ts A f =
    ap (λ (m : Multi). write_multi m ++ (59 ∷ [])) (sym (majority-unique t ts A (mark (clades t) (canon t)) M))
    ∙ ap (λ (x : List ℕ). x ++ (59 ∷ [])) (mark-write (clades t) (canon t) (λ d. (same d).0))
  where
    G : Good t
    G = A t (Memᴰ.head refl)

    told : (u : Tree) → Memᴰ u (t ∷ ts) → (clade u ≡ clade t) × SameMembers (clades u) (clades t)
    told u m = (topology-iff-clades (A u m) G).0 (f u m)

    form-told : (clade (canon t) ≡ clade t) × SameMembers (clades (canon t)) (clades t)
    form-told = (topology-iff-clades (canon-good G) G).0 (canon-topology t)

    same : SameMembers (clades (canon t)) (clades t)
    same = form-told.1

    e : drawn (mark (clades t) (canon t)) ≡ canon t
    e = mark-drawn (clades t) (canon t)

    there : (c : ℕ) → T (majority (t ∷ ts) c) → Memᴰ c (clades t)
    there c h = let (u, m, i) = majority-occurs (t ∷ ts) c h in ((told u m).1 c).0 i

    M : IsMajority (t ∷ ts) (mark (clades t) (canon t))
    M = record {
      good = subst Good (sym e) (canon-good G);
      ordered = subst Canonical (sym e) (canon-canonical t G.distinct);
      tidy = mark-tidy (clades t) (canon t) (λ d. (same d).0);
      whole = λ u m. ap clade e ∙ form-told.0 ∙ sym (told u m).0;
      has = λ c. (
        λ i. everywhere-majority t ts c (λ u m. ((told u m).1 c).1 ((mark-clades (clades t) c (canon t)).0 i).1),
        λ h. let i = there c h in (mark-clades (clades t) c (canon t)).1 ((same c).1 i, i),
      );
    }
