-- The majority clades: any two stand in one tree, so they are nested or disjoint.
-- Assumes nothing.
use mathlib.Core.Path.{◌≡◌, refl, sym, ap, subst}
use mathlib.Core.Logic.{◌↔◌}
use mathlib.Core.Bool.{Bool, true, false}
use mathlib.Core.List.Memᴰ
use mathlib.Core.List.{List, [], ◌∷◌, Memᴰ}
use Prim.Native.Nat.{ℕ, suc, ◌+◌, ◌*◌, ◌≤◌, ◌<◌}
use native.Mathlib.Omega.{arith}
use lib.Dec.{T, ltb→lt, lt→ltb}
use lib.ListN.{length}
use Rattle.meaning.specs.Lists.{member, count, bit}
use Rattle.meaning.specs.Tree.{Tree, root, leaves}
use Rattle.meaning.specs.Clade.{clade}
use Rattle.meaning.proofs.Lists.{in-member}
use Rattle.meaning.proofs.LabelBits.{Under}
use Rattle.families.specs.Clades.{size, clades}
use Rattle.families.specs.Support.{holders, supported, majority, chosen}
use Rattle.families.proofs.Clades.{Fit, size-leaves, node-clades, clades-under, clades-size, clades-fit}
use Rattle.meaning.proofs.Keep.{keep-iff, keep-nodup}
use Rattle.families.proofs.Once.{member-T}
use Rattle.families.proofs.Laminar.{Family}
use Rattle.families.proofs.Support.{Occurs, EachGood, OneSet, holders-iff, supported-in, supported-nodup}

-- twice its number is above the number of trees
pub majority-iff : (ts : List Tree) (c : ℕ) → T (majority ts c) ↔ (length ts < 2 * holders ts c)
unfolding majority
majority-iff ts c = (ltb→lt (length ts) (2 * holders ts c), lt→ltb (length ts) (2 * holders ts c))

-- a tree of the list passes both tests
abbrev Both : (Tree → Bool) → (Tree → Bool) → List Tree → Type 0
Both p q ts = (t : Tree) × Memᴰ t ts × T (p t) × T (q t)

-- two tests that more than half pass are both passed by one
pigeon : (p q : Tree → Bool) (ts : List Tree) → length ts < count p ts + count q ts → Both p q ts
pigeon p q [] h = absurd (omega arith)
pigeon p q (u ∷ us) h = go (p u) (q u) (λ t. t) (λ t. t) h (pigeon p q us)
  where
    next : Both p q us → Both p q (u ∷ us)
    next (t, m, a, b) = (t, Memᴰ.tail m, a, b)

    go : (a b : Bool) → (T a → T (p u)) → (T b → T (q u)) → suc (length us) < bit a + count p us + (bit b + count q us)
        → (length us < count p us + count q us → Both p q us) → Both p q (u ∷ us)
    go true true f g h r = (u, Memᴰ.head refl, f tt, g tt)
    go true false f g h r = next (r (omega arith))
    go false true f g h r = next (r (omega arith))
    go false false f g h r = next (r (omega arith))

majority-meet : (ts : List Tree) (c d : ℕ) → T (majority ts c) → T (majority ts d) → Both (λ t. member c (clades t)) (λ t. member d (clades t)) ts
majority-meet ts c d s t = pigeon (λ t. member c (clades t)) (λ t. member d (clades t)) ts (omega (arith, (majority-iff ts c).0 s, (majority-iff ts d).0 t))

-- any two majority clades are nested or disjoint
pub majority-fit : (ts : List Tree) → EachGood ts → (c d : ℕ) → T (majority ts c) → T (majority ts d) → Fit c d
majority-fit ts A c d s t = let (u, m, i, j) = majority-meet ts c d s t in clades-fit u (A u m) c d (member-T c (clades u) i) (member-T d (clades u) j)

-- a majority clade occurs
pub majority-occurs : (ts : List Tree) (c : ℕ) → T (majority ts c) → Occurs c ts
majority-occurs ts c t = (holders-iff ts c).0 (omega (arith, (majority-iff ts c).0 t))

-- the chosen clades are those of the majority
pub chosen-iff : (ts : List Tree) (c : ℕ) → Memᴰ c (chosen ts) ↔ T (majority ts c)
chosen-iff ts c =
    let f = keep-iff (majority ts) (supported ts) c in
    (λ m. (f.0 m).1, λ t. f.1 ((supported-in ts c).1 (majority-occurs ts c t), t))

-- no clade twice, two or more labels each, any two nested or disjoint
pub chosen-family : (ts : List Tree) → EachGood ts → Family (chosen ts)
chosen-family ts A = record {
  once = keep-nodup (majority ts) (supported ts) (supported-nodup ts A);
  large = λ c m. let (t, i, n) = majority-occurs ts c ((chosen-iff ts c).0 m) in clades-size t (A t i) c n;
  fit = λ c d m n. majority-fit ts A c d ((chosen-iff ts c).0 m) ((chosen-iff ts d).0 n);
}

-- in a table over one label set they lie in that
pub chosen-parts : (ts : List Tree) → EachGood ts → (s : ℕ) → OneSet s ts → (c : ℕ) → Memᴰ c (chosen ts) → Under c s
chosen-parts ts A s one c m =
    let (t, i, n) = majority-occurs ts c ((chosen-iff ts c).0 m) in
    subst (Under c) (one t i) (clades-under t (A t i) c n)

-- ---- clades of every tree
holders-all : (ts : List Tree) (c : ℕ) → ((u : Tree) → Memᴰ u ts → Memᴰ c (clades u)) → holders ts c ≡ length ts
holders-all [] c f = refl
holders-all (u ∷ us) c f = omega (arith, ap bit (in-member (f u (Memᴰ.head refl))), holders-all us c (λ v m. f v (Memᴰ.tail m)))

-- a clade of every tree is a majority clade
pub everywhere-majority : (t : Tree) (ts : List Tree) (c : ℕ) → ((u : Tree) → Memᴰ u (t ∷ ts) → Memᴰ c (clades u)) → T (majority (t ∷ ts) c)
everywhere-majority t ts c f = (majority-iff (t ∷ ts) c).1 (omega (arith, holders-all (t ∷ ts) c f))

-- so is the whole label set, where it has two or more labels
pub whole-majority : (t : Tree) (ts : List Tree) → EachGood (t ∷ ts) → OneSet (clade t) (t ∷ ts) → 2 ≤ leaves t → T (majority (t ∷ ts) (clade t))
whole-majority t ts A one h = everywhere-majority t ts (clade t) (λ u m. Memᴰ.cast (sym (one u m)) (node-clades {s = u} root (large u m)))
  where
    large : (u : Tree) → Memᴰ u (t ∷ ts) → 2 ≤ leaves u
    large u m = omega (arith, ap size (one u m), size-leaves (A u m), size-leaves (A t (Memᴰ.head refl)))
