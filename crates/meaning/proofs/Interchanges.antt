-- The list of the interchanges of a tree has what they give, and the test for one interchange is right.
-- Assumes nothing.
use mathlib.Core.Path.{refl, subst, sym}
use mathlib.Core.Logic.{◌↔◌, ◌⊎◌, inl, inr}
use mathlib.Core.List.Memᴰ
use mathlib.Core.List.{List, ◌++◌, map, Memᴰ}
use native.Mathlib.Omega.{arith}
use lib.Dec.{T}
use lib.ListN.{length}
use Rattle.meaning.specs.Tree.{Tree, leaf, fork, Distinct, AllGood, SameTopology}
use Rattle.meaning.specs.Move.{Apart}
use Rattle.meaning.specs.Listing.{Pair, Listing, At}
use Rattle.meaning.specs.Interchange.{Forks, in_order, turned, Interchange, here, OneInterchange}
use Rattle.meaning.specs.Decide.{is_same_topology, around, interchanges, is_one_interchange}
use Rattle.meaning.proofs.Lists.{any-mem, mem-any}
use Rattle.meaning.proofs.Decide.{same_topology-iff}
use Rattle.meaning.proofs.TableText.{good-at}
use Rattle.meaning.proofs.Interchange.{interchange-distinct, interchange-apart}

-- around a node
around-given : (p z : Tree) {t u : Tree} → Forks p z t → Memᴰ u (around p z) → Interchange t u
around-given (leaf n) z g m = absurd (Memᴰ.not-nil m)
around-given (fork x y) z {t} g (Memᴰ.head e) = subst (Interchange t) (sym e) (here in_order g)
around-given (fork x y) z {t} g (Memᴰ.tail (Memᴰ.head e)) = subst (Interchange t) (sym e) (here turned g)
around-given (fork x y) z g (Memᴰ.tail (Memᴰ.tail m)) = absurd (Memᴰ.not-nil m)

given-around : {x y z p : Tree} → Forks x y p → Memᴰ (fork y (fork x z)) (around p z)
given-around in_order = Memᴰ.head refl
given-around turned = Memᴰ.tail (Memᴰ.head refl)

-- around the child a of t and inside it, where k puts what stands in a's place into t
inside-given : (a b : Tree) (k : Tree → Tree) (us : List Tree) {t : Tree} → Forks a b t → ((v : Tree) → Memᴰ v us → Interchange t (k v))
    → {u : Tree} → Memᴰ u (around a b ++ map k us) → Interchange t u
inside-given a b k us {t} g f {u} m = go (Memᴰ.append_cases (around a b) m)
  where
    go : Memᴰ u (around a b) ⊎ Memᴰ u (map k us) → Interchange t u
    go (inl n) = around-given a b g n
    go (inr n) = let (v, o, e) = Memᴰ.of_map k us n in subst (Interchange t) e (f v o)

pub listed-interchange : (t : Tree) {u : Tree} → Memᴰ u (interchanges t) → Interchange t u
listed-interchange (leaf n) m = absurd (Memᴰ.not-nil m)
listed-interchange (fork a b) {u} m =
    go (Memᴰ.append_cases (around a b ++ map (λ r. fork r b) (interchanges a)) m) (λ v n. listed-interchange a n) (λ v n. listed-interchange b n)
  where
    go : Memᴰ u (around a b ++ map (λ r. fork r b) (interchanges a)) ⊎ Memᴰ u (around b a ++ map (fork a) (interchanges b))
        → ((v : Tree) → Memᴰ v (interchanges a) → Interchange a v) → ((v : Tree) → Memᴰ v (interchanges b) → Interchange b v) → Interchange (fork a b) u
    go (inl n) f g = inside-given a b (λ r. fork r b) (interchanges a) in_order (λ v o. Interchange.in_first (f v o)) n
    go (inr n) f g = inside-given b a (fork a) (interchanges b) turned (λ v o. Interchange.in_second (g v o)) n

pub interchange-listed : {t u : Tree} → Interchange t u → Memᴰ u (interchanges t)
interchange-listed (here {z} {parent} f in_order) =
    Memᴰ.append_left (around z parent ++ map (fork parent) (interchanges z)) (Memᴰ.append_left (map (λ r. fork r z) (interchanges parent)) (given-around f))
interchange-listed (here {z} {parent} f turned) =
    Memᴰ.append_right (around z parent ++ map (λ r. fork r parent) (interchanges z)) (Memᴰ.append_left (map (fork z) (interchanges parent)) (given-around f))
interchange-listed (Interchange.in_first {a} {b} i) =
    Memᴰ.append_left (around b a ++ map (fork a) (interchanges b)) (Memᴰ.append_right (around a b) (Memᴰ.map (λ r. fork r b) (interchange-listed i)))
interchange-listed (Interchange.in_second {a} {b} i) =
    Memᴰ.append_right (around a b ++ map (λ r. fork r b) (interchanges a)) (Memᴰ.append_right (around b a) (Memᴰ.map (fork a) (interchange-listed i)))

pub one_interchange-iff : (t u : Tree) → Distinct t → Distinct u → T (is_one_interchange t u) ↔ OneInterchange t u
one_interchange-iff t u D E =
    let same : (v : Tree) → Interchange t v → T (is_same_topology v u) ↔ SameTopology v u = λ v i. same_topology-iff v u (interchange-distinct D i) E in (
      λ h.
          let (v, m, s) = any-mem (λ v. is_same_topology v u) (interchanges t) h in
          let i = listed-interchange t m in
          record { moved = v; interchange = i; gives = (same v i).0 s },
      λ o. mem-any (λ v. is_same_topology v u) (interchange-listed o.interchange) ((same o.moved o.interchange).1 o.gives),
    )

-- every pair that one interchange links is one that one move links
pub interchange-pairs : (ts : List Tree) → AllGood ts → {ps qs : List Pair} → Listing (length ts) (At OneInterchange ts) ps → Listing (length ts) (At Apart ts) qs
    → (p : Pair) → Memᴰ p ps → Memᴰ p qs
interchange-pairs ts G H L (i, j) m =
    let (h, l, o) = (H.listed i j).0 m in
    (L.listed i j).1 (h, l, interchange-apart (good-at ts G i (omega arith)).distinct o)
