-- Held bytes: what stands at a leaf and at a fork, that bytes hold one tree, and what a whole array and a written fork hold.
-- Assumes nothing.
use mathlib.Core.Path.{◌≡◌, refl, sym, ap, ap₂, subst, ◌∙◌}
use mathlib.Core.List.{List, ◌∷◌, ◌++◌, append_assoc}
use Prim.Native.Nat.{ℕ, ◌+◌, ◌*◌, ◌-◌, ◌≤◌, ◌<◌}
use native.Mathlib.Omega.{arith}
use lib.ListN.{length, take, drop, get_or, set, replicate, length-append, length-drop}
use lib.Seq.{take-append_seam}
use Rattle.meaning.specs.Limits.{max_nodes}
use Rattle.meaning.specs.Tree.{Tree, leaf, fork, leaves, In, tip, Small, Good}
use Rattle.meaning.proofs.Labels.{some-leaves}
use Rattle.meaning.proofs.Length.{leaves-64}
use Rattle.lent.specs.Runs.{Wrote}
use Rattle.lent.proofs.Runs.{sets-start, wrote_one, wrote-more}
use Rattle.held.specs.Held.{nodes, byte, pre, Holds, hold}
use Rattle.held.proofs.Preorder.{length-preorder, own_is, first-stands, second-stands}

pub length-pre : (t : Tree) → length (pre t) ≡ nodes t
length-pre = length-preorder byte

-- a tree has one node fewer than twice its leaves
pub twice : (t : Tree) → nodes t + 1 ≡ 2 * leaves t
twice (leaf l) = refl
twice (fork a b) = omega (arith, twice a, twice b)

pub some-nodes : (t : Tree) → 1 ≤ nodes t
some-nodes (leaf l) = omega arith
some-nodes (fork a b) = omega arith

-- a good tree has at most as many nodes as there is room for
pub few-nodes : {t : Tree} → Good t → nodes t ≤ max_nodes
few-nodes {t} G = omega (arith, leaves-64 G, twice t)

pub small-first : {a b : Tree} → Small (fork a b) → Small a
small-first s l i = s l (In.first i)

pub small-second : {a b : Tree} → Small (fork a b) → Small b
small-second s l i = s l (In.second i)

-- a held leaf's byte, and a held fork's
leaf-byte : {xs : List ℕ} {k l : ℕ} → Holds xs k (leaf l) → get_or xs k 0 ≡ l
leaf-byte {xs} {k} {l} h = own_is byte 0 xs k (leaf l) h.stands

pub fork-byte : {xs : List ℕ} {k : ℕ} {a b : Tree} → Holds xs k (fork a b) → get_or xs k 0 ≡ 64 + (leaves a + leaves b)
fork-byte {xs} {k} {a} {b} h = own_is byte 0 xs k (fork a b) h.stands

-- a held fork's children are held
pub children : {xs : List ℕ} {k : ℕ} {a b : Tree} → Holds xs k (fork a b) → Holds xs (k + 1) a × Holds xs (k + 1 + nodes a) b
children {xs} {k} {a} {b} h = (
  record { small = small-first h.small; stands = first-stands byte xs k a b h.stands },
  record { small = small-second h.small; stands = second-stands byte xs k a b h.stands },
)

-- the tree t that is held at k is a fork
pub record ForkAt (xs : List ℕ) (k : ℕ) (t : Tree) : Type 0 where
  pub first : Tree
  pub second : Tree
  pub whole : Holds xs k t
  pub is : t ≡ fork first second
  pub byte : get_or xs k 0 ≡ 64 + (leaves first + leaves second)
  pub holds-first : Holds xs (k + 1) first
  pub holds-second : Holds xs (k + 1 + nodes first) second

pub fork-nodes : {xs : List ℕ} {k : ℕ} {t : Tree} (f : ForkAt xs k t) → nodes t ≡ 1 + nodes f.first + nodes f.second
fork-nodes f = omega (arith, ap nodes f.is)

-- the byte tells a leaf from a fork
pub leafed : {xs : List ℕ} {k : ℕ} {t : Tree} → Holds xs k t → get_or xs k 0 ≤ 64 → t ≡ leaf (get_or xs k 0)
leafed {t = leaf l} h small = ap leaf (sym (leaf-byte h))
leafed {t = fork a b} h small = absurd (omega (arith, fork-byte h, some-leaves a))

pub forked : {xs : List ℕ} {k : ℕ} {t : Tree} → Holds xs k t → 64 < get_or xs k 0 → ForkAt xs k t
forked {t = leaf l} h large = absurd (omega (arith, leaf-byte h, h.small l tip))
forked {t = fork a b} h large =
    record { first = a; second = b; whole = h; is = refl; byte = fork-byte h; holds-first = (children h).0; holds-second = (children h).1 }

-- and so do the nodes
pub forked-by : {xs : List ℕ} {k : ℕ} {t : Tree} → Holds xs k t → 1 < nodes t → ForkAt xs k t
forked-by {t = leaf l} h more = absurd (omega arith)
forked-by {t = fork a b} h more = forked h (omega (arith, fork-byte h, some-leaves a))

-- a held tree is inside the list
pub inside : {xs : List ℕ} {k : ℕ} {t : Tree} → Holds xs k t → k + nodes t ≤ length xs
inside {xs} {k} {t} h =
    omega (arith, length-drop k xs, ap length h.stands.1 ∙ length-append (pre t) h.stands.0, length-pre t, some-nodes t)

pub within : {xs : List ℕ} {k : ℕ} {t : Tree} → Holds xs k t → k < length xs
within {t} h = omega (arith, inside h, some-nodes t)

-- the bytes of a tree end where the tree does
pub parted : (t u : Tree) → Small t → Small u → (xs ys : List ℕ) → pre t ++ xs ≡ pre u ++ ys → (t ≡ u) × (xs ≡ ys)
parted (leaf l) (leaf m) s r xs ys e = (cc, cc)
parted (leaf l) (fork a b) s r xs ys e =
    let e' : l ≡ 64 + (leaves a + leaves b) = cc in
    absurd (omega (arith, s l tip, some-leaves a))
parted (fork a b) (leaf m) s r xs ys e =
    let e' : m ≡ 64 + (leaves a + leaves b) = cc in
    absurd (omega (arith, r m tip, some-leaves a))
parted (fork a b) (fork c d) s r xs ys e =
    let e' : (pre a ++ pre b) ++ xs ≡ (pre c ++ pre d) ++ ys = cc in
    let one = parted a c (small-first s) (small-first r) (pre b ++ xs) (pre d ++ ys) (sym (append_assoc (pre a) (pre b) xs) ∙ e' ∙ append_assoc (pre c) (pre d) ys) in
    let two = parted b d (small-second s) (small-second r) xs ys one.1 in
    (ap₂ fork one.0 two.0, two.1)

-- one tree is held at k
pub unique : {xs : List ℕ} {k : ℕ} {t u : Tree} → Holds xs k t → Holds xs k u → t ≡ u
unique {t} {u} g h = (parted t u g.small h.small g.stands.0 h.stands.0 (sym g.stands.1 ∙ h.stands.1)).0

-- so what is so of it is so of each
pub each : {xs : List ℕ} {k : ℕ} {t : Tree} (P : Tree → Type 0) → Holds xs k t → P t → (u : Tree) → Holds xs k u → P u
each P g p u h = subst P (unique g h) p

pub taken_is : {xs : List ℕ} {k : ℕ} {t : Tree} → Holds xs k t → take (nodes t) (drop k xs) ≡ pre t
taken_is {t} h = ap₂ (λ (j : ℕ) (l : List ℕ). take j l) (sym (length-pre t)) h.stands.1 ∙ take-append_seam (pre t) h.stands.0

-- a fork's byte less 64 is the leaves below it, and a leaf's is 0: the measure of each walk down a tree
below : {xs : List ℕ} {k : ℕ} {t : Tree} → Holds xs k t → get_or xs k 0 - 64 ≤ leaves t
below {t = leaf l} h = omega (arith, leaf-byte h, h.small l tip)
below {t = fork a b} h = omega (arith, fork-byte h)

-- it falls to each child; w is the width of the first, as `width` says
module _ {xs : List ℕ} {k : ℕ} {t : Tree} (f : ForkAt xs k t) where
  pub first-falls : get_or xs (k + 1) 0 - 64 < get_or xs k 0 - 64
  first-falls = omega (arith, below f.holds-first, some-leaves f.second)

  module _ (w : ℕ) (e : w ≡ nodes f.first) where
    pub second_at : Holds xs (k + 1 + w) f.second
    second_at = rw e f.holds-second

    pub second-falls : get_or xs (k + 1 + w) 0 - 64 < get_or xs k 0 - 64
    second-falls = omega (arith, below second_at, some-leaves f.first)

-- what a whole array holds
pub holding : (t : Tree) → Small t → nodes t ≤ 127 → Holds (hold t) 0 t
holding t s fits =
    record { small = s; stands = (drop (length (pre t)) (replicate 127 0), sets-start (replicate 127 0) (pre t) (omega (arith, length-pre t))) }

-- a fork's byte is written, then its two subtrees
pub wrote-fork : (a b : Tree) {v : ℕ} {out o₁ o₂ : List ℕ} {at r₁ r₂ : ℕ} → v ≡ 64 + (leaves a + leaves b)
    → Wrote (pre a) (set out at v) o₁ (at + 1) r₁ → Wrote (pre b) o₁ o₂ r₁ r₂ → Wrote (pre (fork a b)) out o₂ at r₂
wrote-fork a b {v} {out} {o₂} {at} {r₂} e p q =
    subst (λ (w : ℕ). Wrote (w ∷ (pre a ++ pre b)) out o₂ at r₂) e (wrote-more (wrote_one out at v) (wrote-more p q))
