-- Rootings: unrooted trees have one topology exactly when their roots can be moved to one place, and exactly when they are the same hung at the smallest label.
-- Assumes nothing.
use mathlib.Core.Path.{◌≡◌, refl, sym, ap, subst, ◌∙◌}
use mathlib.Core.Logic.{◌↔◌, ◌≢◌}
use mathlib.Core.Bool.{Bool, true, false, cond, not}
use Prim.Native.Nat.{ℕ, ◌≤◌, ◌<◌}
use native.Mathlib.Omega.{arith}
use lib.Dec.{T, leb, leb→le, nleb→lt, le→leb}
use Rattle.meaning.specs.Tree.{Tree, leaf, fork, In, tip, Distinct, Good, SameClade, SameTopology, least, canon, Canonical}
use Rattle.meaning.specs.Kind.{Kind, rooted, unrooted}
use Rattle.meaning.specs.Unrooted.{SameSplits, Rooting, spin, hang, standing, spine, turn_round, canon_unrooted}
use Rattle.meaning.proofs.Same.{◌≈◌, one, same, swap, ≈-refl, ≈-sym, ≈-trans, flip, ≈-clade, ≈-distinct, ≈-topology, topology-≈, not-leaf}
use Rattle.meaning.proofs.Canon.{least-in, least-le, canon-≈, canon-distinct, canon-good, canon-canonical, topology-iff-canon}
use Rattle.meaning.proofs.Splits.{clade-refl, splits-sym, splits-trans, ≈-splits, shift-distinct, shift-splits, same-sides}

-- equal up to the order of the children and the place of the root, which moves over one inner node after another
infix 50 ◌∼◌
pub data ◌∼◌ : Tree → Tree → Type 0 where
  order : {t u : Tree} → t ≈ u → t ∼ u
  roll : {t u a b c : Tree} → t ≈ fork (fork a b) c → fork a (fork b c) ∼ u → t ∼ u

pub ∼-refl : (t : Tree) → t ∼ t
∼-refl t = order (≈-refl t)

pub ∼-trans : {t u v : Tree} → t ∼ u → u ∼ v → t ∼ v
∼-trans (order p) (order q) = order (≈-trans p q)
∼-trans (order p) (roll q r) = roll (≈-trans p q) r
∼-trans (roll p q) r = roll p (∼-trans q r)

pub shift : (a b c : Tree) → fork (fork a b) c ∼ fork a (fork b c)
shift a b c = roll (≈-refl (fork (fork a b) c)) (∼-refl (fork a (fork b c)))

-- fork a (fork b c), read from the other end
mirror : (a b c : Tree) → fork a (fork b c) ≈ fork (fork c b) a
mirror a b c = swap (≈-refl a) (flip b c)

pub shift_back : (a b c : Tree) → fork a (fork b c) ∼ fork (fork a b) c
shift_back a b c = roll (mirror a b c) (order (mirror c b a))

pub ∼-sym : {t u : Tree} → t ∼ u → u ∼ t
∼-sym (order p) = order (≈-sym p)
∼-sym (roll {a} {b} {c} p q) = ∼-trans (∼-sym q) (∼-trans (shift_back a b c) (order (≈-sym p)))

pub ∼-distinct : {t u : Tree} → t ∼ u → Distinct t → Distinct u
∼-distinct (order p) D = ≈-distinct p D
∼-distinct (roll {a} {b} {c} p q) D = ∼-distinct q (shift-distinct a b c (≈-distinct p D))

pub ∼-splits : {t u : Tree} → t ∼ u → Distinct t → SameSplits t u
∼-splits (order p) D = ≈-splits p
∼-splits (roll {a} {b} {c} p q) D =
    let E = ≈-distinct p D in
    splits-trans (≈-splits p) (splits-trans (shift-splits a b c E) (∼-splits q (shift-distinct a b c E)))

-- a tree that is hung is the same unrooted tree
two_ways : {t x y : Tree} (q : Bool) → t ∼ x → t ∼ y → t ∼ cond q x y
two_ways true p r = p
two_ways false p r = r

spin-∼ : (up t : Tree) → fork up t ∼ spin up t
spin-∼ up (leaf n) = order (flip up (leaf n))
spin-∼ up (fork a b) = two_ways (leb (least a) (least b))
    (∼-trans (order (same (≈-refl up) (flip a b))) (∼-trans (shift_back up b a) (spin-∼ (fork up b) a)))
    (∼-trans (shift_back up a b) (spin-∼ (fork up a) b))

pub hang-∼ : (t : Tree) → t ∼ hang t
hang-∼ (leaf n) = ∼-refl (leaf n)
hang-∼ (fork a b) = two_ways (leb (least a) (least b)) (∼-trans (order (flip a b)) (spin-∼ b a)) (spin-∼ a b)

-- the child with the smaller least label is gone into
first_way : (x y a b : Tree) → least a < least b → cond (leb (least a) (least b)) x y ≡ x
first_way x y a b h = go (leb (least a) (least b)) (le→leb (least a) (least b) (omega arith))
  where
    go : (q : Bool) → T q → cond q x y ≡ x
    go true t = refl
    go false t = absurd t

-- its root stands at the leaf m
pub data Hung (m : ℕ) : Tree → Type 0 where
  hung : (r : Tree) → Hung m (fork (leaf m) r)

min-way : {x y : Tree} (a b : Tree) → Hung (least a) x → Hung (least b) y → Hung (least (fork a b)) (cond (leb (least a) (least b)) x y)
min-way {x} {y} a b f g = go (leb (least a) (least b)) (leb→le (least a) (least b)) (nleb→lt (least a) (least b))
  where
    go : (q : Bool) → (T q → least a ≤ least b) → (T (not q) → least b < least a) → Hung (least (fork a b)) (cond q x y)
    go true h _ = subst (λ (m : ℕ). Hung m x) (omega (arith, h tt)) f
    go false _ h = subst (λ (m : ℕ). Hung m y) (omega (arith, h tt)) g

spin-hung : (up t : Tree) → Hung (least t) (spin up t)
spin-hung up (leaf n) = hung up
spin-hung up (fork a b) = min-way a b (spin-hung (fork up b) a) (spin-hung (fork up a) b)

-- the smallest label hangs at the root
pub hang-hung : (a b : Tree) → Hung (least (fork a b)) (hang (fork a b))
hang-hung a b = min-way a b (spin-hung b a) (spin-hung a b)

pub least-same : {t u : Tree} → SameClade t u → least t ≡ least u
least-same {t} {u} e = omega (arith, least-le (e.0 (least t) (least-in t)), least-le (e.1 (least u) (least-in u)))

-- trees hung at one leaf that have the same splits have the same clades
hung-≈ : {m : ℕ} {t u : Tree} → Hung m t → Hung m u → Distinct t → Distinct u → SameSplits t u → t ≈ u
hung-≈ {m} (hung r) (hung q) D E h = same one (same-sides D E (clade-refl (leaf m)) h).1

pub hang-distinct : (t : Tree) → Distinct t → Distinct (hang t)
hang-distinct t D = ∼-distinct (hang-∼ t) D

pub hang-splits : (t : Tree) → Distinct t → SameSplits t (hang t)
hang-splits t D = ∼-splits (hang-∼ t) D

pub hang-rooting : (t : Tree) → Distinct t → Rooting t (hang t)
hang-rooting t D = record { distinct = hang-distinct t D; splits = hang-splits t D }

-- every rooting of a good tree is good
pub ∼-good : {t u : Tree} → t ∼ u → Good t → Good u
∼-good p G = record { distinct = ∼-distinct p G.distinct; small = λ l i. G.small l ((∼-splits p G.distinct).0.1 l i) }

pub hang-good : {t : Tree} → Good t → Good (hang t)
hang-good {t} G = ∼-good (hang-∼ t) G

-- so is the tree that stands for one of either kind
pub standing-good : (k : Kind) {t : Tree} → Good t → Good (standing k t)
standing-good rooted G = G
standing-good unrooted G = hang-good G

-- splits determine a hung tree up to the order of the children
pub splits-hang : {t u : Tree} → Distinct t → Distinct u → SameSplits t u → hang t ≈ hang u
splits-hang {t = leaf m} {u = leaf n} D E h = subst (λ (k : ℕ). leaf m ≈ leaf k) (least-same h.0) one
splits-hang {t = leaf m} {u = fork c d} D E h = absurd (not-leaf c d E h.0.1)
splits-hang {t = fork a b} {u = leaf n} D E h = absurd (not-leaf a b D h.0.0)
splits-hang {t = fork a b} {u = fork c d} D E h =
    hung-≈ (hang-hung a b) (subst (λ (m : ℕ). Hung m (hang (fork c d))) (sym (least-same h.0)) (hang-hung c d)) (hang-distinct (fork a b) D) (hang-distinct (fork c d) E)
    (splits-trans (splits-sym (hang-splits (fork a b) D)) (splits-trans h (hang-splits (fork c d) E)))

-- one unrooted topology: the root can be moved from one place to the other
pub splits-∼ : {t u : Tree} → Distinct t → Distinct u → SameSplits t u → t ∼ u
splits-∼ {t} {u} D E h = ∼-trans (hang-∼ t) (∼-trans (order (splits-hang D E h)) (∼-sym (hang-∼ u)))

pub ∼-iff-splits : {t u : Tree} → Distinct t → Distinct u → (t ∼ u) ↔ SameSplits t u
∼-iff-splits D E = (λ p. ∼-splits p D, splits-∼ D E)

-- one unrooted topology: one rooted topology of the hung trees
pub splits-iff-hang : {t u : Tree} → Distinct t → Distinct u → SameSplits t u ↔ SameTopology (hang t) (hang u)
splits-iff-hang {t} {u} D E = (
  λ h. ≈-topology (splits-hang D E h),
  λ e. ∼-splits (∼-trans (hang-∼ t) (∼-trans (order (topology-≈ (hang-distinct t D) (hang-distinct u E) e)) (∼-sym (hang-∼ u)))) D,
)

-- and one canonical form of these
pub splits-iff-canon : {t u : Tree} → Distinct t → Distinct u → SameSplits t u ↔ (canon_unrooted t ≡ canon_unrooted u)
splits-iff-canon {t} {u} D E =
    let e = splits-iff-hang D E in
    let f = topology-iff-canon (hang-distinct t D) (hang-distinct u E) in
    (λ h. f.0 (e.0 h), λ h. e.1 (f.1 h))

-- which is a rooting of the tree
pub canon_unrooted-∼ : (t : Tree) → canon_unrooted t ∼ t
canon_unrooted-∼ t = ∼-trans (order (canon-≈ (hang t))) (∼-sym (hang-∼ t))

pub canon_unrooted-distinct : (t : Tree) → Distinct t → Distinct (canon_unrooted t)
canon_unrooted-distinct t D = canon-distinct (hang t) (hang-distinct t D)

pub canon_unrooted-splits : (t : Tree) → Distinct t → SameSplits (canon_unrooted t) t
canon_unrooted-splits t D = ∼-splits (canon_unrooted-∼ t) (canon_unrooted-distinct t D)

pub canon_unrooted-good : {t : Tree} → Good t → Good (canon_unrooted t)
canon_unrooted-good G = canon-good (hang-good G)

-- the canonical form of a canonical form is itself
pub canon_unrooted-idem : (t : Tree) → Distinct t → canon_unrooted (canon_unrooted t) ≡ canon_unrooted t
canon_unrooted-idem t D = (splits-iff-canon (canon_unrooted-distinct t D) D).0 (canon_unrooted-splits t D)

pub canon_unrooted-canonical : (t : Tree) → Distinct t → Canonical (canon_unrooted t)
canon_unrooted-canonical t D = canon-canonical (hang t) (hang-distinct t D)

-- and the smallest label hangs at its root too
canon-hung : {m : ℕ} {t : Tree} → Distinct t → least t ≡ m → Hung m t → Hung m (canon t)
canon-hung {m} D e (hung r) = subst (Hung m) (sym (first_way (fork (leaf m) (canon r)) (fork (canon r) (leaf m)) (leaf m) (canon r) small)) (hung (canon r))
  where
    other : m ≢ least r
    other f = D.2 m tip (subst (λ (l : ℕ). In l r) (sym f) (least-in r))

    small : m < least (canon r)
    small = omega (arith, e, least-same (≈-clade (canon-≈ r)), other)

pub canon_unrooted-hung : (a b : Tree) → Distinct (fork a b) → Hung (least (fork a b)) (canon_unrooted (fork a b))
canon_unrooted-hung a b D = canon-hung (hang-distinct (fork a b) D) (sym (least-same (hang-splits (fork a b) D).0)) (hang-hung a b)

-- so a program works it out from the rooted canonical form, by turning the leftmost path round
spin-spine : (up t : Tree) → Canonical t → spin up t ≡ spine up t
spin-spine up (leaf n) C = refl
spin-spine up (fork a b) C = first_way (spin (fork up b) a) (spin (fork up a) b) a b C.2 ∙ spin-spine (fork up b) a C.0

pub hang-turned : (t : Tree) → Canonical t → hang t ≡ turn_round t
hang-turned (leaf n) C = refl
hang-turned (fork a b) C = first_way (spin b a) (spin a b) a b C.2 ∙ spin-spine b a C.0

pub canon_unrooted-turned : (t : Tree) → Distinct t → canon_unrooted t ≡ canon (turn_round (canon t))
canon_unrooted-turned t D = (splits-iff-canon D (canon-distinct t D)).0 (≈-splits (≈-sym (canon-≈ t))) ∙ ap canon (hang-turned (canon t) (canon-canonical t D))
