-- What two trees leave without one node each, compared step by step down the ways to these nodes.
-- Assumes nothing.
use mathlib.Core.Path.{◌≡◌, refl, sym, subst, ◌∙◌}
use mathlib.Core.Logic.{◌↔◌, ◌⊎◌, inl, inr}
use mathlib.Core.Bool.{Bool}
use Prim.Native.Nat.{ℕ}
use Rattle.meaning.specs.Tree.{Tree, fork, In}
use Rattle.meaning.specs.Interchange.{Forks, in_order, turned}
use Rattle.meaning.proofs.Logic.{iff-then}
use Rattle.meaning.proofs.Same.{◌≈◌, same, swap, ≈-refl, ≈-sym, ≈-trans}
use Rattle.meaning.proofs.Canon.{≈-iff-canon}
use Rattle.meaning.proofs.Interchange.{forks-≈, ≈-forks, unlike}
use Rattle.lent.specs.Runs.{Says}
use Rattle.lent.proofs.Says.{says}
use Rattle.pairs.specs.Ordered.{InOrder}
use Rattle.pairs.specs.Left.{left, Alike, Below, Cutting, Leads}
use Rattle.pairs.proofs.Left.{left-labels, left-distinct}
use Rattle.pairs.proofs.Ordered.{ordered_same}

-- ---- forks that are equal up to the order of children
pub alike : {a b : Tree} → a ≡ b → a ≈ b
alike {a} e = subst (λ v. a ≈ v) e (≈-refl a)

fork-ways : {a b c d : Tree} → fork a b ≈ fork c d → ((a ≈ c) × (b ≈ d)) ⊎ ((a ≈ d) × (b ≈ c))
fork-ways (same p q) = inl (p, q)
fork-ways (swap p q) = inr (p, q)

-- a tree beside a fork in either order
forks-iff : {s x y r : Tree} → Forks x y r → (s ≈ r) ↔ (s ≈ fork x y)
forks-iff f = (λ e. ≈-trans e (≈-sym (forks-≈ f)), λ e. ≈-trans e (forks-≈ f))

-- ---- what is left in both: the fork of l and g, and that of m and h, where l and g have no common label
module _ {l g r m h v : Tree} (f : Forks l g r) (f' : Forks m h v) where
  both-forks : (r ≈ v) ↔ (fork l g ≈ fork m h)
  both-forks = (λ e. ≈-trans (forks-≈ f) ((forks-iff f').0 e), λ e. ≈-trans (≈-sym (forks-≈ f)) ((forks-iff f').1 e))

  pub both-same : ((x : ℕ) → In x l → In x g → ⊥) → g ≡ h → (r ≈ v) ↔ (l ≈ m)
  both-same apart e = iff-then both-forks (λ q. go (fork-ways q), λ q. same q (alike e))
    where
      go : ((l ≈ m) × (g ≈ h)) ⊎ ((l ≈ h) × (g ≈ m)) → l ≈ m
      go (inl w) = w.0
      go (inr w) = absurd (unlike apart (≈-trans w.0 (≈-sym (alike e))))

  pub both-crossed : InOrder g → InOrder h → ¬ (g ≡ h) → (r ≈ v) ↔ ((g ≈ m) × (h ≈ l))
  both-crossed G H n = iff-then both-forks (λ q. go (fork-ways q), λ w. swap (≈-sym w.1) w.0)
    where
      go : ((l ≈ m) × (g ≈ h)) ⊎ ((l ≈ h) × (g ≈ m)) → (g ≈ m) × (h ≈ l)
      go (inl w) = absurd (n (ordered_same G.distinct G.canonical H.canonical w.1))
      go (inr w) = (w.1, ≈-sym w.0)

-- ---- the way to p, which goes on at i, where a is; b hangs off it, and r is what is left
pub record OnWay (p i : ℕ) (a b r : Tree) : Type 0 where
  pub ordered_taken : InOrder a
  pub ordered_other : InOrder b
  pub apart : (l : ℕ) → In l a → In l b → ⊥
  pub here : i ≡ p → r ≡ b
  pub deeper : ¬ (i ≡ p) → Below p i a × Forks (left p i a) b r

-- the children of a tree in order
pub parts-in-order : {x y t : Tree} → Forks x y t → InOrder t → InOrder x × InOrder y × ((l : ℕ) → In l x → In l y → ⊥)
parts-in-order in_order D = (
  record { distinct = D.distinct.0; canonical = D.canonical.0 },
  record { distinct = D.distinct.1; canonical = D.canonical.1 },
  D.distinct.2,
)
parts-in-order turned D = (
  record { distinct = D.distinct.1; canonical = D.canonical.1 },
  record { distinct = D.distinct.0; canonical = D.canonical.0 },
  λ l i j. D.distinct.2 l j i,
)

pub on-way : {p k i : ℕ} {t a b : Tree} → Leads p k t i a b → InOrder t → OnWay p i a b (left p k t)
on-way w D =
    let (x, y, apart) = parts-in-order w.children D in
    record { ordered_taken = x; ordered_other = y; apart = apart; here = λ e. w.here (sym e); deeper = λ n. w.deeper (λ e. n (sym e)) }

-- where it is not at its end, it goes on below
abbrev pub next-cutting : {p i : ℕ} {a b r : Tree} → OnWay p i a b r → ¬ (i ≡ p) → Cutting p i a
next-cutting w n = record { in_order = w.ordered_taken; below = (w.deeper n).0 }

-- ---- the whole tree s beside what is left in part; Q is what is asked
pub record Beside (s rest : Tree) (Q : Type 0) : Type 0 where
  pub ordered : InOrder s
  pub answer : Q ↔ (s ≈ rest)

pub beside-start : {s : Tree} → InOrder s → (rest : Tree) → Beside s rest (Alike s rest)
beside-start o rest = let iff = ≈-iff-canon o.distinct in record { ordered = o; answer = (iff.1, iff.0) }

module _ {s b rest : Tree} {Q : Type 0} (B : Beside s rest Q) (o : InOrder b) where
  -- b is all that is left
  pub beside_end : rest ≡ b → (r : Bool) → Says r (s ≡ b) → Says r Q
  beside_end last =
      says (s ≡ b) Q (λ f. B.answer.1 (alike (f ∙ sym last)))
      (λ q. ordered_same B.ordered.distinct B.ordered.canonical o.canonical (subst (λ v. s ≈ v) last (B.answer.0 q)))

  -- it hangs off what is left: then it is one child of the whole tree, and the other is beside what is left further
  module _ {further : Tree} (f : Forks further b rest) where
    pub beside-none : ((other : Tree) → ¬ Forks other b s) → ¬ Q
    beside-none none q =
        let (x, y, forks, ex, ey) = ≈-forks f (≈-sym (B.answer.0 q)) in
        let (_, Y, _) = parts-in-order forks B.ordered in
        let e : b ≡ y = ordered_same o.distinct o.canonical Y.canonical ey in
        none x (subst (λ v. Forks x v s) (sym e) forks)

    pub beside-on : {other : Tree} → Forks other b s → Beside other further Q
    beside-on forks =
        let (X, _, apart) = parts-in-order forks B.ordered in
        record { ordered = X; answer = iff-then B.answer (both-same forks f apart refl) }

-- the whole tree beside what is left where the way to p goes on at i
pub record BesideWay (p : ℕ) (s : Tree) (i : ℕ) (a b : Tree) (Q : Type 0) : Type 0 where
  pub rest : Tree
  pub way : OnWay p i a b rest
  pub beside : Beside s rest Q

pub way_starts : {p k i : ℕ} {s t a b : Tree} → InOrder s → Cutting p k t → Leads p k t i a b → BesideWay p s i a b (Alike s (left p k t))
way_starts {p} {k} {t} o c L = record { rest = left p k t; way = on-way L c.in_order; beside = beside-start o (left p k t) }

module _ {p i : ℕ} {s a b : Tree} {Q : Type 0} (B : BesideWay p s i a b Q) where
  pub way_none : ¬ (i ≡ p) → ((other : Tree) → ¬ Forks other b s) → ¬ Q
  way_none n = beside-none B.beside B.way.ordered_other (B.way.deeper n).1

  pub way_on : ¬ (i ≡ p) → {j : ℕ} {other a' b' : Tree} → Forks other b s → Leads p i a j a' b' → BesideWay p other j a' b' Q
  way_on n forks L = record {
    rest = left p i a;
    way = on-way L B.way.ordered_taken;
    beside = beside-on B.beside B.way.ordered_other (B.way.deeper n).1 forks;
  }

  -- at the end of the way what hangs off is what is left
  pub way_end : i ≡ p → (r : Bool) → Says r (s ≡ b) → Says r Q
  way_end e = beside_end B.beside B.way.ordered_other (B.way.here e)

-- ---- what is left in both trees: s stands at k, and its way to p goes on at i; t stands at l; Q is what is asked
pub record BothLeft (p q k l : ℕ) (s t : Tree) (i : ℕ) (a b : Tree) (Q : Type 0) : Type 0 where
  pub one : Cutting p k s
  pub two : Cutting q l t
  pub way : OnWay p i a b (left p k s)
  pub answer : Q ↔ (left p k s ≈ left q l t)

pub both-start : {p q k l i : ℕ} {s t a b : Tree} → Cutting p k s → Cutting q l t → Leads p k s i a b → BothLeft p q k l s t i a b (Alike (left p k s) (left q l t))
both-start {p} {k} {s} c d L =
    let iff = ≈-iff-canon (left-distinct p k s c.in_order.distinct) in
    record { one = c; two = d; way = on-way L c.in_order; answer = (iff.1, iff.0) }

module _ {p q k l i : ℕ} {s t a b : Tree} {Q : Type 0} (B : BothLeft p q k l s t i a b Q) where
  iff-one : {v : Tree} → (b ≈ v) ↔ Alike b v
  iff-one = ≈-iff-canon B.way.ordered_other.distinct

  -- the first way is at its end
  pub ends-one : i ≡ p → (r : Bool) → Says r (Alike b (left q l t)) → Says r Q
  ends-one e =
      let asked = subst (λ v. Q ↔ (v ≈ left q l t)) (B.way.here e) B.answer in
      says (Alike b (left q l t)) Q (λ f. asked.1 (iff-one.1 f)) (λ x. iff-one.0 (asked.0 x))

  module _ {j : ℕ} {a' b' : Tree} (L : Leads q l t j a' b') where
    abbrev pub way-two : OnWay q j a' b' (left q l t)
    way-two = on-way L B.two.in_order

    iff-two : {v : Tree} → (b' ≈ v) ↔ Alike b' v
    iff-two = ≈-iff-canon way-two.ordered_other.distinct

    -- the second is
    pub ends-two : j ≡ q → (r : Bool) → Says r (Alike b' (left p k s)) → Says r Q
    ends-two e =
        let asked = subst (λ v. Q ↔ (left p k s ≈ v)) (way-two.here e) B.answer in
        says (Alike b' (left p k s)) Q (λ f. asked.1 (≈-sym (iff-two.1 f))) (λ x. iff-two.0 (≈-sym (asked.0 x)))

    -- neither is
    module _ (n : ¬ (i ≡ p)) (n' : ¬ (j ≡ q)) where
      further-one : Forks (left p i a) b (left p k s)
      further-one = (B.way.deeper n).1

      further-two : Forks (left q j a') b' (left q l t)
      further-two = (way-two.deeper n').1

      -- and what hangs off differs: each has to be what is left further down the other
      module _ (differ : ¬ (b ≡ b')) where
        crossed : Q ↔ ((b ≈ left q j a') × (b' ≈ left p i a))
        crossed = iff-then B.answer (both-crossed further-one further-two B.way.ordered_other way-two.ordered_other differ)

        pub crossed-no : ¬ Alike b (left q j a') → ¬ Q
        crossed-no m x = m (iff-one.0 (crossed.0 x).0)

        pub crossed-says : Alike b (left q j a') → (r : Bool) → Says r (Alike b' (left p i a)) → Says r Q
        crossed-says f = says (Alike b' (left p i a)) Q (λ g. crossed.1 (iff-one.1 f, iff-two.1 g)) (λ x. iff-two.0 (crossed.0 x).1)

      -- or is the same: both ways are followed
      pub followed : b ≡ b' → {i' : ℕ} {a'' b'' : Tree} → Leads p i a i' a'' b'' → BothLeft p q i j a a' i' a'' b'' Q
      followed e M = record {
        one = next-cutting B.way n;
        two = next-cutting way-two n';
        way = on-way M B.way.ordered_taken;
        answer = iff-then B.answer (both-same further-one further-two (λ m x y. B.way.apart m (left-labels p i a m x) y) e);
      }
