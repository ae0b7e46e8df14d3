-- Whether bytes hold a good tree in canonical order: what each way out of the walk tells.
-- Assumes nothing.
use Rattle.std.specs.Prelude.{Option, Some, None}
use mathlib.Core.Path.{◌≡◌, refl, sym, ap, ap₂, ◌∙◌, subst}
use mathlib.Core.List.{List, ◌∷◌, ◌++◌, append_assoc}
use Prim.Native.Nat.{ℕ, suc, ◌+◌, ◌*◌, ◌-◌, ◌%◌, ◌^◌, ◌≤◌, ◌<◌}
use native.Mathlib.Nat.{one-mul}
use native.Mathlib.Numerals.{add-one}
use native.Mathlib.Decide.{dec_le}
use native.Mathlib.Omega.{arith}
use borrow.Author.Tests.{eq-eqb, ne_eqb, le-leb, lt-leb}
use lib.Dec.{lit<}
use lib.ListN.{length, drop, get_or}
use lib.Pow.{shl_exact}
use lib.Seq.{drop-cons}
use Rattle.meaning.specs.Tree.{Tree, leaf, fork, In, tip, Good, leaves, Canonical}
use Rattle.meaning.specs.Clade.{clade}
use Rattle.meaning.proofs.Labels.{some-leaves}
use Rattle.meaning.proofs.Same.{good-first, good-second}
use Rattle.meaning.proofs.Clade.{clade-some, disjoint-clade, lowest-least}
use Rattle.lent.proofs.Runs.{drop-run}
use Rattle.held.specs.Held.{Holds, nodes, pre}
use Rattle.held.proofs.Laws.{twice, leafed, forked, within, unique, length-pre}
use Rattle.slot_check.specs.Slot.{claim, Claims, Fits, Joined, joins, unfit, InOrder, Tells, tells, none}

-- ---- what a byte claims
pub claim-zero : (b : ℕ) → b ≡ 0 → claim b ≡ 0
claim-zero b e = rw (eq-eqb b 0 e)

pub claim-leaf : (b : ℕ) → 1 ≤ b → b ≤ 64 → claim b ≡ 1
claim-leaf b h l = rw (ne_eqb b 0 (omega arith), le-leb b 64 l)

pub claim-fork : (b : ℕ) → 64 < b → claim b ≡ b - 64
claim-fork b h = rw (ne_eqb b 0 (omega arith), lt-leb b 64 h)

-- a byte that claims none is 0
pub claims-none : (b : ℕ) → b ≡ 0 → Claims b None
claims-none b e = claim-zero b e

pub claims-one : (b : ℕ) → 1 ≤ b → b ≤ 64 → Claims b (Some 1)
claims-one b h l = (omega arith, sym (claim-leaf b h l))

pub claims-more : (b : ℕ) → 64 < b → Claims b (Some (b - 64))
claims-more b h = (omega arith, sym (claim-fork b h))

-- the measure of the walk is at most that
pub claim-ge : (b : ℕ) → b - 64 ≤ claim b
claim-ge b = go (dec_le b 64)
  where
    go : Dec (b ≤ 64) → b - 64 ≤ claim b
    go (yes l) = omega arith
    go (no l) = omega (arith, claim-fork b (omega arith))

-- it falls to the second child, where that claims what the first leaves
pub second-falls : (xs : List ℕ) (k left second : ℕ) → (left ≡ 0 → ⊥) → left < get_or xs k 0 - 64 → claim (get_or xs second 0) ≡ get_or xs k 0 - 64 - left
    → get_or xs second 0 - 64 < get_or xs k 0 - 64
second-falls xs k left second some wide e = omega (arith, claim-ge (get_or xs second 0))

-- the byte of a held leaf is its label
held-label : {xs : List ℕ} {k : ℕ} {t : Tree} → Holds xs k t → get_or xs k 0 ≤ 64 → 1 ≤ get_or xs k 0
held-label {xs} {k} h l = ((rw (leafed h l) at h.small) (get_or xs k 0) tip).0

-- a held tree's byte claims its leaves
claim-held : {xs : List ℕ} {k : ℕ} {t : Tree} → Holds xs k t → claim (get_or xs k 0) ≡ leaves t
claim-held {xs} {k} {t} h = go (dec_le (get_or xs k 0) 64)
  where
    go : Dec (get_or xs k 0 ≤ 64) → claim (get_or xs k 0) ≡ leaves t
    go (yes l) = claim-leaf (get_or xs k 0) (held-label h l) l ∙ sym (ap leaves (leafed h l))
    go (no l) = let f = forked h (omega arith) in omega (arith, claim-fork (get_or xs k 0) (omega arith), ap leaves f.is, f.byte)

-- ---- good trees of one leaf and of two children
good-leaf : {b : ℕ} → 1 ≤ b → b ≤ 64 → Good (leaf b)
good-leaf {b} h l = record { distinct = tt; small = small }
  where
    small : (m : ℕ) → In m (leaf b) → (1 ≤ m) × (m ≤ 64)
    small m tip = (h, l)

good-fork : {a b : Tree} → Good a → Good b → ((l : ℕ) → In l a → In l b → ⊥) → Good (fork a b)
good-fork {a} {b} G H f = record { distinct = (G.distinct, H.distinct, f); small = small }
  where
    small : (l : ℕ) → In l (fork a b) → (1 ≤ l) × (l ≤ 64)
    small l (In.first i) = G.small l i
    small l (In.second i) = H.small l i

-- where the byte is a label, the shifted bit is the clade
shifted : (b : ℕ) → b ≤ 64 → (1 * 2 ^ (b - 1)) % 18446744073709551616 ≡ 2 ^ (b - 1)
shifted b h = shl_exact {a = 1} 1 (b - 1) 64 (lit< tt) (omega arith) ∙ one-mul (2 ^ (b - 1))

-- what is told, and that nothing is
pub found : {P : ℕ → Type 0} {r : ℕ} → Tells P (Some r) → P r
found (tells p) = p

pub nothing : {P : ℕ → Type 0} → Tells P None → (l : ℕ) → P l → ⊥
nothing (none f) = f

-- a clade is told once
pub told : {xs : List ℕ} {k l r : ℕ} → Tells (InOrder xs k) (Some r) → InOrder xs k l → r ≡ l
told T p = let o = found T in sym o.labels ∙ ap clade (unique o.holds p.holds) ∙ p.labels

-- the two children of a tree in order that is a fork
record Split (xs : List ℕ) (k : ℕ) : Type 0 where
  first : Tree
  second : Tree
  holds-first : Holds xs (k + 1) first
  holds-second : Holds xs (k + 1 + nodes first) second
  byte : get_or xs k 0 ≡ 64 + (leaves first + leaves second)
  good : Good (fork first second)
  canonical : Canonical (fork first second)

module _ (xs : List ℕ) (k : ℕ) where
  -- behind the end, and at 0
  pub tells-end : length xs ≤ k → Tells (InOrder xs k) None
  tells-end h = none (λ l o. omega (arith, within o.holds))

  pub tells-zero : get_or xs k 0 ≡ 0 → Tells (InOrder xs k) None
  tells-zero e = none (λ l o. omega (arith, held-label o.holds (omega arith)))

  -- at a label
  pub tells-leaf : k < length xs → 1 ≤ get_or xs k 0 → get_or xs k 0 ≤ 64 → Tells (InOrder xs k) (Some ((1 * 2 ^ (get_or xs k 0 - 1)) % 18446744073709551616))
  tells-leaf h some l =
      let G = good-leaf some l in
      tells (record {
        tree = leaf (get_or xs k 0);
        holds = record { small = G.small; stands = (drop (suc k) xs, drop-cons xs k 0 h) };
        good = G;
        canonical = tt;
        labels = sym (shifted (get_or xs k 0) l);
      })

  module _ (large : 64 < get_or xs k 0) where
    split : {l : ℕ} → InOrder xs k l → Split xs k
    split o =
        let f = forked o.holds large in
        record {
          first = f.first;
          second = f.second;
          holds-first = f.holds-first;
          holds-second = f.holds-second;
          byte = f.byte;
          good = subst Good f.is o.good;
          canonical = subst Canonical f.is o.canonical;
        }

    -- so there is none where every split is absurd
    no-split : (Split xs k → ⊥) → Tells (InOrder xs k) None
    no-split f = none (λ l o. f (split o))

    -- the first child of a split is in order
    first-order : (s : Split xs k) → InOrder xs (k + 1) (clade s.first)
    first-order s = record { tree = s.first; holds = s.holds-first; good = good-first s.good; canonical = s.canonical.0; labels = refl }

    pub tells-none-first : Tells (InOrder xs (k + 1)) None → Tells (InOrder xs k) None
    tells-none-first T = no-split (λ s. nothing T (clade s.first) (first-order s))

    pub tells-no-first : claim (get_or xs (k + 1) 0) ≡ 0 → Tells (InOrder xs k) None
    tells-no-first e = no-split (λ s. omega (arith, claim-held s.holds-first, some-leaves s.first))

    module _ {left : ℕ} (is-left : left ≡ claim (get_or xs (k + 1) 0)) where
      pub tells-wide : get_or xs k 0 - 64 ≤ left → Tells (InOrder xs k) None
      tells-wide e = no-split (λ s. omega (arith, claim-held s.holds-first, some-leaves s.second, s.byte))

      module _ {second : ℕ} (is-second : second ≡ k + 1 + 2 * left - 1) where
        second_holds : (s : Split xs k) → Holds xs second s.second
        second_holds s =
            let place : k + 1 + nodes s.first ≡ second = omega (arith, claim-held s.holds-first, twice s.first, some-leaves s.first) in
            rw place at s.holds-second

        pub tells-unequal : {rest : ℕ} → rest ≡ claim (get_or xs second 0) → (rest ≡ get_or xs k 0 - 64 - left → ⊥) → Tells (InOrder xs k) None
        tells-unequal is n = no-split (λ s. n (omega (arith, is, claim-held s.holds-first, claim-held (second_holds s), s.byte)))

        pub tells-no-second : left < get_or xs k 0 - 64 → claim (get_or xs second 0) ≡ 0 → Tells (InOrder xs k) None
        tells-no-second h e = tells-unequal {rest = 0} (sym e) (λ r. omega arith)

        -- and the second
        second-order : (s : Split xs k) → InOrder xs second (clade s.second)
        second-order s = record { tree = s.second; holds = second_holds s; good = good-second s.good; canonical = s.canonical.1; labels = refl }

        pub tells-none-second : Tells (InOrder xs second) None → Tells (InOrder xs k) None
        tells-none-second T = no-split (λ s. nothing T (clade s.second) (second-order s))

        -- the children's clades are x and y
        module _ {x y : ℕ} (X : Tells (InOrder xs (k + 1)) (Some x)) (Y : Tells (InOrder xs second) (Some y)) where
          split-fits : Split xs k → Fits x y
          split-fits s =
              let G = good-first s.good in
              let H = good-second s.good in
              let ex : x ≡ clade s.first = told X (first-order s) in
              let ey : y ≡ clade s.second = told Y (second-order s) in
              rw (ex, ey) (record {
                some_first = clade-some s.first;
                some_second = clade-some s.second;
                apart = (disjoint-clade G H).1 s.good.distinct.2;
                smaller = omega (arith, lowest-least G, lowest-least H, s.canonical.2);
              })

          module _ (inside : k < length xs) (counts : claim (get_or xs (k + 1) 0) + claim (get_or xs second 0) ≡ get_or xs k 0 - 64)
              (o : InOrder xs (k + 1) x) (p : InOrder xs second y) where
            byte-is : get_or xs k 0 ≡ 64 + (leaves o.tree + leaves p.tree)
            byte-is = omega (arith, claim-held o.holds, claim-held p.holds)

            there : k + 1 + length (pre o.tree) ≡ second
            there = omega (arith, claim-held o.holds, twice o.tree, length-pre o.tree, some-leaves o.tree)

            behind : o.holds.stands.0 ≡ pre p.tree ++ p.holds.stands.0
            behind =
                sym (drop-run xs (k + 1) (pre o.tree) o.holds.stands.0 o.holds.stands.1)
                ∙ ap (λ (i : ℕ). drop i xs) there ∙ p.holds.stands.1

            stands : drop k xs ≡ (64 + (leaves o.tree + leaves p.tree)) ∷ ((pre o.tree ++ pre p.tree) ++ p.holds.stands.0)
            stands =
                drop-cons xs k 0 inside
                ∙ ap₂ ◌∷◌ byte-is
                (ap (λ (i : ℕ). drop i xs) (sym (add-one k)) ∙ o.holds.stands.1 ∙ ap (λ (l : List ℕ). pre o.tree ++ l) behind
                ∙ sym (append_assoc (pre o.tree) (pre p.tree) p.holds.stands.0))

            both : Fits x y → InOrder xs k (x + y)
            both f =
                let fits : Fits (clade o.tree) (clade p.tree) = rw (o.labels, p.labels) f in
                let G = good-fork o.good p.good ((disjoint-clade o.good p.good).0 fits.apart) in
                record {
                  tree = fork o.tree p.tree;
                  holds = record { small = G.small; stands = (p.holds.stands.0, stands) };
                  good = G;
                  canonical = (o.canonical, p.canonical, omega (arith, lowest-least o.good, lowest-least p.good, fits.smaller));
                  labels = ap₂ ◌+◌ o.labels p.labels;
                }

          pub tells-joined : {r : Option ℕ} → k < length xs → left < get_or xs k 0 - 64 → claim (get_or xs second 0) ≡ get_or xs k 0 - 64 - left → Joined x y r → Tells (InOrder xs k) r
          tells-joined inside wide e (unfit n) = none (λ l o. n (split-fits (split o)))
          tells-joined inside wide e (joins f) = tells (both inside (omega arith) (found X) (found Y) f)

-- a clade that is told is some
pub some-told : {xs : List ℕ} {k r : ℕ} → Tells (InOrder xs k) (Some r) → 0 < r
some-told T = let o = found T in omega (arith, clade-some o.tree, o.labels)
