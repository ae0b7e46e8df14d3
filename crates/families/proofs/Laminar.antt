-- Clades of two or more labels, any two nested or disjoint: they are among those of the binary tree that grows from them, so they are fewer than labels, and where one fewer, all of that tree's.
-- Assumes nothing.
use mathlib.Core.Path.{◌≡◌, refl, sym, ap, ap₂, ◌∙◌, subst}
use mathlib.Core.Logic.{◌⊎◌, inl, inr, ◌≢◌}
use mathlib.Core.Bool.{Bool, true, false, cond, not}
use mathlib.Core.List.{List, ◌∷◌, Memᴰ}
use Prim.Native.Nat.{ℕ, zero, suc, ◌+◌, ◌-◌, ◌^◌, ◌≤◌, ◌<◌}
use native.Mathlib.Omega.{arith}
use native.Mathlib.Decide.{ℕ_discrete}
use lib.Count.{count_trailing_zeros}
use lib.Dec.{T, leb, leb→le, nleb→lt}
use lib.ListN.{length}
use Rattle.meaning.specs.Limits.{max_label}
use Rattle.meaning.specs.Lists.{member, NoDup}
use Rattle.meaning.specs.Tree.{Tree, leaf, fork, In, Good, Canonical, least}
use Rattle.meaning.specs.Clade.{digit, HasLabel, lowest, clade}
use Rattle.meaning.proofs.Logic.{clash}
use Rattle.meaning.proofs.Lists.{member-in, in-member}
use Rattle.meaning.proofs.Sums.{no_longer}
use Rattle.meaning.proofs.Same.{in_leaf}
use Rattle.meaning.proofs.Canon.{least-in}
use Rattle.meaning.proofs.Labels.{some-leaves}
use Rattle.meaning.proofs.LabelBits.{Under, digit-le, digit-zero, under-le, under-iff, clear-iff, pow-has, lowest-in, lowest-le}
use Rattle.meaning.proofs.Clade.{label-iff, lowest-least}
use Rattle.meaning.specs.Lists.{SameMembers}
use Rattle.families.specs.Clades.{size, clades}
use Rattle.families.specs.Grown.{first_child, grow, Grows}
use Rattle.families.specs.Majority.{Single, Tidy, mark}
use Rattle.families.proofs.Sizes.{digit-sub, under-self, under-trans, clear-parts, label-64, rest-clear, rest_under, rest_sum, rest-size, size-le, size_none, size-pow, under-size}
use Rattle.families.proofs.Clades.{Fit, within, around, beside, size-leaves, clades-length}
use Rattle.families.proofs.FirstChild.{First, single-in, single-fits, leads-of, of-leads, first-most, Choice, first-choice}

-- a family: no clade twice, two or more labels each, any two nested or disjoint
pub record Family (cs : List ℕ) : Type 0 where
  pub once : NoDup cs
  pub large : (c : ℕ) → Memᴰ c cs → 2 ≤ size c
  pub fit : (c d : ℕ) → Memᴰ c cs → Memᴰ d cs → Fit c d

module _ (cs : List ℕ) (F : Family cs) where
  -- c is not empty, and fits all of the family
  pub record Suits (c : ℕ) : Type 0 where
    pub some : 0 < c
    pub small : c < 2 ^ 64
    pub fits : (d : ℕ) → Memᴰ d cs → Fit d c

  -- t is a tree with the labels of c, in canonical order, and the family's clades in c are among its clades
  pub record Made (c : ℕ) (t : Tree) : Type 0 where
    pub good : Good t
    pub canonical : Canonical t
    pub whole : clade t ≡ c
    pub has : (d : ℕ) → Memᴰ d cs → Under d c → Memᴰ d (clades t)
    pub tidy : Tidy (mark cs t)
    pub grows : Grows cs t

  pub first-child : (c : ℕ) → Suits c → 2 ≤ size c → First cs c (first_child cs c)
  first-child c S h = go (first_child cs c) refl (first-choice cs c) (λ d m u n i. first-most cs c d m (leads-of c d u n i))
    where
      one : size (2 ^ count_trailing_zeros 64 c) ≡ 1
      one = size-pow (count_trailing_zeros 64 c) (label-64 (lowest c) c S.small (lowest-in c S.some S.small)).1

      go : (f : ℕ) → f ≡ first_child cs c → Choice cs c f → ((d : ℕ) → Memᴰ d cs → Under d c → d ≢ c → HasLabel (lowest c) d → d ≤ f) → First cs c f
      go f q (inl e) g = subst (First cs c) (sym e) (record {
        is = sym e ∙ q;
        part = single-in (count_trailing_zeros 64 c) c (lowest-in c S.some S.small);
        proper = λ q. omega (arith, ap size q, one);
        lead = pow-has (count_trailing_zeros 64 c);
        from = inl one;
        suits = λ d m. single-fits (count_trailing_zeros 64 c) d;
        most = λ d m u n i. subst (λ (x : ℕ). d ≤ x) e (g d m u n i);
      })
      go f q (inr p) g =
          let (u, n, i) = of-leads c f p.1 in
          record { is = q; part = u; proper = n; lead = i; from = inr p.0; suits = λ d m. F.fit d f m p.0; most = g }

  module _ {c f : ℕ} (S : Suits c) (A : First cs c f) where
    -- a clade in c is c itself, or lies in the first child or in the rest
    pub split : (d : ℕ) → Memᴰ d cs → Under d c → (d ≡ c) ⊎ (Under d f ⊎ Under d (c - f))
    split d m u = go (ℕ_discrete d c) (A.suits d m)
      where
        go : Dec (d ≡ c) → Fit d f → (d ≡ c) ⊎ (Under d f ⊎ Under d (c - f))
        go (yes e) q = inl e
        go (no n) (within v) = inr (inl v)
        go (no n) (around v) =
            let h : d ≤ f = A.most d m u n ((under-iff f d).0 v (lowest c) A.lead) in
            let e : f ≡ d = omega (arith, under-le f d v) in
            inr (inl (subst (λ (x : ℕ). Under d x) (sym e) under-self))
        go (no n) (beside k) = inr (inr (record { keeps = λ l. omega (arith, digit-sub l c f A.part, u.keeps l, k.once l, digit-le l d) }))

    first-suits : Suits f
    first-suits = record { some = go f refl; small = omega (arith, under-le f c A.part, S.small); fits = A.suits }
      where
        go : (x : ℕ) → f ≡ x → 0 < x
        go zero e = absurd (omega (arith, ap (digit (lowest c)) e, digit-zero (lowest c), A.lead))
        go (suc x) e = omega arith

    rest-suits : Suits (c - f)
    rest-suits = record {
      some = omega (arith, under-le f c A.part, A.proper);
      small = omega (arith, S.small);
      fits = λ d m. go d m (S.fits d m);
    }
      where
        inner-fit : (d : ℕ) → (d ≡ c) ⊎ (Under d f ⊎ Under d (c - f)) → Fit d (c - f)
        inner-fit d (inl e) = around (subst (λ (x : ℕ). Under (c - f) x) (sym e) (rest_under A.part))
        inner-fit d (inr (inl v)) = beside (clear-parts v under-self (rest-clear A.part))
        inner-fit d (inr (inr v)) = within v

        go : (d : ℕ) → Memᴰ d cs → Fit d c → Fit d (c - f)
        go d m (within u) = inner-fit d (split d m u)
        go d m (around u) = around (under-trans (rest_under A.part) u)
        go d m (beside k) = beside (clear-parts under-self (rest_under A.part) k)

  -- one label: the leaf
  made-leaf : (c : ℕ) → Suits c → size c ≤ 1 → Made c (leaf (lowest c))
  unfolding mark
  made-leaf c S h = record {
    good = record { distinct = tt; small = λ l i. subst (λ (k : ℕ). (1 ≤ k) × (k ≤ max_label)) (sym (in_leaf i)) range };
    canonical = tt;
    whole = whole;
    has = λ d m u. absurd (omega (arith, F.large d m, under-size u));
    tidy = tt;
    grows = Grows.stop;
  }
    where
      j : ℕ
      j = count_trailing_zeros 64 c

      low : HasLabel (suc j) c
      low = lowest-in c S.some S.small

      range : (1 ≤ suc j) × (suc j ≤ max_label)
      range = label-64 (suc j) c S.small low

      part : Under (2 ^ j) c
      part = single-in j c low

      left : c - 2 ^ j ≡ 0
      left = size_none (c - 2 ^ j) (omega (arith, S.small)) (omega (arith, rest-size part, size-pow j range.1))

      whole : 2 ^ (suc j - 1) ≡ c
      whole = let e : suc j - 1 ≡ j = omega arith in let q : 2 ^ j ≡ c = omega (arith, left, under-le (2 ^ j) c part) in ap (λ (k : ℕ). 2 ^ k) e ∙ q

  -- two or more: a fork of the first child and the rest
  module _ {c f : ℕ} {a b : Tree} (S : Suits c) (A : First cs c f) (M : Made f a) (N : Made (c - f) b) where
    sum : clade a + clade b ≡ c
    sum = ap₂ (λ (x y : ℕ). x + y) M.whole N.whole ∙ rest_sum A.part

    left-has : (l : ℕ) → In l a → HasLabel l f
    left-has l i = subst (HasLabel l) M.whole ((label-iff M.good l).1 i)

    right-has : (l : ℕ) → In l b → HasLabel l (c - f)
    right-has l i = subst (HasLabel l) N.whole ((label-iff N.good l).1 i)

    apart : (l : ℕ) → In l a → In l b → ⊥
    apart l i j = (clear-iff f (c - f)).0 (rest-clear A.part) l (left-has l i) (right-has l j)

    range : (l : ℕ) → In l (fork a b) → (1 ≤ l) × (l ≤ max_label)
    range l (In.first i) = M.good.small l i
    range l (In.second i) = N.good.small l i

    least-left : least a ≤ lowest c
    least-left = omega (arith, sym (lowest-least M.good), lowest-le (lowest c) (clade a) (subst (HasLabel (lowest c)) (sym M.whole) A.lead))

    least-right : HasLabel (least b) (c - f)
    least-right = right-has (least b) (least-in b)

    in_order : least a < least b
    in_order = go (ℕ_discrete (lowest c) (least b))
      where
        go : Dec (lowest c ≡ least b) → least a < least b
        go (yes e) = absurd ((clear-iff f (c - f)).0 (rest-clear A.part) (lowest c) A.lead (subst (λ (l : ℕ). HasLabel l (c - f)) (sym e) least-right))
        go (no n) = omega (arith, least-left, lowest-le (least b) c ((under-iff (c - f) c).0 (rest_under A.part) (least b) least-right))

    fork-has : (d : ℕ) → Memᴰ d cs → (d ≡ c) ⊎ (Under d f ⊎ Under d (c - f)) → Memᴰ d (clades (fork a b))
    fork-has d m (inl e) = mathlib.Core.List.Memᴰ.head (e ∙ sym sum)
    fork-has d m (inr (inl u)) = mathlib.Core.List.Memᴰ.tail (mathlib.Core.List.Memᴰ.append_left (clades b) (M.has d m u))
    fork-has d m (inr (inr u)) = mathlib.Core.List.Memᴰ.tail (mathlib.Core.List.Memᴰ.append_right (clades a) (N.has d m u))

    first-single : Single (mark cs a)
    unfolding mark
    first-single = go a M.whole M.good A.from
      where
        go : (t : Tree) → clade t ≡ f → Good t → (size f ≡ 1) ⊎ Memᴰ f cs → Single (mark cs t)
        go (leaf n) e G q = tt
        go (fork x y) e G (inl q) = absurd (omega (arith, ap size e, size-leaves G, some-leaves x, some-leaves y))
        go (fork x y) e G (inr m) = subst T (sym (in-member (mathlib.Core.List.Memᴰ.cast e m))) tt

    made-fork : Made c (fork a b)
    unfolding mark
    made-fork = record {
      good = record { distinct = (M.good.distinct, N.good.distinct, apart); small = range };
      canonical = (M.canonical, N.canonical, in_order);
      whole = sum;
      has = λ d m u. fork-has d m (split S A d m u);
      tidy = (first-single, M.tidy, N.tidy);
      grows = Grows.split (ap (first_child cs) sum ∙ sym A.is ∙ sym M.whole) M.grows N.grows;
    }

  some_size : (c : ℕ) → Suits c → 1 ≤ size c
  some_size c S = go (size c) refl
    where
      go : (n : ℕ) → size c ≡ n → 1 ≤ n
      go zero e = absurd (omega (arith, size_none c S.small e, S.some))
      go (suc n) e = omega arith

  -- k forks one below another are enough for k + 1 labels
  made : (k c : ℕ) → Suits c → size c ≤ suc k → Made c (grow k cs c)
  unfolding grow
  made zero c S h = made-leaf c S h
  made (suc k) c S h = go (leb (size c) 1) (leb→le (size c) 1) (nleb→lt (size c) 1) (λ f s q. made k f s q)
    where
      f : ℕ
      f = first_child cs c

      go : (t : Bool) → (T t → size c ≤ 1) → (T (not t) → 1 < size c) → ((d : ℕ) → Suits d → size d ≤ suc k → Made d (grow k cs d))
          → Made c (cond t (leaf (lowest c)) (fork (grow k cs f) (grow k cs (c - f))))
      go true p q rec = made-leaf c S (p tt)
      go false p q rec =
          let A = first-child c S (q tt) in
          let sizes = rest-size A.part in
          let one = first-suits S A in
          let two = rest-suits S A in
          made-fork S A (rec f one (omega (arith, some_size (c - f) two))) (rec (c - f) two (omega (arith, some_size f one)))

  -- in a set of labels
  module _ (s : ℕ) (some : 0 < s) (small : s < 2 ^ 64) (parts : (d : ℕ) → Memᴰ d cs → Under d s) where
    -- the family is among the clades of a tree
    pub family-made : Made s (grow max_label cs s)
    family-made = made max_label s (record { some = some; small = small; fits = λ d m. within (parts d m) }) (omega (arith, size-le s))

    tree-length : suc (length (clades (grow max_label cs s))) ≡ size s
    tree-length = clades-length (grow max_label cs s) ∙ sym (size-leaves family-made.good) ∙ ap size family-made.whole

    has_all : (d : ℕ) → Memᴰ d cs → Memᴰ d (clades (grow max_label cs s))
    has_all d m = family-made.has d m (parts d m)

    -- so there are fewer clades than labels
    pub family-few : suc (length cs) ≤ size s
    family-few = omega (arith, no_longer cs (clades (grow max_label cs s)) F.once has_all, tree-length)

    -- and where there is one fewer, they are the clades of that tree
    pub family-all : suc (length cs) ≡ size s → SameMembers (clades (grow max_label cs s)) cs
    family-all e d = (λ m. go (member d cs) refl m, has_all d)
      where
        again : Memᴰ d (clades (grow max_label cs s)) → (l : ℕ) → Memᴰ l (d ∷ cs) → Memᴰ l (clades (grow max_label cs s))
        again m l (mathlib.Core.List.Memᴰ.head q) = mathlib.Core.List.Memᴰ.cast q m
        again m l (mathlib.Core.List.Memᴰ.tail n) = has_all l n

        go : (b : Bool) → member d cs ≡ b → Memᴰ d (clades (grow max_label cs s)) → Memᴰ d cs
        go true q m = member-in d cs q
        go false q m =
            let new : Memᴰ d cs → ⊥ = λ n. let r = in-member n in clash cc in
            absurd (omega (arith, e, tree-length, no_longer (d ∷ cs) (clades (grow max_label cs s)) (new, F.once) (again m)))
