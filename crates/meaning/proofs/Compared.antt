-- How many forests the pair test compares: by topologies only; at most 2n - 2, at least one where the answer is yes, none for one topology; the cuts up to and including the first that is shared, or all.
-- Assumes nothing.
use mathlib.Core.Path.{◌≡◌, refl, sym, ap, ap₂, subst, ◌∙◌}
use mathlib.Core.Logic.{◌↔◌}
use mathlib.Core.Bool.{Bool, true, false, cond}
use mathlib.Core.List.{List, [], ◌∷◌}
use Prim.Native.Nat.{ℕ, zero, suc, ◌+◌, ◌*◌, ◌-◌, ◌≤◌, ◌<◌}
use native.Mathlib.Omega.{arith}
use lib.Dec.{T}
use lib.ListN.{length, take, get_or}
use Rattle.meaning.specs.Lists.{any, bit, count}
use Rattle.meaning.specs.Tree.{Tree, In, Distinct, Good, SameClade, SameTopology, canon, leaves}
use Rattle.meaning.specs.Kind.{Kind, rooted, unrooted, Kinded}
use Rattle.meaning.specs.EitherKind.{ApartAs}
use Rattle.meaning.specs.Reading.{same_labels}
use Rattle.meaning.specs.Move.{Prune, Apart, Cut, cuts, cut_at, forest}
use Rattle.meaning.specs.Decide.{eq_tree, is_same_topology, is_same_forest}
use Rattle.meaning.specs.Answer.{Comparison, accepted}
use Rattle.meaning.specs.Compared.{is_sharing, has_clade, through, compared, compared_as, comparison}
use Rattle.meaning.specs.Calls.{pair_reading, PairCall, stands_apart, not_apart}
use Rattle.meaning.proofs.Logic.{cases, clash}
use Rattle.meaning.proofs.Lists.{any-mem, mem-any}
use Rattle.meaning.proofs.Sums.{bit-one}
use Rattle.meaning.proofs.Same.{≈-sym, ≈-in, topology-sym}
use Rattle.meaning.proofs.Canon.{canon-≈, canon-distinct, canon-topology, topology-iff-canon}
use Rattle.meaning.proofs.Alike.{same-labels-iff}
use Rattle.meaning.proofs.Moves.{≈-prune, prune-cut, cut-prune, apart-topology}
use Rattle.meaning.proofs.Text.{canon-forest, forest-canon}
use Rattle.meaning.proofs.Forests.{cuts-canon, cut_at-prune, cut_at-good, at-cut_at}
use Rattle.meaning.proofs.Decide.{same_topology-iff, forest-test, one_move-iff}
use Rattle.meaning.proofs.Calls.{tells-accepted, pair-tells}

-- ---- the two tests of a cut
-- trees of one canonical form have one clade
canon-clade : (s r : Tree) → canon s ≡ canon r → SameClade s r
canon-clade s r e = (half s r e, half r s (sym e))
  where
    half : (s r : Tree) → canon s ≡ canon r → (l : ℕ) → In l s → In l r
    half s r e l i = ≈-in (canon-≈ r) l (subst (In l) e (≈-in (≈-sym (canon-≈ s)) l i))

-- the test for one clade
pub clade-test : (s r : Tree) → T (same_labels s r) ↔ SameClade s r
clade-test s r = (λ t. (same-labels-iff s r).0 (passes (same_labels s r) t), λ c. subst T (sym ((same-labels-iff s r).1 c)) tt)
  where
    passes : (b : Bool) → T b → b ≡ true
    passes true t = refl
    passes false t = absurd t

-- a cut whose forest is shared prunes a clade that the second tree has
pub shared-clade : (ds : List Cut) (c : Cut) → T (is_sharing ds c) → T (has_clade ds c)
shared-clade ds c t =
    let (d, m, h) = any-mem (is_same_forest c) ds t in
    mem-any (λ d. same_labels c.pruned d.pruned) m ((clade-test c.pruned d.pruned).1 (canon-clade c.pruned d.pruned ((forest-test c d).0 h).1))

-- u has a node other than its root with the clade of s
pub record HasNode (u s : Tree) : Type 0 where
  pub node : Tree
  pub rest : Tree
  pub below : Prune node u rest
  pub clade : SameClade s node

pub has-clade-iff : (u : Tree) (c : Cut) → T (has_clade (cuts (canon u)) c) ↔ HasNode u c.pruned
has-clade-iff u c = (to, from)
  where
    to : T (has_clade (cuts (canon u)) c) → HasNode u c.pruned
    to t =
        let (d, m, h) = any-mem (λ d. same_labels c.pruned d.pruned) (cuts (canon u)) t in
        let (k, p, e) = ≈-prune (canon-≈ u) (cut-prune (canon u) m) in
        let same = (clade-test c.pruned d.pruned).0 h in
        record { node = k.pruned; rest = k.rest; below = p; clade = (λ l i. ≈-in e.1 l (same.0 l i), λ l i. same.1 l (≈-in (≈-sym e.1) l i)) }

    from : HasNode u c.pruned → T (has_clade (cuts (canon u)) c)
    from n =
        let (k, p, e) = ≈-prune (≈-sym (canon-≈ u)) n.below in
        let same = n.clade in
        mem-any (λ d. same_labels c.pruned d.pruned) (prune-cut p)
        ((clade-test c.pruned k.pruned).1 (λ l i. ≈-in e.1 l (same.0 l i), λ l i. same.1 l (≈-in (≈-sym e.1) l i)))

-- u shares the forest of cut number c of t
pub record SharesCut (t u : Tree) (c : ℕ) : Type 0 where
  pub cut : ℕ
  pub is_cut : cut < 2 * leaves u - 2
  pub same : forest (cut_at t c) ≡ forest (cut_at u cut)

pub shares-iff : {t u : Tree} → Good t → Good u → (c : ℕ) → c < 2 * leaves t - 2 → T (is_sharing (cuts (canon u)) (cut_at t c)) ↔ SharesCut t u c
shares-iff {t} {u} G H c h = (to, from)
  where
    to : T (is_sharing (cuts (canon u)) (cut_at t c)) → SharesCut t u c
    to p =
        let (d, m, e) = any-mem (is_same_forest (cut_at t c)) (cuts (canon u)) p in
        let (k, l, f) = at-cut_at u d (cut-prune (canon u) m) in
        record { cut = k; is_cut = l; same = canon-forest (cut_at t c) d ((forest-test (cut_at t c) d).0 e) ∙ ap forest (sym f) }

    from : SharesCut t u c → T (is_sharing (cuts (canon u)) (cut_at t c))
    from s =
        let d = cut_at u s.cut in
        mem-any (is_same_forest (cut_at t c)) (prune-cut (cut_at-prune u s.cut s.is_cut))
        ((forest-test (cut_at t c) d).1 (forest-canon (cut_at t c) d (cut_at-good G c h) (cut_at-good H s.cut s.is_cut) s.same))

-- ---- through the cuts
bit_le : (b : Bool) → bit b ≤ 1
bit_le true = omega arith
bit_le false = omega arith

module _ (ds : List Cut) where
  pub stops : (c : Cut) (cs : List Cut) → T (is_sharing ds c) → through ds (c ∷ cs) ≡ bit (has_clade ds c)
  stops c cs t = cases (λ b. T b → bit (has_clade ds c) + cond b 0 (through ds cs) ≡ bit (has_clade ds c)) (is_sharing ds c) (λ _ _. omega arith) (λ _ f. absurd f) t

  pub goes_on : (c : Cut) (cs : List Cut) → ¬ T (is_sharing ds c) → through ds (c ∷ cs) ≡ bit (has_clade ds c) + through ds cs
  goes_on c cs n = cases (λ b. ¬ T b → bit (has_clade ds c) + cond b 0 (through ds cs) ≡ bit (has_clade ds c) + through ds cs) (is_sharing ds c) (λ _ f. absurd (f tt)) (λ _ _. refl) n

  through-le : (cs : List Cut) → through ds cs ≤ length cs
  through-le [] = omega arith
  through-le (c ∷ cs) =
      cases (λ b. bit (has_clade ds c) + cond b 0 (through ds cs) ≤ suc (length cs)) (is_sharing ds c)
      (λ _. omega (arith, bit_le (has_clade ds c))) (λ _. omega (arith, bit_le (has_clade ds c), through-le cs))

  through-some : (cs : List Cut) → T (any (is_sharing ds) cs) → 1 ≤ through ds cs
  through-some [] t = absurd t
  through-some (c ∷ cs) t = by (is_sharing ds c) refl t (λ h. bit-one (has_clade ds c) (shared-clade ds c h)) (through-some cs)
    where
      by : (b : Bool) → is_sharing ds c ≡ b → T (any (is_sharing ds) (c ∷ cs)) → (T (is_sharing ds c) → bit (has_clade ds c) ≡ 1) → (T (any (is_sharing ds) cs) → 1 ≤ through ds cs)
          → 1 ≤ bit (has_clade ds c) + cond (is_sharing ds c) 0 (through ds cs)
      by true e t one more = rw e (omega (arith, one (subst T (sym e) tt)))
      by false e t one more = rw e (omega (arith, more (rw e at t)))

-- the first of n numbers that has P is the one before m; or none has it, and m is n
pub data UpToFirst (P : ℕ → Type 0) (n : ℕ) : ℕ → Type 0 where
  first : (k : ℕ) → k < n → P k → ((i : ℕ) → i < k → ¬ P i) → UpToFirst P n (suc k)
  none : ((i : ℕ) → i < n → ¬ P i) → UpToFirst P n n

up-to-first-same : (P Q : ℕ → Type 0) {n m : ℕ} → ((i : ℕ) → i < n → P i ↔ Q i) → UpToFirst P n m → UpToFirst Q n m
up-to-first-same P Q same (first k lt p f) = first k lt ((same k lt).0 p) (λ i h q. f i h ((same i (omega arith)).1 q))
up-to-first-same P Q same (none f) = none (λ i h q. f i h ((same i h).1 q))

-- so many cuts are gone through, and of these each counts whose clade the second tree has
module _ (ds : List Cut) (z : Cut) where
  abbrev SharedAt : List Cut → ℕ → Type 0
  SharedAt cs i = T (is_sharing ds (get_or cs i z))

  through-is : (cs : List Cut) {m : ℕ} → UpToFirst (SharedAt cs) (length cs) m → through ds cs ≡ count (has_clade ds) (take m cs)
  through-is [] (first k lt p f) = absurd (omega arith)
  through-is [] (none f) = refl
  through-is (c ∷ cs) (first zero lt p f) = omega (arith, stops ds c cs p)
  through-is (c ∷ cs) (first (suc k) lt p f) =
      goes_on ds c cs (f 0 (omega arith)) ∙ ap (λ (n : ℕ). bit (has_clade ds c) + n) (through-is cs (first k (omega arith) p (λ i h. f (suc i) (omega arith))))
  through-is (c ∷ cs) (none f) =
      goes_on ds c cs (f 0 (omega arith)) ∙ ap (λ (n : ℕ). bit (has_clade ds c) + n) (through-is cs (none (λ i h. f (suc i) (omega arith))))

-- ---- two trees
-- the number hangs on the topologies only
pub compared-topology : {t t' u u' : Tree} → Distinct t → Distinct t' → Distinct u → Distinct u' → SameTopology t t' → SameTopology u u' → compared t u ≡ compared t' u'
compared-topology D D' E E' e f =
    ap₂ (λ (a b : Tree). cond (eq_tree a b) 0 (through (cuts b) (cuts a))) ((topology-iff-canon D D').0 e) ((topology-iff-canon E E').0 f)

-- at most 2n - 2
pub compared-le : (t u : Tree) → compared t u ≤ 2 * leaves t - 2
compared-le t u =
    let cs = cuts (canon t) in
    let ds = cuts (canon u) in
    cases (λ b. cond b 0 (through ds cs) ≤ 2 * leaves t - 2) (is_same_topology t u) (λ _. omega arith) (λ _. omega (arith, through-le ds cs, cuts-canon t))

module _ {t u : Tree} (D : Distinct t) (E : Distinct u) where
  -- none where the topologies are equal
  pub compared_same : SameTopology t u → compared t u ≡ 0
  compared_same e =
      cases (λ b. T b → ◌≡◌ {A = ℕ} (cond b 0 (through (cuts (canon u)) (cuts (canon t)))) 0) (is_same_topology t u) (λ _ _. refl) (λ _ f. absurd f)
      ((same_topology-iff t u D E).1 e)

  -- all that is gone through where they differ
  pub compared-differ : ¬ SameTopology t u → compared t u ≡ through (cuts (canon u)) (cuts (canon t))
  compared-differ n =
      let cs = cuts (canon t) in
      let ds = cuts (canon u) in
      cases (λ b. (T b → ⊥) → cond b 0 (through ds cs) ≡ through ds cs) (is_same_topology t u) (λ _ f. absurd (f tt)) (λ _ _. refl)
      (λ h. n ((same_topology-iff t u D E).0 h))

  -- one at least where the answer is yes
  pub compared-some : Apart t u → 1 ≤ compared t u
  compared-some a =
      let D' = canon-distinct t D in
      let E' = canon-distinct u E in
      let b = apart-topology D D' E E' (topology-sym (canon-topology t)) (topology-sym (canon-topology u)) a in
      rw (compared-differ a.0) (through-some (cuts (canon u)) (cuts (canon t)) ((one_move-iff (canon t) (canon u) D' E').1 b.1))

-- the cuts of t in order, up to and including the first whose forest u shares, or all: those whose pruned node has the clade of a node of u other than its root
pub compared_is : {t u : Tree} → Good t → Good u → ¬ SameTopology t u → {m : ℕ} → UpToFirst (SharesCut t u) (2 * leaves t - 2) m
    → compared t u ≡ count (has_clade (cuts (canon u))) (take m (cuts (canon t)))
compared_is {t} {u} G H n {m} w =
    let z : Cut = record { rest = t; pruned = t } in
    let tests = up-to-first-same (SharesCut t u) (SharedAt (cuts (canon u)) z (cuts (canon t))) (λ i h. let (f, g) = shares-iff G H i h in (g, f)) w in
    compared-differ G.distinct H.distinct n
    ∙ through-is (cuts (canon u)) z (cuts (canon t)) (subst (λ (k : ℕ). UpToFirst (SharedAt (cuts (canon u)) z (cuts (canon t))) k m) (sym (cuts-canon t)) tests)

-- ---- the pair call
module _ (t u : Tree) where
  as-le : (k : Kind) → compared_as k t u ≤ 2 * leaves t - 2
  as-le rooted = compared-le t u
  as-le unrooted = omega arith

  as_some : (k : Kind) → Distinct t → Distinct u → k ≡ rooted → ApartAs k t u → 1 ≤ compared_as k t u
  as_some rooted D E e a = compared-some D E a
  as_some unrooted D E e a = clash cc

  as_same : (k : Kind) → Distinct t → Distinct u → SameTopology t u → compared_as k t u ≡ 0
  as_same rooted D E e = compared_same D E e
  as_same unrooted D E e = refl

-- what is told of two trees that were read: at most 2n - 2, where n is the number of leaves, and one at least where rooted trees get a yes; none for one topology, and none for unrooted trees
pub record Told (s s' : List ℕ) (r : Comparison) : Type 0 where
  pub one : Kinded
  pub two : Kinded
  pub read : pair_reading s s' ≡ accepted (one, two)
  pub most : r.forests ≤ 2 * leaves one.tree - 2
  pub yes_some : one.kind ≡ rooted → r.yes ≡ true → 1 ≤ r.forests
  pub same_none : SameTopology one.tree two.tree → r.forests ≡ 0
  pub unrooted-none : one.kind ≡ unrooted → r.forests ≡ 0

told-by : (s s' : List ℕ) (x y : Kinded) → pair_reading s s' ≡ accepted (x, y) → (b : Bool) → (b ≡ true → ApartAs x.kind x.tree y.tree) → Told s s' (comparison b x y)
told-by s s' x y e b a =
    let r = tells-accepted (pair-tells s s') e in
    record {
      one = x;
      two = y;
      read = e;
      most = as-le x.tree y.tree x.kind;
      yes_some = λ k f. as_some x.tree y.tree x.kind r.good.distinct r.good'.distinct k (a f);
      same_none = as_same x.tree y.tree x.kind r.good.distinct r.good'.distinct;
      unrooted-none = λ k. ap (λ (j : Kind). compared_as j x.tree y.tree) k;
    }

pub pair-told : {s s' : List ℕ} {r : Comparison} → PairCall s s' (accepted r) → Told s s' r
pair-told {s} {s'} (stands_apart x y e h) = told-by s s' x y e true (λ _. h)
pair-told {s} {s'} (not_apart x y e h) = told-by s s' x y e false (λ f. clash cc)
