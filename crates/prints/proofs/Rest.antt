-- Prints of what is left without a node, fork by fork, and what the walk over the forks of a held tree leaves.
-- Assumes nothing.
use mathlib.Core.Path.{◌≡◌, refl, sym, ap, subst, ◌∙◌}
use mathlib.Core.List.{List}
use Prim.Native.Nat.{ℕ, ◌+◌, ◌-◌, ◌≤◌, ◌<◌}
use native.Mathlib.Decide.{ℕ_discrete, dec_lt}
use native.Mathlib.Omega.{arith}
use lib.ListN.{length, get_or}
use Rattle.meaning.specs.Tree.{Tree, leaf, fork}
use Rattle.meaning.specs.Move.{Prune, first, second, in_first, in_second, cuts}
use Rattle.meaning.specs.Clade.{clade}
use Rattle.held.specs.Held.{nodes, Holds, cut_in}
use Rattle.held.specs.Node.{subtree, Children}
use Rattle.held.specs.declared.node.Node.{Node}
use Rattle.held.proofs.Laws.{some-nodes}
use Rattle.held.proofs.Subtree.{node-holds}
use Rattle.held.proofs.Cut.{cuts-nodes, cut-is, cut_stands}
use Rattle.clades.specs.Marks.{Marks}
use Rattle.pairs.specs.Left.{left}
use Rattle.pairs.proofs.Left.{left-first, left-second, left-in-first, left-in-second, left-rest}
use Rattle.prints.specs.Print.{spread, print}
use Rattle.prints.specs.Rest.{share, PassRoom, Passed, RestRoom, RestNoted}

-- ---- node p of the tree t that is held at k is that of cut number c
module _ {xs : List ℕ} {k : ℕ} {t : Tree} (h : Holds xs k t) (p c : ℕ) (e : k + 1 + c ≡ p) (lt : c < length (cuts t)) where
  pub pruned-at : Holds xs p (cut_in t c).pruned
  pruned-at = subst (λ (j : ℕ). Holds xs j (cut_in t c).pruned) e (cut_stands h c lt)

  pub left_at : left p k t ≡ (cut_in t c).rest
  left_at = subst (λ (j : ℕ). left j k t ≡ (cut_in t c).rest) e (left-rest k t c lt)

-- a tree's clade is that of what is pruned and of what is left
prune-clade : {s t r : Tree} → Prune s t r → clade t ≡ clade s + clade r
prune-clade first = omega arith
prune-clade second = omega arith
prune-clade (in_first p) = omega (arith, prune-clade p)
prune-clade (in_second p) = omega (arith, prune-clade p)

left-clade : {xs : List ℕ} (m : List ℕ) {k : ℕ} {t : Tree} → Holds xs k t → Marks clade xs m k (k + nodes t) → (p : ℕ) → k < p → p < k + nodes t
    → clade t ≡ get_or m p 0 + clade (left p k t)
left-clade m {k} {t} h marks p f l =
    let c : ℕ = p - (k + 1) in
    let e : k + 1 + c ≡ p = omega arith in
    let lt : c < length (cuts t) = omega (arith, cuts-nodes t) in
    omega (arith, prune-clade (cut-is t c lt), marks p (omega arith) l (cut_in t c).pruned (pruned-at h p c e lt), ap clade (left_at h p c e lt))

-- ---- a leaf has no node below it
pub leaf-rest : {k l : ℕ} {t : Tree} (rest : List ℕ) → t ≡ leaf l → RestNoted t k rest rest
leaf-rest rest e = rw e (record { own = λ p f l. absurd (omega arith); others = λ p out. refl; long = refl })

-- ---- the same tree in the same bytes
pub room-at : {t u : Tree} {xs ys m f rest : List ℕ} {k n : ℕ} → u ≡ t → ys ≡ xs → n ≡ k → RestRoom t xs m f rest k → RestRoom u ys m f rest n
room-at e same at r = rw (e, same, at) r

-- ---- a fork of a and b, which stand at i and j; v is the width of the second
pub record RestFork (xs m f rest : List ℕ) (t a b : Tree) (k i j v : ℕ) : Type 0 where
  pub asked : RestRoom t xs m f rest k
  pub is : t ≡ fork a b
  pub first-at : i ≡ k + 1
  pub second-at : j ≡ k + 1 + nodes a
  pub second_width : v ≡ nodes b
  pub holds : Holds xs k t
  pub holds-first : Holds xs i a
  pub holds-second : Holds xs j b

-- as a node shows it
pub rest-fork : {m f rest : List ℕ} {x y z : Node} {v : ℕ} → Children x y z → v ≡ nodes (subtree z) → RestRoom (subtree x) x.tree.now m f rest x.at
    → RestFork x.tree.now m f rest (subtree x) (subtree y) (subtree z) x.at y.at z.at v
rest-fork {x} {y} {z} c e r =
    record {
      asked = r;
      is = c.is;
      first-at = c.first_at;
      second-at = c.second_at;
      second_width = e;
      holds = node-holds x;
      holds-first = subst (λ (xs : List ℕ). Holds xs y.at (subtree y)) c.first_in (node-holds y);
      holds-second = subst (λ (xs : List ℕ). Holds xs z.at (subtree z)) c.second_in (node-holds z);
    }

module _ {xs m f rest : List ℕ} {t a b : Tree} {k i j v : ℕ} (F : RestFork xs m f rest t a b k i j v) where
  abbrev R : RestRoom t xs m f rest k
  R = F.asked

  all-nodes : nodes t ≡ 1 + nodes a + v
  all-nodes = omega (arith, ap nodes F.is, F.second_width)

  whole_is : get_or m k 0 ≡ clade t
  whole_is = R.clades k (omega arith) (omega (arith, some-nodes t)) t F.holds

  -- the clade of what is left without the node p
  clade-is : (p : ℕ) → k < p → p < k + nodes t → get_or m k 0 ≡ get_or m p 0 + clade (left p k t)
  clade-is p u l = whole_is ∙ left-clade m F.holds R.clades p u l

  left-whole : (p : ℕ) → left p k t ≡ left p k (fork a b)
  left-whole p = ap (left p k) F.is

  print-a : get_or f i 0 ≡ print a
  print-a = R.prints i (omega arith) (omega (arith, all-nodes, some-nodes a)) a F.holds-first

  print-b : get_or f j 0 ≡ print b
  print-b = R.prints j (omega arith) (omega (arith, all-nodes, some-nodes b)) b F.holds-second

  -- what is left without each node: the other child, or a fork again
  without-first : print (left i k t) ≡ get_or f j 0
  without-first = ap print (left-whole i ∙ left-first i k a b F.first-at) ∙ sym print-b

  without-second : print (left j k t) ≡ get_or f i 0
  without-second = ap print (left-whole j ∙ left-second j k a b (omega arith)) ∙ sym print-a

  open-print : (p : ℕ) → k < p → p < k + nodes t → spread (clade (left p k t)) ≡ spread (get_or m k 0 - get_or m p 0)
  open-print p u l = let c : clade (left p k t) ≡ get_or m k 0 - get_or m p 0 = omega (arith, clade-is p u l) in ap spread c

  below-first : (p : ℕ) → i < p → p < j → print (left p k t) ≡ share m (get_or m k 0) (get_or f j 0) p + print (left p i a)
  below-first p u l =
      let is : left p k t ≡ fork (left p i a) b = left-whole p ∙ left-in-first p k a b (omega arith) (omega arith) ∙ ap (λ (n : ℕ). fork (left p n a) b) (sym F.first-at) in
      omega (arith, ap print is, sym (ap (λ (s : Tree). spread (clade s)) is), open-print p (omega arith) (omega (arith, all-nodes)), print-b)

  below-second : (p : ℕ) → j < p → p < j + v → print (left p k t) ≡ share m (get_or m k 0) (get_or f i 0) p + print (left p j b)
  below-second p u l =
      let at : k + 1 + nodes a ≡ j = omega arith in
      let is : left p k t ≡ fork a (left p j b) = left-whole p ∙ left-in-second p k a b (omega arith) ∙ ap (λ (j : ℕ). fork a (left p j b)) at in
      omega (arith, ap print is, sym (ap (λ (s : Tree). spread (clade s)) is), open-print p (omega arith) (omega (arith, all-nodes)), print-a)

  smaller : (p : ℕ) → k < p → p < k + nodes t → get_or m p 0 ≤ get_or m k 0
  smaller p u l = omega (arith, clade-is p u l)

  -- the first child's nodes get their share
  pub pass-first : PassRoom m rest (get_or m k 0) (get_or f j 0) i j
  pass-first =
      record {
        some = omega (arith, some-nodes a);
        room = omega (arith, all-nodes, R.room);
        long = R.long;
        smaller = λ p u l. smaller p (omega arith) (omega (arith, all-nodes));
        child_fits = omega (arith, without-first, R.fits i (omega arith) (omega (arith, all-nodes, some-nodes a)));
        below_fits = λ p u l. omega (arith, below-first p u l, R.fits p (omega arith) (omega (arith, all-nodes)));
      }

  module _ {rest₁ : List ℕ} (P : Passed m rest rest₁ (get_or m k 0) (get_or f j 0) i j) where
    -- and then the second child's
    pub pass-second : PassRoom m rest₁ (get_or m k 0) (get_or f i 0) j (j + v)
    pass-second =
        record {
          some = omega (arith, some-nodes b);
          room = omega (arith, all-nodes, R.room);
          long = omega (arith, P.long, R.long);
          smaller = λ p u l. smaller p (omega arith) (omega (arith, all-nodes));
          child_fits =
              let fits = R.fits j (omega arith) (omega (arith, all-nodes, some-nodes b)) in
              omega (arith, without-second, P.others j (λ x y. omega arith));
          below_fits = λ p u l. omega (arith, below-second p u l, P.others p (λ x y. omega arith), R.fits p (omega arith) (omega (arith, all-nodes)));
        }

    module _ {rest₂ : List ℕ} (Q : Passed m rest₁ rest₂ (get_or m k 0) (get_or f i 0) j (j + v)) where
      -- both children are walked over
      pub room-first : RestRoom a xs m f rest₂ i
      room-first =
          record {
            room = omega (arith, all-nodes, R.room);
            clades = λ p u l. R.clades p (omega arith) (omega (arith, all-nodes));
            prints = λ p u l. R.prints p (omega arith) (omega (arith, all-nodes));
            long = omega (arith, Q.long, P.long, R.long);
            fits = λ p u l. omega (
              arith,
              Q.others p (λ x y. omega arith),
              P.below p u (omega arith),
              below-first p u (omega arith),
              R.fits p (omega arith) (omega (arith, all-nodes)),
            );
          }

      module _ {rest₃ : List ℕ} (A : RestNoted a i rest₂ rest₃) where
        pub room-second : RestRoom b xs m f rest₃ j
        room-second =
            record {
              room = omega (arith, all-nodes, R.room);
              clades = λ p u l. R.clades p (omega arith) (omega (arith, all-nodes));
              prints = λ p u l. R.prints p (omega arith) (omega (arith, all-nodes));
              long = omega (arith, A.long, Q.long, P.long, R.long);
              fits = λ p u l. omega (
                arith,
                A.others p (λ x y. omega arith),
                Q.below p u (omega arith),
                P.others p (λ x y. omega arith),
                below-second p u (omega arith),
                R.fits p (omega arith) (omega (arith, all-nodes)),
              );
            }

        -- so each node below the fork has got the print without it
        module _ {rest₄ : List ℕ} (B : RestNoted b j rest₃ rest₄) where
          abbrev Got : ℕ → Type 0
          Got p = get_or rest₄ p 0 ≡ get_or rest p 0 + print (left p k t)

          got-first : Got i
          got-first =
              omega (
                arith,
                B.others i (λ x y. omega arith),
                A.others i (λ x y. omega arith),
                Q.others i (λ x y. omega (arith, some-nodes a)),
                P.child,
                without-first,
              )

          got-second : Got j
          got-second =
              omega (
                arith,
                B.others j (λ x y. omega arith),
                A.others j (λ x y. omega arith),
                Q.child,
                P.others j (λ x y. omega arith),
                without-second,
              )

          got-below-first : (p : ℕ) → i < p → p < j → Got p
          got-below-first p u l =
              omega (
                arith,
                B.others p (λ x y. omega arith),
                A.own p u (omega arith),
                Q.others p (λ x y. omega arith),
                P.below p u l,
                below-first p u l,
              )

          got-below-second : (p : ℕ) → j < p → p < j + v → Got p
          got-below-second p u l =
              omega (
                arith,
                B.own p u (omega arith),
                A.others p (λ x y. omega arith),
                Q.below p u l,
                P.others p (λ x y. omega arith),
                below-second p u l,
              )

          others : (p : ℕ) → (k < p → p < k + nodes t → ⊥) → get_or rest₄ p 0 ≡ get_or rest p 0
          others p out =
              omega (
                arith,
                B.others p (λ x y. out (omega arith) (omega (arith, all-nodes))),
                A.others p (λ x y. out (omega arith) (omega (arith, all-nodes))),
                Q.others p (λ x y. out (omega arith) (omega (arith, all-nodes))),
                P.others p (λ x y. out (omega arith) (omega (arith, all-nodes))),
              )

          got : (p : ℕ) → k < p → p < k + nodes t → Dec (p ≡ i) → Dec (p ≡ j) → Dec (p < j) → Got p
          got p u l (yes e) _ _ = subst Got (sym e) got-first
          got p u l (no n) (yes e) _ = subst Got (sym e) got-second
          got p u l (no n) (no n') (yes y) = got-below-first p (omega arith) y
          got p u l (no n) (no n') (no y) = got-below-second p (omega arith) (omega (arith, all-nodes))

          pub fork-rest : RestNoted t k rest rest₄
          fork-rest =
              record {
                own = λ p u l. got p u l (ℕ_discrete p i) (ℕ_discrete p j) (dec_lt p j);
                others = others;
                long = omega (arith, B.long, A.long, Q.long, P.long);
              }
