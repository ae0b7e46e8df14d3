-- The tests for unrooted trees are right: each passes exactly where what it tests holds.
-- Assumes nothing.
use mathlib.Core.Path.{◌≡◌, refl, subst}
use mathlib.Core.Logic.{◌↔◌, ◌⊎◌, inl, inr}
use mathlib.Core.Bool.{Bool, true, false, not, ◌&&◌, ◌||◌}
use Prim.Native.Nat.{ℕ}
use lib.Dec.{T, T_not, not_T, eqb, eqb→eq, eqb_refl}
use Rattle.meaning.specs.Tree.{Tree, leaf, fork, Distinct}
use Rattle.meaning.specs.Move.{OneMove}
use Rattle.meaning.specs.Decide.{eq_tree, is_one_move}
use Rattle.meaning.specs.Unrooted.{SameSplits, canon_unrooted, ApartU, Respun, here}
use Rattle.meaning.specs.UnrootedDecide.{is_same_splits, is_respun, is_one_move_unrooted, is_apart_unrooted}
use Rattle.meaning.proofs.Same.{≈-refl, not-leaf}
use Rattle.meaning.proofs.Logic.{T_and}
use Rattle.meaning.proofs.Decide.{eq_tree-iff, one_move-iff}
use Rattle.meaning.proofs.Splits.{≈-splits}
use Rattle.meaning.proofs.Rootings.{least-same, splits-iff-canon, canon_unrooted-distinct}
use Rattle.meaning.proofs.Respun.{respun-clade, apart-iff-decide}

T-or : (a b : Bool) → T (a || b) ↔ (T a ⊎ T b)
T-or true b = (λ t. inl tt, λ t. tt)
T-or false b = (λ t. inr t, to)
  where
    to : ⊥ ⊎ T b → T b
    to (inl e) = absurd e
    to (inr t) = t

pub same_splits-iff : (t u : Tree) → Distinct t → Distinct u → T (is_same_splits t u) ↔ SameSplits t u
same_splits-iff t u D E =
    let e = eq_tree-iff (canon_unrooted t) (canon_unrooted u) in
    let f = splits-iff-canon D E in
    (λ h. f.1 (e.0 h), λ h. e.1 (f.0 h))

respun-leaf : {m n : ℕ} → Respun (leaf m) (leaf n) → T (eqb m n)
respun-leaf {m} (here h) = subst (λ (k : ℕ). T (eqb m k)) (least-same h.0) (eqb_refl m)

leaf-respun : (m n : ℕ) → m ≡ n → Respun (leaf m) (leaf n)
leaf-respun m n e = subst (λ (k : ℕ). Respun (leaf m) (leaf k)) e (here (≈-splits (≈-refl (leaf m))))

-- the three ways at a fork
data Ways (a b c d : Tree) : Type 0 where
  whole : SameSplits (fork a b) (fork c d) → Ways a b c d
  first : b ≡ d → Respun a c → Ways a b c d
  second : a ≡ c → Respun b d → Ways a b c d

respun-ways : {a b c d : Tree} → Respun (fork a b) (fork c d) → Ways a b c d
respun-ways (here h) = whole h
respun-ways (Respun.in_first k) = first refl k
respun-ways (Respun.in_second k) = second refl k

ways-respun : {a b c d : Tree} → Ways a b c d → Respun (fork a b) (fork c d)
ways-respun (whole h) = here h
ways-respun {a} {b} {c} (first e k) = subst (λ (x : Tree). Respun (fork a b) (fork c x)) e (Respun.in_first k)
ways-respun {a} {b} {d} (second e k) = subst (λ (x : Tree). Respun (fork a b) (fork x d)) e (Respun.in_second k)

module _ (a b c d : Tree) (A : T (is_respun a c) ↔ Respun a c) (B : T (is_respun b d) ↔ Respun b d) (S : T (is_same_splits (fork a b) (fork c d)) ↔ SameSplits (fork a b) (fork c d)) where
  in_either : T ((eq_tree b d && is_respun a c) || (eq_tree a c && is_respun b d)) → Ways a b c d
  in_either h = go ((T-or (eq_tree b d && is_respun a c) (eq_tree a c && is_respun b d)).0 h)
    where
      go : T (eq_tree b d && is_respun a c) ⊎ T (eq_tree a c && is_respun b d) → Ways a b c d
      go (inl t) = let (e, k) = (T_and (eq_tree b d) (is_respun a c)).0 t in first ((eq_tree-iff b d).0 e) (A.0 k)
      go (inr t) = let (e, k) = (T_and (eq_tree a c) (is_respun b d)).0 t in second ((eq_tree-iff a c).0 e) (B.0 k)

  test-ways : T (is_respun (fork a b) (fork c d)) → Ways a b c d
  test-ways h = go ((T-or (is_same_splits (fork a b) (fork c d)) ((eq_tree b d && is_respun a c) || (eq_tree a c && is_respun b d))).0 h)
    where
      go : T (is_same_splits (fork a b) (fork c d)) ⊎ T ((eq_tree b d && is_respun a c) || (eq_tree a c && is_respun b d)) → Ways a b c d
      go (inl t) = whole (S.0 t)
      go (inr t) = in_either t

  ways-test : Ways a b c d → T (is_respun (fork a b) (fork c d))
  ways-test w = (T-or (is_same_splits (fork a b) (fork c d)) ((eq_tree b d && is_respun a c) || (eq_tree a c && is_respun b d))).1 (go w)
    where
      go : Ways a b c d → T (is_same_splits (fork a b) (fork c d)) ⊎ T ((eq_tree b d && is_respun a c) || (eq_tree a c && is_respun b d))
      go (whole h) = inl (S.1 h)
      go (first e k) = inr ((T-or (eq_tree b d && is_respun a c) (eq_tree a c && is_respun b d)).1 (inl ((T_and (eq_tree b d) (is_respun a c)).1 ((eq_tree-iff b d).1 e, A.1 k))))
      go (second e k) = inr ((T-or (eq_tree b d && is_respun a c) (eq_tree a c && is_respun b d)).1 (inr ((T_and (eq_tree a c) (is_respun b d)).1 ((eq_tree-iff a c).1 e, B.1 k))))

pub respun-iff : (t u : Tree) → Distinct t → Distinct u → T (is_respun t u) ↔ Respun t u
respun-iff (leaf m) (leaf n) D E = (λ h. leaf-respun m n (eqb→eq m n h), respun-leaf)
respun-iff (leaf m) (fork c d) D E = (λ h. absurd h, λ k. not-leaf c d E (respun-clade k).1)
respun-iff (fork a b) (leaf n) D E = (λ h. absurd h, λ k. not-leaf a b D (respun-clade k).0)
respun-iff (fork a b) (fork c d) D E =
    let A = respun-iff a c D.0 E.0 in
    let B = respun-iff b d D.1 E.1 in
    let S = same_splits-iff (fork a b) (fork c d) D E in
    (λ h. ways-respun (test-ways a b c d A B S h), λ k. ways-test a b c d A B S (respun-ways k))

one_move_unrooted-iff : (t u : Tree) → Distinct t → Distinct u → T (is_one_move_unrooted t u) ↔ (OneMove t u ⊎ Respun t u)
one_move_unrooted-iff t u D E = (λ h. to ((T-or (is_one_move t u) (is_respun t u)).0 h), λ k. (T-or (is_one_move t u) (is_respun t u)).1 (from k))
  where
    to : T (is_one_move t u) ⊎ T (is_respun t u) → OneMove t u ⊎ Respun t u
    to (inl h) = inl ((one_move-iff t u D E).0 h)
    to (inr h) = inr ((respun-iff t u D E).0 h)

    from : OneMove t u ⊎ Respun t u → T (is_one_move t u) ⊎ T (is_respun t u)
    from (inl m) = inl ((one_move-iff t u D E).1 m)
    from (inr k) = inr ((respun-iff t u D E).1 k)

-- unrooted trees one move apart
pub apart_unrooted-iff : (t u : Tree) → Distinct t → Distinct u → T (is_apart_unrooted t u) ↔ ApartU t u
apart_unrooted-iff t u D E =
    let same = eq_tree-iff (canon_unrooted t) (canon_unrooted u) in
    let move = one_move_unrooted-iff (canon_unrooted t) (canon_unrooted u) (canon_unrooted-distinct t D) (canon_unrooted-distinct u E) in
    let both = T_and (not (is_same_splits t u)) (is_one_move_unrooted (canon_unrooted t) (canon_unrooted u)) in
    let decide = apart-iff-decide D E in (
      λ h. let (f, g) = both.0 h in decide.1 (λ e. T_not (is_same_splits t u) f (same.1 e), move.0 g),
      λ a. let (f, g) = decide.0 a in both.1 (not_T (is_same_splits t u) (λ h. f (same.0 h)), move.1 g),
    )
