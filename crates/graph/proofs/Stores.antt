-- Stores into lent memory: a pair, and what counting pairs makes of a run that was written.
-- Assumes nothing.
use mathlib.Core.Path.{◌≡◌, refl, sym, ap, subst, ◌∙◌}
use mathlib.Core.List.{List, [], ◌∷◌, ◌++◌, append_assoc, append-nil, Memᴰ}
use Prim.Native.Nat.{ℕ, zero, suc, ◌+◌, ◌*◌, ◌≤◌, ◌<◌}
use native.Mathlib.Omega.{arith}
use lib.ListN.{length, get_or, set, drop, replicate, length-set, length-replicate, get_or-replicate, get_or-append}
use lib.Seq.{set-append_left}
use Rattle.meaning.specs.Lists.{more}
use Rattle.meaning.specs.Listing.{Pair, Listing, counts, flat}
use Rattle.meaning.proofs.Counts.{counts-length, counts-none, neighbours-snoc}
use Rattle.lent.specs.Runs.{Wrote}
use Rattle.lent.proofs.Runs.{sets-start, wrote-two}
use Rattle.graph.specs.Graph.{tally}

-- the numbers of one pair
pub wrote-pair : (out : List ℕ) (m i j : ℕ) → Wrote (flat ((i, j) ∷ [])) out (set (set out (2 * m) i) (2 * m + 1) j) (2 * m) (2 * (m + 1))
unfolding flat
wrote-pair out m i j =
    let two : 2 * m + 2 ≡ 2 * (m + 1) = omega arith in
    subst (Wrote (i ∷ j ∷ []) out (set (set out (2 * m) i) (2 * m + 1) j) (2 * m)) two (wrote-two out (2 * m) i j)

-- counting keeps the length
pub tally-length : (numbers : List ℕ) (ps : List Pair) → length (tally numbers ps) ≡ length numbers
tally-length numbers [] = refl
tally-length numbers (p ∷ ps) = tally-length (more (more numbers p.0) p.1) ps ∙ simp length-set

-- it counts one list after another
pub tally-append : (numbers : List ℕ) (ps qs : List Pair) → tally numbers (ps ++ qs) ≡ tally (tally numbers ps) qs
tally-append numbers [] qs = refl
tally-append numbers (p ∷ ps) qs = tally-append (more (more numbers p.0) p.1) ps qs

-- one more somewhere is at most one more at x
pub more-le : (numbers : List ℕ) (i x : ℕ) → get_or (more numbers i) x 0 ≤ get_or numbers x 0 + 1
more-le [] i x = omega arith
more-le (n ∷ ns) zero zero = omega arith
more-le (n ∷ ns) zero (suc x) = omega arith
more-le (n ∷ ns) (suc i) zero = omega arith
more-le (n ∷ ns) (suc i) (suc x) = more-le ns i x

-- so a pair is at most two
pub tally-le : (numbers : List ℕ) (ps : List Pair) (x : ℕ) → get_or (tally numbers ps) x 0 ≤ get_or numbers x 0 + 2 * length ps
tally-le numbers [] x = omega arith
tally-le numbers (p ∷ ps) x =
    omega (arith, more-le numbers p.0 x, more-le (more numbers p.0) p.1 x, tally-le (more (more numbers p.0) p.1) ps x)

-- one more in the first of two lists
more-front : (ys zs : List ℕ) (i : ℕ) → i < length ys → more (ys ++ zs) i ≡ more ys i ++ zs
more-front ys zs i lt = rw (get_or-append ys zs 0 i lt) (set-append_left ys zs i (get_or ys i 0 + 1) lt)

-- ---- the counts of k positions, with zs behind them
module _ (k : ℕ) (zs : List ℕ) where
  -- a further pair is counted
  counts-more : (ps : List Pair) (i j : ℕ) → i < j → j < k → more (more (counts k ps ++ zs) i) j ≡ counts k (ps ++ ((i, j) ∷ [])) ++ zs
  counts-more ps i j h l =
      let cs = counts k ps in
      let long = counts-length k ps in
      let long' : length (more cs i) ≡ length cs = simp length-set in
      ap (λ (ns : List ℕ). more ns j) (more-front cs zs i (omega arith))
      ∙ more-front (more cs i) zs j (omega arith)
      ∙ ap (λ (ns : List ℕ). ns ++ zs) (sym (neighbours-snoc k ps i j h l))

  -- further pairs are
  tally-counts : (ps qs : List Pair) → ((p : Pair) → Memᴰ p qs → (p.0 < p.1) × (p.1 < k)) → tally (counts k ps ++ zs) qs ≡ counts k (ps ++ qs) ++ zs
  tally-counts ps [] below = rw append-nil
  tally-counts ps (q ∷ qs) below =
      let (h, l) = below q (Memᴰ.head refl) in
      ap (λ (ns : List ℕ). tally ns qs) (counts-more ps q.0 q.1 h l)
      ∙ tally-counts (ps ++ (q ∷ [])) qs (λ p m. below p (Memᴰ.tail m))
      ∙ ap (λ (rs : List Pair). counts k rs ++ zs) (append_assoc ps (q ∷ []) qs)

-- ---- where k counts were set to 0
module _ {k : ℕ} {out out' : List ℕ} (fits : k ≤ length out) (cleared : Wrote (replicate k 0) out out' 0 k) where
  zeros-first : out' ≡ replicate k 0 ++ drop k out
  zeros-first = cleared.cells ∙ sets-start out (replicate k 0) (omega (arith, length-replicate {A = ℕ} k 0)) ∙ rw length-replicate

  -- each of them is
  pub cleared_at : (x : ℕ) → x < k → get_or out' x 0 ≡ 0
  cleared_at x lt =
      let inside : x < length (replicate {A = ℕ} k 0) = rw length-replicate lt in
      rw zeros-first (get_or-append (replicate k 0) (drop k out) 0 x inside ∙ get_or-replicate k x 0 0 lt)

  -- counting a listing gives its neighbour counts
  pub counts-written : {L : ℕ → ℕ → Type 0} {ps : List Pair} → Listing k L ps → Wrote (counts k ps) out (tally out' ps) 0 k
  counts-written {ps} H = record {
    behind = omega (arith, counts-length k ps);
    cells =
        ap (λ (ns : List ℕ). tally ns ps) (zeros-first ∙ ap (λ (ns : List ℕ). ns ++ drop k out) (sym (counts-none k)))
        ∙ tally-counts k (drop k out) [] ps (λ p m. let x = (H.listed p.0 p.1).0 m in (x.0, x.1))
        ∙ sym (sets-start out (counts k ps) (omega (arith, counts-length k ps)) ∙ rw counts-length);
  }
