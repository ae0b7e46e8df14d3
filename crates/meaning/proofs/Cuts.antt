-- The numbering of cuts: cut by cut, as code computes it, and in the text, where the nodes below the root begin in that order.
-- Assumes nothing.
use mathlib.Core.Path.{◌≡◌, refl, ap, ◌∙◌}
use mathlib.Core.List.{List, [], ◌∷◌, ◌++◌, map, append_assoc}
use Prim.Native.Nat.{ℕ, suc, ◌+◌, ◌≤◌, ◌<◌}
use native.Mathlib.Omega.{arith}
use lib.ListN.{length, get_or, length-append, length-map, get_or-append}
use lib.Seq.{get_or-append-add, get_or_at}
use Rattle.meaning.specs.Tree.{Tree, leaf, fork, write}
use Rattle.meaning.specs.Move.{Cut, deeper, side, cuts}
use Rattle.meaning.proofs.Digits.{digits-some}
use Rattle.meaning.proofs.Lists.{get_d_map}

-- the four kinds of cuts of a fork
module _ (a b : Tree) (d : Cut) where
  pub cut-first : get_or (cuts (fork a b)) 0 d ≡ record { rest = b; pruned = a }
  cut-first = refl

  pub cut-in-first : (k : ℕ) → k < length (cuts a) → get_or (cuts (fork a b)) (suc k) d ≡ deeper (λ r. fork r b) (get_or (cuts a) k d)
  cut-in-first k h = get_or-append (map (deeper (λ r. fork r b)) (cuts a)) (side b a (fork a) (cuts b)) d k (simp length-map h) ∙ get_d_map (deeper (λ r. fork r b)) (cuts a) k d d h

  pub cut-second : get_or (cuts (fork a b)) (suc (length (cuts a))) d ≡ record { rest = a; pruned = b }
  cut-second = get_or_at (side a b (λ r. fork r b) (cuts a)) (record { rest = a; pruned = b }) (map (deeper (fork a)) (cuts b)) d (suc (length (cuts a))) (simp length-map)

  pub cut-in-second : (k : ℕ) → k < length (cuts b) → get_or (cuts (fork a b)) (suc (suc (length (cuts a) + k))) d ≡ deeper (fork a) (get_or (cuts b) k d)
  cut-in-second k h =
      let first = map (deeper (λ r. fork r b)) (cuts a) in
      ap (λ (i : ℕ). get_or (first ++ side b a (fork a) (cuts b)) i d) (omega (arith, length-map (cuts a) (deeper (λ r. fork r b))))
      ∙ get_or-append-add first (side b a (fork a) (cuts b)) (suc k) d ∙ get_d_map (deeper (fork a)) (cuts b) k d d h

-- t's text stands at offset o of the text s
pub record Stands (s : List ℕ) (o : ℕ) (t : Tree) : Type 0 where
  pub before : List ℕ
  pub after : List ℕ
  pub place : length before ≡ o
  pub whole : s ≡ before ++ (write t ++ after)

-- where the nodes below the root begin, of a tree whose text begins at o
abbrev pub begins : ℕ → Tree → List ℕ
begins o (leaf n) = []
begins o (fork a b) = ((o + 1) ∷ begins (o + 1) a) ++ ((o + 2 + length (write a)) ∷ begins (o + 2 + length (write a)) b)

-- these are in order: each from lo on, and below hi
abbrev pub Rising : ℕ → List ℕ → ℕ → Type 0
Rising lo [] hi = lo ≤ hi
Rising lo (x ∷ xs) hi = (lo ≤ x) × Rising (suc x) xs hi

rising-widen : (lo lo' hi hi' : ℕ) (xs : List ℕ) → lo' ≤ lo → hi ≤ hi' → Rising lo xs hi → Rising lo' xs hi'
rising-widen lo lo' hi hi' [] h k r = omega (arith, r)
rising-widen lo lo' hi hi' (x ∷ xs) h k r = (omega (arith, r.0), rising-widen (suc x) (suc x) hi hi' xs (omega arith) k r.1)

rising-append : (lo mid hi : ℕ) (xs ys : List ℕ) → Rising lo xs mid → Rising mid ys hi → Rising lo (xs ++ ys) hi
rising-append lo mid hi [] ys r q = rising-widen mid lo hi hi ys r (omega arith) q
rising-append lo mid hi (x ∷ xs) ys r q = (r.0, rising-append (suc x) mid hi xs ys r.1 q)

-- and each cut takes away the tree whose text begins at its place
pub data Aligned (s : List ℕ) : List ℕ → List Cut → Type 0 where
  none : Aligned s [] []
  more : {o : ℕ} {os : List ℕ} {c : Cut} {cs : List Cut} → Stands s o c.pruned → Aligned s os cs → Aligned s (o ∷ os) (c ∷ cs)

aligned-append : {s os ps : List ℕ} {cs ds : List Cut} → Aligned s os cs → Aligned s ps ds → Aligned s (os ++ ps) (cs ++ ds)
aligned-append none b = b
aligned-append (more h a) b = more h (aligned-append a b)

aligned-deeper : {s os : List ℕ} {cs : List Cut} (k : Tree → Tree) → Aligned s os cs → Aligned s os (map (deeper k) cs)
aligned-deeper k none = none
aligned-deeper k (more h a) = more h (aligned-deeper k a)

stands-first : (s : List ℕ) (o : ℕ) (a b : Tree) → Stands s o (fork a b) → Stands s (o + 1) a
stands-first s o a b h = record { before = h.before ++ (40 ∷ []); after = 44 ∷ (write b ++ (41 ∷ h.after)); place = simp length-append (omega (arith, h.place)); whole = h.whole ∙ simp append_assoc }

stands-second : (s : List ℕ) (o : ℕ) (a b : Tree) → Stands s o (fork a b) → Stands s (o + 2 + length (write a)) b
stands-second s o a b h = record { before = h.before ++ (40 ∷ write a) ++ (44 ∷ []); after = 41 ∷ h.after; place = simp length-append (omega (arith, h.place)); whole = h.whole ∙ simp append_assoc }

pub cuts-aligned : (s : List ℕ) (o : ℕ) (t : Tree) → Stands s o t → Aligned s (begins o t) (cuts t)
cuts-aligned s o (leaf n) h = none
cuts-aligned s o (fork a b) h =
    let f = stands-first s o a b h in
    let g = stands-second s o a b h in
    aligned-append (more f (aligned-deeper (λ r. fork r b) (cuts-aligned s (o + 1) a f))) (more g (aligned-deeper (fork a) (cuts-aligned s (o + 2 + length (write a)) b g)))

pub begins-rise : (o : ℕ) (t : Tree) → Rising (suc o) (begins o t) (o + length (write t))
begins-rise o (leaf n) = omega (arith, digits-some n)
begins-rise o (fork a b) =
    let m = o + 2 + length (write a) in (
      omega arith,
      rising-append (suc (o + 1)) (o + 1 + length (write a)) (o + length (write (fork a b))) (begins (o + 1) a) (m ∷ begins m b)
          (begins-rise (o + 1) a)
          (omega arith, rising-widen (suc m) (suc m) (m + length (write b)) (o + length (write (fork a b))) (begins m b) (omega arith) (simp length-append (omega arith)) (begins-rise m b)),
    )
