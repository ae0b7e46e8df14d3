-- The order of entries is strict and total.
-- Assumes nothing.
use mathlib.Core.Path.{◌≡◌, refl, sym, ◌∙◌, subst}
use mathlib.Core.Logic.{◌↔◌, ◌≢◌, ◌⊎◌, inl, inr}
use mathlib.Core.Bool.{Bool, true, false, not, ◌&&◌}
use mathlib.Core.List.{List, [], ◌∷◌}
use Prim.Native.Nat.{ℕ, ◌<◌}
use native.Mathlib.Omega.{arith}
use native.Mathlib.Decide.{dec_lt}
use lib.Dec.{T, T_not, not_T}
use Rattle.meaning.specs.Sorted.{lesser}
use Rattle.meaning.specs.Listing.{Pair, Before}
use Rattle.meaning.proofs.Logic.{T_and, T-left, T-right}
use Rattle.meaning.proofs.Lesser.{or_cases, then-iff, lesser-asym, lesser-trans, lesser-irrefl, neither-lesser}
use Rattle.meaning.proofs.Listing.{before-asym}
use Rattle.meaning.proofs.Sorted.{Strict}
use Rattle.holdings.specs.Entries.{two_of, ranks, earlier}

-- by first numbers, then by the rest
abbrev Then : ℕ → ℕ → List ℕ → List ℕ → Type 0
Then x y xs ys = (x < y) ⊎ ((x ≡ y) × T (lesser xs ys))

-- two numbers in byte order stand as pairs do
pub two-iff : (p q : Pair) → T (lesser (two_of p) (two_of q)) ↔ Before p q
unfolding lesser
two-iff p q = (λ t. to ((then-iff p.0 q.0 (lesser (p.1 ∷ []) (q.1 ∷ []))).0 t), λ h. (then-iff p.0 q.0 (lesser (p.1 ∷ []) (q.1 ∷ []))).1 (from h))
  where
    second : Then p.1 q.1 [] [] → p.1 < q.1
    second (inl h) = h
    second (inr h) = absurd h.1

    to : Then p.0 q.0 (p.1 ∷ []) (q.1 ∷ []) → Before p q
    to (inl h) = inl h
    to (inr h) = inr (h.0, second ((then-iff p.1 q.1 (lesser [] [])).0 h.1))

    from : Before p q → Then p.0 q.0 (p.1 ∷ []) (q.1 ∷ [])
    from (inl h) = inl h
    from (inr h) = inr (h.0, (then-iff p.1 q.1 (lesser [] [])).1 (inl h.1))

before-trans : {p q r : Pair} → Before p q → Before q r → Before p r
before-trans (inl h) (inl g) = inl (omega arith)
before-trans (inl h) (inr g) = inl (omega arith)
before-trans (inr h) (inl g) = inl (omega arith)
before-trans (inr h) (inr g) = inr (h.0 ∙ g.0, omega arith)

before-total : {p q : Pair} → p ≢ q → (Before p q → ⊥) → Before q p
before-total {p} {q} ne f = go (dec_lt q.0 p.0) (dec_lt q.1 p.1)
  where
    go : Dec (q.0 < p.0) → Dec (q.1 < p.1) → Before q p
    go (yes h) d = inl h
    go (no h) d =
        let a : ¬ (p.0 < q.0) = λ l. f (inl l) in
        let e : p.0 ≡ q.0 = omega arith in on e d
      where
        on : p.0 ≡ q.0 → Dec (q.1 < p.1) → Before q p
        on e (yes l) = inr (sym e, l)
        on e (no l) =
            let b : ¬ (p.1 < q.1) = λ l. f (inr (e, l)) in
            let e' : p.1 ≡ q.1 = omega arith in absurd (ne (λ i. (e i, e' i)))

-- the lesser text; of one text, the smaller tree and then the smaller cut
abbrev pub Ahead : List ℕ → Pair → List ℕ → Pair → Type 0
Ahead xs p ys q = T (lesser xs ys) ⊎ ((xs ≡ ys) × Before p q)

-- that is what the test says of an entry p with the text xs and q with the text ys
pub ranks-iff : (xs ys : List ℕ) (p q : Pair) → T (ranks xs p ys q) ↔ Ahead xs p ys q
ranks-iff xs ys p q = (λ t. to (or_cases (lesser xs ys) (back && pairs) t), from)
  where
    back : Bool
    back = not (lesser ys xs)

    pairs : Bool
    pairs = lesser (two_of p) (two_of q)

    tie : (d : Bool) → lesser xs ys ≡ d → T back → T pairs → Ahead xs p ys q
    tie true e n s = inl (rw e tt)
    tie false e n s = inr (neither-lesser xs ys (λ t. rw e at t) (T_not (lesser ys xs) n), (two-iff p q).0 s)

    to : T (lesser xs ys) ⊎ T (back && pairs) → Ahead xs p ys q
    to (inl t) = inl t
    to (inr t) = let (n, s) = (T_and back pairs).0 t in tie (lesser xs ys) refl n s

    from : Ahead xs p ys q → T (ranks xs p ys q)
    from (inl t) = T-left (lesser xs ys) (back && pairs) t
    from (inr h) =
        T-right (lesser xs ys) (back && pairs) ((T_and back pairs).1 (not_T (lesser ys xs) (lesser-irrefl ys xs (sym h.0)), (two-iff p q).1 h.1))

-- from one entry to the next
pub ranks-trans : (xs ys zs : List ℕ) (p q r : Pair) → T (ranks xs p ys q) → T (ranks ys q zs r) → T (ranks xs p zs r)
ranks-trans xs ys zs p q r t s = (ranks-iff xs zs p r).1 (go ((ranks-iff xs ys p q).0 t) ((ranks-iff ys zs q r).0 s))
  where
    go : Ahead xs p ys q → Ahead ys q zs r → Ahead xs p zs r
    go (inl h) (inl g) = inl (lesser-trans xs ys zs h g)
    go (inl h) (inr g) = inl (subst (λ (l : List ℕ). T (lesser xs l)) g.0 h)
    go (inr h) (inl g) = inl (subst (λ (l : List ℕ). T (lesser l zs)) (sym h.0) g)
    go (inr h) (inr g) = inr (h.0 ∙ g.0, before-trans h.1 g.1)

-- where each entry has its text
module _ (text : Pair → List ℕ) where
  abbrev pub Earlier : Pair → Pair → Type 0
  Earlier p q = Ahead (text p) p (text q) q

  pub earlier-iff : (p q : Pair) → T (earlier text p q) ↔ Earlier p q
  earlier-iff p q = ranks-iff (text p) (text q) p q

  pub earlier-asym : (p q : Pair) → T (earlier text p q) → T (earlier text q p) → ⊥
  earlier-asym p q t s = go ((earlier-iff p q).0 t) ((earlier-iff q p).0 s)
    where
      go : Earlier p q → Earlier q p → ⊥
      go (inl h) (inl g) = lesser-asym (text p) (text q) h g
      go (inl h) (inr g) = lesser-irrefl (text p) (text q) (sym g.0) h
      go (inr h) (inl g) = lesser-irrefl (text q) (text p) (sym h.0) g
      go (inr h) (inr g) = before-asym h.1 g.1

  pub earlier-trans : (p q r : Pair) → T (earlier text p q) → T (earlier text q r) → T (earlier text p r)
  earlier-trans p q r t s = ranks-trans (text p) (text q) (text r) p q r t s

  -- of two entries one stands before the other
  pub earlier-total : (p q : Pair) → p ≢ q → T (not (earlier text p q)) → T (earlier text q p)
  earlier-total p q ne n = (earlier-iff q p).1 (go (lesser (text q) (text p)) refl)
    where
      never : Earlier p q → ⊥
      never h = T_not (earlier text p q) n ((earlier-iff p q).1 h)

      go : (d : Bool) → lesser (text q) (text p) ≡ d → Earlier q p
      go true e = inl (rw e tt)
      go false e = let same = neither-lesser (text p) (text q) (λ t. never (inl t)) (λ t. rw e at t) in inr (sym same, before-total ne (λ b. never (inr (same, b))))

  -- so it is a strict order of all entries
  pub earlier-strict : Strict (λ (_ : Pair). Unit {0}) (earlier text)
  earlier-strict = record { asym = earlier-asym; trans = earlier-trans; total = λ p q _ _ ne n. earlier-total p q ne n }
