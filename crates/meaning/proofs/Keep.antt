-- The members of a list that pass a test: which these are, and in which order.
-- Assumes nothing.
use mathlib.Core.Path.{◌≡◌, refl, sym, ap, ◌∙◌, subst}
use mathlib.Core.Logic.{◌↔◌, ◌⊎◌, inl, inr}
use mathlib.Core.Bool.{Bool, true, false}
use mathlib.Core.List.Memᴰ
use mathlib.Core.List.{List, [], ◌∷◌, ◌++◌, Memᴰ}
use Prim.Native.Nat.{suc, ◌≤◌}
use native.Mathlib.Omega.{arith}
use lib.Dec.{T}
use lib.ListN.{length}
use Rattle.meaning.specs.Lists.{NoDup}
use Rattle.meaning.specs.Sorted.{put, keep, First, Sorted}

-- ---- one in front
module _ {A : Type 0} (b : Bool) (x : A) (xs : List A) where
  pub put-cases : (y : A) → Memᴰ y (put b x xs) → (T b × (y ≡ x)) ⊎ Memᴰ y xs
  unfolding put
  put-cases y m = go b m
    where
      go : (b : Bool) → Memᴰ y (put b x xs) → (T b × (y ≡ x)) ⊎ Memᴰ y xs
      go true (Memᴰ.head e) = inl (tt, e)
      go true (Memᴰ.tail m) = inr m
      go false m = inr m

  pub put_front : T b → Memᴰ x (put b x xs)
  unfolding put
  put_front t = go b t
    where
      go : (b : Bool) → T b → Memᴰ x (put b x xs)
      go true t = Memᴰ.head refl
      go false t = absurd t

  pub put-behind : (y : A) → Memᴰ y xs → Memᴰ y (put b x xs)
  unfolding put
  put-behind y m = go b
    where
      go : (b : Bool) → Memᴰ y (put b x xs)
      go true = Memᴰ.tail m
      go false = m

  pub put-nodup : (T b → Memᴰ x xs → ⊥) → NoDup xs → NoDup (put b x xs)
  unfolding put
  put-nodup f n = go b f
    where
      go : (b : Bool) → (T b → Memᴰ x xs → ⊥) → NoDup (put b x xs)
      go true f = (f tt, n)
      go false f = n

  put-sorted : (before : A → A → Bool) → First before x xs → Sorted before xs → Sorted before (put b x xs)
  unfolding put
  put-sorted before f s = go b
    where
      go : (b : Bool) → Sorted before (put b x xs)
      go true = (f, s)
      go false = s

  put-append : (ys : List A) → put b x (xs ++ ys) ≡ put b x xs ++ ys
  unfolding put
  put-append ys = go b
    where
      go : (b : Bool) → put b x (xs ++ ys) ≡ put b x xs ++ ys
      go true = refl
      go false = refl

  put-length : length (put b x xs) ≤ suc (length xs)
  unfolding put
  put-length = go b
    where
      go : (b : Bool) → length (put b x xs) ≤ suc (length xs)
      go true = omega arith
      go false = omega arith

-- ---- those that pass
module _ {A : Type 0} (test : A → Bool) where
  keep-in : (xs : List A) (x : A) → Memᴰ x (keep test xs) → Memᴰ x xs × T (test x)
  unfolding keep
  keep-in [] x m = absurd (Memᴰ.not-nil m)
  keep-in (y ∷ ys) x m = go (put-cases (test y) y (keep test ys) x m) (keep-in ys x)
    where
      go : (T (test y) × (x ≡ y)) ⊎ Memᴰ x (keep test ys) → (Memᴰ x (keep test ys) → Memᴰ x ys × T (test x)) → Memᴰ x (y ∷ ys) × T (test x)
      go (inl (t, e)) f = (Memᴰ.head e, subst (λ (z : A). T (test z)) (sym e) t)
      go (inr m) f = let (n, t) = f m in (Memᴰ.tail n, t)

  in-keep : (xs : List A) (x : A) → Memᴰ x xs → T (test x) → Memᴰ x (keep test xs)
  unfolding keep
  in-keep [] x m t = absurd (Memᴰ.not-nil m)
  in-keep (y ∷ ys) x (Memᴰ.head e) t = Memᴰ.cast e (put_front (test y) y (keep test ys) (subst (λ (z : A). T (test z)) e t))
  in-keep (y ∷ ys) x (Memᴰ.tail m) t = put-behind (test y) y (keep test ys) x (in-keep ys x m t)

  -- exactly these
  pub keep-iff : (xs : List A) (x : A) → Memᴰ x (keep test xs) ↔ (Memᴰ x xs × T (test x))
  keep-iff xs x = (keep-in xs x, λ (m, t). in-keep xs x m t)

  pub keep-nodup : (xs : List A) → NoDup xs → NoDup (keep test xs)
  unfolding keep
  keep-nodup [] n = tt
  keep-nodup (x ∷ xs) n = put-nodup (test x) x (keep test xs) (λ _ m. n.0 (keep-in xs x m).0) (keep-nodup xs n.1)

  -- they stay in order
  pub keep-sorted : (before : A → A → Bool) (xs : List A) → Sorted before xs → Sorted before (keep test xs)
  unfolding keep
  keep-sorted before [] r = tt
  keep-sorted before (x ∷ xs) r = put-sorted (test x) x (keep test xs) before (λ y m. r.0 y (keep-in xs y m).0) (keep-sorted before xs r.1)

  -- of two lists one after the other
  pub keep_append : (xs ys : List A) → keep test (xs ++ ys) ≡ keep test xs ++ keep test ys
  unfolding keep
  keep_append [] ys = refl
  keep_append (x ∷ xs) ys = ap (put (test x) x) (keep_append xs ys) ∙ put-append (test x) x (keep test xs) (keep test ys)

  -- they are no more
  pub keep-length : (xs : List A) → length (keep test xs) ≤ length xs
  unfolding keep
  keep-length [] = omega arith
  keep-length (x ∷ xs) = omega (arith, put-length (test x) x (keep test xs), keep-length xs)
