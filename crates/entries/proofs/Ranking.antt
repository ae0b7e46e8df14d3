-- The order of entries, each given by its text and its two numbers: what comparing texts tells of it.
-- Assumes nothing.
use Rattle.std.proofs.Common.{◌≡◌, refl, sym, ap, List, [], ◌∷◌, ℕ, arith}
use Rattle.std.specs.declared.cmp.Ordering.{Ordering}
use Rattle.std.specs.declared.cmp.Ordering.TheVariants.{Less, Equal, Greater}
use Rattle.std.specs.Ordering.{nat_cmp, ordering_then, is_lt, is_gt, is_eq}
use Rattle.std.specs.Cmp.Lexicographic.{slice_cmp}
use Rattle.std.proofs.lemmas.Cmp.{same_from_slice_cmp}
use Rattle.std.proofs.lemmas.Bool.Decides.{nat_tests}
use Rattle.std.proofs.lemmas.Map.Lookups.{exact_bytes}
use lib.Dec.{not_T}
use lib.Ieee.Bits.{is_true, is_false}
use Rattle.lent.specs.Runs.{Says}
use Rattle.meaning.specs.Sorted.{lesser}
use Rattle.meaning.proofs.Lesser.{lesser-irrefl, lesser-asym}
use Rattle.holdings.specs.Entries.{ranks}
use Rattle.entries.specs.Texts.{Compared, first, both, second}

-- std's order of slices is that of texts
less-is : (xs ys : List ℕ) (o : Ordering) → o ≡ slice_cmp nat_cmp xs ys → is_lt o ≡ lesser xs ys
unfolding lesser
less-is = same_from_slice_cmp nat_cmp is_lt lesser refl (λ _ _. refl) (λ _ _. refl) (λ x y xs ys o h. grind (arith, nat_tests))

more-is : (xs ys : List ℕ) (o : Ordering) → o ≡ slice_cmp nat_cmp xs ys → is_gt o ≡ lesser ys xs
unfolding lesser
more-is = same_from_slice_cmp nat_cmp is_gt (λ xs ys. lesser ys xs) refl (λ _ _. refl) (λ _ _. refl) (λ x y xs ys o h. grind (arith, nat_tests))

pub compared : (xs ys : List ℕ) (o : Ordering) → o ≡ slice_cmp nat_cmp xs ys → Compared xs ys o
compared xs ys Less e = first (rw (← less-is xs ys Less e) tt)
compared xs ys Equal e = both (exact_bytes xs ys (sym e))
compared xs ys Greater e = second (rw (← more-is xs ys Greater e) tt)

-- the texts are the same where neither is the lesser
pub same-said : {xs ys : List ℕ} {o : Ordering} → Compared xs ys o → Says (is_eq o) (xs ≡ ys)
same-said {xs} {ys} (first t) = λ e. lesser-irrefl xs ys e t
same-said (both e) = e
same-said {xs} {ys} (second t) = λ e. lesser-irrefl ys xs (sym e) t

then-equal : (o : Ordering) → ordering_then o Equal ≡ o
then-equal Less = refl
then-equal Equal = refl
then-equal Greater = refl

-- of one text the smaller tree goes first, and of one tree the smaller cut
pub ranked : {xs ys : List ℕ} {o : Ordering} → Compared xs ys o → (x c y d : ℕ)
    → is_lt (ordering_then o (ordering_then (nat_cmp x y) (nat_cmp c d))) ≡ ranks xs (x, c) ys (y, d)
ranked {xs} {ys} (first t) x c y d = rw (is_true (lesser xs ys) t) refl
ranked {xs} {ys} (both e) x c y d =
    let n = is_false (lesser xs ys) (not_T (lesser xs ys) (lesser-irrefl xs ys e)) in
    let n' = is_false (lesser ys xs) (not_T (lesser ys xs) (lesser-irrefl ys xs (sym e))) in
    rw (n, n') (less-is (x ∷ c ∷ []) (y ∷ d ∷ []) _ (ap (ordering_then (nat_cmp x y)) (sym (then-equal (nat_cmp c d)))))
ranked {xs} {ys} (second t) x c y d =
    rw (is_true (lesser ys xs) t, is_false (lesser xs ys) (not_T (lesser xs ys) (λ s. lesser-asym xs ys s t))) refl
