-- Numbers in order, each once, and how often each occurs: the steps of noting them, and what the two lists are.
-- Assumes nothing.
use mathlib.Core.Path.{◌≡◌, refl, sym, ap, ap₂, ◌∙◌, subst}
use mathlib.Core.Logic.{◌↔◌, ◌≢◌}
use mathlib.Core.List.Memᴰ
use mathlib.Core.Bool.{true, false}
use mathlib.Core.List.{List, [], ◌∷◌, ◌++◌, map, append_assoc, append-nil, Memᴰ}
use Prim.Native.Nat.{ℕ, suc, ◌+◌, ◌-◌, ◌^◌, ◌≤◌, ◌<◌}
use native.Mathlib.Nat.{add-zero}
use native.Mathlib.Omega.{arith}
use native.Mathlib.Decide.{ℕ_discrete}
use native.Mathlib.Numerals.{add-one}
use borrow.Author.Tests.{eq-eqb, ne_eqb, eqb-true}
use lib.Dec.{T, eqb, not_T}
use lib.ListN.{length, get_or, set, length-append}
use Rattle.std.specs.List.{AllAdjacentBelow, IsChunkByPrefix}
use Rattle.meaning.specs.Lists.{count}
use Rattle.lent.specs.Runs.{Wrote}
use Rattle.lent.proofs.Runs.{wrote_one, wrote-more}
use Rattle.meaning.specs.Lists.{SameMembers}
use Rattle.meaning.specs.Sorted.{put, Sorted}
use Rattle.families.specs.Support.{by_labels}
use Rattle.families.proofs.Support.{labels-strict}
use Rattle.sorting.specs.Sort.{InOrder}
use Rattle.support.specs.Counted.{firsts, sizes_from, sizes, Counted}

-- ---- one step of each list
firsts_same : (x y : ℕ) (ys : List ℕ) → x ≡ y → firsts (x ∷ y ∷ ys) ≡ firsts (y ∷ ys)
unfolding put
firsts_same x y ys e = rw (eq-eqb x y e)

firsts-new : (x y : ℕ) (ys : List ℕ) → x ≢ y → firsts (x ∷ y ∷ ys) ≡ x ∷ firsts (y ∷ ys)
unfolding put
firsts-new x y ys n = rw (ne_eqb x y n)

sizes-same : (x y m : ℕ) (ys : List ℕ) → x ≡ y → sizes_from x m (y ∷ ys) ≡ sizes_from y (m + 1) ys
sizes-same x y m ys e = rw (eq-eqb x y e)

sizes-new : (x y m : ℕ) (ys : List ℕ) → x ≢ y → sizes_from x m (y ∷ ys) ≡ m ∷ sizes_from y 1 ys
sizes-new x y m ys n = rw (ne_eqb x y n)

-- ---- a run of equal numbers, and what follows it
abbrev RunOf : ℕ → List ℕ → List ℕ → Type 0
RunOf x [] [] = Unit {0}
RunOf x [] (z ∷ zs) = x ≢ z
RunOf x (y ∷ ys) rest = (x ≡ y) × RunOf y ys rest

run-of : (x : ℕ) (ys rest : List ℕ) → IsChunkByPrefix eqb (x ∷ (ys ++ rest)) (suc (length ys)) → RunOf x ys rest
run-of x [] [] h = tt
run-of x [] (z ∷ zs) h = λ e. let p : true ≡ false = sym (eq-eqb x z e) ∙ h.1 (omega arith) 0 in cc
run-of x (y ∷ ys) rest (same, other) = (eqb-true x y (same 0 0 (omega arith)), run-of y ys rest (inside, behind))
  where
    inside : AllAdjacentBelow (λ a b. eqb a b ≡ true) (y ∷ (ys ++ rest)) (suc (length ys))
    inside k d lt =
        ap (λ n. eqb (get_or (y ∷ (ys ++ rest)) k d) (get_or (y ∷ (ys ++ rest)) n d)) (add-one k)
        ∙ ap (λ n. eqb (get_or (y ∷ (ys ++ rest)) k d) (get_or (x ∷ y ∷ (ys ++ rest)) n d)) (sym (add-one (suc k)))
        ∙ same (suc k) d (omega arith)

    behind : suc (length ys) < length (y ∷ (ys ++ rest)) → (d : ℕ) → eqb (get_or (y ∷ (ys ++ rest)) (suc (length ys) - 1) d) (get_or (y ∷ (ys ++ rest)) (suc (length ys)) d) ≡ false
    behind lt d =
        let here : suc (length ys) - 1 ≡ length ys = omega arith in
        let there : suc (suc (length ys)) - 1 ≡ suc (length ys) = omega arith in
        ap (λ n. eqb (get_or (y ∷ (ys ++ rest)) n d) (get_or (y ∷ (ys ++ rest)) (suc (length ys)) d)) here
        ∙ ap (λ n. eqb (get_or (x ∷ y ∷ (ys ++ rest)) n d) (get_or (y ∷ (ys ++ rest)) (suc (length ys)) d)) (sym there)
        ∙ other (omega arith) d

firsts-run : (x : ℕ) (ys rest : List ℕ) → RunOf x ys rest → firsts (x ∷ (ys ++ rest)) ≡ x ∷ firsts rest
firsts-run x [] [] h = refl
firsts-run x [] (z ∷ zs) h = firsts-new x z zs h
firsts-run x (y ∷ ys) rest (e, h) = firsts_same x y (ys ++ rest) e ∙ firsts-run y ys rest h ∙ ap (λ (z : ℕ). z ∷ firsts rest) (sym e)

sizes-run : (x m : ℕ) (ys rest : List ℕ) → RunOf x ys rest → sizes_from x m (ys ++ rest) ≡ (m + length ys) ∷ sizes rest
sizes-run x m [] [] h = ap (λ (n : ℕ). n ∷ []) (sym (add-zero m))
sizes-run x m [] (z ∷ zs) h = sizes-new x z m zs h ∙ ap (λ (n : ℕ). n ∷ sizes_from z 1 zs) (sym (add-zero m))
sizes-run x m (y ∷ ys) rest (e, h) =
    let more : m + 1 + length ys ≡ m + suc (length ys) = omega arith in
    sizes-same x y m (ys ++ rest) e ∙ sizes-run y (m + 1) ys rest h ∙ ap (λ (n : ℕ). n ∷ sizes rest) more

-- a run from the front of xs, and the rest
pub record Cut (xs run rest : List ℕ) : Type 0 where
  pub both : xs ≡ run ++ rest
  pub some : 0 < length run
  pub prefix : IsChunkByPrefix eqb xs (length run)

pub cut-firsts : (xs run rest : List ℕ) → Cut xs run rest → firsts xs ≡ get_or run 0 0 ∷ firsts rest
cut-firsts xs [] rest C = absurd (omega (arith, C.some))
cut-firsts xs (x ∷ ys) rest C = ap firsts C.both ∙ firsts-run x ys rest (run-of x ys rest (subst (λ (l : List ℕ). IsChunkByPrefix eqb l (suc (length ys))) C.both C.prefix))

pub cut-sizes : (xs run rest : List ℕ) → Cut xs run rest → sizes xs ≡ length run ∷ sizes rest
cut-sizes xs [] rest C = absurd (omega (arith, C.some))
cut-sizes xs (x ∷ ys) rest C =
    let long : 1 + length ys ≡ suc (length ys) = omega arith in
    ap sizes C.both
    ∙ sizes-run x 1 ys rest (run-of x ys rest (subst (λ (l : List ℕ). IsChunkByPrefix eqb l (suc (length ys))) C.both C.prefix))
    ∙ ap (λ (n : ℕ). n ∷ sizes rest) long

-- ---- the runs in front of `rest` are listed
pub record Counting (xs rest clades clades' numbers numbers' : List ℕ) (m : ℕ) : Type 0 where
  pub few : m + length rest ≤ length xs
  pub done : List ℕ
  pub often : List ℕ
  pub wrote : Wrote done clades clades' 0 m
  pub beside : Wrote often numbers numbers' 0 m
  pub same : done ++ firsts rest ≡ firsts xs
  pub counts : often ++ sizes rest ≡ sizes xs

pub counting_none : (xs clades numbers : List ℕ) → Counting xs xs clades clades numbers numbers 0
counting_none xs clades numbers = record {
  few = omega arith;
  done = [];
  often = [];
  wrote = record { behind = refl; cells = refl };
  beside = record { behind = refl; cells = refl };
  same = refl;
  counts = refl;
}

module _ {xs rest clades clades' numbers numbers' : List ℕ} {m : ℕ} (C : Counting xs rest clades clades' numbers numbers' m) where
  pub counting-more : {run rest' : List ℕ} → Cut rest run rest' → Counting xs rest' clades (set clades' m (get_or run 0 0)) numbers (set numbers' m (length run)) (m + 1)
  counting-more {run} {rest'} K = record {
    few = omega (arith, C.few, ap length K.both, length-append run rest', K.some);
    done = C.done ++ (get_or run 0 0 ∷ []);
    often = C.often ++ (length run ∷ []);
    wrote = wrote-more C.wrote (wrote_one clades' m (get_or run 0 0));
    beside = wrote-more C.beside (wrote_one numbers' m (length run));
    same = append_assoc C.done (get_or run 0 0 ∷ []) (firsts rest') ∙ ap (λ (l : List ℕ). C.done ++ l) (sym (cut-firsts rest run rest' K)) ∙ C.same;
    counts = append_assoc C.often (length run ∷ []) (sizes rest') ∙ ap (λ (l : List ℕ). C.often ++ l) (sym (cut-sizes rest run rest' K)) ∙ C.counts;
  }

  pub counting-all : rest ≡ [] → Counted xs clades clades' numbers numbers' m
  counting-all none =
      let each : C.done ≡ firsts xs = sym (append-nil C.done) ∙ ap (λ (l : List ℕ). C.done ++ firsts l) (sym none) ∙ C.same in
      let often : C.often ≡ sizes xs = sym (append-nil C.often) ∙ ap (λ (l : List ℕ). C.often ++ sizes l) (sym none) ∙ C.counts in
      record { each = rw (← each) C.wrote; often = rw (← often) C.beside }

-- ---- the members of the list are those of what it was made from
pub firsts-in : (xs : List ℕ) → SameMembers (firsts xs) xs
firsts-in [] y = (λ m. m, λ m. m)
firsts-in (x ∷ []) y = (λ m. m, λ m. m)
firsts-in (x ∷ z ∷ zs) y = go (ℕ_discrete x z) (firsts-in (z ∷ zs) y)
  where
    there : (Memᴰ y (firsts (z ∷ zs)) → Memᴰ y (z ∷ zs)) → Memᴰ y (x ∷ firsts (z ∷ zs)) → Memᴰ y (x ∷ z ∷ zs)
    there f (Memᴰ.head e) = Memᴰ.head e
    there f (Memᴰ.tail m) = Memᴰ.tail (f m)

    back : (Memᴰ y (z ∷ zs) → Memᴰ y (firsts (z ∷ zs))) → Memᴰ y (x ∷ z ∷ zs) → Memᴰ y (x ∷ firsts (z ∷ zs))
    back f (Memᴰ.head e) = Memᴰ.head e
    back f (Memᴰ.tail m) = Memᴰ.tail (f m)

    once : x ≡ z → (Memᴰ y (z ∷ zs) → Memᴰ y (firsts (z ∷ zs))) → Memᴰ y (x ∷ z ∷ zs) → Memᴰ y (firsts (z ∷ zs))
    once e f (Memᴰ.head h) = f (Memᴰ.head (h ∙ e))
    once e f (Memᴰ.tail m) = f m

    go : Dec (x ≡ z) → Memᴰ y (firsts (z ∷ zs)) ↔ Memᴰ y (z ∷ zs) → Memᴰ y (firsts (x ∷ z ∷ zs)) ↔ Memᴰ y (x ∷ z ∷ zs)
    go (yes e) f = rw (firsts_same x z zs e) (λ m. Memᴰ.tail (f.0 m), once e f.1)
    go (no n) f = rw (firsts-new x z zs n) (there f.0, back f.1)

-- ---- of numbers in order, those that are left out equal the next, and no others
abbrev pub EachFits : List ℕ → Type 0
EachFits xs = (x : ℕ) → Memᴰ x xs → x < 2 ^ 64

-- a number that differs from the next does not occur again
apart : (x y : ℕ) (ys : List ℕ) → EachFits (x ∷ y ∷ ys) → InOrder (x ∷ y ∷ ys) → x ≢ y → Memᴰ x (y ∷ ys) → ⊥
apart x y ys fits order d (Memᴰ.head e) = d e
apart x y ys fits (least, (next, _)) d (Memᴰ.tail m) =
    let fits_next = fits y (Memᴰ.tail (Memᴰ.head refl)) in
    next x m (labels-strict.total y x fits_next (fits x (Memᴰ.head refl)) (λ e. d (sym e)) (not_T (by_labels y x) (least y (Memᴰ.head refl))))

pub firsts-sorted : (xs : List ℕ) → EachFits xs → InOrder xs → Sorted by_labels (firsts xs)
firsts-sorted [] fits order = tt
firsts-sorted (x ∷ []) fits order = (λ y m. absurd (Memᴰ.not-nil m), tt)
firsts-sorted (x ∷ y ∷ ys) fits (least, order) = go (ℕ_discrete x y) (firsts-sorted (y ∷ ys) (λ z m. fits z (Memᴰ.tail m)) order)
  where
    first : x ≢ y → (z : ℕ) → Memᴰ z (y ∷ ys) → T (by_labels x z)
    first d z m =
        labels-strict.total z x (fits z (Memᴰ.tail m)) (fits x (Memᴰ.head refl))
        (λ e. apart x y ys fits (least, order) d (subst (λ (w : ℕ). Memᴰ w (y ∷ ys)) e m))
        (not_T (by_labels z x) (least z m))

    go : Dec (x ≡ y) → Sorted by_labels (firsts (y ∷ ys)) → Sorted by_labels (firsts (x ∷ y ∷ ys))
    go (yes e) s = rw (firsts_same x y ys e) s
    go (no d) s = rw (firsts-new x y ys d) (λ z m. first d z ((firsts-in (y ∷ ys) z).0 m), s)

-- ---- how often each occurs
pub count_yes : (c x : ℕ) (xs : List ℕ) → c ≡ x → count (eqb c) (x ∷ xs) ≡ 1 + count (eqb c) xs
count_yes c x xs e = rw (eq-eqb c x e)

pub count_no : (c x : ℕ) (xs : List ℕ) → c ≢ x → count (eqb c) (x ∷ xs) ≡ count (eqb c) xs
count_no c x xs n = rw (ne_eqb c x n) (omega arith)

count_none : (c : ℕ) (xs : List ℕ) → (Memᴰ c xs → ⊥) → count (eqb c) xs ≡ 0
count_none c [] f = refl
count_none c (x ∷ xs) f = count_no c x xs (λ e. f (Memᴰ.head e)) ∙ count_none c xs (λ m. f (Memᴰ.tail m))

-- so from a number on that stands there m times so far
sizes-from : (f : ℕ → ℕ) (x m : ℕ) (xs : List ℕ) → EachFits (x ∷ xs) → InOrder (x ∷ xs) → f x ≡ m + count (eqb x) xs
    → ((c : ℕ) → Memᴰ c xs → c ≢ x → f c ≡ count (eqb c) xs) → sizes_from x m xs ≡ map f (firsts (x ∷ xs))
sizes-from f x m [] fits order own others = let e : m ≡ f x = omega (arith, own) in ap (λ (k : ℕ). k ∷ []) e
sizes-from f x m (y ∷ ys) fits (least, order) own others =
    go (ℕ_discrete x y) (sizes-from f y (m + 1) ys (λ z i. fits z (Memᴰ.tail i)) order) (sizes-from f y 1 ys (λ z i. fits z (Memᴰ.tail i)) order)
  where
    go : Dec (x ≡ y)
        → (f y ≡ m + 1 + count (eqb y) ys → ((c : ℕ) → Memᴰ c ys → c ≢ y → f c ≡ count (eqb c) ys) → sizes_from y (m + 1) ys ≡ map f (firsts (y ∷ ys)))
        → (f y ≡ 1 + count (eqb y) ys → ((c : ℕ) → Memᴰ c ys → c ≢ y → f c ≡ count (eqb c) ys) → sizes_from y 1 ys ≡ map f (firsts (y ∷ ys)))
        → sizes_from x m (y ∷ ys) ≡ map f (firsts (x ∷ y ∷ ys))
    go (yes e) same new =
        let here : f y ≡ m + 1 + count (eqb y) ys = subst (λ (w : ℕ). f w ≡ m + 1 + count (eqb w) ys) e (omega (arith, own, count_yes x y ys e)) in
        sizes-same x y m ys e
        ∙ same here (λ c i d. others c (Memᴰ.tail i) (λ q. d (q ∙ e)) ∙ count_no c y ys d)
        ∙ sym (ap (map f) (firsts_same x y ys e))
    go (no d) same new =
        let gone = apart x y ys fits (least, order) d in
        let own' : m ≡ f x = omega (arith, own, count_none x (y ∷ ys) gone) in
        sizes-new x y m ys d
        ∙ ap₂ (λ (k : ℕ) (l : List ℕ). k ∷ l) own'
        (new (others y (Memᴰ.head refl) (λ q. d (sym q)) ∙ count_yes y y ys refl)
        (λ c i q. others c (Memᴰ.tail i) (λ r. gone (Memᴰ.tail (subst (λ (w : ℕ). Memᴰ w ys) r i))) ∙ count_no c y ys q))
        ∙ sym (ap (map f) (firsts-new x y ys d))

pub sizes-counts : (xs : List ℕ) → EachFits xs → InOrder xs → sizes xs ≡ map (λ c. count (eqb c) xs) (firsts xs)
sizes-counts [] fits order = refl
sizes-counts (x ∷ xs) fits order = sizes-from (λ c. count (eqb c) (x ∷ xs)) x 1 xs fits order (count_yes x x xs refl) (λ c i d. count_no c x xs d)
