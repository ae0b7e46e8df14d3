-- The places of a row's clades noted, one clade after another.
-- Assumes nothing.
use mathlib.Core.Path.{◌≡◌, refl, sym, ap, subst, ◌∙◌}
use mathlib.Core.Logic.{◌≢◌}
use mathlib.Core.Bool.{Bool, true, false, cond}
use mathlib.Core.List.{List, Memᴰ}
use Prim.Native.Nat.{ℕ, suc, ◌+◌, ◌-◌, ◌≤◌, ◌<◌}
use native.Mathlib.Omega.{arith}
use native.Mathlib.Decide.{ℕ_discrete, dec_lt}
use native.Mathlib.Numerals.{add-one}
use borrow.Author.Tests.{eq-eqb, ne_eqb}
use lib.Count.{count_trailing_zeros}
use lib.Dec.{eqb}
use lib.ListN.{length, get_or, set, drop, length-set, replicate, length-replicate, get_or-replicate}
use lib.Seq.{get_or-set_same, get_or-set_other}
use Rattle.meaning.specs.Limits.{max_label}
use Rattle.meaning.specs.Clade.{lowest}
use Rattle.families.specs.Clades.{size}
use Rattle.families.specs.Grown.{first_child}
use Rattle.rows.specs.Places.{last_place, clade_at, Placed, Noted}
use Rattle.rows.specs.Rows.{RowNoted, GrowRoom}
use Rattle.rows.proofs.Places.{row-some, row_in, row-large, row_first, row-first-placed, row-second-placed}

-- the last place before k + 1 is k, or that before k
last-here : (row : List ℕ) (k l : ℕ) → lowest (get_or row k 0) ≡ l → k ≡ last_place row (k + 1) l
unfolding last_place
last-here row k l e = rw (add-one k, eq-eqb (lowest (get_or row k 0)) l e)

last-past : (row : List ℕ) (k l : ℕ) → lowest (get_or row k 0) ≢ l → last_place row k l ≡ last_place row (k + 1) l
unfolding last_place
last-past row k l n = rw (add-one k, ne_eqb (lowest (get_or row k 0)) l n)

-- the place 0 only
pub noted-none : (row : List ℕ) → Noted row 1 (replicate max_label 0) (replicate max_label 0)
unfolding last_place
noted-none row = record {
  before_long = length-replicate {A = ℕ} max_label 0;
  last_long = length-replicate {A = ℕ} max_label 0;
  before_is = λ i h g. absurd (omega arith);
  last-is = λ l h. get_or-replicate {A = ℕ} max_label l 0 0 h ∙ none (eqb (lowest (get_or row 0 0)) (suc l));
}
  where
    none : (b : Bool) → ◌≡◌ {A = ℕ} 0 (cond b 0 0)
    none true = refl
    none false = refl

-- one more, which has the smallest label l + 1
module _ {row before last : List ℕ} {i : ℕ} (N : Noted row i before last) (l : ℕ) (label : lowest (get_or row i 0) ≡ suc l) (small : l < max_label) (few : i < max_label) where
  pub noted_more : Noted row (i + 1) (set before i (get_or last l 0)) (set last l i)
  noted_more = record {
    before_long = length-set before i (get_or last l 0) ∙ N.before_long;
    last_long = length-set last l i ∙ N.last_long;
    before_is = λ j h g. of-clade j h g (ℕ_discrete j i);
    last-is = λ m h. of-label m h (ℕ_discrete m l);
  }
    where
      of-clade : (j : ℕ) → 0 < j → j < i + 1 → Dec (j ≡ i) → get_or (set before i (get_or last l 0)) j 0 ≡ last_place row j (lowest (get_or row j 0))
      of-clade j h g (yes e) = rw e (get_or-set_same before i (get_or last l 0) 0 (omega (arith, N.before_long)) ∙ N.last-is l small ∙ ap (last_place row i) (sym label))
      of-clade j h g (no n) = get_or-set_other before i j (get_or last l 0) 0 n ∙ N.before_is j h (omega arith)

      of-label : (m : ℕ) → m < max_label → Dec (m ≡ l) → get_or (set last l i) m 0 ≡ last_place row (i + 1) (suc m)
      of-label m h (yes e) = rw e (get_or-set_same last l i 0 (omega (arith, N.last_long)) ∙ last-here row i (suc l) label)
      of-label m h (no n) = get_or-set_other last l m i 0 n ∙ N.last-is m h ∙ last-past row i (suc m) (λ q. n (omega (arith, q, label)))

-- the place of the last with the smallest label of r, which is n
pub noted-last : {row before last : List ℕ} {k : ℕ} → Noted row k before last → (r n : ℕ) → n ≡ lowest r → lowest r ≤ max_label → get_or last (n - 1) 0 ≡ last_place row k (lowest r)
noted-last {last = last} N r n e h = let q : n - 1 ≡ count_trailing_zeros 64 r = omega (arith, e) in ap (λ (l : ℕ). get_or last l 0) q ∙ N.last-is (count_trailing_zeros 64 r) h

-- ---- the clade c at a place but 0, and its children
module _ {row before last : List ℕ} (R : RowNoted row before last) {place c at len : ℕ} (G : GrowRoom row place c at len) (some : 0 < place) where
  abbrev cs : List ℕ
  cs = drop 1 row

  inside : place < length row
  inside = (G.placed.stands some).0

  here : get_or row place 0 ≡ c
  here = (G.placed.stands some).1

  member : Memᴰ c cs
  member = subst (λ (x : ℕ). Memᴰ x cs) here (row_in row R.a_row place some inside)

  pub placed-large : 2 ≤ size c
  placed-large = row-large row R.a_row member

  noted-before : get_or before place 0 ≡ last_place row place (lowest c)
  noted-before = R.noted.before_is place some inside ∙ ap (λ (x : ℕ). last_place row place (lowest x)) here

  pub placed_first : clade_at row (get_or before place 0) c ≡ first_child cs c
  placed_first =
      ap (λ (p : ℕ). clade_at row p c) noted-before
      ∙ subst (λ (x : ℕ). clade_at row (last_place row place (lowest x)) x ≡ first_child cs x) here (row_first row R.a_row place some inside)

  pub first-placed : {f : ℕ} → f ≡ first_child cs c → Placed row (get_or before place 0) f
  first-placed e = rw (noted-before, e) (subst (λ (x : ℕ). Placed row (last_place row place (lowest x)) (first_child cs x)) here (row-first-placed row R.a_row place some inside))

  pub first-inside : get_or before place 0 < length row
  first-inside = go (dec_lt 0 (get_or before place 0))
    where
      go : Dec (0 < get_or before place 0) → get_or before place 0 < length row
      go (yes h) = ((first-placed refl).stands h).0
      go (no n) = omega (arith, row-some row R.a_row)

  pub second-placed : {f : ℕ} → f ≡ first_child cs c → Placed row (last_place row (length row) (lowest (c - f))) (c - f)
  second-placed {f} e = rw e (row-second-placed row R.a_row c member)
