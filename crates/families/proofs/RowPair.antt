-- The row pair call: what it refuses first, that every two slices have one answer, that it agrees with the pair call on canonical texts and is yes exactly for neighbours.
-- Assumes nothing.
use mathlib.Core.Path.{◌≡◌, refl, sym, ap, ap₂, subst, ◌∙◌}
use mathlib.Core.Logic.{◌↔◌, ◌≢◌}
use mathlib.Core.Bool.{Bool, true, false, cond}
use mathlib.Core.List.{List, Memᴰ}
use Prim.Native.Nat.{ℕ, ◌-◌}
use native.Mathlib.Omega.{arith}
use borrow.Author.Tests.{eqb-true, eqb-false, eq-eqb, ne_eqb}
use lib.Dec.{T, eqb}
use lib.ListN.{length, get_or}
use Rattle.meaning.specs.Tree.{Tree, Good, SameClade, canon, form}
use Rattle.meaning.specs.Kind.{rooted, Kinded, either}
use Rattle.meaning.specs.EitherKind.{ApartAs, canon_kinded}
use Rattle.meaning.specs.Clade.{clade}
use Rattle.meaning.specs.Move.{Apart}
use Rattle.meaning.specs.Decide.{is_apart}
use Rattle.meaning.specs.Compared.{compared, comparison}
use Rattle.meaning.specs.Answer.{Answer, accepted, refusal, Comparison, onward}
use Rattle.meaning.specs.Reading.{Read, unlike}
use Rattle.meaning.specs.Calls.{answered, together, beside, pair_reading, PairCall}
use Rattle.meaning.proofs.Logic.{clash, cases}
use Rattle.meaning.proofs.Lists.{one_of}
use Rattle.meaning.proofs.Canon.{canon-good, canon-topology}
use Rattle.meaning.proofs.Same.{topology-sym}
use Rattle.meaning.proofs.Moves.{apart-topology, move-labels}
use Rattle.meaning.proofs.Length.{form-length}
use Rattle.meaning.proofs.Clade.{clade-iff}
use Rattle.meaning.proofs.Alike.{unlike-iff, unlike-five}
use Rattle.meaning.proofs.Round.{read-form}
use Rattle.meaning.proofs.Decide.{apart-iff}
use Rattle.meaning.proofs.Compared.{compared-topology}
use Rattle.meaning.proofs.Lent.{in-limit}
use Rattle.meaning.proofs.Calls.{Tells, accepts, denies, tells-accepted, onward-tells}
use Rattle.meaning.proofs.Determined.{same-accepted, not-both, same-refusal}
use Rattle.families.specs.Row.{row, is_row, row_tree}
use Rattle.families.specs.RowCalls.{row_given, alike_rows, rows_read, RowPairCall, stands_apart, not_apart, refuses}
use Rattle.families.specs.RowRefusals.{row_pair_refusals}
use Rattle.families.proofs.Row.{row-is-row, row-tree-clade, tree-row-tree}
use Rattle.families.proofs.RowCalls.{TreeOf, NoTree, given-row, given-none, given-tells}

-- what is told of two trees, where b says whether they are one move apart
abbrev told : Bool → (t : Tree) × Tree → Comparison
told b x = record { yes = b; forests = compared x.0 x.1 }

-- ---- what is accepted: the trees of both rows, with one label set
pub record Rows (xs ys : List ℕ) (x : (t : Tree) × Tree) : Type 0 where
  pub first : TreeOf xs x.0
  pub second : TreeOf ys x.1
  pub labels : SameClade x.0 x.1

-- and what is refused: 11 of row 0, then 11 of row 1, then 5, each at place 0
pub data RowsLine (xs ys : List ℕ) : ℕ → ℕ → ℕ → Type 0 where
  no_first : NoTree xs → RowsLine xs ys 11 0 0
  no_second : (t : Tree) → TreeOf xs t → NoTree ys → RowsLine xs ys 11 1 0
  other-labels : (t u : Tree) → TreeOf xs t → TreeOf ys u → ¬ SameClade t u → RowsLine xs ys 5 1 0

-- these are the lines that the call can give
pub rows-line : {xs ys : List ℕ} {n i p : ℕ} → RowsLine xs ys n i p → Memᴰ n row_pair_refusals
rows-line (no_first f) = one_of tt
rows-line (no_second t T f) = one_of tt
rows-line (other-labels t u T U f) = one_of tt

module _ (xs ys : List ℕ) where
  alike-tells : (t u : Tree) → TreeOf xs t → TreeOf ys u → Tells (Rows xs ys) (RowsLine xs ys) (alike_rows t u)
  alike-tells t u T U =
      let same = clade-iff T.good U.good in
      cases (λ b. Tells (Rows xs ys) (RowsLine xs ys) (cond b (accepted (t, u)) (refusal 5 1 0))) (eqb (clade t) (clade u))
      (λ e. accepts (record { first = T; second = U; labels = same.0 (eqb-true (clade t) (clade u) e) }))
      (λ e. denies (other-labels t u T U (λ c. eqb-false (clade t) (clade u) e (same.1 c))))

  pub rows-tells : Tells (Rows xs ys) (RowsLine xs ys) (rows_read xs ys)
  rows-tells =
      onward-tells (λ t. onward (row_given 1 ys) λ u. alike_rows t u) (given-tells 0 xs no_first)
      (λ t T. onward-tells (λ u. alike_rows t u) (given-tells 1 ys (no_second t T)) (λ u U. alike-tells t u T U))

  -- ---- the order of the refusals, by the numbers of the rows
  pub first-eleven : NoTree xs → rows_read xs ys ≡ refusal 11 0 0
  first-eleven none = ap (λ (a : Answer Tree). onward a λ t. onward (row_given 1 ys) λ u. alike_rows t u) (given-none 0 xs none)

  module _ (is : T (is_row xs)) where
    pub second-eleven : NoTree ys → rows_read xs ys ≡ refusal 11 1 0
    second-eleven none = ap₂ (λ (a b : Answer Tree). onward a λ t. onward b λ u. alike_rows t u) (given-row 0 xs is) (given-none 1 ys none)

    module _ (is' : T (is_row ys)) where
      both-rows : rows_read xs ys ≡ cond (eqb (get_or xs 0 0) (get_or ys 0 0)) (accepted (row_tree xs, row_tree ys)) (refusal 5 1 0)
      both-rows =
          ap₂ (λ (a b : Answer Tree). onward a λ t. onward b λ u. alike_rows t u) (given-row 0 xs is) (given-row 1 ys is')
          ∙ ap₂ (λ (c d : ℕ). cond (eqb c d) (accepted (row_tree xs, row_tree ys)) (refusal 5 1 0)) (row-tree-clade xs is) (row-tree-clade ys is')

      pub rows-five : get_or xs 0 0 ≢ get_or ys 0 0 → rows_read xs ys ≡ refusal 5 1 0
      rows-five n = both-rows ∙ rw (ne_eqb (get_or xs 0 0) (get_or ys 0 0) n)

      pub rows-accepted : get_or xs 0 0 ≡ get_or ys 0 0 → rows_read xs ys ≡ accepted (row_tree xs, row_tree ys)
      rows-accepted e = both-rows ∙ rw (eq-eqb (get_or xs 0 0) (get_or ys 0 0) e)

  -- ---- any two slices have an answer
  pub row-pair-exists : (a : Answer Comparison) × RowPairCall xs ys a
  row-pair-exists = go (rows_read xs ys) refl
    where
      decided : (t u : Tree) → rows_read xs ys ≡ accepted (t, u) → (b : Bool) → is_apart t u ≡ b → T (is_apart t u) ↔ Apart t u → (a : Answer Comparison) × RowPairCall xs ys a
      decided t u e true q i = (accepted (told true (t, u)), stands_apart t u e (i.0 (subst T (sym q) tt)))
      decided t u e false q i = (accepted (told false (t, u)), not_apart t u e (λ a. subst T q (i.1 a)))

      go : (a : Answer ((t : Tree) × Tree)) → rows_read xs ys ≡ a → (a : Answer Comparison) × RowPairCall xs ys a
      go (accepted x) e =
          let r = tells-accepted rows-tells e in
          decided x.0 x.1 e (is_apart x.0 x.1) refl (apart-iff x.0 x.1 r.first.good.distinct r.second.good.distinct)
      go (refusal n i p) e = (refusal n i p, refuses n i p e)

-- ---- and one only
abbrev ApartPair : (t : Tree) × Tree → Type 0
ApartPair x = Apart x.0 x.1

apart-and-not : {a : Answer ((t : Tree) × Tree)} {x y : (t : Tree) × Tree} → a ≡ accepted x → a ≡ accepted y → ApartPair x → ¬ ApartPair y → ⊥
apart-and-not e f h k = k (subst ApartPair (same-accepted e f) h)

same-told : (b : Bool) {a : Answer ((t : Tree) × Tree)} {x y : (t : Tree) × Tree} → a ≡ accepted x → a ≡ accepted y → ◌≡◌ {A = Answer Comparison} (accepted (told b x)) (accepted (told b y))
same-told b e f = ap (λ (x : (t : Tree) × Tree). accepted (told b x)) (same-accepted e f)

pub row-pair-determined : {xs ys : List ℕ} {a b : Answer Comparison} → RowPairCall xs ys a → RowPairCall xs ys b → a ≡ b
row-pair-determined (stands_apart t u e h) (stands_apart t' u' e' h') = same-told true e e'
row-pair-determined (stands_apart t u e h) (not_apart t' u' e' h') = absurd (apart-and-not e e' h h')
row-pair-determined (stands_apart t u e h) (refuses n i p e') = absurd (not-both e e')
row-pair-determined (not_apart t u e h) (stands_apart t' u' e' h') = absurd (apart-and-not e' e h' h)
row-pair-determined (not_apart t u e h) (not_apart t' u' e' h') = same-told false e e'
row-pair-determined (not_apart t u e h) (refuses n i p e') = absurd (not-both e e')
row-pair-determined (refuses n i p e) (stands_apart t' u' e' h') = absurd (not-both e' e)
row-pair-determined (refuses n i p e) (not_apart t' u' e' h') = absurd (not-both e' e)
row-pair-determined (refuses n i p e) (refuses n' i' p' e') = let (x, y, z) = same-refusal e e' in cc

-- ---- the rows of two trees, and their canonical texts
abbrev ApartKinded : (x : Kinded) × Kinded → Type 0
ApartKinded x = ApartAs x.0.kind x.0.tree x.1.tree

-- the place of the `;`
abbrev end : Tree → ℕ
end u = length (form u) - 1

-- both calls read the canonical forms; or both refuse by 5, at the start of row 1 and at the end of text 1
data BothRead (t u : Tree) : Type 0 where
  accept : rows_read (row t) (row u) ≡ accepted (canon t, canon u) → pair_reading (form t) (form u) ≡ accepted (canon_kinded rooted t, canon_kinded rooted u) → BothRead t u
  refuse : ¬ SameClade (canon t) (canon u) → rows_read (row t) (row u) ≡ refusal 5 1 0 → pair_reading (form t) (form u) ≡ refusal 5 1 (end u) → BothRead t u

module _ (t u : Tree) (G : Good t) (H : Good u) where
  abbrev x : Kinded
  x = canon_kinded rooted t

  abbrev y : Kinded
  y = canon_kinded rooted u

  rows-read : rows_read (row t) (row u) ≡ alike_rows (canon t) (canon u)
  rows-read =
      ap₂ (λ (a b : Answer Tree). onward a λ t. onward b λ u. alike_rows t u)
      (given-row 0 (row t) (row-is-row t G) ∙ ap accepted (tree-row-tree t G)) (given-row 1 (row u) (row-is-row u H) ∙ ap accepted (tree-row-tree u H))

  texts-read : pair_reading (form t) (form u) ≡ together (unlike x y) x y (length (form u))
  texts-read =
      in-limit 0 (form t) _ (omega (arith, form-length G)) ∙ in-limit 1 (form u) _ (omega (arith, form-length H))
      ∙ ap₂ (λ (a b : Read Kinded). onward (answered 0 a) λ v. beside v b) (read-form either rooted tt G) (read-form either rooted tt H)

  both_read : BothRead t u
  both_read =
      let c = clade (canon t) in
      let d = clade (canon u) in
      let same = clade-iff (canon-good G) (canon-good H) in
      go (eqb c d) refl (λ e. same.0 (eqb-true c d e)) (λ e q. eqb-false c d e (same.1 q))
    where
      go : (b : Bool) → eqb (clade (canon t)) (clade (canon u)) ≡ b → (b ≡ true → SameClade (canon t) (canon u)) → (b ≡ false → ¬ SameClade (canon t) (canon u)) → BothRead t u
      go true e f g = accept (rows-read ∙ rw e) (texts-read ∙ rw ((unlike-iff x y).1 (record { kinds = refl; labels = f refl })))
      go false e f g = refuse (g refl) (rows-read ∙ rw e) (texts-read ∙ rw (unlike-five x y refl (g refl)))

  -- the same answer, and the same number of forests
  pub pair-agrees : (r : Comparison) → RowPairCall (row t) (row u) (accepted r) ↔ PairCall (form t) (form u) (accepted r)
  pair-agrees r = (to both_read, back both_read)
    where
      -- what is told of the trees that a call read is told of the canonical forms
      as_rows : (b : Bool) {a : Answer ((t : Tree) × Tree)} {v w : Tree} → a ≡ accepted (v, w) → a ≡ accepted (canon t, canon u) → told b (v, w) ≡ told b (canon t, canon u)
      as_rows b e f = ap (told b) (same-accepted e f)

      as-texts : (b : Bool) {a : Answer ((x : Kinded) × Kinded)} {v w : Kinded} → a ≡ accepted (v, w) → a ≡ accepted (x, y) → comparison b v w ≡ told b (canon t, canon u)
      as-texts b e f = ap (λ (z : (x : Kinded) × Kinded). comparison b z.0 z.1) (same-accepted e f)

      to : {r : Comparison} → BothRead t u → RowPairCall (row t) (row u) (accepted r) → PairCall (form t) (form u) (accepted r)
      to (accept f g) (stands_apart v w e h) = rw (as_rows true e f) (PairCall.stands_apart x y g (subst ApartPair (same-accepted e f) h))
      to (accept f g) (not_apart v w e h) = rw (as_rows false e f) (PairCall.not_apart x y g (λ k. h (subst ApartPair (same-accepted f e) k)))
      to (refuse n f g) (stands_apart v w e h) = absurd (not-both e f)
      to (refuse n f g) (not_apart v w e h) = absurd (not-both e f)

      back : {r : Comparison} → BothRead t u → PairCall (form t) (form u) (accepted r) → RowPairCall (row t) (row u) (accepted r)
      back (accept f g) (PairCall.stands_apart v w e h) = rw (as-texts true e g) (stands_apart (canon t) (canon u) f (subst ApartKinded (same-accepted e g) h))
      back (accept f g) (PairCall.not_apart v w e h) = rw (as-texts false e g) (not_apart (canon t) (canon u) f (λ k. h (subst ApartKinded (same-accepted g e) k)))
      back (refuse n f g) (PairCall.stands_apart v w e h) = absurd (not-both e g)
      back (refuse n f g) (PairCall.not_apart v w e h) = absurd (not-both e g)

  -- or the same refusal
  pub pair-agrees-five : RowPairCall (row t) (row u) (refusal 5 1 0) ↔ PairCall (form t) (form u) (refusal 5 1 (end u))
  pair-agrees-five = (to both_read, back both_read)
    where
      to : BothRead t u → RowPairCall (row t) (row u) (refusal 5 1 0) → PairCall (form t) (form u) (refusal 5 1 (end u))
      to (accept f g) (refuses n i p e) = absurd (not-both f e)
      to (refuse d f g) r = PairCall.refuses 5 1 (end u) g

      back : BothRead t u → PairCall (form t) (form u) (refusal 5 1 (end u)) → RowPairCall (row t) (row u) (refusal 5 1 0)
      back (accept f g) (PairCall.refuses n i p e) = absurd (not-both g e)
      back (refuse d f g) r = refuses 5 1 0 f

  -- yes exactly for neighbours
  pub row-pair-yes : RowPairCall (row t) (row u) (accepted (told true (t, u))) ↔ Apart t u
  row-pair-yes = (to refl both_read, back both_read)
    where
      canon-told : told true (t, u) ≡ told true (canon t, canon u)
      canon-told =
          ap (λ (n : ℕ). record { yes = true; forests = n })
          (compared-topology G.distinct (canon-good G).distinct H.distinct (canon-good H).distinct (topology-sym (canon-topology t)) (topology-sym (canon-topology u)))

      canon-apart : Apart (canon t) (canon u) ↔ Apart t u
      canon-apart =
          let D = G.distinct in
          let E = H.distinct in
          let D' = (canon-good G).distinct in
          let E' = (canon-good H).distinct in (
            apart-topology D' D E' E (canon-topology t) (canon-topology u),
            apart-topology D D' E E' (topology-sym (canon-topology t)) (topology-sym (canon-topology u)),
          )

      to : {r : Comparison} → r.yes ≡ true → BothRead t u → RowPairCall (row t) (row u) (accepted r) → Apart t u
      to i (accept f g) (stands_apart v w e h) = canon-apart.0 (subst ApartPair (same-accepted e f) h)
      to i (accept f g) (not_apart v w e h) = clash cc
      to i (refuse n f g) (stands_apart v w e h) = absurd (not-both e f)
      to i (refuse n f g) (not_apart v w e h) = absurd (not-both e f)

      back : BothRead t u → Apart t u → RowPairCall (row t) (row u) (accepted (told true (t, u)))
      back (accept f g) a = rw canon-told (stands_apart (canon t) (canon u) f (canon-apart.1 a))
      back (refuse n f g) a = absurd (n (move-labels (canon-apart.1 a).1))
