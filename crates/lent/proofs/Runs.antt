-- Laws of runs in lent memory: what stands at a place, stores one after another, and what they leave.
-- Assumes nothing.
use mathlib.Core.Path.{◌≡◌, refl, sym, ap, ap₂, subst, subst₂, ◌∙◌}
use mathlib.Core.List.{List, [], ◌∷◌, ◌++◌, append_assoc, map}
use Prim.Native.Nat.{ℕ, zero, suc, ◌+◌, ◌-◌, ◌≤◌, ◌<◌}
use native.Mathlib.Nat.{add-zero, zero-add}
use native.Mathlib.Omega.{arith}
use native.Mathlib.Numerals.{add-one}
use lib.ListN.{length, take, drop, get_or, set, replicate, replicate-append-replicate, length-append, length-drop, length-set, get_or-append}
use lib.Seq.{set_comm, take-suc, get_or-take, length-take-le, drop-drop, drop-append-add, drop-append_seam, get_or-drop, get_or-append-add, get_or-set_same, get_or-set_other, take_at, drop_at, sets, sets-eq, length-sets}
use Rattle.meaning.specs.Lists.{positions}
use Rattle.meaning.proofs.Sums.{map-suc}
use borrow.Rule.Slice.PartMut.{put_mid}
use Rattle.std.proofs.lemmas.Grind.{same_number_lists}
use Rattle.lent.specs.Runs.{Stands, Wrote, SameRun}

module _ {A : Type 0} where
  -- a list that from k on begins with y
  module _ (xs : List A) (k : ℕ) (y : A) (ys : List A) (e : drop k xs ≡ y ∷ ys) where
    pub head-is : (d : A) → get_or xs k d ≡ y
    head-is d = ap (λ (i : ℕ). get_or xs i d) (sym (add-zero k)) ∙ sym (get_or-drop k xs 0 d) ∙ ap (λ (l : List A). get_or l 0 d) e

    pub head_in : k < length xs
    head_in = omega (arith, length-drop k xs, ap length e)

    pub next-is : drop (k + 1) xs ≡ ys
    next-is = sym (drop-drop 1 k xs) ∙ ap (drop 1) e

  -- and one that begins with the run ys
  pub drop-run : (xs : List A) (k : ℕ) (ys zs : List A) → drop k xs ≡ ys ++ zs → drop (k + length ys) xs ≡ zs
  drop-run xs k ys zs e = sym (drop-drop (length ys) k xs) ∙ ap (drop (length ys)) e ∙ drop-append_seam ys zs

  -- a run of stores, and one behind it
  pub sets-append : (xs : List A) (i : ℕ) (ys zs : List A) → sets xs i (ys ++ zs) ≡ sets (sets xs i ys) (i + length ys) zs
  sets-append xs i [] zs = ap (λ (j : ℕ). sets xs j zs) (sym (add-zero i))
  sets-append xs i (y ∷ ys) zs =
      sets-append (set xs i y) (suc i) ys zs ∙ ap (λ (j : ℕ). sets (sets (set xs i y) (suc i) ys) j zs) (omega arith)

  -- a store before a run of stores
  pub set-sets : (xs : List A) (i j : ℕ) (v : A) (ys : List A) → i < j → sets (set xs i v) j ys ≡ set (sets xs j ys) i v
  set-sets xs i j v [] h = refl
  set-sets xs i j v (y ∷ ys) h =
      ap (λ (l : List A). sets l (suc j) ys) (set_comm xs i j v y (omega arith)) ∙ set-sets (set xs j y) i (suc j) v ys (omega arith)

  -- a run from the start on: it stands before what was behind it
  pub sets-start : (out ys : List A) → length ys ≤ length out → sets out 0 ys ≡ ys ++ drop (length ys) out
  sets-start out ys fits = sets-eq ys out 0 (omega arith) ∙ rw zero-add

  pub sets-at : (d : A) (out ys : List A) → length ys ≤ length out → (i : ℕ) → i < length ys → get_or (sets out 0 ys) i d ≡ get_or ys i d
  sets-at d out ys fits i inside = rw (sets-start out ys fits) (get_or-append ys (drop (length ys) out) d i inside)

  -- a run is written over one of the same length
  pub over-run : (xs ys zs vs : List A) (i : ℕ) → length xs ≡ i → length vs ≡ length ys → sets (xs ++ (ys ++ zs)) i vs ≡ xs ++ (vs ++ zs)
  over-run xs ys zs vs i e n =
      let l : i + length vs ≡ length xs + length ys = omega arith in
      sets-eq vs (xs ++ (ys ++ zs)) i (simp length-append (omega arith))
      ∙ rw (take_at xs (ys ++ zs) i e, l, drop-append-add xs (ys ++ zs) (length ys), drop_at ys zs (length ys) refl) (append_assoc xs vs zs)

  -- what a run of stores leaves: outside the run what was there, and inside it the run
  pub sets-outside : (d : A) (out : List A) (at : ℕ) (ys : List A) (i : ℕ) → (at ≤ i → at + length ys ≤ i) → get_or (sets out at ys) i d ≡ get_or out i d
  sets-outside d out at [] i away = refl
  sets-outside d out at (y ∷ ys) i away =
      sets-outside d (set out at y) (suc at) ys i (λ h. omega (arith, away (omega arith))) ∙ get_or-set_other out at i y d (λ e. omega (arith, away (omega arith)))

  pub sets-inside : (d : A) (out : List A) (at : ℕ) (ys : List A) → at + length ys ≤ length out → (i : ℕ) → i < length ys → get_or (sets out at ys) (at + i) d ≡ get_or ys i d
  sets-inside d out at [] fits i inside = absurd (omega arith)
  sets-inside d out at (y ∷ ys) fits zero inside =
      ap (λ (k : ℕ). get_or (sets (set out at y) (suc at) ys) k d) (add-zero at) ∙ sets-outside d (set out at y) (suc at) ys at (λ h. absurd (omega arith))
      ∙ get_or-set_same out at y d (omega arith)
  sets-inside d out at (y ∷ ys) fits (suc i) inside =
      let e : at + suc i ≡ suc at + i = omega arith in
      ap (λ (k : ℕ). get_or (sets (set out at y) (suc at) ys) k d) e ∙ sets-inside d (set out at y) (suc at) ys (simp length-set (omega arith)) i (omega arith)

  -- one element, two, and one run after another
  pub wrote_one : (out : List A) (at : ℕ) (v : A) → Wrote (v ∷ []) out (set out at v) at (at + 1)
  wrote_one out at v = record { behind = refl; cells = refl }

  pub wrote-more : {ys zs out o₁ o₂ : List A} {at r₁ r₂ : ℕ} → Wrote ys out o₁ at r₁ → Wrote zs o₁ o₂ r₁ r₂ → Wrote (ys ++ zs) out o₂ at r₂
  wrote-more {ys} {zs} {out} {at} p q =
      record {
        behind = omega (arith, length-append ys zs);
        cells = q.cells ∙ ap₂ (λ (l : List A) (j : ℕ). sets l j zs) p.cells p.behind ∙ sym (sets-append out at ys zs);
      }

  pub wrote-two : (out : List A) (at : ℕ) (x y : A) → Wrote (x ∷ y ∷ []) out (set (set out at x) (at + 1) y) at (at + 2)
  wrote-two out at x y =
      let two : at + 1 + 1 ≡ at + 2 = omega arith in
      subst (Wrote (x ∷ y ∷ []) out (set (set out at x) (at + 1) y) at) two (wrote-more (wrote_one out at x) (wrote_one (set out at x) (at + 1) y))

  pub wrote-length : {ys out o₁ : List A} {at r₁ : ℕ} → Wrote ys out o₁ at r₁ → length o₁ ≡ length out
  wrote-length {ys} {out} {at} p = ap length p.cells ∙ length-sets out at ys

  -- what was written from the start on stands there
  pub starts_with : {ys out o₁ : List A} {r : ℕ} → Wrote ys out o₁ 0 r → length ys ≤ length out → Stands o₁ 0 ys
  starts_with {ys} {out} w fits = (drop (length ys) out, w.cells ∙ sets-start out ys fits)

  module _ {ys out out' : List A} {r : ℕ} (w : Wrote ys out out' 0 r) (fits : r ≤ length out) where
    long : length ys ≡ r
    long = omega (arith, w.behind)

    run-first : out' ≡ ys ++ drop r out
    run-first = w.cells ∙ sets-start out ys (omega (arith, long)) ∙ ap (λ (k : ℕ). ys ++ drop k out) long

    pub written-first : take r out' ≡ ys
    written-first = ap (take r) run-first ∙ take_at ys (drop r out) r long

    -- nothing is changed behind it
    pub same-behind : (d : A) (i : ℕ) → r ≤ i → get_or out' i d ≡ get_or out i d
    same-behind d i h =
        let e : length ys + (i - r) ≡ i = omega (arith, long) in
        let f : r + (i - r) ≡ i = omega arith in
        ap (λ (l : List A). get_or l i d) run-first ∙ ap (λ (k : ℕ). get_or (ys ++ drop r out) k d) (sym e)
        ∙ get_or-append-add ys (drop r out) (i - r) d ∙ get_or-drop r out (i - r) d ∙ ap (λ (k : ℕ). get_or out k d) f

    -- it may be written once more
    pub written-again : Wrote ys out' out' 0 r
    written-again = record {
      behind = w.behind;
      cells = sym (sets-start out' ys (omega (arith, long, wrote-length w)) ∙ ap (λ (k : ℕ). ys ++ drop k out') long
          ∙ ap (λ (l : List A). ys ++ l) (ap (drop r) run-first ∙ drop_at ys (drop r out) r long) ∙ sym run-first);
    }

    -- as much written again from the start on
    pub written_over : {zs out'' : List A} → length zs ≡ r → Wrote zs out' out'' 0 r → Wrote zs out out'' 0 r
    written_over {zs} e w' = record {
      behind = w'.behind;
      cells =
          w'.cells ∙ sets-start out' zs (omega (arith, wrote-length w)) ∙ ap (λ (k : ℕ). zs ++ drop k out') e
          ∙ ap (λ (l : List A). zs ++ l) (ap (drop r) run-first ∙ drop_at ys (drop r out) r long) ∙ sym (sets-start out zs (omega arith) ∙ ap (λ (k : ℕ). zs ++ drop k out) e);
    }

  -- one element more of a copy
  pub copy_step : (d : A) (n : List A) (from i : ℕ) {out₀ out : List A} {at : ℕ} → from + i < length n → Wrote (take i (drop from n)) out₀ out at (at + i)
      → Wrote (take (i + 1) (drop from n)) out₀ (set out (at + i) (get_or n (from + i) d)) at (at + (i + 1))
  copy_step d n from i {out₀} {out} {at} h p =
      let v : A = get_or n (from + i) d in
      let lt : i < length (drop from n) = omega (arith, length-drop from n) in
      let e : take (i + 1) (drop from n) ≡ take i (drop from n) ++ (v ∷ []) = rw (add-one, take-suc (drop from n) i d, get_or-drop) in
      let p' : at + i + 1 ≡ at + (i + 1) = omega arith in
      subst₂ (λ (ys : List A) (r : ℕ). Wrote ys out₀ (set out (at + i) v) at r) (sym e) p' (wrote-more p (wrote_one out (at + i) v))

  -- one element more of the same
  pub wrote-same : (v : A) {out out' : List A} {at r : ℕ} (n : ℕ) → Wrote (replicate n v) out out' at r → Wrote (replicate (n + 1) v) out (set out' r v) at (r + 1)
  wrote-same v {out} {out'} {at} {r} n w =
      subst (λ (ys : List A). Wrote ys out (set out' r v) at (r + 1)) (replicate-append-replicate n 1 v) (wrote-more w (wrote_one out' r v))

  -- a part of a slice that is written as a whole is a run of stores
  pub part-written : (out : List A) (at k : ℕ) (ys : List A) → at + k ≤ length out → length ys ≡ k → put_mid at k out ys ≡ sets out at ys
  part-written out at k ys fits e =
      let behind : drop k (drop at out) ≡ drop (at + length ys) out = drop-drop k at out ∙ ap (λ (n : ℕ). drop n out) (omega arith) in
      ap (λ (zs : List A). take at out ++ (ys ++ zs)) behind ∙ sym (sets-eq ys out at (omega arith) ∙ append_assoc (take at out) ys (drop (at + length ys) out))

-- two parts are equal exactly when the runs are the same
part-at : (xs : List ℕ) (i n k : ℕ) → k < n → get_or (take n (drop i xs)) k 0 ≡ get_or xs (i + k) 0
part-at xs i n k h = get_or-take n (drop i xs) k 0 h ∙ get_or-drop i xs k 0

module _ (xs : List ℕ) (i : ℕ) (ys : List ℕ) (j n : ℕ) where
  pub same-parts : take n (drop i xs) ≡ take n (drop j ys) → SameRun xs i ys j n
  same-parts e k h = sym (part-at xs i n k h) ∙ ap (λ (l : List ℕ). get_or l k 0) e ∙ part-at ys j n k h

  pub parts-same : i + n ≤ length xs → j + n ≤ length ys → SameRun xs i ys j n → take n (drop i xs) ≡ take n (drop j ys)
  parts-same f g s =
      let m : length (take n (drop i xs)) ≡ n = omega (arith, length-take-le n (drop i xs), length-drop i xs) in
      let m' : length (take n (drop j ys)) ≡ n = omega (arith, length-take-le n (drop j ys), length-drop j ys) in
      same_number_lists _ _ (omega arith) (λ k h. let h' : k < n = omega arith in part-at xs i n k h' ∙ s k h' ∙ sym (part-at ys j n k h'))

-- what f makes of one position more
pub wrote-next : (f : ℕ → ℕ) {out out' : List ℕ} (i : ℕ) → Wrote (map f (positions i)) out out' 0 i → Wrote (map f (positions (i + 1))) out (set out' i (f i)) 0 (i + 1)
wrote-next f {out'} i w = rw (add-one, map-suc f i) (rw add-one at (wrote-more w (wrote_one out' i (f i))))
