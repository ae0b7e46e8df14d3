-- No text of the grammar begins with what line 1 refuses, and nothing before the place of a refusal meets a line.
-- Assumes nothing.
use mathlib.Core.Path.{◌≡◌, sym, ap, ◌∙◌}
use mathlib.Core.Logic.{◌⊎◌, inl, inr}
use mathlib.Core.Bool.{false}
use mathlib.Core.List.{List, ◌++◌}
use Prim.Native.Nat.{ℕ, ◌+◌, ◌-◌, ◌<◌, ◌≤◌}
use native.Mathlib.Decide.{dec_le}
use native.Mathlib.Omega.{arith}
use lib.ListN.{length, drop, take}
use lib.Seq.{length-take-le, take-append-le, take-take}
use Rattle.meaning.specs.Kind.{Kinded, Takes}
use Rattle.meaning.specs.Reading.{Read, refused, is_blank, is_digit, byte_at, run_end, tree_at, read_tree, read_table}
use Rattle.meaning.specs.Grammar.{TreeText, OneText, Taken, TableText}
use Rattle.meaning.specs.Prefix.{From, InMark, WrongAt, too_soon, wrong_byte}
use Rattle.meaning.proofs.Logic.{clash}
use Rattle.meaning.proofs.Scan.{past-run}
use Rattle.meaning.proofs.Complete.{tree-complete, one-complete}
use Rattle.meaning.proofs.TableText.{table-complete}
use Rattle.meaning.proofs.Places.{Standing, Uncut, read-refused, table-refused}
use Rattle.meaning.proofs.Stable.{Same, Agree, Reach, same-less, same_byte, agree_less, tree-stable, read-stable, table-stable}

-- other lines than 2 and 3 hang on the bytes up to the place only
reach-byte : {s s' : List ℕ} {n q : ℕ} → (n ≡ 2 → ⊥) → (n ≡ 3 → ⊥) → Same s s' (q + 1) → Reach s s' n q
reach-byte {s} {s'} {n} {q} f g S = record { same = S; label = by }
  where
    by : (n ≡ 2) ⊎ (n ≡ 3) → Agree s s' (run_end s q)
    by (inl e) = absurd (f e)
    by (inr e) = absurd (g e)

module _ (s : List ℕ) where
  -- any bytes behind those up to a place
  goes_on : (q : ℕ) (w : List ℕ) → q < length s → Same s (take (q + 1) s ++ w) (q + 1)
  goes_on q w h = record { bytes = sym (take-append-le (q + 1) (take (q + 1) s) w (rw (length-take-le (q + 1) s (omega arith)) (omega arith)) ∙ take-take (q + 1) (q + 1) s (omega arith)) }

  -- a tree text stands from p on in no text with the bytes up to and with the place of a refusal; by 2 and 3 the label is refused, not its first digit
  pub refused-no-tree : (p n q : ℕ) → (n ≡ 2 → ⊥) → (n ≡ 3 → ⊥) → tree_at s p ≡ refused n q → (s' : List ℕ) → take (q + 1) s ≡ take (q + 1) s'
      → (x : Kinded) (y : List ℕ) (e : ℕ) → TreeText x y → From s' p e y → ⊥
  refused-no-tree p n q f g z s' same x y e T X = let r = tree-stable s s' p n q z (reach-byte f g (record { bytes = same })) in let c = tree-complete T s' p (drop e s') X.split in clash cc

  module _ (takes : Takes) where
    -- texts with one tree, and tables
    abbrev OneTaken : List ℕ → Type 0
    OneTaken x = (t : Kinded) × OneText t x × Taken takes t.kind

    abbrev TableTaken : List ℕ → Type 0
    TableTaken x = (ts : List Kinded) × TableText takes ts x

    -- so they begin no text with one tree
    pub refused-no-text : (n q : ℕ) → (n ≡ 2 → ⊥) → (n ≡ 3 → ⊥) → read_tree takes s ≡ refused n q → q < length s → (w : List ℕ) → OneTaken (take (q + 1) s ++ w) → ⊥
    refused-no-text n q f g e h w (t, T, z) = let r = read-stable s (take (q + 1) s ++ w) takes n q e (reach-byte f g (goes_on q w h)) in let (p, c) = one-complete takes T z in clash cc

    -- and no table
    pub refused-no-table : (n q : ℕ) → (n ≡ 2 → ⊥) → (n ≡ 3 → ⊥) → read_table takes s ≡ refused n q → q < length s → (w : List ℕ) → TableTaken (take (q + 1) s ++ w) → ⊥
    refused-no-table n q f g e h w T = let r = table-stable s (take (q + 1) s ++ w) takes n q e (reach-byte f g (goes_on q w h)) in let c = table-complete takes T.1 in clash cc

    -- a text with one tree is refused by line 1 only where it ends too soon or a byte stands that the rules can't have there
    pub line-one-no-text : (q : ℕ) → read_tree takes s ≡ refused 1 q → WrongAt OneTaken s q
    line-one-no-text q e = let P = read-refused s takes 1 q e in by P.solid P.stands
      where
        by : (is_blank (byte_at s q) ≡ false) ⊎ InMark s q → Standing s 1 q → WrongAt OneTaken s q
        by b (inl h) = wrong_byte h b (refused-no-text 1 q (λ z. omega arith) (λ z. omega arith) e h)
        by b (inr h) = too_soon h.1 (λ (t, T, z). let (p, c) = one-complete takes T z in clash cc)

    -- and so for a table
    pub line-one-no-table : (q : ℕ) → read_table takes s ≡ refused 1 q → WrongAt TableTaken s q
    line-one-no-table q e = let P = table-refused s takes 1 q e in by P.solid P.stands
      where
        by : (is_blank (byte_at s q) ≡ false) ⊎ InMark s q → Standing s 1 q → WrongAt TableTaken s q
        by b (inl h) = wrong_byte h b (refused-no-table 1 q (λ z. omega arith) (λ z. omega arith) e h)
        by b (inr h) = too_soon h.1 (λ T. let c = table-complete takes T.1 in clash cc)

-- two texts with the same bytes before q, where q is inside a run of digits of neither
module _ (s s' : List ℕ) (q : ℕ) (same : take q s ≡ take q s') (cut : Uncut s q) (cut' : Uncut s' q) where
  alike : Same s' s q
  alike = record { bytes = sym same }

  agree-uncut : Agree s' s q
  agree-uncut = record { same = alike; edge = λ i e d. cut' i e d ∙ sym (cut i e (ap is_digit (sym (same_byte i (omega arith) alike)) ∙ d)) }

  -- a run of digits that begins before q ends before it or there
  ends-before : (q' : ℕ) → q' < q → run_end s' q' ≤ q
  ends-before q' h = by (dec_le (run_end s' q') q)
    where
      by : Dec (run_end s' q' ≤ q) → run_end s' q' ≤ q
      by (yes l) = l
      by (no l) =
          let d = past-run is_digit s' q' (q - 1) (omega arith) (omega arith) in
          let n = cut' (q - 1) (omega arith) d in
          let y = past-run is_digit s' q' q (omega arith) (omega arith) in
          clash cc

  reach-before : (n q' : ℕ) → q' < q → Reach s' s n q'
  reach-before n q' h = record { same = same-less (q' + 1) (omega arith) alike; label = λ l. agree_less (run_end s' q') (ends-before q' h) agree-uncut }

  -- a refusal of the other text before q would refuse this one there
  first-at : {A : Type 0} (r : Read A) (n n' q' : ℕ) → r ≡ refused n q → (Reach s' s n' q' → r ≡ refused n' q') → q ≤ q'
  first-at r n n' q' e f = by (dec_le q q')
    where
      by : Dec (q ≤ q') → q ≤ q'
      by (yes l) = l
      by (no l) = let g = f (reach-before n' q' (omega arith)) in let z : q ≡ q' = cc in omega arith

-- nothing before the place of a refusal meets a line: a text with the same bytes before it, if it is refused, is refused there or behind it.
-- A run of digits that ends at the place may not go on in the other text, since another number could be refused at its first digit.
module _ (takes : Takes) (s s' : List ℕ) (n q n' q' : ℕ) (same : take q s ≡ take q s') (uncut : Uncut s' q) where
  pub nothing-before : read_tree takes s ≡ refused n q → read_tree takes s' ≡ refused n' q' → q ≤ q'
  nothing-before e e' = first-at s s' q same (read-refused s takes n q e).uncut uncut (read_tree takes s) n n' q' e (read-stable s' s takes n' q' e')

  -- and so for a table
  pub nothing-before-in-table : read_table takes s ≡ refused n q → read_table takes s' ≡ refused n' q' → q ≤ q'
  nothing-before-in-table e e' = first-at s s' q same (table-refused s takes n q e).uncut uncut (read_table takes s) n n' q' e (table-stable s' s takes n' q' e')
