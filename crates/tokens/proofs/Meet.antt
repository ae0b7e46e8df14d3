-- What a reader's step says of `Read`: tokens and labels.
-- Assumes nothing.
use mathlib.Core.Path.{◌≡◌, refl, sym, ap, ◌∙◌}
use mathlib.Core.Bool.{Bool, true, false}
use mathlib.Core.List.{List}
use Prim.Native.Nat.{ℕ, ◌+◌, ◌≤◌, ◌<◌, min}
use native.Mathlib.Omega.{arith}
use lib.Dec.{eqb}
use lib.ListN.{length, get_or, set}
use Rattle.meaning.specs.Lists.{member}
use Rattle.meaning.specs.Tree.{leaf, In, tip, Good}
use Rattle.meaning.specs.Reading.{Read, got, and_then, or_wrong, is_blank, skip, token, exactly, label_at, value, run_end, byte_at, bad_label}
use Rattle.meaning.proofs.Complete.{New}
use Rattle.meaning.proofs.Scan.{past-ge}
use Rattle.meaning.proofs.Sound.{Silent}
use Rattle.meaning.proofs.Ways.{reads, gives-got, token-gives, label-range, label-new}
use Rattle.tokens.specs.Draft.{too_large, seen, Tells, Draft, Written, token_at}
use Rattle.tokens.specs.Mark.{exactly_at}
use Rattle.tokens.proofs.Draft.{fits_more, tells_more}

-- ---- the byte behind the blanks at p, as it was asked for
pub byte-is : (s : List ℕ) (p : ℕ) {q b : ℕ} → q ≡ skip s p → b ≡ get_or s q 0 → byte_at s (skip s p) ≡ b
byte-is s p e f = ap (λ (j : ℕ). get_or s j 0) (sym e) ∙ sym f

-- ---- a token
module _ (b : ℕ) (s : List ℕ) (p : ℕ) where
  -- it stands behind the blanks
  pub token-exactly : exactly_at b s (skip s p) ≡ token_at b s p
  unfolding token exactly
  token-exactly = refl

  -- what follows it is read where it ends
  pub token-then : {A : Type 0} (next : ℕ → Read A) → token b s p next ≡ and_then (token_at b s p) (λ u q. next q)
  unfolding token
  token-then next = by (eqb (byte_at s (skip s p)) b)
    where
      by : (d : Bool) → or_wrong d (skip s p) (λ q. next (q + 1)) ≡ and_then (or_wrong d (skip s p) (λ q. got (tt {0}) (q + 1))) (λ u q. next q)
      by true = refl
      by false = refl

  pub token-behind : {u : Unit {0}} {q : ℕ} → token_at b s p ≡ got u q → p < q
  token-behind e =
      let l : p < skip s p + 1 = omega (arith, past-ge is_blank s p) in
      gives-got (token-gives {P = λ u q. p < q} {Q = Silent} b s p (λ q. got tt q) (λ _. tt) (λ h. reads l)) e

-- ---- a label that the rule allows, once its mark was read
pub record Checked (s : List ℕ) (q : ℕ) (node : List ℕ) (at v : ℕ) (found : Bool) : Type 0 where
  pub allowed : bad_label (value s q) ≡ false
  pub same : v ≡ value s q
  pub small : v ≤ 64
  pub held : member (value s q) (seen node at) ≡ found

pub checked : (s : List ℕ) (q : ℕ) (node : List ℕ) (marks : List Bool) (at v : ℕ)
    → bad_label (value s q) ≡ false → v ≡ min too_large (value s q) → Tells marks (seen node at) → Checked s q node at v (get_or marks v false)
checked s q node marks at v f e m =
    let (l, h) = label-range _ f in
    let z : v ≡ value s q = omega arith in
    record { allowed = f; same = z; small = omega arith; held = rw (← z) (sym (m.each v (omega arith))) }

module _ {s : List ℕ} {q : ℕ} {node : List ℕ} {at v : ℕ} (k : Checked s q node at v false) where
  leaf-good : Good (leaf (value s q))
  leaf-good = record { distinct = tt; small = λ l i. in_leaf i }
    where
      in_leaf : {l : ℕ} → In l (leaf (value s q)) → (1 ≤ l) × (l ≤ 64)
      in_leaf tip = label-range _ k.allowed

  leaf-new : New (leaf (value s q)) (seen node at)
  leaf-new l tip = k.held

  module _ {marks : List Bool} {room : ℕ} (d : Draft node marks at room) where
    pub label-room : at + 1 ≤ length node
    label-room = fits_more d leaf-good leaf-new

    pub label-is : label_at s q (seen node at) ≡ got (leaf (value s q)) (run_end s q)
    label-is = label-new s q (seen node at) k.allowed k.held

    pub label-written : Written node (set node at v) (set marks v true) at (at + 1) (leaf (value s q))
    label-written = record {
      cells = ap (set node at) k.same;
      count = refl;
      marked = rw (← k.same) (tells_more d.marked v k.small);
    }
