-- How long the texts can be: distinct labels from 1 to 64 have at most 55 with two digits.
-- Assumes nothing.
use mathlib.Core.Path.{◌≡◌}
use Prim.Native.Nat.{ℕ, ◌+◌, ◌≤◌}
use native.Mathlib.Omega.{arith}
use lib.ListN.{length, length-append}
use Rattle.meaning.specs.Limits.{max_label, form_bytes, forest_bytes}
use Rattle.meaning.specs.Tree.{Tree, leaf, fork, Good, labels, leaves, canon, digits, write, form}
use Rattle.meaning.specs.Move.{Cut, parts, forest}
use Rattle.meaning.proofs.Same.{same, ≈-sym, ≈-good}
use Rattle.meaning.proofs.Canon.{canon-≈, canon-good}
use Rattle.meaning.proofs.Labels.{labels_in, distinct-nodup, labels_length}
use Rattle.meaning.proofs.Sums.{total, total-append, total-le, one_to, one_to-mem, few}

-- so the labels of a tree cost no more than 1 to 64
tree-total : (f : ℕ → ℕ) {t : Tree} → Good t → total f (labels t) ≤ total f (one_to max_label)
tree-total f {t} G = total-le f (labels t) (one_to max_label) (distinct-nodup t G.distinct) (λ l m. let h = G.small l (labels_in t m) in one_to-mem max_label l h.0 h.1)

-- each label costs its digits, and a bracket pair and a comma: 311 = 9 * 4 + 55 * 5
cost : ℕ → ℕ
cost l = 3 + length (digits l)

write-length : (t : Tree) → length (write t) + 3 ≡ total cost (labels t)
unfolding cost
write-length (leaf n) = omega arith
write-length (fork a b) = simp (length-append, total-append) (omega (arith, write-length a, write-length b))

cost-64 : {t : Tree} → Good t → total cost (labels t) ≤ 311
unfolding one_to cost
cost-64 G = tree-total cost G

pub form-length : {t : Tree} → Good t → length (form t) ≤ form_bytes
form-length {t} G = simp length-append (omega (arith, write-length (canon t), cost-64 (canon-good G)))

pub forest-length : (c : Cut) → Good (parts c) → length (forest c) ≤ forest_bytes
forest-length c G =
    let r = canon c.rest in
    let s = canon c.pruned in
    let H = ≈-good (same (≈-sym (canon-≈ c.pruned)) (≈-sym (canon-≈ c.rest))) G in
    simp length-append (omega (arith, write-length r, write-length s, cost-64 H, total-append cost (labels s) (labels r)))

-- at most 64 leaves
pub leaves-64 : {t : Tree} → Good t → leaves t ≤ max_label
leaves-64 {t} G = omega (arith, few max_label (labels t) (distinct-nodup t G.distinct) (λ l m. G.small l (labels_in t m)), labels_length t)
