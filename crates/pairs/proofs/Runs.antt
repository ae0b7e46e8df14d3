-- Held subtrees are the same exactly when their first bytes and their runs of bytes are.
-- Assumes nothing.
use mathlib.Core.Path.{◌≡◌, sym, ap, ◌∙◌}
use mathlib.Core.Bool.{Bool}
use mathlib.Core.List.{List, [], ◌++◌}
use Prim.Native.Nat.{ℕ, ◌+◌, ◌-◌, ◌≤◌, ◌<◌}
use native.Mathlib.Decide.{dec_le}
use native.Mathlib.Nat.{add-zero}
use native.Mathlib.Omega.{arith}
use lib.ListN.{length, get_or, get_or-append}
use lib.Seq.{get_or-drop, ext_get_or}
use Rattle.meaning.specs.Limits.{max_nodes}
use Rattle.meaning.specs.Tree.{Tree}
use Rattle.held.specs.Held.{nodes, pre, Holds}
use Rattle.held.proofs.Laws.{length-pre, twice, some-nodes, leafed, forked, inside, parted}
use Rattle.lent.specs.Runs.{SameRun, Common, Says}
use Rattle.lent.proofs.Says.{says}

-- the bytes of a held subtree
pub byte-is : {xs : List ℕ} {i : ℕ} {t : Tree} → Holds xs i t → (k : ℕ) → k < nodes t → get_or xs (i + k) 0 ≡ get_or (pre t) k 0
byte-is {xs} {i} {t} h k lt =
    sym (get_or-drop i xs k 0) ∙ ap (λ (l : List ℕ). get_or l k 0) h.stands.1 ∙ get_or-append (pre t) h.stands.0 0 k (omega (arith, length-pre t))

module _ {xs ys : List ℕ} {i j : ℕ} {s t : Tree} (g : Holds xs i s) (h : Holds ys j t) where
  -- the first byte tells the width
  pub same_width : get_or xs i 0 ≡ get_or ys j 0 → nodes s ≡ nodes t
  same_width e = go (dec_le (get_or xs i 0) 64)
    where
      go : Dec (get_or xs i 0 ≤ 64) → nodes s ≡ nodes t
      go (yes small) = ap nodes (leafed g small) ∙ sym (ap nodes (leafed h (omega arith)))
      go (no large) =
          let f = forked g (omega arith) in
          let f' = forked h (omega arith) in
          omega (arith, ap nodes f.is, ap nodes f'.is, f.byte, f'.byte, twice f.first, twice f.second, twice f'.first, twice f'.second)

  same-run : s ≡ t → SameRun xs i ys j (nodes s)
  same-run e k lt = byte-is g k lt ∙ ap (λ (u : Tree). get_or (pre u) k 0) e ∙ sym (byte-is h k (omega (arith, ap nodes e)))

  same_bytes : nodes s ≡ nodes t → SameRun xs i ys j (nodes s) → (k : ℕ) → k < nodes s → get_or (pre s) k 0 ≡ get_or (pre t) k 0
  same_bytes wide all k lt = sym (byte-is g k lt) ∙ all k lt ∙ byte-is h k (omega arith)

  pub run-same : nodes s ≡ nodes t → SameRun xs i ys j (nodes s) → s ≡ t
  run-same wide all =
      let bytes = ext_get_or 0 (pre s) (pre t) (length-pre s ∙ wide ∙ sym (length-pre t)) (λ k lt. same_bytes wide all k (omega (arith, length-pre s))) in
      (parted s t g.small h.small [] [] (ap (λ (l : List ℕ). l ++ []) bytes)).0

  pub other-head : ¬ (get_or xs i 0 ≡ get_or ys j 0) → ¬ (s ≡ t)
  other-head other e = other (rw (add-zero i, add-zero j) at (same-run e 0 (some-nodes s)))

  -- w is the width, as `width` says
  module _ (w : ℕ) (wide : w ≡ nodes s) (head : get_or xs i 0 ≡ get_or ys j 0) where
    pub runs_fit : (i + w ≤ length xs) × (j + w ≤ length ys)
    runs_fit = omega (arith, inside g, inside h, same_width head)

    pub run-says : (r : Bool) → Says r (SameRun xs i ys j w) → Says r (s ≡ t)
    run-says r = says (SameRun xs i ys j w) (s ≡ t) (λ all. run-same (same_width head) (rw wide at all)) (λ e. rw wide (same-run e)) r

-- what the bytes in common tell of trees at one index
module _ {xs ys : List ℕ} {same : ℕ} (C : Common xs ys max_nodes same) where
  -- they are the same where the one is within these
  pub common-same : {k : ℕ} {a c : Tree} → Holds xs k a → Holds ys k c → k + nodes a ≤ same → a ≡ c
  common-same {k} {a} {c} g h fits =
      let head : get_or xs k 0 ≡ get_or ys k 0 = C.same k (omega (arith, some-nodes a)) in
      run-same g h (same_width g h head) (λ m lt. C.same (k + m) (omega arith))

  -- and not where the first difference is within it
  pub common-differ : {k : ℕ} {a c : Tree} → Holds xs k a → Holds ys k c → k ≤ same → same < k + nodes a → same < max_nodes → ¬ (a ≡ c)
  common-differ {k} {a} {c} g h from to more e =
      let m = same - k in
      let at : k + m ≡ same = omega arith in
      let equal = byte-is g m (omega arith) ∙ ap (λ (v : Tree). get_or (pre v) m 0) e ∙ sym (byte-is h m (omega (arith, ap nodes e))) in
      C.differ more (rw at at equal)
