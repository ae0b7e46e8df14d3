-- The canonical text can be read back: equal texts, one topology. And so for the two components of a forest.
-- Assumes nothing.
use mathlib.Core.Path.{◌≡◌, sym, ap, ap₂, ◌∙◌, subst}
use mathlib.Core.Logic.{◌↔◌}
use mathlib.Core.List.{List, [], ◌∷◌, ◌++◌, append_assoc}
use Prim.Native.Nat.{ℕ, ◌+◌, ◌/◌, ◌%◌, ◌≤◌}
use native.Mathlib.Omega.{arith}
use native.Mathlib.Decide.{dec_le}
use Rattle.meaning.specs.Limits.{max_label}
use Rattle.meaning.specs.Tree.{Tree, leaf, fork, In, tip, Small, Good, SameTopology, canon, digits, write, form}
use Rattle.meaning.specs.Move.{Cut, parts, forest}
use Rattle.meaning.proofs.Digits.{digits-one, digits-two}
use Rattle.meaning.proofs.Same.{good-first, good-second}
use Rattle.meaning.proofs.Canon.{canon-good, topology-iff-canon}

-- a text that does not begin with a digit
abbrev pub Stop : List ℕ → Type 0
Stop [] = Unit {0}
Stop (x ∷ xs) = 48 ≤ x → x ≤ 57 → ⊥

-- a label ends where no digit follows
digits-read : (m n : ℕ) (xs ys : List ℕ) → m ≤ max_label → n ≤ max_label → Stop xs → Stop ys → digits m ++ xs ≡ digits n ++ ys → (m ≡ n) × (xs ≡ ys)
digits-read m n xs ys h k f g e = go (dec_le m 9) (dec_le n 9)
  where
    go : Dec (m ≤ 9) → Dec (n ≤ 9) → (m ≡ n) × (xs ≡ ys)
    go (yes a) (yes b) = let d = rw (digits-one m a, digits-one n b) at e in let i : 48 + m ≡ 48 + n = cc in (omega arith, cc)
    go (yes a) (no b) = let d = rw (digits-one m a, digits-two n (omega arith) (omega arith)) at e in let i : xs ≡ (48 + n % 10) ∷ ys = cc in absurd (subst Stop i f (omega arith) (omega arith))
    go (no a) (yes b) = let d = rw (digits-two m (omega arith) (omega arith), digits-one n b) at e in let i : ys ≡ (48 + m % 10) ∷ xs = cc in absurd (subst Stop i g (omega arith) (omega arith))
    go (no a) (no b) =
        let d = rw (digits-two m (omega arith) (omega arith), digits-two n (omega arith) (omega arith)) at e in
        let i : 48 + m / 10 ≡ 48 + n / 10 = cc in let j : 48 + m % 10 ≡ 48 + n % 10 = cc in (omega arith, cc)

-- a label begins with a digit
pub digits-begin : (m b : ℕ) (xs ys : List ℕ) → m ≤ max_label → Stop (b ∷ ys) → digits m ++ xs ≡ b ∷ ys → ⊥
digits-begin m b xs ys h f e = go (dec_le m 9)
  where
    go : Dec (m ≤ 9) → ⊥
    go (yes a) = let d = rw (digits-one m a) at e in let i : 48 + m ≡ b = cc in f (omega arith) (omega arith)
    go (no a) = let d = rw (digits-two m (omega arith) (omega arith)) at e in let i : 48 + m / 10 ≡ b = cc in f (omega arith) (omega arith)

write-fork : (a b : Tree) (xs : List ℕ) → write (fork a b) ++ xs ≡ 40 ∷ (write a ++ (44 ∷ (write b ++ (41 ∷ xs))))
write-fork a b xs = simp append_assoc

-- a tree's text tells the tree and where it ends
pub write_read : (a b : Tree) (xs ys : List ℕ) → Small a → Small b → Stop xs → Stop ys → write a ++ xs ≡ write b ++ ys → (a ≡ b) × (xs ≡ ys)
write_read (leaf m) (leaf n) xs ys A B f g e = let (i, j) = digits-read m n xs ys (A m tip).1 (B n tip).1 f g e in (ap leaf i, j)
write_read (leaf m) (fork c d) xs ys A B f g e = absurd (digits-begin m 40 xs _ (A m tip).1 (omega arith) (e ∙ write-fork c d ys))
write_read (fork a b) (leaf n) xs ys A B f g e = absurd (digits-begin n 40 ys _ (B n tip).1 (omega arith) (sym e ∙ write-fork a b xs))
write_read (fork a b) (fork c d) xs ys A B f g e =
    let p = sym (write-fork a b xs) ∙ e ∙ write-fork c d ys in
    let p' : write a ++ (44 ∷ (write b ++ (41 ∷ xs))) ≡ write c ++ (44 ∷ (write d ++ (41 ∷ ys))) = cc p in
    let (q, r) = write_read a c (44 ∷ (write b ++ (41 ∷ xs))) (44 ∷ (write d ++ (41 ∷ ys))) (λ l i. A l (In.first i)) (λ l i. B l (In.first i)) (omega arith) (omega arith) p' in
    let r' : write b ++ (41 ∷ xs) ≡ write d ++ (41 ∷ ys) = cc r in
    let (s, t) = write_read b d (41 ∷ xs) (41 ∷ ys) (λ l i. A l (In.second i)) (λ l i. B l (In.second i)) (omega arith) (omega arith) r' in
    (ap₂ fork q s, cc t)

-- equal canonical texts, one topology
pub form-iff : {t u : Tree} → Good t → Good u → (form t ≡ form u) ↔ SameTopology t u
form-iff {t} {u} G H =
    let e = topology-iff-canon G.distinct H.distinct in (
      λ p. e.1 (write_read (canon t) (canon u) (59 ∷ []) (59 ∷ []) (canon-good G).small (canon-good H).small (omega arith) (omega arith) p).0,
      λ p. ap (λ (v : Tree). write v ++ (59 ∷ [])) (e.0 p),
    )

-- the components of two cuts have the same canonical forms
abbrev pub SameCanon : Cut → Cut → Type 0
SameCanon c d = (canon c.rest ≡ canon d.rest) × (canon c.pruned ≡ canon d.pruned)

-- equal forest texts, one remainder and one pruned tree
pub forest-canon : (c d : Cut) → Good (parts c) → Good (parts d) → forest c ≡ forest d → SameCanon c d
forest-canon c d G H e =
    let p : List ℕ = write (canon c.pruned) ++ (59 ∷ []) in
    let q : List ℕ = write (canon d.pruned) ++ (59 ∷ []) in
    let (i, j) = write_read (canon c.rest) (canon d.rest) (32 ∷ p) (32 ∷ q)
    (canon-good (good-second G)).small (canon-good (good-second H)).small (omega arith) (omega arith) (simp append_assoc at e) in
    let k : p ≡ q = cc j in
    (i, (write_read (canon c.pruned) (canon d.pruned) (59 ∷ []) (59 ∷ []) (canon-good (good-first G)).small (canon-good (good-first H)).small (omega arith) (omega arith) k).0)

pub canon-forest : (c d : Cut) → SameCanon c d → forest c ≡ forest d
canon-forest c d e = ap₂ (λ (r s : Tree). write r ++ (32 ∷ write s) ++ (59 ∷ [])) e.0 e.1

pub forest-iff : (c d : Cut) → Good (parts c) → Good (parts d) → (forest c ≡ forest d) ↔ (SameTopology c.rest d.rest × SameTopology c.pruned d.pruned)
forest-iff c d G H =
    let rest = topology-iff-canon G.distinct.1 H.distinct.1 in
    let pruned = topology-iff-canon G.distinct.0 H.distinct.0 in (
      λ e. let (p, q) = forest-canon c d G H e in (rest.1 p, pruned.1 q),
      λ e. canon-forest c d (rest.0 e.0, pruned.0 e.1),
    )
