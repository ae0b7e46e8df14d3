-- The canonical order, fork by fork, and the least labels that are noted for it.
-- Assumes nothing.
use mathlib.Core.Path.{◌≡◌, refl, sym, ap, ap₂, ◌∙◌}
use mathlib.Core.Bool.{Bool, cond}
use mathlib.Core.List.{List, ◌++◌, append_assoc}
use Prim.Native.Nat.{ℕ, ◌+◌, ◌≤◌, ◌<◌, min}
use native.Mathlib.Omega.{arith}
use native.Mathlib.Numerals.{add-one}
use borrow.Author.Tests.{le-leb, lt-leb}
use lib.Dec.{leb}
use lib.ListN.{length, take, drop, get_or, set}
use lib.Seq.{drop_at, length-take-le, sets, sets-eq, length-sets}
use Rattle.meaning.specs.Tree.{Tree, leaf, fork, leaves, least, canon}
use Rattle.meaning.proofs.Same.{◌≈◌, one, same, swap, ≈-leaves}
use Rattle.meaning.proofs.Canon.{canon-≈}
use Rattle.lent.specs.Runs.{Wrote}
use Rattle.lent.proofs.Runs.{sets-append, set-sets, wrote_one}
use Rattle.held.specs.Held.{nodes, byte, pre, leasts, Noted, Marks}
use Rattle.held.proofs.Preorder.{length-preorder, own_is, own_in, first-stands, second-stands}
use Rattle.held.proofs.Laws.{length-pre, twice, wrote-fork}

-- the canonical order keeps the least label, the leaves and the nodes
≈-least : {t u : Tree} → t ≈ u → least t ≡ least u
≈-least one = refl
≈-least (same p q) = omega (arith, ≈-least p, ≈-least q)
≈-least (swap p q) = omega (arith, ≈-least p, ≈-least q)

pub least-canon : (t : Tree) → least (canon t) ≡ least t
least-canon t = ≈-least (canon-≈ t)

pub leaves-canon : (t : Tree) → leaves (canon t) ≡ leaves t
leaves-canon t = ≈-leaves (canon-≈ t)

pub nodes-canon : (t : Tree) → nodes (canon t) ≡ nodes t
nodes-canon t = omega (arith, twice (canon t), twice t, leaves-canon t)

pub length-canon : (t : Tree) → length (pre (canon t)) ≡ nodes t
length-canon t = length-pre (canon t) ∙ nodes-canon t

-- the child with the smaller least label comes first
module _ (a b : Tree) where
  canon-fork : {q : Bool} → leb (least (canon a)) (least (canon b)) ≡ q → canon (fork a b) ≡ cond q (fork (canon a) (canon b)) (fork (canon b) (canon a))
  canon-fork e = ap (λ (q : Bool). cond q (fork (canon a) (canon b)) (fork (canon b) (canon a))) e

  pub canon-keep : least a ≤ least b → canon (fork a b) ≡ fork (canon a) (canon b)
  canon-keep h = canon-fork (le-leb (least (canon a)) (least (canon b)) (omega (arith, least-canon a, least-canon b)))

  pub canon-swap : least b < least a → canon (fork a b) ≡ fork (canon b) (canon a)
  canon-swap h = canon-fork (lt-leb (least (canon a)) (least (canon b)) (omega (arith, least-canon a, least-canon b)))

length-leasts : (t : Tree) → length (leasts t) ≡ nodes t
length-leasts = length-preorder least

-- a leaf's label is noted
pub noted-leaf : {low : List ℕ} {k l : ℕ} {t : Tree} → t ≡ leaf l → Noted t low (set low k l) k l
noted-leaf e = rw e (record { own = refl; cells = refl })

-- both subtrees' least labels are noted, and then the fork's own
noted-both : (a b : Tree) (k : ℕ) {low l₁ l₂ : List ℕ} {x y : ℕ} → Noted a low l₁ (k + 1) x → Noted b l₁ l₂ (k + 1 + nodes a) y → l₂ ≡ sets low (k + 1) (leasts a ++ leasts b)
noted-both a b k {low} p q =
    q.cells
    ∙ ap₂ (λ (l : List ℕ) (j : ℕ). sets l (k + 1 + j) (leasts b)) p.cells (sym (length-leasts a))
    ∙ sym (sets-append low (k + 1) (leasts a) (leasts b))

noted-own : (a b : Tree) {low l₂ : List ℕ} {k v : ℕ} → l₂ ≡ sets low (k + 1) (leasts a ++ leasts b) → v ≡ least (fork a b) → Noted (fork a b) low (set l₂ k v) k v
noted-own a b {low} {k} both own =
    record {
      own = own;
      cells =
          ap₂ (λ (l : List ℕ) (w : ℕ). set l k w) both own
          ∙ sym (set-sets low k (k + 1) (least (fork a b)) (leasts a ++ leasts b) (omega arith))
          ∙ ap (λ (j : ℕ). sets (set low k (least (fork a b))) j (leasts a ++ leasts b)) (add-one k);
    }

pub noted-fork : {t a b : Tree} {k i j x y v : ℕ} {low l₁ l₂ : List ℕ} → t ≡ fork a b → i ≡ k + 1 → j ≡ k + 1 + nodes a
    → Noted a low l₁ i x → Noted b l₁ l₂ j y → v ≡ min x y → Noted t low (set l₂ k v) k v
noted-fork {a} {b} {k} e first second p q m = rw e (noted-own a b (noted-both a b k (rw first at p) (rw second at q)) (m ∙ ap₂ min p.own q.own))

pub noted-length : {t : Tree} {low l₁ : List ℕ} {k x : ℕ} → Noted t low l₁ k x → length l₁ ≡ length low
noted-length {t} {low} {k} p = ap length p.cells ∙ length-sets low k (leasts t)

-- labels that were noted stand there
pub noted-marks : {t : Tree} {low l₁ : List ℕ} {k x : ℕ} → Noted t low l₁ k x → k + nodes t ≤ length low → Marks l₁ k t
noted-marks {t} {low} {l₁} {k} p fits =
    let behind = drop (k + length (leasts t)) low in
    let room : k + length (leasts t) ≤ length low = omega (arith, length-leasts t) in
    let e : l₁ ≡ take k low ++ (leasts t ++ behind) = p.cells ∙ sets-eq (leasts t) low k room ∙ append_assoc (take k low) (leasts t) behind in
    record { stands = (behind, ap (drop k) e ∙ drop_at (take k low) (leasts t ++ behind) k (length-take-le k low (omega arith))) }

-- a node's least label, where they stand, and those of a fork's children
pub mark-is : {low : List ℕ} {k : ℕ} {t : Tree} → Marks low k t → get_or low k 0 ≡ least t
mark-is {low} {k} {t} h = own_is least 0 low k t h.stands

pub mark-in : {low : List ℕ} {k : ℕ} {t : Tree} → Marks low k t → k < length low
mark-in {low} {k} {t} h = own_in least low k t h.stands

-- and stand beside a fork's children
module _ {low : List ℕ} {k : ℕ} {t a b : Tree} (e : t ≡ fork a b) (m : Marks low k t) where
  marks-both : Marks low k (fork a b)
  marks-both = rw e at m

  pub marks-first : {i : ℕ} → i ≡ k + 1 → Marks low i a
  marks-first here = rw here (record { stands = first-stands least low k a b marks-both.stands })

  pub marks-second : {j : ℕ} → j ≡ k + 1 + nodes a → Marks low j b
  marks-second here = rw here (record { stands = second-stands least low k a b marks-both.stands })

-- a leaf is written as it is
pub ordered-leaf : {t : Tree} {l v at : ℕ} {out : List ℕ} → t ≡ leaf l → v ≡ byte t → Wrote (pre (canon t)) out (set out at v) at (at + 1)
ordered-leaf {t} {l} {v} {at} {out} e own = rw (own ∙ ap byte e, e) (wrote_one out at l)

-- a fork's byte is written, and then its children in the canonical order, which the noted labels tell
module _ {t a b : Tree} {low : List ℕ} {i j v : ℕ} (e : t ≡ fork a b) (m : Marks low i a) (n : Marks low j b) (own : v ≡ byte t) {out o₁ o₂ : List ℕ} {at r₁ r₂ : ℕ} where
  ordered : (x y : Tree) → canon (fork a b) ≡ fork (canon x) (canon y) → leaves x + leaves y ≡ leaves a + leaves b
      → Wrote (pre (canon x)) (set out at v) o₁ (at + 1) r₁ → Wrote (pre (canon y)) o₁ o₂ r₁ r₂ → Wrote (pre (canon t)) out o₂ at r₂
  ordered x y order count p q = rw (e, order) (wrote-fork (canon x) (canon y) (omega (arith, own ∙ ap byte e, leaves-canon x, leaves-canon y)) p q)

  pub ordered-keep : get_or low i 0 ≤ get_or low j 0
      → Wrote (pre (canon a)) (set out at v) o₁ (at + 1) r₁ → Wrote (pre (canon b)) o₁ o₂ r₁ r₂ → Wrote (pre (canon t)) out o₂ at r₂
  ordered-keep le = ordered a b (canon-keep a b (omega (arith, mark-is m, mark-is n))) refl

  pub ordered-swap : get_or low j 0 < get_or low i 0
      → Wrote (pre (canon b)) (set out at v) o₁ (at + 1) r₁ → Wrote (pre (canon a)) o₁ o₂ r₁ r₂ → Wrote (pre (canon t)) out o₂ at r₂
  ordered-swap lt = ordered b a (canon-swap a b (omega (arith, mark-is m, mark-is n))) (omega arith)
