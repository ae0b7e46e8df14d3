-- A rule for a table's labels: what takes them back, and that the renamed trees are good.
-- Assumes nothing.
use mathlib.Core.Path.{◌≡◌, refl, sym}
use mathlib.Core.Logic.{◌⊎◌, inl, inr}
use mathlib.Core.Bool.{cond}
use mathlib.Core.List.Memᴰ
use mathlib.Core.List.{List, [], ◌∷◌, ◌++◌, Memᴰ}
use Prim.Native.Nat.{ℕ, zero, suc, ◌<◌}
use native.Mathlib.Omega.{arith}
use borrow.Author.Tests.{eqb-true, eq-eqb}
use lib.Dec.{eqb}
use lib.ListN.{length}
use Rattle.meaning.specs.Tree.{Tree, In, Good, labels}
use Rattle.meaning.specs.Listing.{tree_of}
use Rattle.meaning.proofs.Logic.{cases}
use Rattle.meaning.proofs.Labels.{in-labels, labels_in}
use Rattle.renaming.specs.Renaming.{rename, LabelOf, here, later, Rule}
use Rattle.renaming.proofs.Renamed.{in-rename, Back, rename-distinct}

-- the first of the numbers that f takes to v
inverse_rule : (ℕ → ℕ) → List ℕ → ℕ → ℕ
inverse_rule f [] v = 0
inverse_rule f (l ∷ ls) v = cond (eqb (f l) v) l (inverse_rule f ls v)

-- is l, where f takes l to v and no other of them
taken_back : (f : ℕ → ℕ) (ls : List ℕ) → ((l m : ℕ) → Memᴰ l ls → Memᴰ m ls → f l ≡ f m → l ≡ m) → (l : ℕ) → Memᴰ l ls → inverse_rule f ls (f l) ≡ l
unfolding inverse_rule
taken_back f [] once l n = elim n [ ]
taken_back f (m ∷ ls) once l (Memᴰ.head e) = rw (eq-eqb (f m) (f l) (rw e refl)) (sym e)
taken_back f (m ∷ ls) once l (Memᴰ.tail n) =
    cases (λ b. cond b m (inverse_rule f ls (f l)) ≡ l) (eqb (f m) (f l)) (λ e. once m l (Memᴰ.head refl) (Memᴰ.tail n) (eqb-true (f m) (f l) e))
    (λ _. taken_back f ls (λ a b i j. once a b (Memᴰ.tail i) (Memᴰ.tail j)) l n)

-- the labels of all trees
labels_of : List Tree → List ℕ
labels_of [] = []
labels_of (t ∷ ts) = labels t ++ labels_of ts

label-listed : {l : ℕ} {ts : List Tree} → LabelOf l ts → Memᴰ l (labels_of ts)
unfolding labels_of
label-listed (here {ts} i) = Memᴰ.append_left (labels_of ts) (in-labels i)
label-listed (later {t} i) = Memᴰ.append_right (labels t) (label-listed i)

listed-label : {l : ℕ} (ts : List Tree) → Memᴰ l (labels_of ts) → LabelOf l ts
unfolding labels_of
listed-label [] m = elim m [ ]
listed-label {l} (t ∷ ts) m = by (Memᴰ.append_cases (labels t) m) (λ n. later (listed-label ts n))
  where
    by : Memᴰ l (labels t) ⊎ Memᴰ l (labels_of ts) → (Memᴰ l (labels_of ts) → LabelOf l (t ∷ ts)) → LabelOf l (t ∷ ts)
    by (inl n) f = here (labels_in t n)
    by (inr n) f = f n

-- the labels of the tree at a position are labels of the table
pub label-at : (ts : List Tree) (i : ℕ) → i < length ts → (l : ℕ) → In l (tree_of ts i) → LabelOf l ts
label-at [] i h l k = absurd (omega arith)
label-at (t ∷ ts) zero h l k = here k
label-at (t ∷ ts) (suc i) h l k = later (label-at ts i (omega arith) l k)

module _ {f : ℕ → ℕ} {ts : List Tree} (r : Rule f ts) where
  -- what takes the new labels back
  pub back : ℕ → ℕ
  back v = inverse_rule f (labels_of ts) v

  back-label : (l : ℕ) → LabelOf l ts → back (f l) ≡ l
  unfolding back
  back-label l i = taken_back f (labels_of ts) (λ a b m n. r.once a b (listed-label ts m) (listed-label ts n)) l (label-listed i)

  -- for trees whose labels the table has
  pub back-within : (t : Tree) → ((l : ℕ) → In l t → LabelOf l ts) → Back f back t
  back-within t o l i = back-label l (o l i)

  pub back_at : (i : ℕ) → i < length ts → Back f back (tree_of ts i)
  back_at i h = back-within (tree_of ts i) (label-at ts i h)

  pub rename-good : (t : Tree) → ((l : ℕ) → In l t → LabelOf l ts) → Good t → Good (rename f t)
  rename-good t o G = record {
    distinct = rename-distinct f back t (back-within t o) G.distinct;
    small = λ l i. let (m, j, e) = in-rename f t i in rw e at (r.small m (o m j));
  }
