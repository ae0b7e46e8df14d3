-- The first held tree: the walk that finds it, and what being like it says.
-- Assumes nothing.
use mathlib.Core.Path.{◌≡◌, refl, sym, ap, ◌∙◌}
use mathlib.Core.List.{List, [], ◌∷◌, map}
use Prim.Native.Nat.{ℕ, suc, ◌+◌, ◌≤◌, ◌<◌}
use native.Mathlib.Numerals.{add-one}
use native.Mathlib.Omega.{arith}
use lib.ListN.{length, drop, drop_of_length-le}
use lib.Seq.{drop-cons}
use Rattle.meaning.specs.Limits.{max_trees}
use Rattle.meaning.specs.Tree.{Tree}
use Rattle.meaning.specs.Kind.{Kinded, rooted, rooted_only}
use Rattle.meaning.specs.Reading.{untaken, unlike, like_first}
use Rattle.holdings.specs.Slots.{Slot, free, held, slot_at, HeldTrees, trees}
use Rattle.holdings.specs.IndexCalls.{table}
use Rattle.holdings.specs.Memory.{Shelved}
use Rattle.held.specs.Kept.{KeepsKind}
use Rattle.slots.specs.Records.{tree_in}
use Rattle.slots.proofs.Shelving.{slot-keeps}
use Rattle.index_calls.specs.Added.{first_held}

module _ (hs : List Slot) (x : ℕ) where
  module _ (inside : x < length hs) where
    -- a held number is the first that is left; behind a free one the search goes on
    pub held-here : {t : Tree} → slot_at hs x ≡ held t → first_held (drop x hs) ≡ 0
    held-here e = ap first_held (drop-cons hs x free inside ∙ ap (λ (h : Slot). h ∷ drop (suc x) hs) e)

    pub held-behind : slot_at hs x ≡ free → first_held (drop x hs) ≡ suc (first_held (drop (x + 1) hs))
    held-behind e = rw add-one (ap first_held (drop-cons hs x free inside ∙ ap (λ (h : Slot). h ∷ drop (suc x) hs) e))

  -- nothing is left behind the last
  pub held-past : length hs ≤ x → first_held (drop x hs) ≡ 0
  held-past past = ap first_held (drop_of_length-le hs past)

-- where the walk ends, the first held tree stands; at the end there is none
pub none-held : (hs : List Slot) → first_held hs ≡ length hs → trees hs ≡ []
unfolding trees
none-held [] e = refl
none-held (free ∷ hs) e = none-held hs (omega arith)
none-held (held t ∷ hs) e = absurd (omega arith)

pub first_one : (hs : List Slot) → first_held hs < length hs → (t : Tree) × (ts : List Tree) × (slot_at hs (first_held hs) ≡ held t) × (trees hs ≡ t ∷ ts)
unfolding trees
first_one [] l = absurd (omega arith)
first_one (free ∷ hs) l = first_one hs (omega arith)
first_one (held t ∷ hs) l = (t, trees hs, refl, refl)

pub first-le : (hs : List Slot) → first_held hs ≤ length hs
first-le [] = omega arith
first-le (free ∷ hs) = omega (arith, first-le hs)
first-le (held t ∷ hs) = omega arith

-- the line that says why x can't be held
module _ {hs : List Slot} (H : HeldTrees hs) (x : Kinded) where
  pub line-alone : first_held hs ≡ max_trees → untaken rooted_only x.kind ≡ like_first rooted_only (table hs) x
  line-alone e = ap (λ (ts : List Tree). like_first rooted_only (map (λ (t : Tree). record { kind = rooted; tree = t }) ts) x) (sym (none-held hs (e ∙ sym H.many)))

  pub line-beside : {t : Tree} {ts : List Tree} → trees hs ≡ t ∷ ts → unlike (record { kind = rooted; tree = t }) x ≡ like_first rooted_only (table hs) x
  line-beside e = ap (λ (ts : List Tree). like_first rooted_only (map (λ (t : Tree). record { kind = rooted; tree = t }) ts) x) (sym e)

-- the first held tree as its slot keeps it
pub record FirstKept (hs : List Slot) (memory : List ℕ) : Type 0 where
  pub tree : Tree
  pub others : List Tree
  pub leads : trees hs ≡ tree ∷ others
  pub keeps : KeepsKind (tree_in memory (first_held hs)) (record { kind = rooted; tree = tree })

pub first-kept : {hs : List Slot} {memory : List ℕ} → Shelved hs memory → first_held hs < max_trees → FirstKept hs memory
first-kept {hs} S l =
    let (t, ts, e, leads) = first_one hs (omega (arith, S.trees.many)) in
    record { tree = t; others = ts; leads = leads; keeps = record { kind = refl; keeps = slot-keeps S l e; stands = refl } }
