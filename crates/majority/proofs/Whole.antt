-- The majority tree of a table's trees: its clades stand at the front of the list, and the tree that grows from them is written.
-- Assumes nothing.
use mathlib.Core.Path.{◌≡◌, refl, sym, ap, subst, ◌∙◌}
use mathlib.Core.Logic.{◌≢◌}
use mathlib.Core.List.Memᴰ
use mathlib.Core.List.{List, [], ◌∷◌, ◌++◌}
use Prim.Native.Nat.{ℕ, ◌+◌, ◌*◌, ◌≤◌, ◌<◌}
use native.Mathlib.Omega.{arith}
use lib.Dec.{T, ltb}
use lib.ListN.{length, take, get_or, set, length-append}
use lib.Seq.{length-take-le, get_or-take, take-take}
use Rattle.meaning.specs.Limits.{max_label}
use Rattle.meaning.specs.Tree.{Tree as Topology, canon}
use Rattle.meaning.specs.Clade.{clade}
use Rattle.meaning.proofs.Lists.{get_d_map}
use Rattle.meaning.proofs.Canon.{canon-≈}
use Rattle.meaning.proofs.Clade.{clade-≈}
use Rattle.lent.specs.Runs.{Wrote}
use Rattle.lent.proofs.Runs.{wrote_one, wrote-more}
use Rattle.held.specs.Kept.{Keeps, Kept, held_at, KeepsAll}
use Rattle.held.specs.declared.Table.{Table}
use Rattle.held.proofs.Kept.{keeps-good}
use Rattle.families.specs.Grown.{grow, GrowsTo}
use Rattle.families.specs.Support.{holders, supported, majority, chosen}
use Rattle.families.specs.Majority.{majority_tree, majority_text}
use Rattle.families.proofs.Support.{EachGood, OneSet}
use Rattle.families.proofs.Prefix.{chosen-prefix}
use Rattle.families.proofs.Majority.{majority-grows}
use Rattle.families.proofs.MajorityText.{majority-length}
use Rattle.families.proofs.Tables.{each-good}
use Rattle.majority.specs.Front.{Front}
use Rattle.majority.specs.Texts.{marked, CladeRoom, Lists, MajorityRoom}

-- of the first n clades and numbers, the list of support of ts, the first k are those of the majority tree
module _ (ts : List Topology) (A : EachGood ts) {clades numbers : List ℕ} {n : ℕ} (L : Lists ts clades numbers n) (inside : n ≤ length clades) (beside : n ≤ length numbers)
    {trees k : ℕ} (count : trees ≡ length ts) (F : Front (take n numbers) trees k) where
  pub front-few : k ≤ n
  front-few = omega (arith, F.few, length-take-le n numbers beside)

  long : length (supported ts) ≡ n
  long = ap length (sym L.each) ∙ length-take-le n clades inside

  -- the number that stands at place j
  number_at : (j : ℕ) → j < n → get_or numbers j 0 ≡ holders ts (get_or (supported ts) j 0)
  number_at j h =
      sym (get_or-take n numbers j 0 h)
      ∙ ap (λ (l : List ℕ). get_or l j 0) L.often
      ∙ get_d_map (holders ts) (supported ts) j 0 0 (omega (arith, h, long))

  tested : (j : ℕ) → j < n → ltb trees (2 * get_or numbers j 0) ≡ majority ts (get_or (supported ts) j 0)
  unfolding majority
  tested j h = ap (λ (m : ℕ). ltb m (2 * get_or numbers j 0)) count ∙ ap (λ (x : ℕ). ltb (length ts) (2 * x)) (number_at j h)

  at-front : (j : ℕ) → j < n → ltb trees (2 * get_or (take n numbers) j 0) ≡ ltb trees (2 * get_or numbers j 0)
  at-front j h = ap (λ (x : ℕ). ltb trees (2 * x)) (get_or-take n numbers j 0 h)

  pub front-chosen : chosen ts ≡ take k clades
  front-chosen =
      chosen-prefix ts A k
      (omega (arith, front-few, long))
      (λ j h. subst T (sym (F.above j h) ∙ at-front j (omega (arith, h, front-few)) ∙ tested j (omega (arith, h, front-few))) tt)
      (λ h m. subst T (sym (at-front k (omega (arith, h, long)) ∙ tested k (omega (arith, h, long))) ∙ F.stop (omega (arith, h, long, length-take-le n numbers beside))) m)
      ∙ ap (take k) (sym L.each)
      ∙ take-take k n clades front-few

-- the trees of a table, of which t is the first
module _ {table : Table} {clades numbers : List ℕ} {n len : ℕ} (R : MajorityRoom table clades numbers n len) {k : ℕ} (F : Front (take n numbers) table.len k) where
  module _ (t : Topology) (ts : List Topology) (H : KeepsAll table (t ∷ ts)) where
    A : EachGood (t ∷ ts)
    A = each-good (t ∷ ts) (keeps-good H)

    one : OneSet (clade t) (t ∷ ts)
    one u m = R.one (t ∷ ts) H u m ∙ sym (R.one (t ∷ ts) H t (Memᴰ.head refl))

    abbrev tree : Topology
    tree = grow max_label (chosen (t ∷ ts)) (clade t)

    first-k : chosen (t ∷ ts) ≡ take k clades
    first-k = front-chosen (t ∷ ts) A (R.lists (t ∷ ts) H) R.inside R.beside H.count F

    -- c is the label set, as it was found from the tree in canonical order
    grows-whole : {c : ℕ} → c ≡ clade (canon t) → GrowsTo (take k clades) c tree
    grows-whole {c} e =
        subst (λ (x : ℕ). GrowsTo (take k clades) x tree) (sym (e ∙ clade-≈ (canon-≈ t)))
        (subst (λ (cs : List ℕ). GrowsTo cs (clade t) tree) first-k (majority-grows t ts A one))

    whole-text : majority_text (t ∷ ts) ≡ marked (take k clades) tree ++ (59 ∷ [])
    unfolding majority_text majority_tree
    whole-text = ap (λ (cs : List ℕ). marked cs tree ++ (59 ∷ [])) first-k

    text-room : length (marked (take k clades) tree) + 1 ≤ len
    text-room = omega (arith, R.room, majority-length t ts A one, ap length whole-text, length-append (marked (take k clades) tree) (59 ∷ []))

    -- the text was written, and the semicolon behind it
    wrote-whole : {out out' : List ℕ} {r : ℕ} → Wrote (marked (take k clades) tree) out out' 0 r → Wrote (majority_text (t ∷ ts)) out (set out' r 59) 0 (r + 1)
    wrote-whole {out} {out'} {r} w = subst (λ (l : List ℕ). Wrote l out (set out' r 59) 0 (r + 1)) (sym whole-text) (wrote-more w (wrote_one out' r 59))

  module _ (some : table.len ≢ 0) where
    pub first-kept : Kept (held_at table 0)
    first-kept = go R.kept.trees R.kept.keeps
      where
        go : (ts : List Topology) → KeepsAll table ts → Kept (held_at table 0)
        go [] H = absurd (some H.count)
        go (t ∷ ts) H = record { topology = t; keeps = H.each 0 (omega arith) }

    -- c is the label set of the first tree
    module _ {c : ℕ} (labels : (t : Topology) → Keeps (held_at table 0) t → c ≡ clade (canon t)) where
      pub whole_room : CladeRoom (take k clades) c 0 len
      whole_room = go R.kept.trees R.kept.keeps
        where
          go : (ts : List Topology) → KeepsAll table ts → CladeRoom (take k clades) c 0 len
          go [] H = absurd (some H.count)
          go (t ∷ ts) H = record {
            tree = tree t ts H;
            grows = grows-whole t ts H (labels t (H.each 0 (omega arith)));
            room = omega (arith, text-room t ts H);
          }

      module _ {out out' : List ℕ} {r : ℕ} (wrote : (t : Topology) → GrowsTo (take k clades) c t → Wrote (marked (take k clades) t) out out' 0 r) where
        -- there is room for the semicolon
        pub end-room : r < len
        end-room = go R.kept.trees R.kept.keeps
          where
            go : (ts : List Topology) → KeepsAll table ts → r < len
            go [] H = absurd (some H.count)
            go (t ∷ ts) H = omega (arith, text-room t ts H, (wrote (tree t ts H) (grows-whole t ts H (labels t (H.each 0 (omega arith))))).behind)

        pub majority-written : (ts : List Topology) → KeepsAll table ts → Wrote (majority_text ts) out (set out' r 59) 0 (r + 1)
        majority-written [] H = absurd (some H.count)
        majority-written (t ∷ ts) H = wrote-whole t ts H (wrote (tree t ts H) (grows-whole t ts H (labels t (H.each 0 (omega arith)))))

-- a table without trees: no bytes
pub none_written : {table : Table} → table.len ≡ 0 → (out : List ℕ) (ts : List Topology) → KeepsAll table ts → Wrote (majority_text ts) out out 0 0
unfolding majority_text
none_written e out [] H = record { behind = refl; cells = refl }
none_written e out (t ∷ ts) H = absurd (omega (arith, e, H.count))
