-- The ways through the table call, and the loop that writes a table.
-- Assumes nothing.
use mathlib.Core.Path.{◌≡◌, refl, sym, ap, subst₂, ◌∙◌}
use mathlib.Core.List.{List, [], ◌∷◌, ◌++◌, append-nil, append_assoc}
use Prim.Native.Nat.{ℕ, zero, suc, ◌+◌, ◌*◌, ◌≤◌, ◌<◌}
use native.Mathlib.Nat.{zero-add}
use native.Mathlib.Numerals.{add-one}
use native.Mathlib.Omega.{arith}
use lib.ListN.{length, take, set, length-append}
use lib.Seq.{take-suc, take_all, length-take-le}
use Rattle.meaning.specs.Limits.{kind_bytes, table_bytes}
use Rattle.meaning.specs.Tree.{Tree as Topology, leaf, AllGood}
use Rattle.meaning.specs.Kind.{Kind, Kinded, Trees, either}
use Rattle.meaning.specs.EitherKind.{form_as, forms_as}
use Rattle.meaning.specs.Listing.{tree_of}
use Rattle.meaning.specs.Answer.{accepted, TableMemory, written}
use Rattle.meaning.specs.Calls.{table_read, ends, table_slices, table_call_read, table_of, table_call}
use Rattle.meaning.proofs.EitherKind.{form-length_as}
use Rattle.meaning.proofs.Lent.{lent-ample, concluded}
use Rattle.meaning.proofs.Memory.{forms-length, ends-length}
use Rattle.lent.specs.Runs.{Wrote}
use Rattle.lent.proofs.Runs.{sets-start, wrote_one, wrote-more, wrote-length}
use Rattle.held.specs.Kept.{KeepsKind, KeptKindRoom, held_at, KeepsTrees}
use Rattle.held.specs.declared.Table.{Table}
use Rattle.held.proofs.Kept.{keeps-good, keeps-kinded}
use Rattle.tables.specs.Lent.{Given}
use Rattle.calls.specs.Paper.{table_outcome}
use Rattle.calls.specs.Tabled.{text_slices, TableRoom, TextsWritten, TableWritten}
use Rattle.std.specs.Prelude.{Ok}

-- ---- one tree more
module _ (k : Kind) where
  abbrev size : Topology → ℕ
  size t = length (form_as k t)

  forms-snoc : (ts : List Topology) (t : Topology) → forms_as k (ts ++ (t ∷ [])) ≡ forms_as k ts ++ form_as k t
  unfolding forms_as
  forms-snoc [] t = append-nil (form_as k t)
  forms-snoc (u ∷ ts) t = ap (λ (l : List ℕ). form_as k u ++ l) (forms-snoc ts t) ∙ sym (append_assoc (form_as k u) (forms_as k ts) (form_as k t))

  ends_snoc : (from : ℕ) (ts : List Topology) (t : Topology) → ends k from (ts ++ (t ∷ [])) ≡ ends k from ts ++ ((from + length (forms_as k ts) + size t) ∷ [])
  unfolding ends forms_as
  ends_snoc from [] t = ap (λ (n : ℕ). (n + size t) ∷ []) (omega arith)
  ends_snoc from (u ∷ ts) t =
      let e : from + size u + length (forms_as k ts) + size t ≡ from + length (form_as k u ++ forms_as k ts) + size t = omega (arith, length-append (form_as k u) (forms_as k ts)) in
      ap (λ (l : List ℕ). (from + size u) ∷ l) (ends_snoc (from + size u) ts t ∙ ap (λ (n : ℕ). ends k (from + size u) ts ++ (n ∷ [])) e)

-- ---- the loop: the first i trees are written
abbrev pub Part : Table → TableMemory → TableMemory → ℕ → ℕ → Type 0
Part table memory memory' at i = (ts : Trees) → KeepsTrees table ts → TextsWritten ts.kind (take i ts.trees) memory memory' at i

pub part_none : (table : Table) (memory : TableMemory) → Part table memory memory 0 0
unfolding forms_as ends
part_none table memory ts h = (record { behind = refl; cells = refl }, record { behind = refl; cells = refl })

good-take : (ts : List Topology) → AllGood ts → (i : ℕ) → AllGood (take i ts)
good-take [] g zero = tt
good-take [] g (suc i) = tt
good-take (t ∷ ts) g zero = tt
good-take (t ∷ ts) g (suc i) = (g.0, good-take ts g.1 i)

-- the text of the tree at i was written
abbrev Written-at : Table → ℕ → TableMemory → List ℕ → ℕ → ℕ → Type 0
Written-at table i memory texts' at at' = (x : Kinded) → KeepsKind (held_at table i) x → Wrote (form_as x.kind x.tree) memory.texts texts' at at'

module _ {table : Table} {memory memory' : TableMemory} {at i : ℕ} (P : Part table memory memory' at i) where
  -- there is room for the next
  module _ (R : TableRoom table memory) (h : i < table.len) where
    abbrev k : Kind
    k = R.kept.trees.kind

    abbrev ts : List Topology
    ts = R.kept.trees.trees

    inside : i < length ts
    inside = omega (arith, R.kept.keeps.all.count)

    next : KeepsKind (held_at table i) (record { kind = k; tree = tree_of ts i })
    next = keeps-kinded R.kept.keeps i inside

    place : at ≤ kind_bytes * i
    place =
        let w = (P R.kept.trees R.kept.keeps).0 in
        omega (arith, w.behind, forms-length k (take i ts) (good-take ts (keeps-good R.kept.keeps.all) i), length-take-le i ts (omega (arith, inside)))

    pub next_fits : KeptKindRoom (λ x. at + length (form_as x.kind x.tree)) (held_at table i) (length memory'.texts)
    next_fits = record {
      kinded = record { kind = k; tree = tree_of ts i };
      keeps = next;
      room = omega (arith, form-length_as k next.keeps.good, place, inside, R.kept.keeps.all.few, R.texts_room, wrote-length (P R.kept.trees R.kept.keeps).0);
    }

    pub number_fits : i < length memory'.ends
    number_fits = omega (arith, inside, R.kept.keeps.all.few, R.ends_room, wrote-length (P R.kept.trees R.kept.keeps).1)

    pub next_small : {texts'' : List ℕ} {at' : ℕ} → Written-at table i memory' texts'' at at' → at' ≤ table_bytes
    next_small w = omega (arith, (w (record { kind = k; tree = tree_of ts i }) next).behind, form-length_as k next.keeps.good, place, inside, R.kept.keeps.all.few)

  pub part_length : TableRoom table memory → (length memory'.texts ≡ length memory.texts) × (length memory'.ends ≡ length memory.ends)
  part_length R = let p = P R.kept.trees R.kept.keeps in (wrote-length p.0, wrote-length p.1)

  pub part-more : {texts'' : List ℕ} {at' : ℕ} → i < table.len → Written-at table i memory' texts'' at at'
      → Part table memory (text_slices texts'' (set memory'.ends i at')) at' (i + 1)
  part-more {at'} h w us H =
      let k = us.kind in
      let ts = us.trees in
      let l : i < length ts = omega (arith, H.all.count) in
      let t = tree_of ts i in
      let v = w (record { kind = k; tree = t }) (keeps-kinded H i l) in
      let p = P us H in
      let e : take (i + 1) ts ≡ take i ts ++ (t ∷ []) = rw add-one (take-suc ts i (leaf 0) l) in
      let n : at' ≡ 0 + length (forms_as k (take i ts)) + length (form_as k t) = omega (arith, v.behind, p.0.behind) in
      rw (e, forms-snoc, ends_snoc) (wrote-more p.0 v, rw (← n) (wrote-more p.1 (wrote_one memory'.ends i at')))

  pub part-all : i ≡ table.len → TableWritten table memory memory' at
  part-all e ts H =
      let f : take i ts.trees ≡ ts.trees = take_all i ts.trees (omega (arith, H.all.count)) in
      subst₂ (λ (us : List Topology) (n : ℕ). TextsWritten ts.kind us memory memory' at n) f (e ∙ H.all.count) (P ts H)

-- ---- the table call
module _ (s : List ℕ) (memory : TableMemory) where
  module _ {table : Table} (R : Given (table_call_read s memory) (KeepsTrees table)) where
    pub call-room : TableRoom table memory
    call-room =
        let room = lent-ample (table_slices memory) (table_read either s) R.is in
        record { kept = record { trees = R.value; keeps = R.keeps }; texts_room = room.0; ends_room = room.1 }

    pub call-written : {memory' : TableMemory} {n : ℕ} → TableWritten table memory memory' n → table_outcome (Ok (record { bytes = n; trees = table.len })) memory'.texts memory'.ends ≡ table_call s memory
    call-written {memory'} {n} w =
        let ts = R.value.trees in
        let forms = forms_as R.value.kind ts in
        let marks = ends R.value.kind 0 ts in
        let v = w R.value R.keeps in
        let few = R.keeps.all.few in
        let a : n ≡ length forms = v.0.behind ∙ zero-add (length forms) in
        let b : memory'.texts ≡ written forms memory.texts =
        v.0.cells ∙ sets-start memory.texts forms (omega (arith, forms-length R.value.kind ts (keeps-good R.keeps.all), few, call-room.texts_room)) in
        let c : memory'.ends ≡ written marks memory.ends = v.1.cells ∙ sets-start memory.ends marks (omega (arith, ends-length R.value.kind 0 ts, few, call-room.ends_room)) in
        same n (length forms) table.len (length ts) memory'.texts (written forms memory.texts) memory'.ends (written marks memory.ends) a R.keeps.all.count b c ∙
        concluded memory (λ table. table_of table memory) R.is
      where
        same : (n n' k k' : ℕ) (x x' y y' : List ℕ) → n ≡ n' → k ≡ k' → x ≡ x' → y ≡ y' → table_outcome (Ok (record { bytes = n; trees = k })) x y ≡ record { answer = accepted (record { bytes = n'; trees = k' }); memory = record { texts = x'; ends = y' } }
        same n n' k k' x x' y y' a b c d = rw (a, b, c, d)
