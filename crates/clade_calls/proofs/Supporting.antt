-- The ways through the support call: the table is read, its clades are listed and its majority tree is written.
-- Assumes nothing.
use mathlib.Core.Path.{◌≡◌, refl, sym, ap, ◌∙◌}
use mathlib.Core.List.Memᴰ
use mathlib.Core.List.{List, [], ◌∷◌}
use Prim.Native.Nat.{ℕ, ◌≤◌, ◌<◌}
use native.Mathlib.Nat.{zero-add}
use native.Mathlib.Omega.{arith}
use lib.ListN.{length, length-map}
use Rattle.meaning.specs.Limits.{form_bytes}
use Rattle.meaning.specs.Tree.{Tree as Topology, leaf}
use Rattle.meaning.specs.Kind.{rooted_only}
use Rattle.meaning.specs.Clade.{clade}
use Rattle.meaning.specs.Listing.{tree_of}
use Rattle.meaning.specs.Answer.{accepted}
use Rattle.meaning.specs.Calls.{table_read}
use Rattle.meaning.proofs.Lists.{number, numbered}
use Rattle.meaning.proofs.Canon.{canon-≈}
use Rattle.meaning.proofs.Clade.{clade-≈}
use Rattle.meaning.proofs.Calls.{tells-accepted}
use Rattle.meaning.proofs.Lent.{lent-ample}
use Rattle.lent.specs.Runs.{Wrote}
use Rattle.lent.proofs.Runs.{sets-start, wrote-length}
use Rattle.held.specs.Kept.{Keeps, KeepsAll, KeepsTrees}
use Rattle.held.specs.declared.Tree.{Tree}
use Rattle.held.specs.declared.Table.{Table}
use Rattle.held.proofs.Kept.{keeps-holds}
use Rattle.held.proofs.Laws.{unique}
use Rattle.tables.specs.Lent.{Given}
use Rattle.families.specs.Support.{holders, supported, support, max_clades}
use Rattle.families.specs.Majority.{majority_text}
use Rattle.families.specs.SupportCall.{SupportMemory, support_slices, support_read, support_of}
use Rattle.families.proofs.Support.{OneSet, supported-9921}
use Rattle.families.proofs.Tables.{whole_of, one_set}
use Rattle.families.proofs.MajorityText.{majority-length}
use Rattle.families.proofs.SupportCall.{support-tells}
use Rattle.support.specs.Supports.{SupportRoom, SupportListed}
use Rattle.support.proofs.Supports.{kept-good, begins}
use Rattle.majority.specs.Texts.{MajorityRoom}
use Rattle.clade_calls.specs.Paper.{support_outcome}
use Rattle.clade_calls.specs.Tabled.{SupportCallRoom}
use Rattle.std.specs.Prelude.{Ok}

-- ---- one label set
-- trees that one record keeps have one label set
keeps-clade : {tree : Tree} {t u : Topology} → Keeps tree t → Keeps tree u → clade t ≡ clade u
keeps-clade {t} {u} k l = sym (clade-≈ (canon-≈ t)) ∙ ap clade (unique (keeps-holds k) (keeps-holds l)) ∙ clade-≈ (canon-≈ u)

-- so whatever trees a table keeps have that of those which it was read from
kept-one : {table : Table} {whole : ℕ} (ts us : List Topology) → KeepsAll table ts → KeepsAll table us → OneSet whole ts → OneSet whole us
kept-one ts us H K one u m =
    let (i, inside, e) = number (leaf 0) m in
    let within : i < length ts = omega (arith, inside, H.count, K.count) in
    ap clade (sym e) ∙ keeps-clade (K.each i inside) (H.each i within) ∙ one (tree_of ts i) (numbered ts (leaf 0) i within)

-- ---- the table's clades and its majority tree
module _ {table : Table} {memory : SupportMemory} (R : SupportCallRoom table memory) where
  few : (ts : List Topology) → KeepsAll table ts → length (supported ts) ≤ max_clades
  few ts H = supported-9921 ts (kept-good ts H) R.whole (R.one ts H) H.few

  text-few : (ts : List Topology) → KeepsAll table ts → length (majority_text ts) ≤ form_bytes
  unfolding majority_text
  text-few [] H = omega arith
  text-few (t ∷ ts) H = majority-length t ts (kept-good (t ∷ ts) H) (λ u i. R.one (t ∷ ts) H u i ∙ sym (R.one (t ∷ ts) H t (Memᴰ.head refl)))

  pub list-room : SupportRoom table memory.clades memory.numbers
  list-room = record {
    kept = R.kept;
    room = λ ts H. omega (arith, few ts H, R.clades_room);
    rooms = λ ts H. omega (arith, few ts H, R.numbers_room);
  }

  module _ {clades' numbers' : List ℕ} {n : ℕ} (S : (ts : List Topology) → KeepsAll table ts → SupportListed ts memory.clades clades' memory.numbers numbers' n) where
    n-few : n ≤ max_clades
    n-few = let H = R.kept.keeps in omega (arith, (S R.kept.trees H).each.behind, few R.kept.trees H)

    pub text-room : MajorityRoom table clades' numbers' n (length memory.text)
    text-room =
        let s = S R.kept.trees R.kept.keeps in
        record {
          kept = R.kept;
          whole = R.whole;
          one = R.one;
          lists = λ ts H. record {
            each = begins (omega (arith, n-few, R.clades_room)) (S ts H).each;
            often = begins (omega (arith, n-few, R.numbers_room)) (S ts H).often;
          };
          inside = omega (arith, n-few, R.clades_room, wrote-length s.each);
          beside = omega (arith, n-few, R.numbers_room, wrote-length s.often);
          room = R.text-room;
        }

    -- all three slices are as the definition says, and so are the numbers
    pub support-written : {text' : List ℕ} {m k : ℕ} → ((ts : List Topology) → KeepsAll table ts → Wrote (majority_text ts) memory.text text' 0 m)
        → (ts : List Topology) → KeepsAll table ts → k ≡ length ts → support_outcome (Ok (record { clades = n; bytes = m; trees = k })) clades' numbers' text' ≡ support_of ts memory
    support-written W ts H e =
        let s = S ts H in
        let w = W ts H in
        let long = length-map (supported ts) (holders ts) in
        same
        (s.each.behind ∙ zero-add (length (supported ts))) (w.behind ∙ zero-add (length (majority_text ts))) e
        (s.each.cells ∙ sets-start memory.clades (supported ts) (omega (arith, few ts H, R.clades_room)))
        (s.often.cells ∙ sets-start memory.numbers (support ts) (omega (arith, long, few ts H, R.numbers_room)))
        (w.cells ∙ sets-start memory.text (majority_text ts) (omega (arith, text-few ts H, R.text-room)))
      where
        same : {n n' m m' k k' : ℕ} {x x' y y' z z' : List ℕ} → n ≡ n' → m ≡ m' → k ≡ k' → x ≡ x' → y ≡ y' → z ≡ z'
            → support_outcome (Ok (record { clades = n; bytes = m; trees = k })) x y z ≡ record { answer = accepted (record { clades = n'; bytes = m'; trees = k' }); memory = record { clades = x'; numbers = y'; text = z' } }
        same a b c d e f = rw (a, b, c, d, e, f)

-- ---- the support call
module _ (s : List ℕ) (memory : SupportMemory) {table : Table} (R : Given (support_read s memory) (KeepsTrees table)) where
  pub call-room : SupportCallRoom table memory
  call-room =
      let ts = R.value.trees in
      let room = lent-ample (support_slices memory) (table_read rooted_only s) R.is in
      record {
        kept = record { trees = ts; keeps = R.keeps.all };
        whole = whole_of ts;
        one = λ us H. kept-one ts us R.keeps.all H (one_set (tells-accepted (support-tells s memory) R.is));
        clades_room = room.0;
        numbers_room = room.1.0;
        text-room = room.1.1;
      }
