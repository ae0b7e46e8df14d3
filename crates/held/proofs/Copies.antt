-- Copies of a table's trees in memory: equal records keep one topology, and the first copy is found by comparing from the start on.
-- Assumes nothing.
use mathlib.Core.Path.{◌≡◌, refl, sym, ap, ◌∙◌}
use mathlib.Core.Logic.{◌↔◌}
use mathlib.Core.Bool.{Bool, true, false}
use mathlib.Core.List.{List}
use Prim.Native.Nat.{ℕ, ◌≤◌, ◌<◌}
use native.Mathlib.Omega.{arith}
use lib.Dec.{T}
use lib.ListN.{length, take, get_or}
use lib.Seq.{get_or-take, length-take-le}
use Rattle.std.specs.List.{AllWithin, HoldsAt}
use Rattle.std.specs.Str.{bytes_eq}
use Rattle.std.specs.Option.{MatchOption, unwrap_or}
use Rattle.std.specs.declared.option.Option.{Option}
use Rattle.std.specs.declared.option.Option.TheVariants.{Some, None}
use Rattle.std.proofs.lemmas.Bool.Decides.{Decides-eqb}
use Rattle.std.proofs.lemmas.Slice.Eq.{slice_eq-Decides}
use Rattle.meaning.specs.Tree.{Tree as Topology, leaf, SameTopology, canon}
use Rattle.meaning.specs.Decide.{is_same_topology}
use Rattle.meaning.specs.Listing.{tree_of, copy_of}
use Rattle.meaning.specs.Copies.{first_of}
use Rattle.meaning.proofs.Canon.{topology-iff-canon}
use Rattle.meaning.proofs.Unlinked.{copy-canon, copy-iff}
use Rattle.meaning.proofs.Copies.{first-is}
use Rattle.lent.specs.Runs.{Says}
use Rattle.lent.proofs.Says.{says, says_decided}
use Rattle.held.specs.Held.{hold}
use Rattle.held.specs.Kept.{Keeps, KeepsAll, held_at, no_record}
use Rattle.held.specs.declared.Tree.{Tree}
use Rattle.held.specs.declared.Table.{Table}
use Rattle.held.proofs.Laws.{unique}
use Rattle.held.proofs.Kept.{keeps-holds, keeps-good}

-- equal bytes are equal topologies
module _ {a b : Tree} {t u : Topology} (k : Keeps a t) (l : Keeps b u) where
  canon-iff : (a.node ≡ b.node) ↔ (canon t ≡ canon u)
  canon-iff = (
    λ e. unique (keeps-holds k) (rw (← e) at (keeps-holds l)),
    λ e. k.bytes ∙ ap hold e ∙ sym l.bytes,
  )

  pub topology-says : (r : Bool) → r ≡ bytes_eq a.node b.node → Says r (SameTopology t u)
  topology-says r e =
      let canons = topology-iff-canon k.good.distinct l.good.distinct in
      says (a.node ≡ b.node) (SameTopology t u) (λ e. canons.1 (canon-iff.0 e)) (λ s. canon-iff.1 (canons.0 s)) r
      (says_decided _ r (slice_eq-Decides Decides-eqb a.node b.node r e))

-- whether the record at i has the bytes of another
abbrev pub Alike : Table → ℕ → Bool → Tree → Type 0
Alike table i r tree = r ≡ bytes_eq (held_at table i).node tree.node

-- the first position before i whose record has the bytes of that at i, if there is one, is the first copy, and else i is
module _ {table : Table} {i : ℕ} (h : i < table.len) (room : i ≤ length table.trees) {ts : List Topology} (k : KeepsAll table ts) where
  told-copy : (j : ℕ) → j < i → (r : Bool) → Alike table i r (get_or (take i table.trees) j no_record) → Says r (T (copy_of ts i j))
  told-copy j l r e =
      let inside : i < length ts = omega (arith, k.count) in
      let inside' : j < length ts = omega (arith, k.count) in
      let iff = copy-iff ts (keeps-good k) i j inside inside' in
      let e' : Alike table i r (held_at table j) = rw (get_or-take i table.trees j no_record l) at e in
      says (SameTopology (tree_of ts i) (tree_of ts j)) (T (copy_of ts i j)) iff.1 iff.0 r (topology-says (k.each i inside) (k.each j inside') r e')

  first-at : (j : ℕ) → j ≤ i → T (copy_of ts i j) → ((m : ℕ) (d : Tree) → 0 ≤ m → m < j → Alike table i false (get_or (take i table.trees) m d)) → first_of ts i ≡ j
  first-at j l copy none =
      first-is (is_same_topology (tree_of ts i)) (leaf 0) ts j (omega (arith, k.count)) copy (λ m b. told-copy m (omega arith) false (none m no_record (omega arith) b))

  pub first_found : (r : Option ℕ)
      → MatchOption r (AllWithin (Alike table i false) (take i table.trees) 0 (length (take i table.trees)))
      (λ j. (j < length (take i table.trees)) × HoldsAt (Alike table i true) (take i table.trees) j × AllWithin (Alike table i false) (take i table.trees) 0 j)
      → first_of ts i ≡ unwrap_or r i
  first_found None none = first-at i (omega arith) ((copy-canon ts i i).1 refl) (λ m d z l. none m d z (omega (arith, length-take-le i table.trees room)))
  first_found (Some j) (l, is, none) =
      let l' : j < i = omega (arith, length-take-le i table.trees room) in
      first-at j (omega arith) (told-copy j l' true (is no_record)) none
