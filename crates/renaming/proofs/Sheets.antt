-- The pair lister's sheets of one sample: the pairs, the neighbour counts and the unlinked numbers go with the trees.
-- Assumes nothing.
use mathlib.Core.Path.{◌≡◌, sym, ap, subst, ◌∙◌}
use mathlib.Core.List.{List}
use Prim.Native.Nat.{ℕ, ◌<◌}
use native.Mathlib.Omega.{arith}
use lib.ListN.{length}
use Rattle.meaning.specs.Kind.{Kind, Trees, either}
use Rattle.meaning.specs.EitherKind.{ApartAs}
use Rattle.meaning.specs.Listing.{Pair, Listing, At, unlinked}
use Rattle.meaning.specs.Copies.{kept_apart}
use Rattle.meaning.specs.Answer.{accepted}
use Rattle.meaning.specs.Calls.{table_read}
use Rattle.meaning.specs.Sheet.{Printout, prints, sheet, shows_pairs, Sheet, SheetOf}
use Rattle.meaning.proofs.EitherKind.{AllStand}
use Rattle.meaning.proofs.Unlinked.{unlinked-neighbours-copies}
use Rattle.meaning.proofs.Stands.{given-stand}
use Rattle.meaning.proofs.Calls.{tells-accepted, table-tells, TableGiven}
use Rattle.meaning.proofs.Determined.{same-accepted, not-both}
use Rattle.renaming.specs.Renaming.{rename_text, Rule}
use Rattle.renaming.specs.Reordering.{Order, came, reorder_table, reorder_text, SameSample}
use Rattle.renaming.specs.Outcomes.{SameSheet}
use Rattle.renaming.proofs.Orders.{came-inside, position_at}
use Rattle.renaming.proofs.MovedPairs.{Carried, joined-moved, neighbours-moved, pairs-moved}
use Rattle.renaming.proofs.Sample.{moves_so, carried, copies-moved}
use Rattle.renaming.proofs.Firsts.{copies-same}
use Rattle.renaming.proofs.Calls.{listing-as}
use Rattle.renaming.proofs.ReorderedText.{reordered-accepted}
use Rattle.renaming.proofs.TwoTables.{reordered-sample}
use Rattle.renaming.proofs.Renaming.{sample, same-listing}

-- the listing that a sheet shows
has-printed : {s x : List ℕ} {table : Trees} → table_read either s ≡ accepted table → Sheet s x
    → (ps : List Pair) × (x ≡ sheet table ps) × Listing (length table.trees) (At (ApartAs table.kind) table.trees) ps
has-printed {s} {table} e (prints t x h w) = shown t x h w
  where
    shown : (t : Trees) (x : List ℕ) → table_read either s ≡ accepted t → SheetOf t x → (ps : List Pair) × (x ≡ sheet table ps) × Listing (length table.trees) (At (ApartAs table.kind) table.trees) ps
    shown t x h (shows_pairs ps L) =
        let y = same-accepted h e in
        (ps, ap (λ (v : Trees). sheet v ps) y, subst (λ (v : Trees). Listing (length v.trees) (At (ApartAs v.kind) v.trees) ps) y L)
has-printed e (Printout.refuses n i p h) = absurd (not-both e h)

-- copies of one sample's trees are copies
pub stand-after : {f : ℕ → ℕ} {order s' : List ℕ} {table table' : Trees} → SameSample f order table table' → TableGiven either s' table' → AllStand table.kind table'.trees
stand-after {table'} S g = subst (λ (k : Kind). AllStand k table'.trees) S.kind (given-stand g)

-- one sample in two texts, and its listings
module _ (s s' : List ℕ) {table table' : Trees} (e : table_read either s ≡ accepted table) (e' : table_read either s' ≡ accepted table')
    {f : ℕ → ℕ} {order : List ℕ} (S : SameSample f order table table') where
  given : TableGiven either s table
  given = tells-accepted (table-tells either s) e

  given' : TableGiven either s' table'
  given' = tells-accepted (table-tells either s') e'

  abbrev Moves : Trees → List Pair → Type 0
  Moves t ps = Listing (length t.trees) (At (ApartAs t.kind) t.trees) ps

  moved : Carried (length table.trees) order (At (ApartAs table.kind) table.trees) (At (ApartAs table.kind) table'.trees)
  moved = carried S given.good given'.good (moves_so table.kind)

  renamed-listing : {qs : List Pair} → Moves table' qs → Listing (length table.trees) (At (ApartAs table.kind) table'.trees) qs
  renamed-listing Q = listing-as kept_apart table'.trees S.kind S.as_many Q

  -- the unlinked are all but the neighbours and the copies, which go with the trees
  pub unlinked-moved : {ps qs : List Pair} → Moves table ps → Moves table' qs → (i : ℕ) → i < length table.trees → unlinked table'.trees qs i ≡ unlinked table.trees ps (came order i)
  unlinked-moved P Q i h =
      let l : i < length table'.trees = omega (arith, S.as_many) in
      omega (
        arith,
        unlinked-neighbours-copies table'.kind table'.trees given'.good Q i l,
        unlinked-neighbours-copies table.kind table.trees given.good P (came order i) (came-inside S.placed i h),
        neighbours-moved moved P (renamed-listing Q) i h,
        copies-same table.trees table'.trees S.placed S.as_many (copies-moved S given.good given'.good (given-stand given) (stand-after S given')) i h,
        S.as_many,
      )

  -- the two sheets
  pub sample-sheet : {x x' : List ℕ} → Sheet s x → Sheet s' x' → SameSheet order table table' x x'
  sample-sheet p p' =
      let (ps, x, P) = has-printed e p in
      let (qs, y, Q) = has-printed e' p' in
      let M = renamed-listing Q in
      record {
        pairs = ps;
        pairs' = qs;
        before = x;
        after = y;
        as_many = pairs-moved moved P M;
        listed = joined-moved moved P M;
        counts = neighbours-moved moved P M;
        numbers_unlinked = unlinked-moved P Q;
      }

-- the trees' pieces of a text in another order
pub reordered-sheet : (s : List ℕ) {table : Trees} → table_read either s ≡ accepted table → (order : List ℕ) → Order (length table.trees) order
    → {x x' : List ℕ} → Sheet s x → Sheet (reorder_text order s) x' → SameSheet order table (reorder_table order table) x x'
reordered-sheet s e order O p p' =
    sample-sheet s (reorder_text order s) e (reordered-accepted either s e order O) (reordered-sample (tells-accepted (table-tells either s) e).good O) p p'

-- labels replaced: the very same pairs, and in each line the same numbers; only the trees' texts differ
pub renamed-sheet : (f : ℕ → ℕ) (s : List ℕ) {table table' : Trees} → table_read either s ≡ accepted table → table_read either (rename_text f s) ≡ accepted table' → Rule f table.trees
    → {x x' : List ℕ} → Sheet s x → Sheet (rename_text f s) x'
    → (ps : List Pair) × (x ≡ sheet table ps) × (x' ≡ sheet table' ps) × ((i : ℕ) → i < length table.trees → unlinked table'.trees ps i ≡ unlinked table.trees ps i)
renamed-sheet f s {table} {table'} e e' r p p' =
    let n = length table.trees in
    let (ps, x, P) = has-printed e p in
    let (qs, y, Q) = has-printed e' p' in
    let same = same-listing either f s e e' r kept_apart P Q in (
      ps,
      x,
      y ∙ ap (sheet table') same,
      λ i h.
          sym (ap (λ (rs : List Pair). unlinked table'.trees rs i) same)
          ∙ unlinked-moved s (rename_text f s) e e' (sample either f s e e' r) P Q i h
          ∙ ap (unlinked table.trees ps) (position_at n i h),
    )
