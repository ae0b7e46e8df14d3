-- A table's text with its trees' pieces in another order is accepted, and is read as the trees in that order.
-- Assumes nothing.
use mathlib.Core.Path.{◌≡◌, refl, sym, ap, ap₂, subst, ◌∙◌}
use mathlib.Core.List.Memᴰ
use mathlib.Core.List.{List, [], ◌∷◌, map, Memᴰ}
use Prim.Native.Nat.{ℕ, zero, suc, ◌+◌, ◌≤◌, ◌<◌}
use native.Mathlib.Omega.{arith}
use lib.ListN.{length, get_or, length-map, length-append}
use lib.Seq.{ext_get_or}
use Rattle.meaning.specs.Limits.{text_bytes, max_trees}
use Rattle.meaning.specs.Lists.{positions}
use Rattle.meaning.specs.Kind.{Kinded, Trees, as_trees, Takes}
use Rattle.meaning.specs.Listing.{tree_of}
use Rattle.meaning.specs.Answer.{accepted}
use Rattle.meaning.specs.Reading.{is_blank}
use Rattle.meaning.specs.Grammar.{All, TreeText, TreesText, LikeIt, Alike, Taken, AllAlike, TableText}
use Rattle.meaning.specs.Calls.{table_read}
use Rattle.meaning.proofs.Same.{clade-trans}
use Rattle.meaning.proofs.Splits.{clade-refl, clade-sym}
use Rattle.meaning.proofs.Lists.{get_d_map}
use Rattle.meaning.proofs.Positions.{mem-positions, positions-length}
use Rattle.meaning.proofs.Sums.{total, total-le}
use Rattle.meaning.proofs.Calls.{tells-accepted, table-tells}
use Rattle.renaming.specs.Reordering.{Order, reorder, reorder_table, pieces, behind_from, joined_texts, reorder_text}
use Rattle.renaming.proofs.RenamedTable.{trees_of}
use Rattle.renaming.proofs.RenamedRead.{as-trees, accepted-length, text-accepted}
use Rattle.renaming.proofs.Orders.{position_at}
use Rattle.renaming.proofs.Pieces.{no_tree, Pieces, trees-pieces}

-- the trees with their kinds, in that order
abbrev reorder_kinded : List ℕ → List Kinded → List Kinded
reorder_kinded order xs = map (λ i. get_or xs i no_tree) order

-- ---- the text
-- it is the text of the trees in that order
reordered-trees : (xs : List Kinded) (ps : List (List ℕ)) (z : List ℕ) → ((i : ℕ) → i < length xs → TreeText (get_or xs i no_tree) (get_or ps i [])) → All is_blank z
    → (order : List ℕ) → ((i : ℕ) → Memᴰ i order → i < length xs) → TreesText (reorder_kinded order xs) (joined_texts (map (λ i. get_or ps i []) order) z)
unfolding joined_texts
reordered-trees xs ps z each blank [] inside = TreesText.none z blank
reordered-trees xs ps z each blank (i ∷ order) inside =
    TreesText.more (each i (inside i (Memᴰ.head refl))) (reordered-trees xs ps z each blank order (λ j m. inside j (Memᴰ.tail m)))

-- and as long
joined_length : (xs : List (List ℕ)) (z : List ℕ) (ks : List ℕ) → length (joined_texts (map (λ i. get_or xs i []) ks) z) ≡ total (λ i. length (get_or xs i [])) ks + length z
unfolding joined_texts
joined_length xs z [] = omega arith
joined_length xs z (k ∷ ks) = length-append (get_or xs k []) _ ∙ omega (arith, joined_length xs z ks)

all-at : (xs : List (List ℕ)) → map (λ i. get_or xs i []) (positions (length xs)) ≡ xs
all-at xs =
    let n = length xs in
    let at : ℕ → List ℕ = λ i. get_or xs i [] in
    ext_get_or [] (map at (positions n)) xs (length-map (positions n) at ∙ positions-length n) (λ i h.
    let l : i < n = omega (arith, length-map (positions n) at, positions-length n) in
    get_d_map at (positions n) i 0 [] (omega (arith, positions-length n)) ∙ ap at (position_at n i l))

-- or shorter
reordered-length : {xs : List Kinded} {s : List ℕ} → Pieces xs s → {order : List ℕ} → Order (length xs) order → length (reorder_text order s) ≤ length s
reordered-length {xs} {s} P {order} O =
    let ps = pieces s in
    let z = behind_from [] s in
    let size : ℕ → ℕ = λ i. length (get_or ps i []) in
    omega (
      arith,
      joined_length ps z order,
      joined_length ps z (positions (length ps)),
      total-le size order (positions (length ps)) O.once (λ l m. mem-positions (length ps) l (let h = O.inside l m in omega (arith, h, P.many))),
      ap (λ (qs : List (List ℕ)). length (joined_texts qs z)) (all-at ps),
      ap length P.whole,
    )

-- ---- one kind and one label set
like-itself : (x : Kinded) → LikeIt x x
like-itself x = record { kinds = refl; labels = clade-refl x.tree }

like-turned : {x y : Kinded} → LikeIt x y → LikeIt y x
like-turned h = record { kinds = sym h.kinds; labels = clade-sym h.labels }

like-then : {x y z : Kinded} → LikeIt x y → LikeIt y z → LikeIt x z
like-then {x} {y} {z} h k = record { kinds = h.kinds ∙ k.kinds; labels = clade-trans {s = x.tree} {r = y.tree} {v = z.tree} h.labels k.labels }

alike_at : (x : Kinded) (xs : List Kinded) → Alike x xs → (i : ℕ) → i < length xs → LikeIt x (get_or xs i no_tree)
unfolding Alike
alike_at x [] a i h = absurd (omega arith)
alike_at x (y ∷ xs) a zero h = a.0
alike_at x (y ∷ xs) a (suc i) h = alike_at x xs a.1 i (omega arith)

-- each tree is like each
all-like : (takes : Takes) (xs : List Kinded) → AllAlike takes xs → (i j : ℕ) → i < length xs → j < length xs → LikeIt (get_or xs i no_tree) (get_or xs j no_tree)
unfolding AllAlike
all-like takes [] a i j h l = absurd (omega arith)
all-like takes (x ∷ xs) a i j h l = like-then (like-turned (first i h)) (first j l)
  where
    first : (i : ℕ) → i < suc (length xs) → LikeIt x (get_or (x ∷ xs) i no_tree)
    first zero h = like-itself x
    first (suc i) h = alike_at x xs a.1 i (omega arith)

all-taken : (takes : Takes) (xs : List Kinded) → AllAlike takes xs → (i : ℕ) → i < length xs → Taken takes (get_or xs i no_tree).kind
unfolding AllAlike
all-taken takes [] a i h = absurd (omega arith)
all-taken takes (x ∷ xs) a i h = subst (Taken takes) (all-like takes (x ∷ xs) a 0 i (omega arith) h).kinds a.0

list-alike : (x : Kinded) (ys : List Kinded) → ((y : Kinded) → Memᴰ y ys → LikeIt x y) → Alike x ys
unfolding Alike
list-alike x [] f = tt
list-alike x (y ∷ ys) f = (f y (Memᴰ.head refl), list-alike x ys (λ z m. f z (Memᴰ.tail m)))

reordered-alike : (takes : Takes) (xs : List Kinded) → AllAlike takes xs → (order : List ℕ) → ((i : ℕ) → Memᴰ i order → i < length xs) → AllAlike takes (reorder_kinded order xs)
unfolding AllAlike
reordered-alike takes xs a [] inside = tt
reordered-alike takes xs a (i ∷ order) inside =
    let h = inside i (Memᴰ.head refl) in
    let at : ℕ → Kinded = λ i. get_or xs i no_tree in (
      all-taken takes xs a i h,
      list-alike (at i) (map at order) (λ y m.
          let (j, n, e) = Memᴰ.of_map at order m in
          subst (LikeIt (at i)) e (all-like takes xs a i j h (inside j (Memᴰ.tail n)))),
    )

-- ---- what is read
-- the text of a table with its pieces in another order is that of the trees in that order
table-reordered : {takes : Takes} {xs : List Kinded} {s : List ℕ} → TableText takes xs s → {order : List ℕ} → Order (length xs) order → TableText takes (reorder_kinded order xs) (reorder_text order s)
table-reordered {takes} {xs} {s} T {order} O =
    let P = trees-pieces T.trees in
    record {
      trees = reordered-trees xs (pieces s) (behind_from [] s) P.each P.blank order O.inside;
      few = let few : length (reorder_kinded order xs) ≤ max_trees = omega (arith, length-map order (λ i. get_or xs i no_tree), O.all, T.few) in few;
      alike = reordered-alike takes xs T.alike order O.inside;
    }

tree-at : (xs : List Kinded) (i : ℕ) → (get_or xs i no_tree).tree ≡ tree_of (trees_of xs) i
tree-at [] i = refl
tree-at (x ∷ xs) zero = refl
tree-at (x ∷ xs) (suc i) = tree-at xs i

trees-reordered : (xs : List Kinded) (order : List ℕ) → trees_of (reorder_kinded order xs) ≡ reorder order (trees_of xs)
trees-reordered xs [] = refl
trees-reordered xs (i ∷ order) = ap₂ ◌∷◌ (tree-at xs i) (trees-reordered xs order)

kind-reordered : (takes : Takes) (xs : List Kinded) → AllAlike takes xs → (order : List ℕ) → Order (length xs) order → (as_trees (reorder_kinded order xs)).kind ≡ (as_trees xs).kind
kind-reordered takes [] a [] O = refl
kind-reordered takes [] a (i ∷ order) O = let h = O.inside i (Memᴰ.head refl) in absurd (omega arith)
kind-reordered takes (x ∷ xs) a [] O = let e = O.all in absurd (omega arith)
kind-reordered takes (x ∷ xs) a (i ∷ order) O = sym (all-like takes (x ∷ xs) a 0 i (omega arith) (O.inside i (Memᴰ.head refl))).kinds

-- the text with its pieces in another order is accepted, and read as the trees in that order
pub reordered-accepted : (takes : Takes) (s : List ℕ) {table : Trees} → table_read takes s ≡ accepted table → (order : List ℕ) → Order (length table.trees) order
    → table_read takes (reorder_text order s) ≡ accepted (reorder_table order table)
reordered-accepted takes s {table} e order O =
    let given = tells-accepted (table-tells takes s) e in
    let xs = given.listed in
    let same : table.trees ≡ trees_of xs = ap (λ (x : Trees). x.trees) given.is ∙ as-trees xs in
    let O' : Order (length xs) order = subst (λ (n : ℕ). Order n order) (ap length same ∙ length-map xs (λ (x : Kinded). x.tree)) O in
    let T = table-reordered given.text O' in
    let short : length (reorder_text order s) ≤ text_bytes = omega (arith, reordered-length (trees-pieces given.text.trees) O', accepted-length takes s e) in
    let kinds : (as_trees (reorder_kinded order xs)).kind ≡ table.kind = kind-reordered takes xs given.text.alike order O' ∙ sym (ap (λ (x : Trees). x.kind) given.is) in
    let trees : (as_trees (reorder_kinded order xs)).trees ≡ reorder order table.trees = as-trees (reorder_kinded order xs) ∙ trees-reordered xs order ∙ sym (ap (reorder order) same) in
    text-accepted T short ∙ ap accepted (λ x. record { kind = kinds x; trees = trees x })
