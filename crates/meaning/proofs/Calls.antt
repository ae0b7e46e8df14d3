-- What each call accepts and refuses: trees of the grammar, lines of the list that it can give, places in the text; an outcome for every text.
-- Assumes nothing.
use mathlib.Core.Path.{◌≡◌, refl, sym, subst}
use mathlib.Core.Logic.{◌↔◌, ◌⊎◌, inl, inr}
use mathlib.Core.Bool.{Bool, true, false, cond, ◌&&◌}
use mathlib.Core.List.{List, [], ◌∷◌, ◌++◌, map, Memᴰ}
use Prim.Native.Nat.{ℕ, zero, suc, ◌-◌, ◌*◌, ◌≤◌, ◌<◌}
use native.Mathlib.Omega.{arith}
use borrow.Author.Tests.{ltb-true}
use lib.Dec.{T, eqb, eqb→eq, eqb_refl, ltb}
use lib.ListN.{length}
use Rattle.meaning.specs.Limits.{text_bytes}
use Rattle.meaning.specs.Lists.{any}
use Rattle.meaning.specs.Tree.{Tree, Distinct, Good, AllGood, leaves}
use Rattle.meaning.specs.Interchange.{OneInterchange}
use Rattle.meaning.specs.Reading.{Read, got, refused, read_tree, read_table, unlike}
use Rattle.meaning.specs.Kind.{Kind, rooted, Kinded, Trees, as_trees, Takes, either, rooted_only}
use Rattle.meaning.specs.EitherKind.{ApartAs, is_apart_as}
use Rattle.meaning.specs.Refusals.{one_refusals, form_refusals, cut_refusals, pair_refusals, table_call_refusals, sheet_refusals, sheet_call_refusals}
use Rattle.meaning.specs.Grammar.{OneText, Taken, LikeIt, TableText}
use Rattle.meaning.specs.Listing.{Pair, Listing, At, tree_of}
use Rattle.meaning.specs.Loops.{pairs_of}
use Rattle.meaning.specs.Decide.{is_one_interchange}
use Rattle.meaning.specs.Islands.{unite_all}
use Rattle.meaning.specs.Copies.{first_of, firsts_of, Choice, merged, kept_apart, LinkedBy, MergedIslands}
use Rattle.meaning.specs.Compared.{comparison}
use Rattle.meaning.specs.Answer.{Answer, accepted, refusal, Outcome, Comparison, TableMemory, GraphSize, GraphMemory, FirstsMemory, IslandsMemory, text_of, onward, conclude}
use Rattle.meaning.specs.Calls.{enough, lent, limited, answered, form_slices, form_read, has_cut, cut_slices, cut_read, together, beside, pair_reading, PairCall, stands_apart, not_apart, table_read, table_slices, table_call_read, graph_slices, graph_read, graph_of, Lists, lists, InterchangeCall, firsts_slices, firsts_read, firsts_graph_of, ChoosingCall, GraphCall, islands_slices, islands_read, island_graph_of, IslandsCall, numbers}
use Rattle.meaning.specs.Sheet.{refusal_line, Printout, prints, sheet, shows_pairs, Sheet, sheet_slices, sheet_given, SheetCall, gives}
use Rattle.meaning.specs.IslandSheet.{island_lines, shows_islands, IslandSheet}
use Rattle.meaning.proofs.Logic.{clash, cases, T_and}
use Rattle.meaning.proofs.Lists.{one_of, Among, among}
use Rattle.meaning.proofs.EitherKind.{apart_as-iff}
use Rattle.meaning.proofs.Interchanges.{one_interchange-iff}
use Rattle.meaning.proofs.Listing.{listing-iff, pairs_of-lists}
use Rattle.meaning.proofs.MergedIslands.{merged-found}
use Rattle.meaning.proofs.Sound.{read-iff, read-good, read_behind}
use Rattle.meaning.proofs.Alike.{unlike-iff, unlike-line}
use Rattle.meaning.proofs.TableText.{good-at, table-iff, table-good}
use Rattle.meaning.proofs.Places.{Standing, Placed, placed-among, read-refused, table-refused}

-- P holds of what is accepted, or Q of the refusal
pub data Tells {A : Type 0} (P : A → Type 0) (Q : ℕ → ℕ → ℕ → Type 0) : Answer A → Type 0 where
  accepts : {x : A} → P x → Tells P Q (accepted x)
  denies : {n i p : ℕ} → Q n i p → Tells P Q (refusal n i p)

module _ {A : Type 0} {P : A → Type 0} {Q : ℕ → ℕ → ℕ → Type 0} where
  pub tells-accepted : {a : Answer A} {x : A} → Tells P Q a → a ≡ accepted x → P x
  tells-accepted {x} (accepts {x = y} h) e = let z : y ≡ x = cc in subst P z h
  tells-accepted (denies h) e = clash cc

  pub tells-refusal : {a : Answer A} {n i p : ℕ} → Tells P Q a → a ≡ refusal n i p → Q n i p
  tells-refusal (accepts h) e = clash cc
  tells-refusal {n} {i} {p} (denies {n = m} {i = j} {p = q} h) e = let x : m ≡ n = cc in let y : j ≡ i = cc in let z : q ≡ p = cc in rw (← x, ← y, ← z) h

  pub lent-tells : (b : Bool) {a : Answer A} → Q 7 0 0 → Tells P Q a → Tells P Q (lent b a)
  lent-tells true h t = t
  lent-tells false h t = denies h

  pub limited-tells : (i : ℕ) (s : List ℕ) {a : Answer A} → Q 8 i 0 → Tells P Q a → Tells P Q (limited i s a)
  limited-tells i s {a} h t = cases (λ d. Tells P Q (cond d (refusal 8 i 0) a)) (ltb text_bytes (length s)) (λ _. denies h) (λ _. t)

  answered-tells : (i : ℕ) (r : Read A) → ((x : A) (p : ℕ) → r ≡ got x p → P x) → ((n p : ℕ) → r ≡ refused n p → Q n i p) → Tells P Q (answered i r)
  answered-tells i (got x p) f g = accepts (f x p refl)
  answered-tells i (refused n p) f g = denies (g n p refl)

  pub onward-tells : {B : Type 0} {P' : B → Type 0} {a : Answer B} (next : B → Answer A) → Tells P' Q a → ((x : B) → P' x → Tells P Q (next x)) → Tells P Q (onward a next)
  onward-tells next (accepts h) f = f _ h
  onward-tells next (denies h) f = denies h

-- n is one of the lines, of text number 0, and the place is in the text s or its end
pub record Line (lines : List ℕ) (s : List ℕ) (n i p : ℕ) : Type 0 where
  pub number : Memᴰ n lines
  pub text : i ≡ 0
  pub place : p ≤ length s

-- a refusal of text 0 at place 0
pub at_zero : {lines s : List ℕ} {n : ℕ} → T (any (eqb n) lines) → Line lines s n 0 0
at_zero t = record { number = one_of t; text = refl; place = omega arith }

stands : (s : List ℕ) {n p : ℕ} → Standing s n p → p ≤ length s
stands s (inl h) = omega arith
stands s (inr h) = omega (arith, h.1)

-- a refusal of the reader
pub read-line : {lines : List ℕ} (s : List ℕ) {n p : ℕ} → Placed lines s n p → Line lines s n 0 p
read-line s h = record { number = h.line; text = refl; place = stands s h.stands }

-- among more lines
pub more-lines : {A : Type 0} {P : A → Type 0} {lines lines' s : List ℕ} {a : Answer A} → Among lines lines' → Tells P (Line lines s) a → Tells P (Line lines' s) a
more-lines t (accepts h) = accepts h
more-lines t (denies h) = denies (record { number = among t h.number; text = h.text; place = h.place })

-- what is known of a tree that was read from the text s
abbrev pub OneTree : Takes → List ℕ → Kinded → Type 0
OneTree takes s x = Good x.tree × OneText x s × Taken takes x.kind

-- what reading the one tree of a text tells
pub tree-tells : (takes : Takes) (s : List ℕ) → Tells (OneTree takes s) (Line (one_refusals takes) s) (answered 0 (read_tree takes s))
tree-tells takes s =
    answered-tells 0 (read_tree takes s) (λ x p e. let (T, z) = (read-iff takes x s).0 (p, e) in (read-good takes s x p e, T, z)) (λ n p e. read-line s (read-refused s takes n p e))

-- the calls that read one tree and are lent memory
pub lent-tree-tells : (takes : Takes) (b : Bool) (s : List ℕ) → Tells (OneTree takes s) (Line (one_refusals takes ++ (7 ∷ 8 ∷ [])) s) (lent b (limited 0 s (answered 0 (read_tree takes s))))
lent-tree-tells either b s = lent-tells b (at_zero tt) (limited-tells 0 s (at_zero tt) (more-lines tt (tree-tells either s)))
lent-tree-tells rooted_only b s = lent-tells b (at_zero tt) (limited-tells 0 s (at_zero tt) (more-lines tt (tree-tells rooted_only s)))

-- the form call
pub form-tells : (s out : List ℕ) → Tells (OneTree either s) (Line form_refusals s) (form_read s out)
form-tells s out = lent-tree-tells either (enough (form_slices out)) s

-- the cut call: the tree is rooted, and the cut number is one of the tree's
pub record CutTree (s : List ℕ) (c : ℕ) (t : Tree) : Type 0 where
  pub good : Good t
  pub text : OneText (record { kind = rooted; tree = t }) s
  pub is_cut : c < 2 * leaves t - 2

has-cut-tells : (s : List ℕ) (c : ℕ) (t : Tree) → Good t → OneText (record { kind = rooted; tree = t }) s → Tells (CutTree s c) (Line cut_refusals s) (has_cut c t)
has-cut-tells s c t G T =
    cases (λ d. Tells (CutTree s c) (Line cut_refusals s) (cond d (accepted t) (refusal 9 0 0))) (ltb c (2 * leaves t - 2))
    (λ e. accepts (record { good = G; text = T; is_cut = ltb-true c (2 * leaves t - 2) e })) (λ _. denies (at_zero tt))

rooted-text : (s : List ℕ) (x : Kinded) → x.kind ≡ rooted → OneText x s → OneText (record { kind = rooted; tree = x.tree }) s
rooted-text s x e T = rw (← e) T

pub cut-tells : (s : List ℕ) (c : ℕ) (out : List ℕ) → Tells (CutTree s c) (Line cut_refusals s) (cut_read s c out)
cut-tells s c out =
    lent-tells (enough (cut_slices out)) (at_zero tt)
    (limited-tells 0 s (at_zero tt) (onward-tells (λ x. has_cut c x.tree) (more-lines tt (tree-tells rooted_only s)) (λ x h. has-cut-tells s c x.tree h.0 (rooted-text s x h.2 h.1))))

-- the pair call: a refusal's text is 0 or 1, and its place is in that text
pub record PairLine (s s' : List ℕ) (n i p : ℕ) : Type 0 where
  pub number : Memᴰ n pair_refusals
  pub place : ((i ≡ 0) × (p ≤ length s)) ⊎ ((i ≡ 1) × (p ≤ length s'))

pub record PairRead (s s' : List ℕ) (x : (x : Kinded) × Kinded) : Type 0 where
  pub good : Good x.0.tree
  pub good' : Good x.1.tree
  pub text : OneText x.0 s
  pub text' : OneText x.1 s'
  pub like : LikeIt x.0 x.1

beside-tells : (s s' : List ℕ) (x : Kinded) → OneTree either s x → Tells (PairRead s s') (PairLine s s') (beside x (read_tree either s'))
beside-tells s s' x h = by (read_tree either s') refl
  where
    fits : (y : Kinded) (p : ℕ) → read_tree either s' ≡ got y p → (n : ℕ) → unlike x y ≡ n → Tells (PairRead s s') (PairLine s s') (together n x y p)
    fits y p e zero f = accepts (record { good = h.0; good' = read-good either s' y p e; text = h.1; text' = ((read-iff either y s').0 (p, e)).0; like = (unlike-iff x y).0 f })
    fits y p e (suc n) f =
        denies (record { number = among tt (unlike-line x y f); place = inr (refl, let place : p - 1 ≤ length s' = omega (arith, (read_behind either s' y p e).1) in place) })

    by : (r : Read Kinded) → read_tree either s' ≡ r → Tells (PairRead s s') (PairLine s s') (beside x r)
    by (got y p) e = fits y p e (unlike x y) refl
    by (refused n p) e = denies (let r = read-refused s' either n p e in record { number = among tt r.line; place = inr (refl, stands s' r.stands) })

pub pair-tells : (s s' : List ℕ) → Tells (PairRead s s') (PairLine s s') (pair_reading s s')
pair-tells s s' =
    limited-tells 0 s (record { number = one_of tt; place = inl (refl, omega arith) })
    (limited-tells 1 s' (record { number = one_of tt; place = inr (refl, omega arith) })
    (onward-tells (λ x. beside x (read_tree either s'))
    (answered-tells 0 (read_tree either s) (λ x p e. let (T, z) = (read-iff either x s).0 (p, e) in (read-good either s x p e, T, z))
    (λ n p e. let r = read-refused s either n p e in record { number = among tt r.line; place = inl (refl, stands s r.stands) }))
    (beside-tells s s')))

-- what is known of a table that was read from the text s
pub record TableGiven (takes : Takes) (s : List ℕ) (table : Trees) : Type 0 where
  pub listed : List Kinded
  pub is : table ≡ as_trees listed
  pub good : AllGood table.trees
  pub text : TableText takes listed s

as-good : (xs : List Kinded) → AllGood (map (λ (x : Kinded). x.tree) xs) → AllGood (as_trees xs).trees
as-good [] g = tt
as-good (x ∷ xs) g = g

-- reading a table, as the pair lister does: nothing is lent
pub table-tells : (takes : Takes) (s : List ℕ) → Tells (TableGiven takes s) (Line sheet_refusals s) (table_read takes s)
table-tells takes s =
    limited-tells 0 s (at_zero tt)
    (onward-tells {P' = λ xs. AllGood (map (λ (x : Kinded). x.tree) xs) × TableText takes xs s} (λ xs. accepted (as_trees xs))
    (answered-tells 0 (read_table takes s) (λ xs p e. (table-good takes s xs p e, (table-iff takes xs s).0 (p, e))) (λ n p e. read-line s (placed-among tt (table-refused s takes n p e))))
    (λ xs h. accepts (record { listed = xs; is = refl; good = as-good xs h.0; text = h.1 })))

-- the calls that read a table and are lent memory
pub lent-table-tells : (takes : Takes) (b : Bool) (s : List ℕ) → Tells (TableGiven takes s) (Line table_call_refusals s) (lent b (table_read takes s))
lent-table-tells takes b s = lent-tells b (at_zero tt) (more-lines tt (table-tells takes s))

pub table-call-tells : (s : List ℕ) (memory : TableMemory) → Tells (TableGiven either s) (Line table_call_refusals s) (table_call_read s memory)
table-call-tells s memory = lent-table-tells either (enough (table_slices memory)) s

pub graph-tells : (s : List ℕ) (memory : GraphMemory) → Tells (TableGiven rooted_only s) (Line table_call_refusals s) (graph_read s memory)
graph-tells s memory = lent-table-tells rooted_only (enough (graph_slices memory)) s

pub firsts-tells : (s : List ℕ) (memory : FirstsMemory) → Tells (TableGiven either s) (Line table_call_refusals s) (firsts_read s memory)
firsts-tells s memory = lent-table-tells either (enough (firsts_slices memory)) s

pub islands-tells : (s : List ℕ) (memory : IslandsMemory) → Tells (TableGiven either s) (Line table_call_refusals s) (islands_read s memory)
islands-tells s memory = lent-table-tells either (enough (islands_slices memory)) s

-- the sheet call: what is printed; or line 7, of text 0 at place 0, as of a text without bytes
pub sheet-call-tells : (x out : List ℕ) → Tells (λ y. y ≡ x) (Line sheet_call_refusals []) (sheet_given x out)
sheet-call-tells x out = lent-tells (enough (sheet_slices out)) (at_zero tt) (accepts refl)

-- ---- every text has an outcome
pub pair-exists : (s s' : List ℕ) → (a : Answer Comparison) × PairCall s s' a
pair-exists s s' = by (pair_reading s s') refl
  where
    decided : (x y : Kinded) → pair_reading s s' ≡ accepted (x, y) → (d : Bool) → is_apart_as x.kind x.tree y.tree ≡ d → (a : Answer Comparison) × PairCall s s' a
    decided x y e d f = let r = tells-accepted (pair-tells s s') e in yes_or_no d f (apart_as-iff x.kind x.tree y.tree r.good.distinct r.good'.distinct)
      where
        yes_or_no : (d : Bool) → is_apart_as x.kind x.tree y.tree ≡ d → T (is_apart_as x.kind x.tree y.tree) ↔ ApartAs x.kind x.tree y.tree → (a : Answer Comparison) × PairCall s s' a
        yes_or_no true f i = (accepted (comparison true x y), stands_apart x y e (i.0 (subst T (sym f) tt)))
        yes_or_no false f i = (accepted (comparison false x y), not_apart x y e (λ a. subst T f (i.1 a)))

    by : (a : Answer ((x : Kinded) × Kinded)) → pair_reading s s' ≡ a → (a : Answer Comparison) × PairCall s s' a
    by (accepted x) e = decided x.0 x.1 e (is_apart_as x.0.kind x.0.tree x.1.tree) refl
    by (refusal n i p) e = (refusal n i p, PairCall.refuses n i p e)

-- the pairs of a table that pass a test
abbrev pub pairs_by : (Tree → Tree → Bool) → List Tree → List Pair
pairs_by test ts = pairs_of (length ts) (λ i j. test (tree_of ts i) (tree_of ts j))

all-distinct : (ts : List Tree) → AllGood ts → (i : ℕ) → i < length ts → Distinct (tree_of ts i)
all-distinct ts g i h = (good-at ts g i h).distinct

-- a relation that a test decides
module _ (R : Tree → Tree → Type 0) (test : Tree → Tree → Bool) (decides : (t u : Tree) → Distinct t → Distinct u → T (test t u) ↔ R t u) where
  -- so they are the listing
  pub listing-by : (ts : List Tree) → ((i : ℕ) → i < length ts → Distinct (tree_of ts i)) → Listing (length ts) (At R ts) (pairs_by test ts)
  listing-by ts D = listing-iff (λ i j h l. decides (tree_of ts i) (tree_of ts j) (D i (omega arith)) (D j l)) (pairs_of-lists (length ts) (λ i j. test (tree_of ts i) (tree_of ts j)))

  listed_by : (ts : List Tree) → AllGood ts → Listing (length ts) (At R ts) (pairs_by test ts)
  listed_by ts g = listing-by ts (all-distinct ts g)

-- the pairs that are one move apart, with copies merged or kept apart
abbrev chosen_test : Kind → Choice → List Tree → ℕ → ℕ → Bool
chosen_test k merged ts i j = eqb (first_of ts i) i && (eqb (first_of ts j) j && is_apart_as k (tree_of ts i) (tree_of ts j))
chosen_test k kept_apart ts i j = is_apart_as k (tree_of ts i) (tree_of ts j)

abbrev pub pairs_chosen : Kind → Choice → List Tree → List Pair
pairs_chosen k choice ts = pairs_of (length ts) (chosen_test k choice ts)

-- the pairs that are one move apart
abbrev pub pairs_in : Kind → List Tree → List Pair
pairs_in k ts = pairs_by (is_apart_as k) ts

pub chosen-listed : (k : Kind) (choice : Choice) (ts : List Tree) → ((i : ℕ) → i < length ts → Distinct (tree_of ts i)) → Listing (length ts) (LinkedBy choice (ApartAs k) ts) (pairs_chosen k choice ts)
chosen-listed k merged ts D = listing-iff (λ i j h l. merged-test i j (apart_as-iff k (tree_of ts i) (tree_of ts j) (D i (omega arith)) (D j l))) (pairs_of-lists (length ts) (chosen_test k merged ts))
  where
    eqb-iff : (m n : ℕ) → T (eqb m n) ↔ (m ≡ n)
    eqb-iff m n = (eqb→eq m n, λ e. subst (λ (x : ℕ). T (eqb m x)) e (eqb_refl m))

    merged-test : (i j : ℕ) → T (is_apart_as k (tree_of ts i) (tree_of ts j)) ↔ ApartAs k (tree_of ts i) (tree_of ts j) → T (chosen_test k merged ts i j) ↔ LinkedBy merged (ApartAs k) ts i j
    merged-test i j A = (
      λ t.
          let (x, rest) = (T_and (eqb (first_of ts i) i) (eqb (first_of ts j) j && is_apart_as k (tree_of ts i) (tree_of ts j))).0 t in
          let (y, z) = (T_and (eqb (first_of ts j) j) (is_apart_as k (tree_of ts i) (tree_of ts j))).0 rest in
          ((eqb-iff (first_of ts i) i).0 x, (eqb-iff (first_of ts j) j).0 y, A.0 z),
      λ x.
          (T_and (eqb (first_of ts i) i) (eqb (first_of ts j) j && is_apart_as k (tree_of ts i) (tree_of ts j))).1 (
            (eqb-iff (first_of ts i) i).1 x.0,
            (T_and (eqb (first_of ts j) j) (is_apart_as k (tree_of ts i) (tree_of ts j))).1 ((eqb-iff (first_of ts j) j).1 x.1, A.1 x.2),
          ),
    )
chosen-listed k kept_apart ts D = listing-by (ApartAs k) (is_apart_as k) (apart_as-iff k) ts D

-- a call that lists pairs has an outcome, where good trees have a listing
lists-exists : {M : Type 0} {read : Answer Trees} {Linked : Trees → ℕ → ℕ → Type 0} (left : List Tree → List Pair → Outcome GraphSize M) (memory : M)
    → ((table : Trees) → read ≡ accepted table → (ps : List Pair) × Listing (length table.trees) (Linked table) ps) → (o : Outcome GraphSize M) × Lists read Linked left memory o
lists-exists {M} {read} {Linked} left memory some = by read refl
  where
    by : (a : Answer Trees) → read ≡ a → (o : Outcome GraphSize M) × Lists read Linked left memory o
    by (accepted table) e = let (ps, L) = some table e in (left table.trees ps, lists table ps e L)
    by (refusal n i p) e = (record { answer = refusal n i p; memory = memory }, Lists.refuses n i p e)

pub choosing-exists : (choice : Choice) (s : List ℕ) (memory : FirstsMemory) → (o : Outcome GraphSize FirstsMemory) × ChoosingCall choice s memory o
choosing-exists choice s memory =
    lists-exists (λ ts ps. firsts_graph_of ts ps memory) memory (λ table e. (
      pairs_chosen table.kind choice table.trees,
      chosen-listed table.kind choice table.trees (all-distinct table.trees (tells-accepted (firsts-tells s memory) e).good),
    ))

pub graph-exists : (s : List ℕ) (memory : FirstsMemory) → (o : Outcome GraphSize FirstsMemory) × GraphCall s memory o
graph-exists = choosing-exists merged

pub interchange-exists : (s : List ℕ) (memory : GraphMemory) → (o : Outcome GraphSize GraphMemory) × InterchangeCall s memory o
interchange-exists s memory =
    lists-exists (λ ts ps. graph_of ts ps memory) memory
    (λ table e. (pairs_by is_one_interchange table.trees, listed_by OneInterchange is_one_interchange one_interchange-iff table.trees (tells-accepted (graph-tells s memory) e).good))

-- the islands of the merged pairs
abbrev islands_in : Trees → List ℕ
islands_in table = unite_all (firsts_of table.trees) (pairs_chosen table.kind merged table.trees)

islands-in : (table : Trees) → AllGood table.trees → let ts = table.trees in let ps = pairs_chosen table.kind merged ts in
    Listing (length ts) (LinkedBy merged (ApartAs table.kind) ts) ps × MergedIslands ts ps (islands_in table)
islands-in table g =
    let L = chosen-listed table.kind merged table.trees (all-distinct table.trees g) in
    (L, merged-found table.trees (ApartAs table.kind) L)

pub islands-exists : (s : List ℕ) (memory : IslandsMemory) → (o : Outcome GraphSize IslandsMemory) × IslandsCall s memory o
islands-exists s memory = by (islands_read s memory) refl
  where
    by : (a : Answer Trees) → islands_read s memory ≡ a → (o : Outcome GraphSize IslandsMemory) × IslandsCall s memory o
    by (accepted table) e =
        let (L, I) = islands-in table (tells-accepted (islands-tells s memory) e).good in
        let ps = pairs_chosen table.kind merged table.trees in
        (island_graph_of table.trees ps (islands_in table) memory, numbers table ps (islands_in table) e L I)
    by (refusal n i p) e = (record { answer = refusal n i p; memory = memory }, IslandsCall.refuses n i p e)

-- a program prints something for every text, where it does for good trees
printout-exists : {Prints : Trees → List ℕ → Type 0} → ((table : Trees) → AllGood table.trees → (x : List ℕ) × Prints table x) → (s : List ℕ) → (x : List ℕ) × Printout Prints s x
printout-exists {Prints} some s = by (table_read either s) refl
  where
    by : (a : Answer Trees) → table_read either s ≡ a → (x : List ℕ) × Printout Prints s x
    by (accepted table) e = let (x, P) = some table (tells-accepted (table-tells either s) e).good in (x, prints table x e P)
    by (refusal n i p) e = (refusal_line n p, Printout.refuses n i p e)

pub sheet-exists : (s : List ℕ) → (x : List ℕ) × Sheet s x
sheet-exists = printout-exists (λ table g.
    let k = table.kind in
    let ps = pairs_in k table.trees in
    (sheet table ps, shows_pairs ps (listed_by (ApartAs k) (is_apart_as k) (apart_as-iff k) table.trees g)))

pub island-sheet-exists : (s : List ℕ) → (x : List ℕ) × IslandSheet s x
island-sheet-exists = printout-exists (λ table g.
    let (L, I) = islands-in table g in
    (island_lines (islands_in table), shows_islands (pairs_chosen table.kind merged table.trees) (islands_in table) L I))

pub sheet-call-exists : (s out : List ℕ) → (o : Outcome ℕ (List ℕ)) × SheetCall s out o
sheet-call-exists s out = let (x, h) = sheet-exists s in (conclude (sheet_given x out) out (λ y. text_of y out), gives x h)
