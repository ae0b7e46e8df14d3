-- Each call's outcome is determined: two outcomes that its promise allows are equal, answer and memory.
-- Assumes nothing.
use mathlib.Core.Path.{◌≡◌, refl, sym, ap, ap₂, subst, subst₂, ◌∙◌}
use mathlib.Core.Bool.{Bool, true, false}
use mathlib.Core.List.{List}
use Prim.Native.Nat.{ℕ}
use lib.ListN.{length}
use Rattle.meaning.specs.Tree.{Tree}
use Rattle.meaning.specs.Kind.{Kinded, Trees}
use Rattle.meaning.specs.EitherKind.{ApartAs}
use Rattle.meaning.specs.Listing.{Pair, Listing}
use Rattle.meaning.specs.Copies.{merged, LinkedBy, MergedIslands}
use Rattle.meaning.specs.Compared.{comparison}
use Rattle.meaning.specs.Answer.{Answer, accepted, refusal, Outcome, Comparison, TableSize, TableMemory, GraphSize, IslandsMemory, text_of, conclude}
use Rattle.meaning.specs.Calls.{form_call, cut_call, PairCall, stands_apart, not_apart, table_call, Lists, lists, IslandsCall, numbers, island_graph_of}
use Rattle.meaning.specs.IslandSheet.{IslandSheetOf, shows_islands, IslandSheet, island_lines}
use Rattle.meaning.specs.Sheet.{refusal_line, Printout, prints, sheet, SheetOf, shows_pairs, Sheet, sheet_given, SheetCall, gives}
use Rattle.meaning.proofs.Logic.{clash}
use Rattle.meaning.proofs.Listing.{listing-unique}
use Rattle.meaning.proofs.MergedIslands.{merged-unique}

pub form-determined : (s out : List ℕ) (o o' : Outcome ℕ (List ℕ)) → o ≡ form_call s out → o' ≡ form_call s out → o ≡ o'
form-determined s out o o' e f = e ∙ sym f

pub cut-determined : (s : List ℕ) (c : ℕ) (out : List ℕ) (o o' : Outcome ℕ (List ℕ)) → o ≡ cut_call s c out → o' ≡ cut_call s c out → o ≡ o'
cut-determined s c out o o' e f = e ∙ sym f

pub table-determined : (s : List ℕ) (memory : TableMemory) (o o' : Outcome TableSize TableMemory) → o ≡ table_call s memory → o' ≡ table_call s memory → o ≡ o'
table-determined s memory o o' e f = e ∙ sym f

-- an answer accepts one thing only, and does not refuse it
pub same-accepted : {A : Type 0} {a : Answer A} {x y : A} → a ≡ accepted x → a ≡ accepted y → x ≡ y
same-accepted e f = cc

pub not-both : {A : Type 0} {a : Answer A} {x : A} {n i p : ℕ} → a ≡ accepted x → a ≡ refusal n i p → ⊥
not-both e f = clash cc

pub same-refusal : {A : Type 0} {a : Answer A} {n i p m j q : ℕ} → a ≡ refusal n i p → a ≡ refusal m j q → (n ≡ m) × (i ≡ j) × (p ≡ q)
same-refusal e f = (cc, cc, cc)

-- two trees are not both apart and not
abbrev ApartPair : (x : Kinded) × Kinded → Type 0
ApartPair x = ApartAs x.0.kind x.0.tree x.1.tree

apart-and-not : {a : Answer ((x : Kinded) × Kinded)} {x y : (x : Kinded) × Kinded} → a ≡ accepted x → a ≡ accepted y → ApartPair x → ¬ ApartPair y → ⊥
apart-and-not e f h k = k (subst ApartPair (same-accepted e f) h)

-- and the same is told of them
same-told : (b : Bool) {a : Answer ((x : Kinded) × Kinded)} {x y : (x : Kinded) × Kinded} → a ≡ accepted x → a ≡ accepted y
    → ◌≡◌ {A = Answer Comparison} (accepted (comparison b x.0 x.1)) (accepted (comparison b y.0 y.1))
same-told b e f = ap (λ (x : (x : Kinded) × Kinded). accepted (comparison b x.0 x.1)) (same-accepted e f)

pub pair-determined : {s s' : List ℕ} {a b : Answer Comparison} → PairCall s s' a → PairCall s s' b → a ≡ b
pair-determined (stands_apart t u e h) (stands_apart t' u' e' h') = same-told true e e'
pair-determined (stands_apart t u e h) (not_apart t' u' e' h') = absurd (apart-and-not e e' h h')
pair-determined (stands_apart t u e h) (PairCall.refuses n i p e') = absurd (not-both e e')
pair-determined (not_apart t u e h) (stands_apart t' u' e' h') = absurd (apart-and-not e' e h' h)
pair-determined (not_apart t u e h) (not_apart t' u' e' h') = same-told false e e'
pair-determined (not_apart t u e h) (PairCall.refuses n i p e') = absurd (not-both e e')
pair-determined (PairCall.refuses n i p e) (stands_apart t' u' e' h') = absurd (not-both e' e)
pair-determined (PairCall.refuses n i p e) (not_apart t' u' e' h') = absurd (not-both e' e)
pair-determined (PairCall.refuses n i p e) (PairCall.refuses n' i' p' e') = let (x, y, z) = same-refusal e e' in cc

-- one table has one listing
same-listing : (Linked : Trees → ℕ → ℕ → Type 0) {a : Answer Trees} {t u : Trees} {ps qs : List Pair} → a ≡ accepted t → a ≡ accepted u
    → Listing (length t.trees) (Linked t) ps → Listing (length u.trees) (Linked u) qs → (t ≡ u) × (ps ≡ qs)
same-listing Linked {ps} e f L M =
    let h = same-accepted e f in
    (h, listing-unique (subst (λ (v : Trees). Listing (length v.trees) (Linked v) ps) h L) M)

-- the interchange call and the graph call with either choice
pub lists-determined : {M : Type 0} {read : Answer Trees} {Linked : Trees → ℕ → ℕ → Type 0} {left : List Tree → List Pair → Outcome GraphSize M} {memory : M} {o o' : Outcome GraphSize M}
    → Lists read Linked left memory o → Lists read Linked left memory o' → o ≡ o'
lists-determined {Linked} {left} (lists t ps e L) (lists t' ps' e' L') = let (h, k) = same-listing Linked e e' L L' in ap₂ (λ (v : Trees) (qs : List Pair). left v.trees qs) h k
lists-determined (lists t ps e L) (Lists.refuses n i p e') = absurd (not-both e e')
lists-determined (Lists.refuses n i p e) (lists t ps e' L) = absurd (not-both e' e)
lists-determined (Lists.refuses n i p e) (Lists.refuses n' i' p' e') = let (x, y, z) = same-refusal e e' in cc

-- the merged pairs that are one move apart
abbrev MergedApart : Trees → ℕ → ℕ → Type 0
MergedApart t = LinkedBy merged (ApartAs t.kind) t.trees

-- and its positions have one number each
same-islands : {a : Answer Trees} {t u : Trees} {ps qs : List Pair} {ms ns : List ℕ} → a ≡ accepted t → a ≡ accepted u
    → Listing (length t.trees) (MergedApart t) ps → Listing (length u.trees) (MergedApart u) qs → MergedIslands t.trees ps ms → MergedIslands u.trees qs ns → ms ≡ ns
same-islands {ms} e f L M I K =
    let (h, k) = same-listing MergedApart e f L M in
    merged-unique (subst₂ (λ (v : Trees) (rs : List Pair). MergedIslands v.trees rs ms) h k I) K

pub islands-determined : {s : List ℕ} {memory : IslandsMemory} {o o' : Outcome GraphSize IslandsMemory} → IslandsCall s memory o → IslandsCall s memory o' → o ≡ o'
islands-determined {memory} (numbers t ps ms e L I) (numbers t' ps' ms' e' L' I') =
    let (h, k) = same-listing MergedApart e e' L L' in
    ap₂ (λ (v : Trees) (qs : List Pair). island_graph_of v.trees qs ms memory) h k ∙ ap (λ (ns : List ℕ). island_graph_of t'.trees ps' ns memory) (same-islands e e' L L' I I')
islands-determined (numbers t ps ms e L I) (IslandsCall.refuses n i p e') = absurd (not-both e e')
islands-determined (IslandsCall.refuses n i p e) (numbers t ps ms e' L I) = absurd (not-both e' e)
islands-determined (IslandsCall.refuses n i p e) (IslandsCall.refuses n' i' p' e') = let (x, y, z) = same-refusal e e' in cc

-- what is printed for a text is one, where what is printed for trees is
module _ {Prints : Trees → List ℕ → Type 0} (one : (t : Trees) (x y : List ℕ) → Prints t x → Prints t y → x ≡ y) where
  printout-determined : {s x y : List ℕ} → Printout Prints s x → Printout Prints s y → x ≡ y
  printout-determined (prints ts x e P) (prints us y f Q) = one us x y (subst (λ (v : Trees). Prints v x) (same-accepted e f) P) Q
  printout-determined (prints ts x e P) (Printout.refuses n i p f) = absurd (not-both e f)
  printout-determined (Printout.refuses n i p e) (prints us y f Q) = absurd (not-both f e)
  printout-determined (Printout.refuses n i p e) (Printout.refuses m j q f) = let (x, y, z) = same-refusal e f in ap₂ refusal_line x z

sheet-one : (ts : Trees) (x y : List ℕ) → SheetOf ts x → SheetOf ts y → x ≡ y
sheet-one ts x y (shows_pairs ps L) (shows_pairs qs M) = ap (sheet ts) (listing-unique L M)

pub sheet-determined : {s x y : List ℕ} → Sheet s x → Sheet s y → x ≡ y
sheet-determined h k = printout-determined sheet-one h k

island-sheet-one : (ts : Trees) (x y : List ℕ) → IslandSheetOf ts x → IslandSheetOf ts y → x ≡ y
island-sheet-one ts x y (shows_islands ps ms L I) (shows_islands qs ns M J) =
    let e : accepted ts ≡ accepted ts = refl in
    ap island_lines (same-islands e e L M I J)

pub island-sheet-determined : {s x y : List ℕ} → IslandSheet s x → IslandSheet s y → x ≡ y
island-sheet-determined h k = printout-determined island-sheet-one h k

pub sheet-call-determined : {s out : List ℕ} {o o' : Outcome ℕ (List ℕ)} → SheetCall s out o → SheetCall s out o' → o ≡ o'
sheet-call-determined {out} (gives x h) (gives y k) = ap (λ (z : List ℕ). conclude (sheet_given z out) out λ w. text_of w out) (sheet-determined h k)
