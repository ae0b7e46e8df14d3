-- Text to row and row to text: the calls undo each other on canonical texts, line 11 is for numbers that are the row of no tree, what is refused first, and what is written fits.
-- Assumes nothing.
use mathlib.Core.Path.{◌≡◌, refl, sym, ap, ◌∙◌}
use mathlib.Core.Logic.{◌↔◌}
use mathlib.Core.Bool.{Bool, true, false, cond}
use mathlib.Core.List.{List, []}
use Prim.Native.Nat.{ℕ, ◌≤◌, ◌<◌}
use native.Mathlib.Omega.{arith}
use lib.Dec.{T}
use lib.ListN.{length, take}
use lib.Seq.{take_at}
use Rattle.meaning.specs.Limits.{text_bytes, max_label, form_bytes}
use Rattle.meaning.specs.Tree.{Tree, Good, Canonical, form}
use Rattle.meaning.specs.Kind.{rooted, Kinded, rooted_only}
use Rattle.meaning.specs.EitherKind.{canon_kinded}
use Rattle.meaning.specs.Reading.{refused, read_tree}
use Rattle.meaning.specs.Answer.{Answer, accepted, refusal, Outcome, text_of, conclude}
use Rattle.meaning.specs.Calls.{enough, lent, answered}
use Rattle.meaning.proofs.Logic.{clash, cases}
use Rattle.meaning.proofs.Canon.{canon-good, canon-topology}
use Rattle.meaning.proofs.Length.{form-length}
use Rattle.meaning.proofs.Round.{read-form}
use Rattle.meaning.proofs.Calls.{Tells, accepts, denies, tells-accepted, lent-tells, Line, at_zero, OneTree, lent-tree-tells}
use Rattle.meaning.proofs.Lent.{seven, ample, lent-ample, eight, in-limit}
use Rattle.meaning.proofs.Memory.{written-length, concluded}
use Rattle.families.specs.Row.{row, is_row, row_tree}
use Rattle.families.specs.RowCalls.{row_slices, row_read, row_call, row_given, row_text_slices, row_text_call}
use Rattle.families.specs.RowRefusals.{row_refusals, row_text_refusals}
use Rattle.families.proofs.Row.{row-iff, row-is-row, row-iff-topology, row-tree-good, row-tree-canonical, row-tree-row, row-length-64, row-form}

-- ---- numbers given as a row
-- t is the tree of the row xs
pub record TreeOf (xs : List ℕ) (t : Tree) : Type 0 where
  pub good : Good t
  pub canonical : Canonical t
  pub is : row t ≡ xs

-- no good tree has the row xs
abbrev pub NoTree : List ℕ → Type 0
NoTree xs = ((t : Tree) × Good t × (row t ≡ xs)) → ⊥

-- their tree is accepted where they pass the test, and line 11 is given where there is none
pub given-row : (i : ℕ) (xs : List ℕ) → T (is_row xs) → row_given i xs ≡ accepted (row_tree xs)
given-row i xs t = cases (λ b. T b → cond b (accepted (row_tree xs)) (refusal 11 i 0) ≡ accepted (row_tree xs)) (is_row xs) (λ _ _. refl) (λ _ t. absurd t) t

pub given-none : (i : ℕ) (xs : List ℕ) → NoTree xs → row_given i xs ≡ refusal 11 i 0
given-none i xs none =
    cases (λ b. (T b → ⊥) → cond b (accepted (row_tree xs)) (refusal 11 i 0) ≡ refusal 11 i 0) (is_row xs) (λ _ f. absurd (f tt)) (λ _ _. refl) (λ t. none ((row-iff xs).0 t))

pub given-tells : (i : ℕ) (xs : List ℕ) {Q : ℕ → ℕ → ℕ → Type 0} → (NoTree xs → Q 11 i 0) → Tells (TreeOf xs) Q (row_given i xs)
given-tells i xs {Q} f = go (is_row xs) (λ t. t) (λ t. t)
  where
    go : (b : Bool) → (T b → T (is_row xs)) → (T (is_row xs) → T b) → Tells (TreeOf xs) Q (cond b (accepted (row_tree xs)) (refusal 11 i 0))
    go true g h = let t = g tt in accepts (record { good = row-tree-good xs t; canonical = row-tree-canonical xs t; is = row-tree-row xs t })
    go false g h = denies (f (λ p. h ((row-iff xs).1 p)))

-- line 11 exactly where they are the row of no tree
pub row-refused : (i : ℕ) (xs : List ℕ) → (row_given i xs ≡ refusal 11 i 0) ↔ NoTree xs
row-refused i xs = (λ e p. let f = given-row i xs ((row-iff xs).1 p) in clash cc, given-none i xs)

-- ---- what is accepted, and by which lines is refused
pub row-tells : (s out : List ℕ) → Tells (OneTree rooted_only s) (Line row_refusals s) (row_read s out)
row-tells s out = lent-tree-tells rooted_only (enough (row_slices out)) s

-- a row has no places: 7 and 11 stand at place 0, as in a text without bytes
pub row-text-tells : (xs out : List ℕ) → Tells (TreeOf xs) (Line row_text_refusals []) (lent (enough (row_text_slices out)) (row_given 0 xs))
row-text-tells xs out = lent-tells (enough (row_text_slices out)) (at_zero tt) (given-tells 0 xs (λ _. at_zero tt))

-- ---- the order of the refusals
-- row call: 7, then 8, then the text's
module _ (s out : List ℕ) where
  pub row-seven : length out < max_label → row_read s out ≡ refusal 7 0 0
  row-seven h = seven (row_slices out) _ h

  module _ (room : max_label ≤ length out) where
    pub row-eight : text_bytes < length s → row_read s out ≡ refusal 8 0 0
    row-eight h = ample (row_slices out) _ room ∙ eight 0 s _ h

    pub row-refuses : length s ≤ text_bytes → (n p : ℕ) → read_tree rooted_only s ≡ refused n p → row_read s out ≡ refusal n 0 p
    row-refuses h n p e = ample (row_slices out) _ room ∙ in-limit 0 s _ h ∙ ap (answered 0) e

-- row text call: 7, then 11
module _ (xs out : List ℕ) where
  pub row-text-seven : length out < form_bytes → row_text_call xs out ≡ record { answer = refusal 7 0 0; memory = out }
  row-text-seven h = ap (λ (a : Answer Tree). conclude a out λ t. text_of (form t) out) (seven (row_text_slices out) (row_given 0 xs) h)

  pub row-text-eleven : form_bytes ≤ length out → NoTree xs → row_text_call xs out ≡ record { answer = refusal 11 0 0; memory = out }
  row-text-eleven h none = ap (λ (a : Answer Tree). conclude a out λ t. text_of (form t) out) (ample (row_text_slices out) (row_given 0 xs) h ∙ given-none 0 xs none)

-- ---- the calls undo each other
-- the row of a canonical text
pub text-row : (t : Tree) → Good t → (out : List ℕ) → max_label ≤ length out → row_call (form t) out ≡ text_of (row t) out
text-row t G out room =
    let read : row_read (form t) out ≡ accepted (canon_kinded rooted t) =
    ample (row_slices out) _ room ∙ in-limit 0 (form t) _ (omega (arith, form-length G)) ∙ ap (answered 0) (read-form rooted_only rooted refl G) in
    ap (λ (a : Answer Kinded). conclude a out λ x. text_of (row x.tree) out) read
    ∙ ap (λ (xs : List ℕ). text_of xs out) ((row-iff-topology (canon-good G) G).1 (canon-topology t))

-- the text of a row
pub row-text : (xs : List ℕ) → T (is_row xs) → (out : List ℕ) → form_bytes ≤ length out → row_text_call xs out ≡ text_of (form (row_tree xs)) out
row-text xs t out room = ap (λ (a : Answer Tree). conclude a out λ t. text_of (form t) out) (ample (row_text_slices out) (row_given 0 xs) room ∙ given-row 0 xs t)

-- what one call has written is as long as it answers
front : (xs out : List ℕ) (k : ℕ) → (text_of xs out).answer ≡ accepted k → take k (text_of xs out).memory ≡ xs
front xs out k e = take_at xs _ k (let f : length xs ≡ k = cc in f)

-- from a canonical text to its row and back
pub text-row-text : (t : Tree) → Good t → (numbers out : List ℕ) → max_label ≤ length numbers → form_bytes ≤ length out
    → (k : ℕ) → (row_call (form t) numbers).answer ≡ accepted k → row_text_call (take k (row_call (form t) numbers).memory) out ≡ text_of (form t) out
text-row-text t G numbers out h room k e =
    let call = text-row t G numbers h in
    let numbers-are : take k (row_call (form t) numbers).memory ≡ row t =
    ap (λ (o : Outcome ℕ (List ℕ)). take k o.memory) call ∙ front (row t) numbers k (sym (ap (λ (o : Outcome ℕ (List ℕ)). o.answer) call) ∙ e) in
    ap (λ (xs : List ℕ). row_text_call xs out) numbers-are ∙ row-text (row t) (row-is-row t G) out room ∙ ap (λ (xs : List ℕ). text_of xs out) (row-form t G)

-- from a row to its text and back
pub row-text-row : (xs : List ℕ) → T (is_row xs) → (out numbers : List ℕ) → form_bytes ≤ length out → max_label ≤ length numbers
    → (k : ℕ) → (row_text_call xs out).answer ≡ accepted k → row_call (take k (row_text_call xs out).memory) numbers ≡ text_of xs numbers
row-text-row xs t out numbers room h k e =
    let call = row-text xs t out room in
    let text-is : take k (row_text_call xs out).memory ≡ form (row_tree xs) =
    ap (λ (o : Outcome ℕ (List ℕ)). take k o.memory) call ∙ front (form (row_tree xs)) out k (sym (ap (λ (o : Outcome ℕ (List ℕ)). o.answer) call) ∙ e) in
    ap (λ (s : List ℕ). row_call s numbers) text-is ∙ text-row (row_tree xs) (row-tree-good xs t) numbers h ∙ ap (λ (ys : List ℕ). text_of ys numbers) (row-tree-row xs t)

-- ---- a slice keeps its length
pub row-memory : (s out : List ℕ) → length (row_call s out).memory ≡ length out
row-memory s out =
    concluded (λ (m : List ℕ). length m ≡ length out) (row_read s out) out (λ x. text_of (row x.tree) out) refl
    (λ x e. written-length (row x.tree) out (omega (arith, row-length-64 (tells-accepted (row-tells s out) e).0, lent-ample (row_slices out) _ e)))

pub row-text-memory : (xs out : List ℕ) → length (row_text_call xs out).memory ≡ length out
row-text-memory xs out =
    concluded (λ (m : List ℕ). length m ≡ length out) (lent (enough (row_text_slices out)) (row_given 0 xs)) out (λ t. text_of (form t) out) refl
    (λ t e. written-length (form t) out (omega (arith, form-length (tells-accepted (row-text-tells xs out) e).good, lent-ample (row_text_slices out) _ e)))

-- ---- each call has one outcome
pub row-determined : (s out : List ℕ) (o o' : Outcome ℕ (List ℕ)) → o ≡ row_call s out → o' ≡ row_call s out → o ≡ o'
row-determined s out o o' e f = e ∙ sym f

pub row-text-determined : (xs out : List ℕ) (o o' : Outcome ℕ (List ℕ)) → o ≡ row_text_call xs out → o' ≡ row_text_call xs out → o ≡ o'
row-text-determined xs out o o' e f = e ∙ sym f
