-- The order of the refusals: 7, then 8, then the text from left to right, 10 and then 5 of a pair behind both texts, and 9 last.
-- Assumes nothing.
use mathlib.Core.Path.{◌≡◌, refl, ap, ◌∙◌}
use mathlib.Core.Logic.{◌⊎◌}
use mathlib.Core.Bool.{true, false}
use mathlib.Core.List.{List}
use Prim.Native.Nat.{ℕ, ◌-◌, ◌*◌, ◌≤◌, ◌<◌}
use borrow.Author.Tests.{le-ltb}
use lib.ListN.{length}
use Rattle.meaning.specs.Limits.{text_bytes, kind_bytes, forest_bytes, max_trees, table_bytes, pair_numbers, sheet_bytes}
use Rattle.meaning.specs.Tree.{leaves}
use Rattle.meaning.specs.Kind.{Kinded, Trees, Takes, either, rooted_only}
use Rattle.meaning.specs.Reading.{got, refused, value, bad_label, label_at, tree_at, read_tree, same_labels, same_kind, table_from}
use Rattle.meaning.specs.Prefix.{TooDeepAt}
use Rattle.meaning.specs.Answer.{Answer, accepted, refusal, Outcome, TableMemory, GraphMemory, FirstsMemory, IslandsMemory, text_of, onward, conclude}
use Rattle.meaning.specs.Calls.{answered, form_slices, form_read, has_cut, cut_slices, cut_read, beside, pair_reading, table_read, table_slices, table_of, table_call, graph_slices, graph_read, firsts_slices, firsts_read, islands_slices, islands_read}
use Rattle.meaning.specs.Sheet.{sheet_slices, SheetCall, gives}
use Rattle.meaning.proofs.Lent.{seven, ample, eight, in-limit}
use Rattle.meaning.proofs.Lines.{line-four-iff}
use Rattle.meaning.proofs.Ways.{label-bad, table-full}

-- 7 goes before all others, whatever the text: a slice shorter than stated
module _ (s out : List ℕ) where
  pub form-seven : length out < kind_bytes → form_read s out ≡ refusal 7 0 0
  form-seven h = seven (form_slices out) _ h

  pub cut_seven : (c : ℕ) → length out < forest_bytes → cut_read s c out ≡ refusal 7 0 0
  cut_seven c h = seven (cut_slices out) _ h

pub table-seven : (s : List ℕ) (memory : TableMemory) → (length memory.texts < table_bytes) ⊎ (length memory.ends < max_trees)
    → table_call s memory ≡ record { answer = refusal 7 0 0; memory = memory }
table-seven s memory h = ap (λ (a : Answer Trees). conclude a memory λ table. table_of table memory) (seven (table_slices memory) (table_read either s) h)

pub graph-seven : (s : List ℕ) (memory : GraphMemory) → (length memory.pairs < pair_numbers) ⊎ (length memory.counts < max_trees) → graph_read s memory ≡ refusal 7 0 0
graph-seven s memory h = seven (graph_slices memory) _ h

pub firsts-seven : (s : List ℕ) (memory : FirstsMemory)
    → (length memory.graph.pairs < pair_numbers) ⊎ ((length memory.graph.counts < max_trees) ⊎ (length memory.firsts < max_trees)) → firsts_read s memory ≡ refusal 7 0 0
firsts-seven s memory h = seven (firsts_slices memory) _ h

pub islands-seven : (s : List ℕ) (memory : IslandsMemory)
    → (length memory.lists.graph.pairs < pair_numbers)
    ⊎ ((length memory.lists.graph.counts < max_trees) ⊎ ((length memory.lists.firsts < max_trees) ⊎ (length memory.islands < max_trees)))
    → islands_read s memory ≡ refusal 7 0 0
islands-seven s memory h = seven (islands_slices memory) _ h

pub sheet-seven : {s out : List ℕ} {o : Outcome ℕ (List ℕ)} → SheetCall s out o → length out < sheet_bytes → o ≡ record { answer = refusal 7 0 0; memory = out }
sheet-seven {out} (gives x h) l = ap (λ (a : Answer (List ℕ)). conclude a out λ y. text_of y out) (seven (sheet_slices out) (accepted x) l)

-- 8 goes before any byte of the text
module _ (s : List ℕ) (long : text_bytes < length s) where
  pub form-eight : (out : List ℕ) → kind_bytes ≤ length out → form_read s out ≡ refusal 8 0 0
  form-eight out h = ample (form_slices out) _ h ∙ eight 0 s _ long

  pub cut-eight : (c : ℕ) (out : List ℕ) → forest_bytes ≤ length out → cut_read s c out ≡ refusal 8 0 0
  cut-eight c out h = ample (cut_slices out) _ h ∙ eight 0 s _ long

  pub table-eight : (takes : Takes) → table_read takes s ≡ refusal 8 0 0
  table-eight takes = eight 0 s _ long

  pub pair-eight : (s' : List ℕ) → pair_reading s s' ≡ refusal 8 0 0
  pair-eight s' = eight 0 s _ long

-- the pair call: 8 of text 1 before text 0 is read; text 0 whole, then text 1, then 10, then 5
module _ (s s' : List ℕ) (fits : length s ≤ text_bytes) where
  pub pair-eight-second : text_bytes < length s' → pair_reading s s' ≡ refusal 8 1 0
  pair-eight-second h = in-limit 0 s _ fits ∙ eight 1 s' _ h

  module _ (fits' : length s' ≤ text_bytes) where
    pair_reads : pair_reading s s' ≡ onward (answered 0 (read_tree either s)) (λ x. beside x (read_tree either s'))
    pair_reads = in-limit 0 s _ fits ∙ in-limit 1 s' _ fits'

    pub pair-text-0 : (n p : ℕ) → read_tree either s ≡ refused n p → pair_reading s s' ≡ refusal n 0 p
    pair-text-0 n p e = pair_reads ∙ rw e

    pub pair-text-1 : (x : Kinded) (q n p : ℕ) → read_tree either s ≡ got x q → read_tree either s' ≡ refused n p → pair_reading s s' ≡ refusal n 1 p
    pair-text-1 x q n p e f = pair_reads ∙ rw (e, f)

    module _ (x y : Kinded) (q p : ℕ) (e : read_tree either s ≡ got x q) (f : read_tree either s' ≡ got y p) where
      pub pair-ten : same_kind x.kind y.kind ≡ false → pair_reading s s' ≡ refusal 10 1 (p - 1)
      pair-ten k = pair_reads ∙ rw (e, f, k)

      pub pair-five : same_kind x.kind y.kind ≡ true → same_labels x.tree y.tree ≡ false → pair_reading s s' ≡ refusal 5 1 (p - 1)
      pair-five k d = pair_reads ∙ rw (e, f, k, d)

-- 9 goes behind every refusal of the text, whatever the cut number
module _ (s out : List ℕ) (room : forest_bytes ≤ length out) (fits : length s ≤ text_bytes) (c : ℕ) where
  cut-reads : cut_read s c out ≡ onward (answered 0 (read_tree rooted_only s)) (λ x. has_cut c x.tree)
  cut-reads = ample (cut_slices out) _ room ∙ in-limit 0 s _ fits

  pub nine-behind-text : (n p : ℕ) → read_tree rooted_only s ≡ refused n p → cut_read s c out ≡ refusal n 0 p
  nine-behind-text n p e = cut-reads ∙ rw e

  pub nine : (x : Kinded) (p : ℕ) → read_tree rooted_only s ≡ got x p → 2 * leaves x.tree - 2 ≤ c → cut_read s c out ≡ refusal 9 0 0
  nine x p e h = cut-reads ∙ rw (e, le-ltb c (2 * leaves x.tree - 2) h)

-- for one label, 2 goes before 3
pub two-before-three : (s : List ℕ) (q : ℕ) (seen : List ℕ) → bad_label (value s q) ≡ true → label_at s q seen ≡ refused 2 q
two-before-three s q seen h = label-bad s q seen h

-- a bracket that opens where allowed while 63 are open is 4, whatever follows
pub four-whatever-follows : (s : List ℕ) (p q : ℕ) → TooDeepAt s p q → tree_at s p ≡ refused 4 q
four-whatever-follows s p q h = (line-four-iff s p q).1 h

-- behind 160 trees any byte is 6, before it could be 1
pub six-before-one : (takes : Takes) (s : List ℕ) (q : ℕ) (xs : List Kinded) → q < length s → table_from takes 0 s q xs ≡ refused 6 q
six-before-one takes s q xs h = table-full takes 0 s q xs h refl
