-- The starred samples of document 01, samples of unrooted trees and of compared forests, and what each claims. docs/RULES.md says what document 01 is.
-- Assumes nothing.
use Rattle.std.specs.Prelude.{◌≡◌, true, false, List, [], ◌∷◌, ℕ, ◌≤◌, length}
use Prim.Native.String.{String}
use Rattle.meaning.specs.Limits.{kind_bytes, forest_bytes, max_trees, table_bytes, pair_numbers}
use Rattle.meaning.specs.Bytes.{bytes}
use Rattle.meaning.specs.Kind.{Kinded, Trees}
use Rattle.meaning.specs.Listing.{Pair}
use Rattle.meaning.specs.Decide.{shared}
use Rattle.meaning.specs.Answer.{accepted, refusal, TableMemory, FirstsMemory, written}
use Rattle.meaning.specs.Calls.{form_call, cut_call, pair_reading, PairCall, table_call, firsts_graph_of, GraphCall}

-- a text and what a call gives for it
pub data Sample : Type 0 where
  has_form : (text form : String) → Sample
  form-refused : (text : String) (number place : ℕ) → Sample
  no_cuts : (text : String) → Sample
  has-cut : (text : String) (cut : ℕ) (forest : String) → Sample
  cut-refused : (text : String) (cut number place : ℕ) → Sample
  table-refused : (text : String) (number place : ℕ) → Sample
  yes_apart : (text text' : String) (compared : ℕ) → Sample
  no_apart : (text text' : String) (compared : ℕ) → Sample
  shares : (text text' : String) (forests : ℕ) → Sample
  lists : (table : String) (trees : ℕ) (pairs : List Pair) → Sample

-- the claim of a sample, whatever memory of the stated size is lent
abbrev pub Claim : Sample → Type 0
Claim (has_form x y) = (out : List ℕ) → kind_bytes ≤ length out → form_call (bytes x) out ≡ record { answer = accepted (length (bytes y)); memory = written (bytes y) out }
Claim (form-refused x n p) = (out : List ℕ) → kind_bytes ≤ length out → form_call (bytes x) out ≡ record { answer = refusal n 0 p; memory = out }
Claim (no_cuts x) = (c : ℕ) (out : List ℕ) → forest_bytes ≤ length out → cut_call (bytes x) c out ≡ record { answer = refusal 9 0 0; memory = out }
Claim (has-cut x c y) = (out : List ℕ) → forest_bytes ≤ length out → cut_call (bytes x) c out ≡ record { answer = accepted (length (bytes y)); memory = written (bytes y) out }
Claim (cut-refused x c n p) = (out : List ℕ) → forest_bytes ≤ length out → cut_call (bytes x) c out ≡ record { answer = refusal n 0 p; memory = out }
Claim (table-refused x n p) =
    (memory : TableMemory) → table_bytes ≤ length memory.texts → max_trees ≤ length memory.ends → table_call (bytes x) memory ≡ record { answer = refusal n 0 p; memory = memory }
Claim (yes_apart x y n) = PairCall (bytes x) (bytes y) (accepted (record { yes = true; forests = n }))
Claim (no_apart x y n) = PairCall (bytes x) (bytes y) (accepted (record { yes = false; forests = n }))
Claim (shares x y n) = (t : Kinded) × (u : Kinded) × (pair_reading (bytes x) (bytes y) ≡ accepted (t, u)) × (shared t.tree u.tree ≡ n)
Claim (lists x k ps) =
    (memory : FirstsMemory) → pair_numbers ≤ length memory.graph.pairs → max_trees ≤ length memory.graph.counts → max_trees ≤ length memory.firsts
    → (ts : Trees) × (length ts.trees ≡ k) × GraphCall (bytes x) memory (firsts_graph_of ts.trees ps memory)

-- all of them hold
abbrev pub AllHold : List Sample → Type 0
AllHold [] = Unit {0}
AllHold (s ∷ ss) = Claim s × AllHold ss

-- those of document 01
abbrev pub samples : List Sample
samples =
    has_form "(3,(2,1));" "((1,2),3);"
    ∷ has_form "(10,2);" "(2,10);"
    ∷ has_form " 7 ;" "7;"
    ∷ no_cuts " 7 ;"
    ∷ form-refused "(1,2,3);" 1 4
    ∷ form-refused "(1,2)" 1 5
    ∷ form-refused "(1,1);" 3 3
    ∷ form-refused "(1,65);" 2 3
    ∷ table-refused "(1,2);(1,3);" 5 11
    ∷ has-cut "((1,2),(3,4));" 0 "(3,4) (1,2);"
    ∷ has-cut "((1,2),(3,4));" 3 "(1,2) (3,4);"
    ∷ yes_apart "(((1,2),3),4);" "((1,2),(3,4));" 1
    ∷ shares "(((1,2),3),4);" "((1,2),(3,4));" 3
    ∷ lists "(((1,2),3),4);((1,2),(3,4));" 2 ((0, 1) ∷ [])
    ∷ no_apart "(((1,2),3),4);" "(((3,4),1),2);" 4
    ∷ no_apart "((((4,5),1),2),3);" "((((1,2),3),4),5);" 5
    ∷ []

-- those of ticket 8 of document 02: marks, tops, the canonical text, line 10 and the move
abbrev pub unrooted_samples : List Sample
unrooted_samples =
    has_form " [&U] (9,7);" "[&U](7,9);"
    ∷ has_form "[&U]((5,1),2,(4,3));" "[&U](1,(2,(3,4)),5);"
    ∷ has_form "[&R](2,1);" "(1,2);"
    ∷ form-refused "[&u](1,2,3);" 1 2
    ∷ form-refused "[&U" 1 3
    ∷ form-refused "[&U][&U](1,2,3);" 1 4
    ∷ form-refused "[&U](1,(2,3));" 1 12
    ∷ form-refused "[&U](1,2,3,4);" 1 10
    ∷ cut-refused "[&U](1,2,3); x" 99 10 11
    ∷ table-refused "[&U](1,2,3);(1,2);" 10 17
    ∷ table-refused "(1,2);(1,3);[&U](1,2);" 5 11
    ∷ yes_apart "[&U](1,2,(3,4));" "[&U](1,3,(2,4));" 0
    ∷ yes_apart "[&U](1,2,(3,(4,(5,6))));" "[&U](1,2,(((3,4),5),6));" 0
    ∷ no_apart "[&U](1,2,(3,4));" "[&U]((4,3),2,1);" 0
    ∷ lists "[&U](1,2,(3,4));[&U](1,3,(2,4));[&U](2,1,(4,3));" 3 ((0, 1) ∷ [])
    ∷ []

-- those of ticket 12 of document 02: clades of other subtrees count, the first shared forest does and none behind it, either order, one topology
abbrev pub bound_samples : List Sample
bound_samples =
    yes_apart "((((1,2),3),4),5);" "((((1,3),2),4),5);" 3
    ∷ yes_apart "((((1,2),3),4),5);" "((((1,5),2),3),4);" 5
    ∷ yes_apart "((((1,5),2),3),4);" "((((1,2),3),4),5);" 2
    ∷ no_apart "(((1,2),3),4);" "(4,(3,(2,1)));" 0
    ∷ no_apart "7;" "7;" 0
    ∷ []
