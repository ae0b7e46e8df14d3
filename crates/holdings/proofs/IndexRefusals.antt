-- In which order the calls on an index refuse, and that each line is given exactly where it is met.
-- Assumes nothing.
use mathlib.Core.Path.{◌≡◌, sym, ap, ◌∙◌}
use mathlib.Core.Bool.{Bool, cond}
use mathlib.Core.List.{List, [], ◌∷◌, map}
use Prim.Native.Nat.{ℕ, suc, ◌-◌, ◌≤◌, ◌<◌}
use native.Mathlib.Omega.{arith}
use borrow.Author.Tests.{eq-eqb, ne_eqb}
use lib.ListN.{length}
use Rattle.meaning.specs.Limits.{text_bytes, max_trees}
use Rattle.meaning.specs.Tree.{Tree, SameClade}
use Rattle.meaning.specs.Kind.{Kinded, rooted, unrooted, either, rooted_only}
use Rattle.meaning.specs.Reading.{got, refused, read_tree, like_first}
use Rattle.meaning.specs.Answer.{Answer, accepted, refusal, Outcome, onward, conclude}
use Rattle.meaning.proofs.Same.{clade-trans}
use Rattle.meaning.proofs.Logic.{clash}
use Rattle.meaning.proofs.Alike.{unlike-ten, unlike-five}
use Rattle.meaning.proofs.Determined.{not-both, same-refusal}
use Rattle.meaning.proofs.Lent.{Short, seven, ample, eight, in-limit}
use Rattle.holdings.specs.Slots.{Slot, free, held, slot_at, smallest_free, trees}
use Rattle.holdings.specs.Memory.{index_bytes, IsIndex, Valid}
use Rattle.holdings.specs.IndexCalls.{Opened, closed, opens, foreign, index_slices, add_first, table, fitting, joined, add_read, add_to, AddCall, adds, having, ask_slices, ask_first, number_read, AskCall, remove_first, remove_from, RemoveCall, removes}
use Rattle.holdings.proofs.HeldTrees.{first-held}
use Rattle.holdings.proofs.IndexCalls.{opened_one}

-- the outcome is a refusal by line n at the place p, and nothing is changed
abbrev Refused : {A : Type 0} → List ℕ → Outcome A (List ℕ) → ℕ → ℕ → Type 0
Refused memory o n p = o ≡ record { answer = refusal n 0 p; memory = memory }

-- ---- adding
-- what opening memory gives, where it is refused before it is looked at, and where it is not
closed-one : {first : Answer (Unit {0})} {memory : List ℕ} {a : Answer (List Slot)} {n i p : ℕ} → first ≡ refusal n i p → Opened first memory a → a ≡ refusal n i p
closed-one {n} {i} {p} e A = opened_one A (closed n i p e)

foreign-one : {first : Answer (Unit {0})} {memory : List ℕ} {a : Answer (List Slot)} → first ≡ accepted tt → ¬ Valid memory → Opened first memory a → a ≡ refusal 12 0 0
foreign-one e n A = opened_one A (foreign e n)

-- what adding reads tells what it refuses
refuse-add : {s memory : List ℕ} {o : Outcome ℕ (List ℕ)} {n p : ℕ} → ((a : Answer (List Slot)) → Opened (add_first s memory) memory a → add_read s a ≡ refusal n 0 p) → AddCall s memory o → Refused memory o n p
refuse-add {memory} f (adds a A) = ap (λ (r : Answer ((hs : List Slot) × Tree)). conclude r memory (add_to memory)) (f a A)

module _ (s memory : List ℕ) {o : Outcome ℕ (List ℕ)} where
  -- 7 first
  pub add_seven : length memory < index_bytes → AddCall s memory o → Refused memory o 7 0
  add_seven h = refuse-add (λ a A. ap (add_read s) (closed-one (seven (index_slices memory) _ h) A))

  module _ (long : index_bytes ≤ length memory) where
    -- then 8
    pub add_eight : text_bytes < length s → AddCall s memory o → Refused memory o 8 0
    add_eight h = refuse-add (λ a A. ap (add_read s) (closed-one (ample (index_slices memory) _ long ∙ eight 0 s _ h) A))

    module _ (short : length s ≤ text_bytes) where
      -- then 12
      pub add-twelve : ¬ Valid memory → AddCall s memory o → Refused memory o 12 0
      add-twelve n = refuse-add (λ a A. ap (add_read s) (foreign-one (ample (index_slices memory) _ long ∙ in-limit 0 s _ short) n A))

      module _ {hs : List Slot} (I : IsIndex hs memory) where
        by-joined : {n p : ℕ} → joined hs (read_tree either s) ≡ refusal n 0 p → AddCall s memory o → Refused memory o n p
        by-joined e =
            refuse-add (λ a A.
            ap (add_read s) (opened_one A (opens hs (ample (index_slices memory) _ long ∙ in-limit 0 s _ short) I))
            ∙ ap (λ (b : Answer Tree). onward b λ t. accepted (hs, t)) e)

        -- then the text's
        pub add-text : (n p : ℕ) → read_tree either s ≡ refused n p → AddCall s memory o → Refused memory o n p
        add-text n p e = by-joined (ap (joined hs) e)

        module _ (x : Kinded) (p : ℕ) (read : read_tree either s ≡ got x p) where
          -- then 6
          pub add_six : smallest_free hs ≡ max_trees → AddCall s memory o → Refused memory o 6 0
          add_six e = by-joined (ap (joined hs) read ∙ ap (λ (b : Bool). cond b (refusal 6 0 0) (fitting (like_first rooted_only (table hs) x) x p)) (eq-eqb (smallest_free hs) max_trees e))

          module _ (room : smallest_free hs < max_trees) where
            by-line : (n : ℕ) → like_first rooted_only (table hs) x ≡ suc n → AddCall s memory o → Refused memory o (suc n) (p - 1)
            by-line n e =
                let other : smallest_free hs ≡ max_trees → ⊥ = λ d. omega arith in
                by-joined (ap (joined hs) read ∙ ap (λ (b : Bool). cond b (refusal 6 0 0) (fitting (like_first rooted_only (table hs) x) x p)) (ne_eqb (smallest_free hs) max_trees other) ∙ ap (λ (m : ℕ). fitting m x p) e)

            -- then 10
            pub add-ten : x.kind ≡ unrooted → AddCall s memory o → Refused memory o 10 (p - 1)
            add-ten k = by-line 9 (go (trees hs))
              where
                differ : rooted ≡ x.kind → ⊥
                differ e = clash cc

                go : (ts : List Tree) → like_first rooted_only (map (λ (t : Tree). record { kind = rooted; tree = t }) ts) x ≡ 10
                go [] = rw k
                go (t ∷ ts) = unlike-ten (record { kind = rooted; tree = t }) x differ

            -- then 5
            pub add_five : x.kind ≡ rooted → (y : ℕ) (u : Tree) → slot_at hs y ≡ held u → ¬ SameClade u x.tree → AddCall s memory o → Refused memory o 5 (p - 1)
            add_five k y u d n =
                let (z, v, vs, f, g) = first-held hs y d in
                by-line 4 (ap (λ (ts : List Tree). like_first rooted_only (map (λ (t : Tree). record { kind = rooted; tree = t }) ts) x) g
                ∙ unlike-five (record { kind = rooted; tree = v }) x (sym k) (λ c. n (clade-trans (I.trees.alike y z u v d f) c)))

-- ---- asking
refuse-ask : {x : ℕ} {memory list : List ℕ} {o : Outcome ℕ (List ℕ)} {n : ℕ}
    → ((a : Answer (List Slot)) → Opened (ask_first memory list) memory a → number_read x a ≡ refusal n 0 0) → AskCall x memory list o → Refused list o n 0
refuse-ask f (AskCall.lists hs ys a A e N) = absurd (not-both e (f a A))
refuse-ask f (AskCall.refuses m i p a A e) = let (u, v, w) = same-refusal e (f a A) in cc

module _ (x : ℕ) (memory list : List ℕ) {o : Outcome ℕ (List ℕ)} where
  -- 7 first
  pub ask-seven : Short (ask_slices memory list) → AskCall x memory list o → Refused list o 7 0
  ask-seven h = refuse-ask (λ a A. ap (number_read x) (closed-one (seven (ask_slices memory list) _ h) A))

  module _ (long : index_bytes ≤ length memory) (room : max_trees ≤ length list) where
    -- then 12
    pub ask-twelve : ¬ Valid memory → AskCall x memory list o → Refused list o 12 0
    ask-twelve n = refuse-ask (λ a A. ap (number_read x) (foreign-one (ample (ask_slices memory list) _ (long, room)) n A))

    -- then 13
    pub ask-thirteen : {hs : List Slot} → IsIndex hs memory → slot_at hs x ≡ free → AskCall x memory list o → Refused list o 13 0
    ask-thirteen {hs} I e = refuse-ask (λ a A. ap (number_read x) (opened_one A (opens hs (ample (ask_slices memory list) _ (long, room)) I)) ∙ ap (having hs) e)

-- ---- removing
refuse-remove : {x : ℕ} {memory : List ℕ} {o : Outcome (Unit {0}) (List ℕ)} {n : ℕ}
    → ((a : Answer (List Slot)) → Opened (remove_first memory) memory a → number_read x a ≡ refusal n 0 0) → RemoveCall x memory o → Refused memory o n 0
refuse-remove {x} {memory} f (removes a A) = ap (λ (r : Answer (List Slot)). conclude r memory (remove_from x memory)) (f a A)

module _ (x : ℕ) (memory : List ℕ) {o : Outcome (Unit {0}) (List ℕ)} where
  -- 7 first
  pub remove-seven : length memory < index_bytes → RemoveCall x memory o → Refused memory o 7 0
  remove-seven h = refuse-remove (λ a A. ap (number_read x) (closed-one (seven (index_slices memory) _ h) A))

  module _ (long : index_bytes ≤ length memory) where
    -- then 12
    pub remove-twelve : ¬ Valid memory → RemoveCall x memory o → Refused memory o 12 0
    remove-twelve n = refuse-remove (λ a A. ap (number_read x) (foreign-one (ample (index_slices memory) _ long) n A))

    -- then 13
    pub remove-thirteen : {hs : List Slot} → IsIndex hs memory → slot_at hs x ≡ free → RemoveCall x memory o → Refused memory o 13 0
    remove-thirteen {hs} I e = refuse-remove (λ a A. ap (number_read x) (opened_one A (opens hs (ample (index_slices memory) _ long) I)) ∙ ap (having hs) e)
