-- The loop that reads a table: what is so before each turn, and the ways through a turn.
-- Assumes nothing.
use mathlib.Core.Path.{◌≡◌, refl, sym, ap, ◌∙◌}
use mathlib.Core.Logic.{inl, inr}
use mathlib.Core.Bool.{cond}
use mathlib.Core.List.{List, [], ◌∷◌, ◌++◌, map-append}
use Prim.Native.Nat.{ℕ, ◌+◌, ◌-◌, ◌≤◌, ◌<◌}
use native.Mathlib.Omega.{arith}
use lib.ListN.{length, length-append, length-map}
use Rattle.meaning.specs.Kind.{Kind, rooted, unrooted, Kinded, as_trees, Takes}
use Rattle.meaning.specs.Reading.{Read, refused, and_then, skip, is_blank, tree_at, untaken, same_kind, unlike, like_first, or_differs, table_from, read_table}
use Rattle.meaning.proofs.Logic.{clash}
use Rattle.meaning.proofs.Scan.{skip-le}
use Rattle.meaning.proofs.Sound.{tree-behind}
use Rattle.meaning.proofs.Ways.{table-ends, table-full, table-next}
use Rattle.held.specs.Kept.{kind_of, KeepsKind, held_at, KeepsTrees, FitsBehind, behind, Adds}
use Rattle.held.specs.declared.Table.{Table}
use Rattle.held.specs.declared.Tree.{Tree}
use Rattle.tokens.specs.Paper.{Accepts}
use Rattle.reading.specs.Whole.{Reads}
use Rattle.reading.specs.declared.TreeRead.{TreeRead}
use Rattle.tokens.proofs.Steps.{then-got, differs-ends, differs_none}

-- ---- the trees of a table
pub as-length : (xs : List Kinded) → length (as_trees xs).trees ≡ length xs
as-length [] = refl
as-length (x ∷ xs) = length-map (x ∷ xs) (λ (y : Kinded). y.tree)

as-behind : (xs : List Kinded) (x : Kinded) → FitsBehind (as_trees xs) x → as_trees (xs ++ (x ∷ [])) ≡ behind (as_trees xs) x
as-behind [] x fits = refl
as-behind (first ∷ xs) x (inl e) = clash cc
as-behind (first ∷ xs) x (inr e) = rw (e, map-append (λ (y : Kinded). y.tree) xs (x ∷ []))

-- where no line says why not, a tree fits behind the others
kinds-fit : (k j : Kind) (n : ℕ) → cond (same_kind k j) n 10 ≡ 0 → k ≡ j
kinds-fit rooted rooted n e = refl
kinds-fit rooted unrooted n e = absurd (omega arith)
kinds-fit unrooted rooted n e = absurd (omega arith)
kinds-fit unrooted unrooted n e = refl

like-fits : (takes : Takes) (xs : List Kinded) (x : Kinded) → like_first takes xs x ≡ 0 → FitsBehind (as_trees xs) x
like-fits takes [] x e = inl refl
like-fits takes (first ∷ xs) x e = inr (kinds-fit first.kind x.kind _ e)

-- ---- the trees so far are kept, and the rest of the text gives the answer
pub record State (takes : Takes) (s : List ℕ) (table : Table) (at : ℕ) : Type 0 where
  pub done : List Kinded
  pub keeps : KeepsTrees table (as_trees done)
  pub within : at ≤ length s
  pub same : read_table takes s ≡ table_from takes (160 - table.len) s at done

pub start : (takes : Takes) (s : List ℕ) (table : Table) (at : ℕ) → KeepsTrees table (as_trees []) → at ≡ skip s 0 → State takes s table at
unfolding read_table
start takes s table at h e = record { done = []; keeps = h; within = rw e (skip-le is_blank s 0 (omega arith)); same = rw (h.all.count, e) }

-- what follows the tree x, whose text ends at p, behind the trees `done`
abbrev next : Takes → List ℕ → Table → List Kinded → Kinded → ℕ → Read (List Kinded)
next takes s table done x p = table_from takes (160 - (table.len + 1)) s (skip s p) (done ++ (x ∷ []))

-- what it gives
abbrev goes : Takes → List ℕ → Table → List Kinded → Kinded → ℕ → Read (List Kinded)
goes takes s table done x p = or_differs (like_first takes done x) p (next takes s table done x p)

module _ {takes : Takes} {s : List ℕ} {table : Table} {at : ℕ} (st : State takes s table at) where
  pub at-end : length s ≤ at → Accepts (read_table takes s) (length s) (λ xs. KeepsTrees table (as_trees xs))
  at-end h =
      let e : at ≡ length s = omega (arith, st.within) in
      record { value = st.done; is = rw (← e) (st.same ∙ table-ends takes (160 - table.len) s at st.done h); keeps = st.keeps }

  module _ (more : at < length s) where
    pub at-full : 160 ≤ table.len → read_table takes s ≡ refused 6 at
    at-full e = st.same ∙ table-full takes (160 - table.len) s at st.done more (omega arith)

    module _ (room : table.len ≡ 160 → ⊥) where
      pub left : table.len < 160
      left = omega (arith, st.keeps.all.count, st.keeps.all.few, room)

      pub more-trees : read_table takes s ≡ and_then (tree_at s at) (goes takes s table st.done)
      more-trees =
          let z : 160 - table.len - 1 ≡ 160 - (table.len + 1) = omega arith in
          rw z at (st.same ∙ table-next takes (160 - table.len) s at st.done more (omega (arith, left)))

      -- a tree is read, and it is tried whether it can stand behind the others; n is the line that says why not, or 0
      module _ {read : TreeRead} (T : Accepts (tree_at s at) read.behind (Reads read)) where
        pub place : 1 ≤ read.behind
        place = omega (arith, (tree-behind s at T.value read.behind T.is).0)

        module _ {n : ℕ} (f : (xs : List Kinded) (x : Kinded) → KeepsTrees table (as_trees xs) → KeepsKind read.tree x → n ≡ like_first takes xs x) where
          line : like_first takes st.done T.value ≡ n
          line = sym (f st.done T.value st.keeps T.keeps.keeps)

          abbrev rest : Read (List Kinded)
          rest = next takes s table st.done T.value read.behind

          pub at-differs : 1 ≤ n → read_table takes s ≡ refused n (read.behind - 1)
          at-differs h = more-trees ∙ then-got (goes takes s table st.done) T.is ∙ rw line (differs-ends n read.behind rest h)

          -- it is kept behind them
          module _ (e : n ≡ 0) {table' : Table} (push : Adds table read.tree table') where
            pushed : KeepsTrees table' (as_trees (st.done ++ (T.value ∷ [])))
            pushed =
                let fits = like-fits takes st.done T.value (line ∙ e) in
                rw (as-behind st.done T.value fits) (push (as_trees st.done) T.value st.keeps T.keeps.keeps fits)

            one_more : table'.len ≡ table.len + 1
            one_more = omega (arith, pushed.all.count, as-length (st.done ++ (T.value ∷ [])), length-append st.done (T.value ∷ []), as-length st.done, st.keeps.all.count)

            pub falls : 160 - table'.len < 160 - table.len
            falls = omega (arith, one_more, left)

            pub at_more : {at' : ℕ} → at' ≡ skip s read.behind → State takes s table' at'
            at_more h = record {
              done = st.done ++ (T.value ∷ []);
              keeps = pushed;
              within = rw h (skip-le is_blank s read.behind (tree-behind s at T.value read.behind T.is).1);
              same = more-trees ∙ then-got (goes takes s table st.done) T.is ∙ differs_none (like_first takes st.done T.value) read.behind rest (line ∙ e) ∙ rw (one_more, h);
            }

-- ---- the comparison with the first
pub like-none : (takes : Takes) (xs : List Kinded) (x : Kinded) (table : Table) (tree : Tree) (r : ℕ) → KeepsTrees table (as_trees xs) → KeepsKind tree x → table.len ≡ 0
    → r ≡ untaken takes (kind_of tree.kind) → r ≡ like_first takes xs x
like-none takes [] x table tree r h k e f = f ∙ ap (untaken takes) k.kind
like-none takes (first ∷ xs) x table tree r h k e f = absurd (omega (arith, h.all.count))

pub like-some : (takes : Takes) (xs : List Kinded) (x : Kinded) (table : Table) (r : ℕ) → KeepsTrees table (as_trees xs) → (table.len ≡ 0 → ⊥)
    → ((first : Kinded) → KeepsKind (held_at table 0) first → r ≡ unlike first x) → r ≡ like_first takes xs x
like-some takes [] x table r h f k = absurd (f h.all.count)
like-some takes (first ∷ xs) x table r h f k = k first (record { kind = h.first; keeps = h.all.each 0 (omega arith); stands = h.stand 0 (omega arith) })
