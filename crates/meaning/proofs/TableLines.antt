-- The refusal list in a table: a table is refused by a line exactly where it is met.
-- Assumes nothing.
use mathlib.Core.Path.{◌≡◌, refl, sym, ap, ◌∙◌}
use mathlib.Core.Logic.{◌↔◌}
use mathlib.Core.Bool.{Bool, true, false}
use mathlib.Core.List.{List, [], ◌∷◌, ◌++◌, append_assoc, Memᴰ}
use Prim.Native.Nat.{ℕ, zero, suc, ◌+◌, ◌-◌, ◌<◌, ◌≤◌}
use native.Mathlib.Nat.{zero-add}
use native.Mathlib.Decide.{dec_le}
use native.Mathlib.Omega.{arith}
use lib.Dec.{lit<, leb, leb→le}
use lib.ListN.{length, drop, length-append}
use Rattle.meaning.specs.Limits.{max_open, max_trees}
use Rattle.meaning.specs.Kind.{Kind, rooted, unrooted, Kinded, Takes, either, rooted_only}
use Rattle.meaning.specs.Grammar.{Taken}
use Rattle.meaning.specs.Reading.{refused, is_blank, is_digit, byte_at, skip, top_at, tree_at, untaken, like_first, table_from, read_table}
use Rattle.meaning.specs.Refusals.{tree_refusals}
use Rattle.meaning.specs.Prefix.{From, WrongTokenAt, BadLabelAt, LabelAgainAt, TooDeepAt, LikeFirst, KindOfFirst, TreesBefore, without_tree, behind_tree, InTreeAt, TreeEndsAt, OtherKindAt, OtherLabelsAt, OneMoreAt}
use Rattle.meaning.proofs.Alike.{unlike-ten, unlike-five, like-first-iff}
use Rattle.meaning.proofs.Lists.{every-mem}
use Rattle.meaning.proofs.Logic.{iff-then, clash}
use Rattle.meaning.proofs.Scan.{inside, digit_low, past-byte}
use Rattle.meaning.proofs.Ways.{Gives, refuses, gives-refused, gives_self, gives-map, gives-and, then-gives, differs-gives, end-gives, node-bad, tree_plain, table-full, table-next}
use Rattle.meaning.proofs.Complete.{at_next}
use Rattle.meaning.proofs.Sound.{then-from, from-behind, skip-to, run, run-from, run_is, SoundTree, tree-gives}
use Rattle.meaning.proofs.Places.{Ends, ends-start, ends-tree, tree_places}
use Rattle.meaning.proofs.TableText.{tree-skip, next-tree, next-behind, next-read}
use Rattle.meaning.proofs.Lines.{line-one-iff, line-two-iff, line-three-iff, line-four-iff}

-- what stands behind x, where x stands at the text's start
from_start : {s : List ℕ} {e : ℕ} (x y : List ℕ) → From s 0 e (x ++ y) → From s (length x) e y
from_start x y X = rw zero-add at (from-behind x y X)

-- the line by which the tree x can't stand behind the trees xs: 10 where the kind is another, then 5
module _ (takes : Takes) where
  other-kind : (xs : List Kinded) (x : Kinded) → (KindOfFirst takes xs x → ⊥) → like_first takes xs x ≡ 10
  unfolding KindOfFirst
  other-kind [] x f = by takes x.kind f
    where
      by : (takes : Takes) (k : Kind) → (Taken takes k → ⊥) → untaken takes k ≡ 10
      by either k f = absurd (f tt)
      by rooted_only rooted f = absurd (f refl)
      by rooted_only unrooted f = refl
  other-kind (first ∷ xs) x f = unlike-ten first x f

  other-labels : (xs : List Kinded) (x : Kinded) → KindOfFirst takes xs x → (LikeFirst takes xs x → ⊥) → like_first takes xs x ≡ 5
  unfolding KindOfFirst LikeFirst
  other-labels [] x k f = absurd (f k)
  other-labels (first ∷ xs) x k f = unlike-five first x k (λ L. f (record { kinds = k; labels = L }))

  kind-decided : (xs : List Kinded) (x : Kinded) → Dec (KindOfFirst takes xs x)
  unfolding KindOfFirst
  kind-decided [] x = by takes x.kind
    where
      by : (takes : Takes) (k : Kind) → Dec (Taken takes k)
      by either k = yes tt
      by rooted_only rooted = yes refl
      by rooted_only unrooted = no (λ e. clash cc)
  kind-decided (first ∷ xs) x = by first.kind x.kind
    where
      by : (k j : Kind) → Dec (k ≡ j)
      by rooted rooted = yes refl
      by rooted unrooted = no (λ e. clash cc)
      by unrooted rooted = no (λ e. clash cc)
      by unrooted unrooted = yes refl

-- behind trees that stand before a place, what follows there is read
trees-reach : {takes : Takes} {x : List ℕ} {ts : List Kinded} → TreesBefore takes x ts → (s rest : List ℕ) → s ≡ x ++ rest → read_table takes s ≡ table_from takes (max_trees - length ts) s (skip s (length x)) ts
unfolding read_table
trees-reach without_tree s rest here = refl
trees-reach {takes} (behind_tree {x} {y} {xs = ts} {t} B few T L) s rest here =
    let here₀ : s ≡ x ++ (y ++ rest) = here ∙ append_assoc x y rest in
    let here₁ : drop (length x) s ≡ y ++ rest = rw zero-add at (at_next s 0 x (y ++ rest) here₀) in
    let slots : max_trees - length ts - 1 ≡ max_trees - length (ts ++ (t ∷ [])) = rw length-append (omega arith) in
    trees-reach B s (y ++ rest) here₀ ∙ next-read T s (length x) rest here₁ takes (max_trees - length ts) ts (omega arith) ((like-first-iff takes ts t).1 L) ∙ rw (slots, length-append x y)

-- a tree that is refused by another line than 1 is not at the text's end
some_byte : (s : List ℕ) (p n q : ℕ) → (n ≡ 1 → ⊥) → tree_at s p ≡ refused n q → skip s p < length s
unfolding top_at
some_byte s p n q f e = by (dec_le (length s) (skip s p))
  where
    no_digit : length s ≤ skip s p → (d : Bool) → is_digit (byte_at s (skip s p)) ≡ d → d ≡ false
    no_digit h true z = let k = inside s (skip s p) refl (omega (arith, digit_low (byte_at s (skip s p)) z)) in absurd (omega arith)
    no_digit h false z = refl

    ends : length s ≤ skip s p → tree_at s p ≡ refused 1 (skip s p)
    ends h =
        tree_plain s p (λ z. let k = inside s (skip s p) z (lit< tt) in omega arith)
        ∙ rw (node-bad s p [] max_open (no_digit h (is_digit (byte_at s (skip s p))) refl) (λ z. let k = inside s (skip s p) z (lit< tt) in omega arith))

    by : Dec (length s ≤ skip s p) → skip s p < length s
    by (yes l) = let r = ends l in let z : n ≡ 1 = cc in absurd (f z)
    by (no l) = omega arith

-- more is known of the tree in which a line is met
in-tree-map : {takes : Takes} {s : List ℕ} {M M' : ℕ → Type 0} → ((p : ℕ) → M p → M' p) → InTreeAt takes s M → InTreeAt takes s M'
in-tree-map f I = record { text = I.text; xs = I.xs; p = I.p; before = I.before; few = I.few; stands = I.stands; met = f I.p I.met }

-- where a line is met, the table is refused by it
module _ {takes : Takes} {s : List ℕ} {q : ℕ} where
  in-tree-met : {n : ℕ} → InTreeAt takes s (λ p. (skip s p < length s) × (tree_at s p ≡ refused n q)) → read_table takes s ≡ refused n q
  in-tree-met {n} I =
      let place : I.p ≡ length I.text = I.stands.place ∙ zero-add (length I.text) in
      let e : tree_at s (skip s (length I.text)) ≡ refused n q = tree-skip s (length I.text) ∙ (rw place at I.met.1) in
      trees-reach I.before s (drop I.p s) I.stands.split
      ∙ table-next takes (max_trees - length I.xs) s (skip s (length I.text)) I.xs (rw place at I.met.0) (omega (arith, I.few)) ∙ rw e

  -- lines 10 and 5, at the `;` of a tree
  end-met : (U : TreeEndsAt takes s q) (m : ℕ) → like_first takes U.xs U.t ≡ suc m → read_table takes s ≡ refused (suc m) q
  end-met U m z =
      let x = U.text in
      let T = from_start x U.own U.stands in
      let b = next-behind U.tree s (length x) (drop (q + 1) s) T.split in
      let place : length x + length U.own - 1 ≡ q = omega (arith, T.place) in
      trees-reach U.before s (U.own ++ drop (q + 1) s) (U.stands.split ∙ append_assoc x U.own (drop (q + 1) s))
      ∙ table-next takes (max_trees - length U.xs) s (skip s (length x)) U.xs (omega (arith, b.0, b.1)) (omega (arith, U.few))
      ∙ rw (next-tree U.tree s (length x) (drop (q + 1) s) T.split, z) (ap (refused (suc m)) place)

  ten-met : OtherKindAt takes s q → read_table takes s ≡ refused 10 q
  ten-met O = end-met O.ends 9 (other-kind takes O.ends.xs O.ends.t O.differs)

  five-met : OtherLabelsAt takes s q → read_table takes s ≡ refused 5 q
  five-met O = end-met O.ends 4 (other-labels takes O.ends.xs O.ends.t O.kind O.differs)

  six-met : OneMoreAt takes s q → read_table takes s ≡ refused 6 q
  six-met O =
      let x = O.text in
      trees-reach O.before s (O.blanks ++ drop q s) (O.stands.split ∙ append_assoc x O.blanks (drop q s))
      ∙ rw (skip-to (from_start x O.blanks O.stands) O.blank O.solid) (table-full takes (max_trees - length O.xs) s q O.xs O.in_text (omega (arith, O.full)))

-- the trees xs stand up to p, where `slots` more may come
record Before (takes : Takes) (s : List ℕ) (slots p : ℕ) (xs : List Kinded) : Type 0 where
  text : List ℕ
  before : TreesBefore takes text xs
  stands : From s 0 p text
  left : slots + length xs ≡ max_trees

-- what a refusal by line n at q says
record Met (takes : Takes) (s : List ℕ) (n q : ℕ) : Type 0 where
  in_tree : n ≤ 4 → InTreeAt takes s (λ p. (skip s p < length s) × (tree_at s p ≡ refused n q))
  five : n ≡ 5 → OtherLabelsAt takes s q
  six : n ≡ 6 → OneMoreAt takes s q
  ten : n ≡ 10 → OtherKindAt takes s q

module _ (takes : Takes) (s : List ℕ) where
  six-is : (p : ℕ) (xs : List Kinded) → Before takes s 0 p xs → skip s p < length s → Met takes s 6 (skip s p)
  unfolding is_blank
  six-is p xs B l = record {
    in_tree = λ f. absurd (omega arith);
    five = λ e. absurd (omega arith);
    six = λ e. record {
      text = B.text;
      blanks = run is_blank s p;
      xs = xs;
      before = B.before;
      full = omega (arith, B.left);
      blank = run_is is_blank s p;
      stands = then-from B.stands (run-from is_blank s p);
      in_text = l;
      solid = past-byte is_blank s p refl;
    };
    ten = λ e. absurd (omega arith);
  }

  -- lines 10 and 5: a tree that is not like the first
  module _ (slots p : ℕ) (xs : List Kinded) (x : Kinded) (e : ℕ) (B : Before takes s (suc slots) p xs) (S : SoundTree s p x e) where
    ends-here : TreeEndsAt takes s (e - 1)
    ends-here = record {
      text = B.text;
      xs = xs;
      own = S.text;
      t = x;
      before = B.before;
      few = omega (arith, B.left);
      tree = S.derives;
      stands = (let back : e - 1 + 1 ≡ e = omega (arith, S.behind_it.0) in rw back (then-from B.stands S.stands));
    }

    unlike-is : (m : ℕ) → like_first takes xs x ≡ suc m → Met takes s (suc m) (e - 1)
    unfolding ends-here
    unlike-is m z = by (kind-decided takes xs x)
      where
        differs : LikeFirst takes xs x → ⊥
        differs L = omega (arith, (like-first-iff takes xs x).1 L, z)

        by : Dec (KindOfFirst takes xs x) → Met takes s (suc m) (e - 1)
        by (yes k) =
            let five : suc m ≡ 5 = sym z ∙ other-labels takes xs x k differs in
            record {
              in_tree = λ f. absurd (omega arith);
              five = λ _. record { ends = ends-here; kind = k; differs = differs };
              six = λ h. absurd (omega arith);
              ten = λ h. absurd (omega arith);
            }
        by (no f) =
            let ten : suc m ≡ 10 = sym z ∙ other-kind takes xs x f in
            record {
              in_tree = λ f. absurd (omega arith);
              five = λ h. absurd (omega arith);
              six = λ h. absurd (omega arith);
              ten = λ _. record { ends = ends-here; differs = f };
            }

  -- lines 1 to 4 are met in a tree
  tree_is : (slots p : ℕ) (xs : List Kinded) → Before takes s (suc slots) p xs → skip s p < length s → (n q : ℕ) → Memᴰ n tree_refusals → tree_at s p ≡ refused n q → Met takes s n q
  tree_is slots p xs B l n q m e = let low : n ≤ 4 = leb→le n 4 (every-mem (λ (k : ℕ). leb k 4) tt m) in record {
    in_tree = λ _. record { text = B.text; xs = xs; p = p; before = B.before; few = omega (arith, B.left); stands = B.stands; met = (l, e) };
    five = λ z. absurd (omega arith);
    six = λ z. absurd (omega arith);
    ten = λ z. absurd (omega arith);
  }

  before_more : (slots p : ℕ) (xs : List Kinded) (x : Kinded) (e : ℕ) → Before takes s (suc slots) p xs → SoundTree s p x e → like_first takes xs x ≡ 0 → Before takes s slots e (xs ++ (x ∷ []))
  before_more slots p xs x e B S z = record {
    text = B.text ++ S.text;
    before = behind_tree B.before (omega (arith, B.left)) S.derives ((like-first-iff takes xs x).0 z);
    stands = then-from B.stands S.stands;
    left = rw length-append (omega (arith, B.left));
  }

  -- what the tree at p gives, behind blanks
  next-gives : (p : ℕ) → Ends s p → Gives (SoundTree s p) (λ n q. Memᴰ n tree_refusals × (tree_at s p ≡ refused n q)) (tree_at s (skip s p))
  next-gives p E =
      rw (tree-skip s p) (gives-map (λ x e h. h.0.0) (λ n q h. (h.0.1.line, h.1)) (gives-and (gives-and (tree-gives s p) (tree_places s p E)) (gives_self (tree_at s p))))

  from-met : (slots p : ℕ) (xs : List Kinded) → Before takes s slots p xs → Ends s p → Gives (λ us e. Unit {0}) (Met takes s) (table_from takes slots s (skip s p) xs)
  unfolding table_from
  from-met zero p xs B E = end-gives s xs (skip s p) _ (λ l. tt) (λ l. refuses (six-is p xs B l))
  from-met (suc slots) p xs B E =
      end-gives s xs (skip s p) _ (λ l. tt) λ l.
      then-gives _ (gives-map (λ x e S. S) (λ n q h. tree_is slots p xs B l n q h.0 h.1) (next-gives p E)) λ x e S.
      differs-gives (like_first takes xs x) e (λ m z. unlike-is slots p xs x e B S m z) λ z.
      from-met slots e (xs ++ (x ∷ [])) (before_more slots p xs x e B S z) (ends-tree s S)

  table-met : (n q : ℕ) → read_table takes s ≡ refused n q → Met takes s n q
  unfolding read_table
  table-met n q e = gives-refused (from-met max_trees 0 [] (record { text = []; before = without_tree; stands = record { split = refl; place = refl }; left = refl }) (ends-start s)) e

  -- a table is refused by one of the lines 1 to 4 exactly where a tree is, behind fewer than 160 trees that are all alike
  pub table-by-tree : (n q : ℕ) → n ≤ 4 → (read_table takes s ≡ refused n q) ↔ InTreeAt takes s (λ p. (skip s p < length s) × (tree_at s p ≡ refused n q))
  table-by-tree n q f = (λ e. (table-met n q e).in_tree f, in-tree-met)

  module _ (q : ℕ) where
    -- by line 10 exactly at the `;` of the first tree whose kind differs from the first tree's or is not taken
    pub line-ten-iff : (read_table takes s ≡ refused 10 q) ↔ OtherKindAt takes s q
    line-ten-iff = (λ e. (table-met 10 q e).ten refl, ten-met)

    -- by line 5 exactly at the `;` of the first tree of that kind whose labels differ from the first tree's
    pub line-five-iff : (read_table takes s ≡ refused 5 q) ↔ OtherLabelsAt takes s q
    line-five-iff = (λ e. (table-met 5 q e).five refl, five-met)

    -- by line 6 exactly at the first byte that is no blank behind 160 trees that are all alike
    pub line-six-iff : (read_table takes s ≡ refused 6 q) ↔ OneMoreAt takes s q
    line-six-iff = (λ e. (table-met 6 q e).six refl, six-met)

    -- by line 1 exactly where it is met in a tree that begins: a byte that is no blank follows the trees before
    pub table-one-iff : (read_table takes s ≡ refused 1 q) ↔ InTreeAt takes s (λ p. (skip s p < length s) × WrongTokenAt s p q)
    table-one-iff = iff-then (table-by-tree 1 q (omega arith)) (
      in-tree-map (λ p h. (h.0, (line-one-iff s p q).0 h.1)),
      in-tree-map (λ p h. (h.0, (line-one-iff s p q).1 h.1)),
    )

    in-tree-iff : (n : ℕ) {M : ℕ → Type 0} → (n ≡ 1 → ⊥) → n ≤ 4 → ((p : ℕ) → (tree_at s p ≡ refused n q) ↔ M p) → (read_table takes s ≡ refused n q) ↔ InTreeAt takes s M
    in-tree-iff n f g i = iff-then (table-by-tree n q g) (
      in-tree-map (λ p m. (i p).0 m.1),
      in-tree-map (λ p m. let e = (i p).1 m in (some_byte s p n q f e, e)),
    )

    -- by line 2, 3 or 4 exactly where it is met in a tree
    pub table-two-iff : (read_table takes s ≡ refused 2 q) ↔ InTreeAt takes s (λ p. BadLabelAt s p q)
    table-two-iff = in-tree-iff 2 (λ e. omega arith) (omega arith) (λ p. line-two-iff s p q)

    pub table-three-iff : (read_table takes s ≡ refused 3 q) ↔ InTreeAt takes s (λ p. LabelAgainAt s p q)
    table-three-iff = in-tree-iff 3 (λ e. omega arith) (omega arith) (λ p. line-three-iff s p q)

    pub table-four-iff : (read_table takes s ≡ refused 4 q) ↔ InTreeAt takes s (λ p. TooDeepAt s p q)
    table-four-iff = in-tree-iff 4 (λ e. omega arith) (omega arith) (λ p. line-four-iff s p q)
