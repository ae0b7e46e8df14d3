-- The ways through the pair call.
-- Assumes nothing.
use mathlib.Core.Path.{◌≡◌, refl, sym, ap, subst, ◌∙◌}
use mathlib.Core.Bool.{Bool, true, false}
use mathlib.Core.List.{List}
use Prim.Native.Nat.{ℕ, zero, suc, ◌-◌, ◌≤◌, ◌<◌}
use native.Mathlib.Omega.{arith}
use borrow.Author.Tests.{le-ltb, lt-ltb}
use lib.ListN.{length}
use Rattle.meaning.specs.Limits.{text_bytes}
use Rattle.meaning.specs.Unrooted.{ApartU}
use Rattle.meaning.specs.Kind.{Kind, rooted, unrooted, Kinded, either}
use Rattle.meaning.specs.EitherKind.{ApartAs}
use Rattle.meaning.specs.Reading.{got, unlike, read_tree}
use Rattle.meaning.specs.Compared.{compared_as}
use Rattle.meaning.specs.Answer.{Answer, accepted, refusal, Comparison}
use Rattle.meaning.specs.Calls.{together, beside, pair_reading, PairCall}
use Rattle.meaning.proofs.Alike.{unlike-iff}
use Rattle.meaning.proofs.Sound.{read_behind}
use Rattle.lent.specs.Runs.{Says}
use Rattle.lent.proofs.Says.{says}
use Rattle.held.specs.Kept.{kind_of, Standing, KeepsKind, KeptKind}
use Rattle.held.specs.declared.Kind.TheVariants.{Rooted, Unrooted}
use Rattle.held.specs.declared.Tree.{Tree}
use Rattle.pairs.specs.Pair.{Tested}
use Rattle.pairs.specs.declared.Comparison.{Comparison as Told}
use Rattle.unrooted.specs.Apart.{ApartHung}
use Rattle.unrooted.proofs.Apart.{standing-iff}
use Rattle.reading.specs.Whole.{Reads}
use Rattle.reading.specs.declared.TreeRead.{TreeRead}
use Rattle.tokens.specs.Paper.{number_of, Accepts, Refuses}
use Rattle.tokens.specs.declared.Refusal.{Refusal}
use Rattle.calls.specs.Paper.{comparison_of}
use Rattle.calls.specs.Paired.{TestedAs, Answers, stands_apart, not_apart, refuses}

-- what is answered to an answer that is known
answers : {a a' : Answer ((x : Kinded) × Kinded)} {b : Answer Comparison} → a ≡ a' → Answers a' b → Answers a b
answers e h = rw e h

-- ---- two trees of one kind
module _ {a b : Tree} {x y : Kinded} (k : KeepsKind a x) (l : KeepsKind b y) where
  pub tested-rooted : {r : Told} → a.kind ≡ Rooted → Tested x.tree y.tree r → TestedAs x y r
  tested-rooted {r} e s =
      let kind : rooted ≡ x.kind = sym (ap kind_of e) ∙ k.kind in
      record {
        apart = subst (λ (j : Kind). Says r.yes (ApartAs j x.tree y.tree)) kind s.apart;
        number = subst (λ (j : Kind). r.forests ≡ compared_as j x.tree y.tree) kind s.number;
      }

  pub tested-unrooted : (d : Bool) → a.kind ≡ Unrooted → x.kind ≡ y.kind → Says d (ApartHung x.tree y.tree) → TestedAs x y (record { yes = d; forests = 0 })
  tested-unrooted d e same s =
      let first : x.kind ≡ unrooted = sym k.kind ∙ ap kind_of e in
      let second : y.kind ≡ unrooted = sym same ∙ first in
      let stands = subst (λ (j : Kind). Standing j x.tree) first k.stands in
      let stands' = subst (λ (j : Kind). Standing j y.tree) second l.stands in
      let iff = standing-iff k.keeps.good.distinct l.keeps.good.distinct stands stands' in
      record {
        apart = subst (λ (j : Kind). Says d (ApartAs j x.tree y.tree)) (sym first) (says (ApartHung x.tree y.tree) (ApartU x.tree y.tree) iff.1 iff.0 d s);
        number = subst (λ (j : Kind). 0 ≡ compared_as j x.tree y.tree) (sym first) refl;
      }

-- ---- two trees that were read; n is the line that says why they can't stand together, or 0
module _ (x y : Kinded) (p : ℕ) {n : ℕ} (e : n ≡ unlike x y) where
  as-told : beside x (got y p) ≡ together n x y p
  as-told = ap (λ (m : ℕ). together m x y p) (sym e)

  pub stand-apart : 1 ≤ n → Answers (beside x (got y p)) (refusal n 1 (p - 1))
  stand-apart h = answers as-told (by n h)
    where
      by : (n : ℕ) → 1 ≤ n → Answers (together n x y p) (refusal n 1 (p - 1))
      by zero h = absurd (omega (arith, h))
      by (suc n) h = refuses (suc n) 1 (p - 1)

  module _ (h : n ≡ 0) where
    both : beside x (got y p) ≡ accepted (x, y)
    both = as-told ∙ ap (λ (m : ℕ). together m x y p) h

    pub one-kind : x.kind ≡ y.kind
    one-kind = ((unlike-iff x y).0 (sym e ∙ h)).kinds

    pub answer-told : (told : Told) → TestedAs x y told → Answers (beside x (got y p)) (accepted (comparison_of told))
    answer-told told t = answers both (by told.yes t.apart t.number)
      where
        by : (d : Bool) {m : ℕ} → Says d (ApartAs x.kind x.tree y.tree) → m ≡ compared_as x.kind x.tree y.tree → Answers (accepted (x, y)) (accepted (record { yes = d; forests = m }))
        by true s f = rw f (stands_apart x y s)
        by false s f = rw f (not_apart x y s)

-- ---- the tree of text 0, and text 1
module _ (s : List ℕ) where
  -- the tree that was read is kept
  module _ {read : TreeRead} (R : Accepts (read_tree either s) read.behind (Reads read)) where
    pub read_kept : KeptKind read.tree
    read_kept = record { kinded = R.value; keeps = R.keeps.keeps }

    pub read_some : 1 ≤ read.behind
    read_some = (read_behind either s R.value read.behind R.is).0

    pub second-read : (x : Kinded) {b : Answer Comparison} → ((y : Kinded) → KeepsKind read.tree y → Answers (beside x (got y read.behind)) b) → Answers (beside x (read_tree either s)) b
    second-read x w = answers (ap (beside x) R.is) (w R.value R.keeps.keeps)

  pub second-refused : (x : Kinded) {y : Refusal} → Refuses (read_tree either s) y → Answers (beside x (read_tree either s)) (refusal (number_of y.reason) 1 y.place)
  second-refused x {y} R = answers (ap (beside x) R.is) (refuses (number_of y.reason) 1 y.place)

-- ---- the call
answered-by : {s s' : List ℕ} {a : Answer ((x : Kinded) × Kinded)} {b : Answer Comparison} → pair_reading s s' ≡ a → Answers a b → PairCall s s' b
answered-by e (stands_apart x y h) = PairCall.stands_apart x y e h
answered-by e (not_apart x y h) = PairCall.not_apart x y e h
answered-by e (refuses n i p) = PairCall.refuses n i p e

pair-call : (s s' : List ℕ) {b : Answer Comparison} → Answers (pair_reading s s') b → PairCall s s' b
pair-call s s' h = answered-by refl h

module _ (s s' : List ℕ) where
  pub pair-long : text_bytes < length s → PairCall s s' (refusal 8 0 0)
  pair-long h = pair-call s s' (answers (rw (lt-ltb text_bytes (length s) h)) (refuses 8 0 0))

  module _ (h : length s ≤ text_bytes) where
    pub pair-long-second : text_bytes < length s' → PairCall s s' (refusal 8 1 0)
    pair-long-second k = pair-call s s' (answers (rw (le-ltb text_bytes (length s) h, lt-ltb text_bytes (length s') k)) (refuses 8 1 0))

    module _ (k : length s' ≤ text_bytes) where
      pub pair-refused : {x : Refusal} → Refuses (read_tree either s) x → PairCall s s' (refusal (number_of x.reason) 0 x.place)
      pair-refused {x} R = pair-call s s' (answers (rw (le-ltb text_bytes (length s) h, le-ltb text_bytes (length s') k, R.is)) (refuses (number_of x.reason) 0 x.place))

      pub pair_read : {read : TreeRead} {b : Answer Comparison} → Accepts (read_tree either s) read.behind (Reads read) → ((x : Kinded) → KeepsKind read.tree x → Answers (beside x (read_tree either s')) b) → PairCall s s' b
      pair_read R w = pair-call s s' (answers (rw (le-ltb text_bytes (length s) h, le-ltb text_bytes (length s') k, R.is)) (w R.value R.keeps.keeps))
