-- Texts that differ only in zeros before labels, and readings that do not differ by them.
-- Assumes nothing.
use Rattle.std.specs.Prelude.{Bool, false, cond, ◌&&◌, not, List, [], ◌∷◌, ℕ, eqb, get_or}
use Rattle.meaning.specs.Reading.{Read, got, refused, is_digit}

-- a zero that goes before a digit, and before which no digit stands that is kept
unfoldable pub padding : Bool → ℕ → List ℕ → Bool
padding kept b s = not kept && (eqb b 48 && is_digit (get_or s 0 0))

-- a text without such zeros, behind a digit that is kept or another byte
unfoldable pub unpad : Bool → List ℕ → List ℕ
unpad kept [] = []
unpad kept (b ∷ s) = cond (padding kept b s) (unpad kept s) (b ∷ unpad (is_digit b) s)

-- a text without the zeros before its labels' other digits
abbrev pub unpadded : List ℕ → List ℕ
unpadded s = unpad false s

-- the same is read, or the same line refuses
pub data SameReading {A : Type 0} : Read A → Read A → Type 0 where
  both_read : {a : A} {p q : ℕ} → SameReading (got a p) (got a q)
  both_refused : {n p q : ℕ} → SameReading (refused n p) (refused n q)
