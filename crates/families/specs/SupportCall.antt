-- The support call: every clade of a table with its number of trees, and the majority tree's text. In words: docs/RULES.md, 'The calls' and 'Clade support'.
-- Assumes nothing.
use Rattle.std.specs.Prelude.{List, [], ◌∷◌, ℕ, length}
use Rattle.meaning.specs.Limits.{form_bytes}
use Rattle.meaning.specs.Tree.{Tree}
use Rattle.meaning.specs.Kind.{Trees, rooted_only}
use Rattle.meaning.specs.Answer.{Answer, accepted, Outcome, written, conclude}
use Rattle.meaning.specs.Calls.{Slice, enough, lent, table_read}
use Rattle.families.specs.Support.{supported, support, max_clades}
use Rattle.families.specs.Majority.{majority_text}

-- how much the support call writes: clades, and bytes of text; and the trees
pub record SupportSize : Type 0 where
  pub clades : ℕ
  pub bytes : ℕ
  pub trees : ℕ

-- the slices lent to it: for the clades, for how many trees have each, and for the majority tree
pub record SupportMemory : Type 0 where
  pub clades : List ℕ
  pub numbers : List ℕ
  pub text : List ℕ

-- 9,921 numbers, 9,921 numbers and 309 bytes are lent
abbrev pub support_slices : SupportMemory → List Slice
support_slices memory = (max_clades, length memory.clades) ∷ (max_clades, length memory.numbers) ∷ (form_bytes, length memory.text) ∷ []

-- what the support call reads: rooted trees only
abbrev pub support_read : List ℕ → SupportMemory → Answer Trees
support_read s memory = lent (enough (support_slices memory)) (table_read rooted_only s)

-- the clades, the number of trees beside each, and the majority tree
abbrev pub support_of : List Tree → SupportMemory → Outcome SupportSize SupportMemory
support_of ts memory = record {
  answer = accepted (record { clades = length (supported ts); bytes = length (majority_text ts); trees = length ts });
  memory = record { clades = written (supported ts) memory.clades; numbers = written (support ts) memory.numbers; text = written (majority_text ts) memory.text };
}

-- support call
abbrev pub support_call : List ℕ → SupportMemory → Outcome SupportSize SupportMemory
support_call s memory = conclude (support_read s memory) memory λ table. support_of table.trees memory
