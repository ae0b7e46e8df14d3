-- The keys of a tree's forests in lent memory.
-- Assumes nothing.
use Rattle.std.specs.Prelude.{◌≡◌, List, ℕ, ◌+◌, ◌≤◌, ◌<◌, length, get_or}
use Rattle.meaning.specs.Tree.{Tree}
use Rattle.meaning.specs.Move.{cuts}
use Rattle.held.specs.Held.{nodes, cut_in}
use Rattle.prints.specs.Print.{key}

-- the keys of t's cuts were noted from `at` on, that of cut c at `at` + c + 1, and nothing else has changed
pub record KeysNoted (t : Tree) (keys keys' : List ℕ) (at : ℕ) : Type 0 where
  pub own : (c : ℕ) → c < length (cuts t) → get_or keys' (at + (c + 1)) 0 ≡ key (cut_in t c)
  pub before : (e : ℕ) → e ≤ at → get_or keys' e 0 ≡ get_or keys e 0
  pub behind : (e : ℕ) → at + nodes t ≤ e → get_or keys' e 0 ≡ get_or keys e 0
  pub long : length keys' ≡ length keys
