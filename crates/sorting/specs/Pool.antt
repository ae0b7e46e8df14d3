-- How many clades the trees of a table can have.
-- Assumes nothing.
use Rattle.std.specs.Prelude.{ℕ, ◌*◌, ◌-◌}
use Rattle.meaning.specs.Limits.{max_label, max_trees}

-- clades of as many trees as a table can have, copies counted
abbrev pub pool_size : ℕ
pool_size = max_trees * (max_label - 1)
