-- Input that was read whole.
-- Assumes nothing.
use mathlib.Core.Path.{◌≡◌, subst}
use mathlib.Core.List.{List}
use Rattle.std.specs.Prelude.{ℕ, Result, Ok}
use Rattle.console.specs.Input.{InputWithin}

-- its bytes are at the start of the buffer
pub whole-within : {E : Type 0} (buf : List ℕ) {r : Result ℕ E} (n : ℕ) → r ≡ Ok n → InputWithin buf r → InputWithin {E = E} buf (Ok n)
whole-within buf n e h = subst (InputWithin buf) e h
