-- What reading into a buffer gives and leaves: a failure is no end of the input, the bytes read before stay, and no more are counted than there is room for.
-- Assumes nothing.
use Rattle.std.specs.Prelude.{◌≡◌, List, ℕ, ◌+◌, ◌≤◌, ◌<◌, min, Option, Result, Ok, Err, ⊤, length, take, drop}
use Rattle.std.specs.Io.KnownBytes.{Consumes, IsAtEnd}

-- what a read into `room` bytes gave: an error is a failure, and no more came than there is room for
abbrev pub judged : {E : Type 0} → Result ℕ E → ℕ → Result ℕ E
judged (Ok n) room = Ok (min n room)
judged (Err e) room = Err e

-- how many bytes came; none where reading failed
abbrev pub bytes_of : {E : Type 0} → Result ℕ E → ℕ
bytes_of (Ok n) = n
bytes_of (Err e) = 0

-- the first `done` bytes stayed, and what was read behind them is inside the buffer
pub record GotWithin {E : Type 0} (done : ℕ) (buf buf' : List ℕ) (r : Result ℕ E) : Type 0 where
  pub same : length buf' ≡ length buf
  pub kept : take done buf' ≡ take done buf
  pub within : done + bytes_of r ≤ length buf

-- they stand at the start of the buffer
abbrev pub InputWithin : {E : Type 0} → List ℕ → Result ℕ E → Type 0
InputWithin buf r = (bytes_of r ≤ length buf) × (bytes_of r ≡ length (take (bytes_of r) buf))

-- what came behind the first `done` bytes is what the reader lost, where its bytes are known; nothing comes only at its end or with no room
abbrev pub GotFrom : {E : Type 0} → Option (List ℕ) → Option (List ℕ) → ℕ → List ℕ → Result ℕ E → Type 0
GotFrom old new done buf (Ok n) = Consumes old new (take n (drop done buf)) × (n ≡ 0 → done < length buf → IsAtEnd new)
GotFrom old new done buf (Err e) = ⊤

-- the buffer begins with what the reader lost, where its bytes are known, and the reader is at its end where the buffer is not full
abbrev pub InputFrom : {E : Type 0} → Option (List ℕ) → Option (List ℕ) → List ℕ → Result ℕ E → Type 0
InputFrom old new buf (Ok n) = Consumes old new (take n buf) × (n < length buf → IsAtEnd new)
InputFrom old new buf (Err e) = ⊤
