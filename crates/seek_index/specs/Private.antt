-- What a private function of `seek` asks for. Assumes nothing.
use Rattle.std.specs.Prelude.{◌≡◌, List, ℕ, ◌*◌, ◌/◌, ◌≤◌, length}
use Rattle.seek_index.specs.Record.{states_kept}

-- A run, a k, and as many bytes as the states take that are kept of it.
abbrev pub Room : ℕ → List ℕ → List ℕ → Type 0
Room k bytes out =
    let n = length bytes / 34 in
    (n ≤ 1024) × (length bytes ≡ 34 * n) × (1 ≤ k) × (k ≤ 64) × (length out ≡ 3 * states_kept k n)
