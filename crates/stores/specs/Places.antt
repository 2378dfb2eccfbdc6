-- How many blocks a memory has room for. Assumes nothing.
use Rattle.std.specs.Prelude.{ℕ, ◌/◌, min}

-- as many whole spans of this many bytes as lie in a memory of this length, up to the limit
abbrev pub blocks_of : (span length : ℕ) → ℕ
blocks_of span length = min (length / span) 65536
