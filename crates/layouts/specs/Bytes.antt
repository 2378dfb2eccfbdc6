-- Numbers of two and eight bytes, the greatest first, beside the records' of four. Assumes nothing.
use Rattle.std.specs.Prelude.{ℕ, ◌+◌, ◌*◌, ◌/◌, ◌%◌, List, ◌∷◌, slice_index}
use Rattle.records.specs.Bytes.{four, four_at}

-- the bytes of a number, before others
abbrev pub two : ℕ → List ℕ → List ℕ
two n rest = (n / 256 % 256) ∷ (n % 256) ∷ rest

abbrev pub eight : ℕ → List ℕ → List ℕ
eight n rest = four (n / 4294967296) (four n rest)

-- the number that the bytes from place i make
abbrev pub two_at : List ℕ → ℕ → ℕ
two_at bs i = slice_index bs i * 256 + slice_index bs (i + 1)

abbrev pub eight_at : List ℕ → ℕ → ℕ
eight_at bs i = four_at bs i * 4294967296 + four_at bs (i + 4)
