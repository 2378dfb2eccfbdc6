-- Numbers as bytes, the greatest first, and the bytes of a record. Assumes nothing.
use Rattle.std.specs.Prelude.{◌≡◌, ℕ, ◌+◌, ◌*◌, ◌/◌, ◌%◌, ◌<◌, List, ◌∷◌, length, slice_index}

-- the four bytes of a number, before others
abbrev pub four : ℕ → List ℕ → List ℕ
four n rest = (n / 16777216 % 256) ∷ (n / 65536 % 256) ∷ (n / 256 % 256) ∷ (n % 256) ∷ rest

-- the number that the four bytes from place i make
abbrev pub four_at : List ℕ → ℕ → ℕ
four_at bs i = slice_index bs i * 16777216 + slice_index bs (i + 1) * 65536 + slice_index bs (i + 2) * 256 + slice_index bs (i + 3)

-- twelve bytes
pub record Twelve (bs : List ℕ) : Type 0 where
  pub long : length bs ≡ 12
  pub small : (i : ℕ) → i < 12 → slice_index bs i < 256
