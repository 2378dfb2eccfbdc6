-- What is printed of a device's memory. Assumes nothing.
use Rattle.std.specs.Prelude.{ℕ, ◌+◌, ◌-◌, ◌/◌, ◌%◌, Bool, false, cond, ◌&&◌, List, [], ◌∷◌, ◌++◌, codes, ◌==◌, nat_lt}
use Rattle.std.specs.Fmt.{digit_glyph}

-- a byte: two hexadecimal digits, lowercase
abbrev pub byte_text : ℕ → List ℕ
byte_text b = digit_glyph false (b / 16) ∷ digit_glyph false (b % 16) ∷ []

-- whether a block of so many bytes ends with the byte at this place
abbrev pub ends_block : ℕ → ℕ → Bool
ends_block span place = nat_lt 0 span && (place % span == span - 1)

-- a byte, and a line feed behind the last of a block
abbrev pub placed_text : ℕ → ℕ → ℕ → List ℕ
placed_text span place b = byte_text b ++ cond (ends_block span place) (codes "\n") []

-- the bytes from this place on
abbrev pub bytes_text : ℕ → ℕ → List ℕ → List ℕ
bytes_text span place [] = []
bytes_text span place (b ∷ bytes) = placed_text span place b ++ bytes_text span (place + 1) bytes

-- THE MEMORY: a line for each block of so many bytes
abbrev pub memory_text : ℕ → List ℕ → List ℕ
memory_text span bytes = bytes_text span 0 bytes
