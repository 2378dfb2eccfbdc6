-- SplitMix64's draws, with sums and products modulo 2^64, and the slots of numbered records. Assumes nothing.
use Rattle.std.specs.Prelude.{ℕ, zero, suc, ◌+◌, ◌*◌, ◌/◌, ◌%◌, ◌^◌, cond, Some, None, Option, bit_xor, nat_lt}

-- sums and products modulo 2^64
abbrev pub sum64 : ℕ → ℕ → ℕ
sum64 a b = (a + b) % 2 ^ 64

abbrev pub product64 : ℕ → ℕ → ℕ
product64 a b = (a * b) % 2 ^ 64

-- z xor (z shifted right by s)
abbrev pub folded : ℕ → ℕ → ℕ
folded s z = bit_xor z (z / 2 ^ s)

-- SplitMix64's output k for a seed
abbrev pub split_mix : ℕ → ℕ → ℕ
split_mix seed k =
    folded 31 (product64 (folded 27 (product64 (folded 30 (sum64 seed (product64 k 0x9E3779B97F4A7C15))) 0xBF58476D1CE4E5B9)) 0x94D049BB133111EB)

-- draw k of a seed
unfoldable pub draw_of : ℕ → ℕ → ℕ
draw_of seed k = split_mix seed k

-- a slot, if a sample of this size has it
abbrev pub within : ℕ → ℕ → Option ℕ
within size r = cond (nat_lt r size) (Some r) None

-- the slot of record k: k - 1 up to the size, and then draw k modulo k, where that is a slot. Records are numbered
-- from 1, so nothing has slot 0 by the number 0.
unfoldable pub slot_of : ℕ → ℕ → ℕ → Option ℕ
slot_of seed size zero = None
slot_of seed size (suc j) = cond (nat_lt j size) (Some j) (within size (draw_of seed (suc j) % suc j))
