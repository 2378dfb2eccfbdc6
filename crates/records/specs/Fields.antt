-- The fields that records have, and their ranges. Assumes nothing.
use Rattle.std.specs.Prelude.{ℕ, Bool, cond, ◌&&◌, ℤ, pos, neg_ℤ, Some, None, Option, int_le}
use Rattle.records.specs.declared.fields.InRange.{InRange}
use Rattle.records.specs.declared.wholes.Whole.{Ghosts}
use Rattle.records.specs.contracts.wholes.I32Whole.TheImpl as i32
use Rattle.records.specs.contracts.wholes.U32Whole.TheImpl as u32
use Rattle.records.specs.contracts.wholes.U8Whole.TheImpl as u8

-- the number in a field
abbrev pub number_of : {N : Type 0} {below above : ℕ} {w : Ghosts N} → InRange N below above w → N
number_of field = field.number

abbrev pub second_of : InRange ℕ 0 604799 u32.ghosts → ℕ
second_of = number_of

abbrev pub satellite_of : InRange ℕ 0 31 u8.ghosts → ℕ
satellite_of = number_of

abbrev pub nanoseconds_of : InRange ℤ 500000000 500000000 i32.ghosts → ℤ
nanoseconds_of = number_of

-- whether a number is at most this far below 0, and at most this far above it
abbrev pub is_within : ℕ → ℕ → ℤ → Bool
is_within below above z = int_le (neg_ℤ (pos below)) z && int_le z (pos above)

-- a number, if it is in a range
abbrev pub number_in : {N : Type 0} → (N → ℤ) → ℕ → ℕ → N → Option N
number_in whole below above n = cond (is_within below above (whole n)) (Some n) None

-- a week has 604,800 seconds, there are 32 satellites, and an offset is at most half a second
abbrev pub is_second : ℕ → Bool
is_second n = is_within 0 604799 (pos n)

abbrev pub is_satellite : ℕ → Bool
is_satellite n = is_within 0 31 (pos n)

abbrev pub is_nanoseconds : ℤ → Bool
is_nanoseconds = is_within 500000000 500000000

-- a satellite's number, if there is such a satellite
abbrev pub satellite_in : ℕ → Option ℕ
satellite_in n = cond (is_satellite n) (Some n) None
