-- The sum behind a mean. Assumes nothing.
use Rattle.std.specs.Prelude.{List, [], ◌∷◌, ℤ, pos, ◌+ℤ◌}
use Rattle.records.specs.Offsets.{Fields}

-- the exact sum of the nanoseconds
abbrev pub sum_of : List Fields → ℤ
sum_of [] = pos 0
sum_of (x ∷ xs) = x.2 +ℤ sum_of xs
