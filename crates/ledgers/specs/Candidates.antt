-- How many records are candidates, those that have a slot. Assumes nothing.
use Rattle.std.specs.Prelude.{ℕ, zero, suc, ◌+◌, cond, is_some}
use Rattle.sampling.specs.Draws.{slot_of}

-- of the n records that were counted after the first `since`
unfoldable pub candidates : ℕ → ℕ → ℕ → ℕ → ℕ
candidates seed size since zero = 0
candidates seed size since (suc n) = candidates seed size since n + cond (is_some (slot_of seed size (since + suc n))) 1 0
