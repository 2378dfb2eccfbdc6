-- Where a slot's record lies in its sample block. Assumes nothing.
use Rattle.std.specs.Prelude.{ℕ, ◌+◌, ◌*◌, List, ◌++◌, take, drop}

-- a sample block has 42 slots of twelve bytes: those at a place, counted from 0
abbrev pub slot_at : List ℕ → ℕ → List ℕ
slot_at bs place = take 12 (drop (12 * place) bs)

-- the block with a record's bytes at a place, in the stead of those that were there
abbrev pub with_slot : List ℕ → ℕ → List ℕ → List ℕ
with_slot bs place record_bytes = take (12 * place) bs ++ (record_bytes ++ drop (12 * place + 12) bs)
