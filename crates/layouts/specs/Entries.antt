-- An entry of the log, and where it lies in its log block. Assumes nothing.
use Rattle.std.specs.Prelude.{ℕ, ◌+◌, ◌*◌, List, ◌++◌, take, drop}
use Rattle.records.specs.Bytes.{four, four_at}
use Rattle.layouts.specs.declared.entries.Entry.{Entry}

-- an entry's sixteen bytes: the record's number in four, and the record's twelve
abbrev pub entry_bytes : Entry → List ℕ
entry_bytes e = four e.number e.bytes

-- a log block has 31 entries of sixteen bytes, and eight spare bytes: the entry at a place, counted from 0
abbrev pub entry_at : List ℕ → ℕ → Entry
entry_at bs place = record { number = four_at bs (16 * place); bytes = take 12 (drop (16 * place + 4) bs) }

-- the sixteen bytes at a place
abbrev pub entry_bytes_at : List ℕ → ℕ → List ℕ
entry_bytes_at bs place = take 16 (drop (16 * place) bs)

-- the block with an entry's bytes at a place, in the stead of those that were there
abbrev pub with_entry : List ℕ → ℕ → Entry → List ℕ
with_entry bs place e = take (16 * place) bs ++ (entry_bytes e ++ drop (16 * place + 16) bs)
