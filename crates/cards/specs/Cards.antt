-- A card, block by block: which entry stands at each position of its log, and which record each slot has. Assumes
-- nothing.
use Rattle.std.specs.Prelude.{ℕ, zero, suc, ◌+◌, ◌/◌, ◌%◌, min, cond, List, [], Some, None, Option, nat_lt, unwrap_or, replicate}
use Rattle.stores.specs.Meanings.{Content, whole, torn}
use Rattle.sampling.specs.Draws.{slot_of}
use Rattle.sampling.specs.Samples.{is_slot}
use Rattle.layouts.specs.Shapes.{sample_blocks}
use Rattle.layouts.specs.Heads.{Fields}
use Rattle.layouts.specs.Slots.{slot_at}
use Rattle.layouts.specs.Entries.{entry_at}
use Rattle.layouts.specs.declared.entries.Entry.{Entry}

-- what each block of a store reads
abbrev pub Card : Type 0
Card = ℕ → Content

-- a block's bytes; a torn block has none
abbrev pub bytes_of : Content → List ℕ
bytes_of (whole bs) = bs
bytes_of torn = []

-- the sample blocks come after the head: 42 slots to a block
abbrev pub slot_block : ℕ → ℕ
slot_block s = 1 + s / 42

-- the bytes in the sample blocks at slot s
abbrev pub card_slot : Card → ℕ → List ℕ
card_slot card s = slot_at (bytes_of (card (slot_block s))) (s % 42)

-- the log blocks come after the sample blocks: 31 entries to a block
abbrev pub entry_block : Fields → ℕ → ℕ
entry_block h i = 1 + sample_blocks h.size + i / 31

-- the entry at position i, counted from 0
abbrev pub card_entry : Fields → Card → ℕ → Entry
card_entry h card i = entry_at (bytes_of (card (entry_block h i))) (i % 31)

-- the slot of an entry's record, if it has one
abbrev pub entry_slot : Fields → Card → ℕ → Option ℕ
entry_slot h card i = slot_of h.seed h.size (card_entry h card i).number

-- of the first n entries, the record of the newest with slot s
unfoldable pub newest_logged : Fields → Card → ℕ → ℕ → Option (List ℕ)
newest_logged h card s zero = None
newest_logged h card s (suc i) = cond (is_slot (entry_slot h card i) s) (Some (card_entry h card i).bytes) (newest_logged h card s i)

-- A SLOT'S RECORD: that of the newest entry with the slot, else that in the sample block
abbrev pub slot_record : Fields → Card → ℕ → List ℕ
slot_record h card s = unwrap_or (newest_logged h card s h.entries) (card_slot card s)

-- how many slots records have filled: the first so many
abbrev pub filled : Fields → ℕ
filled h = min h.count h.size

-- what each slot has: its record, or zeros where no record has filled it
abbrev pub row_of : Fields → Card → ℕ → List ℕ
row_of h card s = cond (nat_lt s (filled h)) (slot_record h card s) (replicate 12 0)
