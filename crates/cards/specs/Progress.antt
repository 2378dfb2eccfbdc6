-- What is in memory while a card is read, entry by entry and slot by slot. Assumes nothing.
use Rattle.std.specs.Prelude.{◌≡◌, ℕ, ◌%◌, ◌<◌, Bool, cond, List, replicate, Some, Ok, Option, ◌≢◌, nat_lt, is_some, slice_get, unwrap_or}
use Rattle.faults.specs.declared.faults.Layer.{Layer}
use Rattle.stores.specs.Meanings.{whole}
use Rattle.layouts.specs.Heads.{Fields}
use Rattle.cards.specs.Cards.{Card, slot_block, newest_logged, slot_record}
use Rattle.cards.specs.Memories.{WorkIs}
use Rattle.cards.specs.Verdicts.{previous, each, entry_check, slot_check}

-- the first i entries are right: the rows have their records, the flags say which slots have one, the block is that of
-- the last one, and so is the number
pub record LogRead (own : Layer) (wrong : List ℕ → Option ℕ) (h : Fields) (card : Card) (i : ℕ) (rows : List (List ℕ)) (flags : List Bool) (work : List ℕ) (last : ℕ) : Type 0 where
  pub right : each (entry_check own wrong h card) i ≡ Ok tt
  pub number : last ≡ previous h card i
  pub block : WorkIs h card i work
  pub row : (s : ℕ) → s < 672 → slice_get rows s ≡ Some (unwrap_or (newest_logged h card s i) (replicate 12 0))
  pub flag : (s : ℕ) → s < 672 → slice_get flags s ≡ Some (is_some (newest_logged h card s i))

-- the flags say which slots have an entry
abbrev pub Flagged : Fields → Card → List Bool → Type 0
Flagged h card flags = (s : ℕ) → s < 672 → slice_get flags s ≡ Some (is_some (newest_logged h card s h.entries))

-- the rows have the records of the entries, and zeros where no entry has the slot
abbrev pub RowsLaid : Fields → Card → List (List ℕ) → Type 0
RowsLaid h card rows = (s : ℕ) → s < 672 → slice_get rows s ≡ Some (unwrap_or (newest_logged h card s h.entries) (replicate 12 0))

-- the first n slots are right, and their rows have their records
pub record RowsRead (own : Layer) (wrong : List ℕ → Option ℕ) (h : Fields) (card : Card) (n : ℕ) (rows : List (List ℕ)) : Type 0 where
  pub right : each (slot_check own wrong h card) n ≡ Ok tt
  pub row : (s : ℕ) → s < 672 → slice_get rows s ≡ Some (cond (nat_lt s n) (slot_record h card s) (unwrap_or (newest_logged h card s h.entries) (replicate 12 0)))

-- and the buffer has the block of the last of them, which the next one may lie in too
abbrev pub SlotsRead : Layer → (List ℕ → Option ℕ) → Fields → Card → ℕ → List (List ℕ) → List ℕ → Type 0
SlotsRead own wrong h card n rows bytes = RowsRead own wrong h card n rows × (n % 42 ≢ 0 → card (slot_block n) ≡ whole bytes)
