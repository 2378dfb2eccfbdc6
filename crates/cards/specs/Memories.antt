-- What a sampler keeps of its card in memory. Assumes nothing.
use Rattle.std.specs.Prelude.{◌≡◌, ℕ, zero, suc, ◌<◌, Bool, List, [], Some, None, Option, is_some, slice_get, slice_index_or, replicate}
use Rattle.stores.specs.Meanings.{whole}
use Rattle.layouts.specs.Heads.{Fields}
use Rattle.cards.specs.Cards.{Card, entry_block, newest_logged, filled, row_of}

-- the head, how many of its log entries the head on the card counts, each slot's record, which slots have an entry in the
-- log, and the log block in work
pub record Memory : Type 0 where
  pub head : Fields
  pub committed : ℕ
  pub rows : List (List ℕ)
  pub logged : List Bool
  pub work : List ℕ

-- the log block in work after i entries is that of the last one, as the card has it, and zeros before the first
abbrev pub WorkIs : Fields → Card → ℕ → List ℕ → Type 0
WorkIs h card zero work = work ≡ replicate 504 0
WorkIs h card (suc i) work = card (entry_block h i) ≡ whole work

-- THE MEMORY OF A CARD with this head
pub record Remembers (h : Fields) (card : Card) (t : Memory) : Type 0 where
  pub head_is : t.head ≡ h
  pub committed_is : t.committed ≡ h.entries
  pub row : (s : ℕ) → s < 672 → slice_get t.rows s ≡ Some (row_of h card s)
  pub flag : (s : ℕ) → s < 672 → slice_get t.logged s ≡ Some (is_some (newest_logged h card s h.entries))
  pub block : WorkIs h card h.entries t.work

-- each slot that records have filled has a record's bytes
abbrev pub RowsLawful : (List ℕ → Option ℕ) → Fields → List (List ℕ) → Type 0
RowsLawful wrong h rows = (s : ℕ) → s < filled h → wrong (slice_index_or rows s []) ≡ None
