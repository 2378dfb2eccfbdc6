-- When a card is lawful for a kind, in the words of the layout, and the law that just such cards are mounted. Assumes
-- nothing.
use Rattle.std.specs.Prelude.{◌≡◌, ℕ, ◌<◌, ◌≤◌, List, None, Some, Ok, Option}
use Rattle.faults.specs.declared.faults.Layer.{Layer}
use Rattle.stores.specs.Meanings.{Content, whole}
use Rattle.layouts.specs.Heads.{Fields, head_read}
use Rattle.cards.specs.Cards.{Card, slot_block, card_slot, entry_block, card_entry, entry_slot, newest_logged, filled}
use Rattle.cards.specs.Verdicts.{mount_of}

-- a block that is not torn
abbrev pub IsWhole : Content → Type 0
IsWhole c = (bs : List ℕ) × (c ≡ whole bs)

-- the log: its numbers ascend, lie from 1 to the count and are candidates', and its bytes are records'
pub record LawfulLog (wrong : List ℕ → Option ℕ) (h : Fields) (card : Card) : Type 0 where
  pub whole_blocks : (i : ℕ) → i < h.entries → IsWhole (card (entry_block h i))
  pub ascending : (i j : ℕ) → i < j → j < h.entries → (card_entry h card i).number < (card_entry h card j).number
  pub from_one : (i : ℕ) → i < h.entries → 0 < (card_entry h card i).number
  pub counted : (i : ℕ) → i < h.entries → (card_entry h card i).number ≤ h.count
  pub candidates : (i : ℕ) → i < h.entries → (s : ℕ) × (entry_slot h card i ≡ Some s)
  pub records : (i : ℕ) → i < h.entries → wrong (card_entry h card i).bytes ≡ None

-- the sample blocks: a filled slot without an entry has a record's bytes
pub record LawfulSlots (wrong : List ℕ → Option ℕ) (h : Fields) (card : Card) : Type 0 where
  pub whole_blocks : (s : ℕ) → s < filled h → IsWhole (card (slot_block s))
  pub records : (s : ℕ) → s < filled h → newest_logged h card s h.entries ≡ None → wrong (card_slot card s) ≡ None

-- A LAWFUL CARD with this head, in a store of so many blocks, for the kind with this code
pub record LawfulCard (store code : ℕ) (wrong : List ℕ → Option ℕ) (card : Card) (h : Fields) : Type 0 where
  pub some : 0 < store
  pub head : (bs : List ℕ) × (card 0 ≡ whole bs) × (head_read store bs ≡ Ok h)
  pub kind : h.kind ≡ code
  pub log : LawfulLog wrong h card
  pub slots : LawfulSlots wrong h card

-- THE LAW OF CARDS: a mount accepts just the lawful ones
pub record CardLaw (own : Layer) (code : ℕ) (wrong : List ℕ → Option ℕ) : Type 0 where
  pub accepted : (store : ℕ) (card : Card) (h : Fields) → mount_of own store code wrong card ≡ Ok h → LawfulCard store code wrong card h
  pub lawful : (store : ℕ) (card : Card) (h : Fields) → LawfulCard store code wrong card h → mount_of own store code wrong card ≡ Ok h
