-- What all that may stand at a block has in common, and what is read there. Assumes nothing.
use Rattle.std.specs.Prelude.{◌≡◌, ℕ, ◌*◌, ◌/◌, ◌%◌, ◌<◌, ◌≤◌, max, true, List, length, take}
use Rattle.stores.specs.Meanings.{whole, Meaning}
use Rattle.layouts.specs.Entries.{entry_at}
use Rattle.layouts.specs.Heads.{fields_bytes}
use Rattle.layouts.specs.Slots.{slot_at}
use Rattle.layouts.specs.declared.entries.Entry.{Entry}
use Rattle.cards.specs.Cards.{slot_block}
use Rattle.recovery.proofs.Frames.{Frame, fields_of, log_block, frame_blocks}
use Rattle.recovery.proofs.Tellings.{Tells}

-- whatever whole block may stand is of this sort
abbrev pub Within : Meaning → (ℕ → List ℕ → Type 0) → Type 0
Within m P = (b : ℕ) (bs : List ℕ) → b < m.size → m.stands b (whole bs) → P b bs

-- and so is whatever is read
abbrev pub Reads : Meaning → (ℕ → List ℕ → Type 0) → Type 0
Reads m P = (b : ℕ) (bs : List ℕ) → b < m.size → m.reads b ≡ whole bs → P b bs

-- bytes fit block b: as a head they are of this sort, as rows of that, and as a log block they have the entries below c
pub record Fit (f : Frame) (Heads : List ℕ → Type 0) (Rows : ℕ → List ℕ → Type 0) (log : ℕ → Entry) (c b : ℕ) (bs : List ℕ) : Type 0 where
  pub head : b ≡ 0 → Heads bs
  pub row : (s : ℕ) → s < f.size → slot_block s ≡ b → Rows s (slot_at bs (s % 42))
  pub entry : (j : ℕ) → j < c → log_block f j ≡ b → entry_at bs (j % 31) ≡ log j

-- the head with so many records and entries
abbrev pub Counting : Frame → ℕ → ℕ → List ℕ → Type 0
Counting f n c bs = bs ≡ fields_bytes (fields_of f n c)

-- just these rows
abbrev pub Just : (ℕ → List ℕ) → ℕ → List ℕ → Type 0
Just rows s bs = bs ≡ rows s

-- how many entries are read back: those that the head counts, and those of full log blocks
abbrev pub written : ℕ → ℕ → ℕ
written k c = max k (31 * (c / 31))

-- a store is on, has room, and what may stand there is of one sort, what is read of another
pub record Standing (f : Frame) (m : Meaning) (P Q : ℕ → List ℕ → Type 0) : Type 0 where
  pub on : m.on ≡ true
  pub room : frame_blocks f ≤ m.size
  pub stands : Within m P
  pub reads : Reads m Q

-- of the records rs the first n are settled, with k entries; c entries are in the log
pub record Counts (f : Frame) (rs : List (List ℕ)) (n k c : ℕ) (rows : ℕ → List ℕ) (log : ℕ → Entry) : Type 0 where
  pub fits : c ≤ 31 * f.log_blocks
  pub counted : length rs ≤ 4000000000
  pub early : n ≤ length rs
  pub order : k ≤ c
  pub settled : Tells f (take n rs) rows log k
  pub all : Tells f rs rows log c

-- a store between two calls: the settled head, rows and entries alone may stand, and full log blocks are read back
pub record AtRest (f : Frame) (m : Meaning) (rs : List (List ℕ)) (n k c : ℕ) (rows : ℕ → List ℕ) (log : ℕ → Entry) : Type 0 where
  pub standing : Standing f m (Fit f (Counting f n k) (Just rows) log k) (Fit f (Counting f n k) (Just rows) log (written k c))
  pub counts : Counts f rs n k c rows log
