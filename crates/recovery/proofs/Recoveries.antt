-- What a card recovers to, whatever a cut left of it. Assumes nothing.
use Rattle.std.specs.Prelude.{◌≡◌, ℕ, ◌*◌, ◌<◌, ◌≤◌, true, false, ◌⊎◌, List, length}
use Rattle.faults.specs.Refusals.{fault}
use Rattle.faults.specs.declared.faults.Fault.{Fault}
use Rattle.faults.specs.declared.faults.Layer.{Layer}
use Rattle.faults.specs.declared.faults.Reason.TheVariants.{Off}
use Rattle.stores.specs.Meanings.{whole, Meaning, Sound, Lasting}
use Rattle.layouts.specs.Heads.{fields_bytes}
use Rattle.cards.specs.Cards.{Card, card_slot, card_entry}
use Rattle.recovery.proofs.Frames.{Frame, InLimits, fields_of}
use Rattle.recovery.proofs.Tellings.{Tells}

-- the card with these bytes at its blocks
abbrev pub whole_card : (ℕ → List ℕ) → Card
whole_card card b = whole (card b)

-- A CARD RECOVERS TO THESE RECORDS: its head counts them, and its rows and log tell them
pub record Recovers (f : Frame) (card : ℕ → List ℕ) (rs : List (List ℕ)) : Type 0 where
  pub entries : ℕ
  pub limits : InLimits f
  pub counted : length rs ≤ 4000000000
  pub fits : entries ≤ 31 * f.log_blocks
  pub head : card 0 ≡ fields_bytes (fields_of f (length rs) entries)
  pub tells : Tells f rs (card_slot (whole_card card)) (card_entry (fields_of f (length rs) entries) (whole_card card)) entries

-- each block of a card may stand
abbrev pub May : Meaning → (ℕ → List ℕ) → Type 0
May m card = (b : ℕ) → b < m.size → m.stands b (whole (card b))

-- WHATEVER MAY STAND RECOVERS to the settled or to the waiting records
abbrev pub Safe : Frame → Meaning → List (List ℕ) → List (List ℕ) → Type 0
Safe f m settled waiting = (card : ℕ → List ℕ) → May m card → Recovers f card settled ⊎ Recovers f card waiting

-- the supply failed, the store is off, and what may stand recovers to the settled or to the waiting records
pub record Lost (f : Frame) (source : Layer) (m n : Meaning) (settled waiting : List (List ℕ)) (e : Fault) : Type 0 where
  pub is : e ≡ fault Off source 0
  pub supply : m.lasts ≡ false
  pub off : n.on ≡ false
  pub size : n.size ≡ m.size
  pub sound : Sound m → Sound n
  pub safe : Safe f n settled waiting

-- what every accepted call leaves: a store that is on and has its size, a supply that goes on lasting, a sound store sound
pub record Goes (m n : Meaning) : Type 0 where
  pub on : n.on ≡ true
  pub size : n.size ≡ m.size
  pub lasts : Lasting m n
  pub sound : Sound m → Sound n
