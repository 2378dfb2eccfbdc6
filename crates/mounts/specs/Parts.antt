-- What the parts of a mount do, which read a store and change nothing. Assumes nothing.
use Rattle.std.specs.Prelude.{◌≡◌, ℕ, ◌+◌, ◌<◌, ◌≤◌, Bool, true, false, ◌⊎◌, List, [], ◌∷◌, Ok, Err, Option, Result}
use Rattle.faults.specs.declared.faults.Fault.{Fault}
use Rattle.faults.specs.declared.faults.Layer.{Layer}
use Rattle.stores.specs.Calls.{Call, Response}
use Rattle.stores.specs.Meanings.{whole, Meaning, Same, Nothing}
use Rattle.stores.specs.Outcomes.{Answer, Failed}
use Rattle.layouts.specs.Heads.{Fields, head_fields, card_blocks}
use Rattle.layouts.specs.declared.heads.Head.{Head}
use Rattle.cards.specs.Cards.{Card, filled}
use Rattle.cards.specs.Memories.{Memory, Remembers}
use Rattle.cards.specs.Progress.{LogRead, Flagged, RowsLaid, RowsRead, SlotsRead}
use Rattle.cards.specs.Verdicts.{read_at, head_of, each, entry_check, slot_check, mount_of}
use Rattle.mounts.specs.declared.logs.Log.{Log}
use Rattle.mounts.specs.Reads.{fetched, no_check, entry_reads, slot_reads, log_reads, sample_reads, ReadsFor}

-- a store that is on, and whose blocks read as the card's
pub record Shows (m : Meaning) (card : Card) : Type 0 where
  pub on : m.on ≡ true
  pub reads : (b : ℕ) → b < m.size → m.reads b ≡ card b

-- a store that shows the card, with room for the sample of this head
pub record ShowsWithRoom (m : Meaning) (h : Fields) (card : Card) : Type 0 where
  pub shows : Shows m card
  pub room : card_blocks h ≤ m.size

-- a refusal: nothing changed, and the check answers this fault; or the supply failed
abbrev pub PartRefused : {A : Type 0} → Layer → Meaning → Meaning → Result A Fault → Fault → Type 0
PartRefused source m n check e = (Same m n × (check ≡ Err e)) ⊎ Failed source m n Nothing e

-- a part that is accepted changed nothing, and this holds; one that is refused is refused by its check
abbrev pub PartOutcome : {A X : Type 0} → Layer → Meaning → Meaning → Result A Fault → (X → Type 0) → Result X Fault → Type 0
PartOutcome source m n check holds (Ok x) = Same m n × holds x
PartOutcome source m n check holds (Err e) = PartRefused source m n check e

-- Each part says what it does of whatever card the store shows.

-- block b is in the buffer: it was read, unless it was there
abbrev pub FetchOutcome : Layer → Layer → Meaning → Meaning → ℕ → Bool → List ℕ → List ℕ → Answer → Type 0
FetchOutcome own source m n b is_new before after r =
    (card : Card) → Shows m card → b < m.size → (is_new ≡ false → card b ≡ whole before) → PartOutcome source m n (read_at own b (card b)) (λ done. card b ≡ whole after) r

-- the head is that of the card, in a store of this size and of this kind
abbrev pub HeadOutcome : Layer → Layer → ℕ → Meaning → Meaning → Result Head Fault → Type 0
HeadOutcome own source code m n r =
    (card : Card) → Shows m card → PartOutcome source m n (head_of own m.size code card) (λ h. head_of own m.size code card ≡ Ok (head_fields h)) r

-- the first i entries are right, and are in the log in memory
abbrev pub LogHas : Layer → (List ℕ → Option ℕ) → Fields → Card → ℕ → Log → Type 0
LogHas own wrong h card i log = LogRead own wrong h card i log.rows log.logged log.work log.last

-- after the first i entries, the entry at position i is right and is in the log in memory too
abbrev pub EntryOutcome : Layer → Layer → (List ℕ → Option ℕ) → Fields → Meaning → Meaning → ℕ → Log → Log → Answer → Type 0
EntryOutcome own source wrong h m n i before after r =
    (card : Card) → ShowsWithRoom m h card → i < h.entries → LogHas own wrong h card i before
    → PartOutcome source m n (entry_check own wrong h card i) (λ done. LogHas own wrong h card (i + 1) after) r

-- all entries are right, and are in the log in memory
abbrev pub LogOutcome : Layer → Layer → (List ℕ → Option ℕ) → Fields → Meaning → Meaning → Result Log Fault → Type 0
LogOutcome own source wrong h m n r =
    (card : Card) → ShowsWithRoom m h card → PartOutcome source m n (each (entry_check own wrong h card) h.entries) (λ log. LogHas own wrong h card h.entries log) r

-- after the first s slots, slot s is right and its row has its record
abbrev pub SlotOutcome : Layer → Layer → (List ℕ → Option ℕ) → Meaning → Meaning → ℕ → List Bool → List (List ℕ) → List ℕ → List (List ℕ) → List ℕ → Answer → Type 0
SlotOutcome own source wrong m n s flags rows block rows_after block_after r =
    (h : Fields) (card : Card) → ShowsWithRoom m h card → s < h.size → Flagged h card flags → SlotsRead own wrong h card s rows block
    → PartOutcome source m n (slot_check own wrong h card s) (λ done. SlotsRead own wrong h card (s + 1) rows_after block_after) r

-- all filled slots are right, and their rows have their records
abbrev pub SlotsOutcome : Layer → Layer → (List ℕ → Option ℕ) → Fields → Meaning → Meaning → List Bool → List (List ℕ) → List (List ℕ) → Answer → Type 0
SlotsOutcome own source wrong h m n flags before after r =
    (card : Card) → ShowsWithRoom m h card → Flagged h card flags → RowsLaid h card before
    → PartOutcome source m n (each (slot_check own wrong h card) (filled h)) (λ done. RowsRead own wrong h card (filled h) after) r

-- a card that mounts, and is remembered
abbrev pub CardMounted : Layer → ℕ → ℕ → (List ℕ → Option ℕ) → Card → Memory → Type 0
CardMounted own store code wrong card t = (mount_of own store code wrong card ≡ Ok t.head) × Remembers t.head card t

-- the card mounts, and is remembered
pub record CardOutcome (own source : Layer) (code : ℕ) (wrong : List ℕ → Option ℕ) (m n : Meaning) (r : Result Memory Fault) : Type 0 where
  pub each_card : (card : Card) → Shows m card → PartOutcome source m n (mount_of own m.size code wrong card) (CardMounted own m.size code wrong card) r

-- And each says which blocks it reads.

-- a fault that is answered is that of the read
abbrev pub FetchCalls : {S : Type 0} → (S → Call → Response S → Type 0) → S → ℕ → Bool → Answer → S → Type 0
FetchCalls does s b is_new r t = ReadsFor does s (fetched is_new b) no_check r t

-- the head: block 0
abbrev pub HeadCalls : {S : Type 0} → Layer → ℕ → (S → Call → Response S → Type 0) → (S → Meaning) → S → Result Head Fault → S → Type 0
HeadCalls own code does meaning s r t = (card : Card) → Shows (meaning s) card → ReadsFor does s (0 ∷ []) (head_of own (meaning s).size code card) r t

-- the entry at position i: its block, if it is the first of the block
abbrev pub EntryCalls : {S : Type 0} → Layer → (List ℕ → Option ℕ) → Fields → (S → Call → Response S → Type 0) → (S → Meaning) → S → ℕ → Log → Answer → S → Type 0
EntryCalls own wrong h does meaning s i before r t =
    (card : Card) → ShowsWithRoom (meaning s) h card → i < h.entries → LogHas own wrong h card i before → ReadsFor does s (entry_reads h i) (entry_check own wrong h card i) r t

-- the log: its blocks, up to the first entry that is wrong
abbrev pub LogCalls : {S : Type 0} → Layer → (List ℕ → Option ℕ) → Fields → (S → Call → Response S → Type 0) → (S → Meaning) → S → Result Log Fault → S → Type 0
LogCalls own wrong h does meaning s r t =
    (card : Card) → ShowsWithRoom (meaning s) h card → ReadsFor does s (log_reads own wrong h card) (each (entry_check own wrong h card) h.entries) r t

-- a slot: its block, if it is the first of the block
abbrev pub SlotCalls : {S : Type 0} → Layer → (List ℕ → Option ℕ) → (S → Call → Response S → Type 0) → (S → Meaning) → S → ℕ → List Bool → List (List ℕ) → List ℕ → Answer → S → Type 0
SlotCalls own wrong does meaning s slot flags rows block r t =
    (h : Fields) (card : Card) → ShowsWithRoom (meaning s) h card → slot < h.size → Flagged h card flags → SlotsRead own wrong h card slot rows block
    → ReadsFor does s (slot_reads slot) (slot_check own wrong h card slot) r t

-- the filled slots: their blocks, up to the first slot that is wrong
abbrev pub SlotsCalls : {S : Type 0} → Layer → (List ℕ → Option ℕ) → Fields → (S → Call → Response S → Type 0) → (S → Meaning) → S → List Bool → List (List ℕ) → Answer → S → Type 0
SlotsCalls own wrong h does meaning s flags before r t =
    (card : Card) → ShowsWithRoom (meaning s) h card → Flagged h card flags → RowsLaid h card before
    → ReadsFor does s (sample_reads own wrong h card) (each (slot_check own wrong h card) (filled h)) r t
