-- What mounting a card answers: the checks of its head, its log and its sample blocks in order, and the first refusal.
-- Assumes nothing.
use Rattle.std.specs.Prelude.{ℕ, zero, suc, Bool, cond, ◌&&◌, ◌||◌, List, None, Ok, Err, Option, Result, ◌==◌, nat_le, nat_lt, is_some, is_none}
use Rattle.faults.specs.Refusals.{fault}
use Rattle.faults.specs.declared.faults.Fault.{Fault}
use Rattle.faults.specs.declared.faults.Layer.{Layer}
use Rattle.faults.specs.declared.faults.Reason.TheVariants.{NoSuchBlock, Torn, OtherKind, BadEntry, BadSlot}
use Rattle.sampling.specs.Answers.{refusal}
use Rattle.sampling.specs.Draws.{slot_of}
use Rattle.stores.specs.Meanings.{Content, whole, torn}
use Rattle.stores.specs.Outcomes.{Answer}
use Rattle.layouts.specs.Heads.{Fields, head_read}
use Rattle.layouts.specs.declared.entries.Entry.{Entry}
use Rattle.cards.specs.Cards.{Card, slot_block, card_slot, entry_block, card_entry, newest_logged, filled}

-- one check after another: a refusal ends them
abbrev pub and_then : {A B : Type 0} → Result A Fault → (A → Result B Fault) → Result B Fault
and_then (Ok x) f = f x
and_then (Err e) f = Err e

-- a check that passes, or is refused so
abbrev pub check : Bool → Fault → Answer
check right e = cond right (Ok tt) (Err e)

-- the checks of 0 to n - 1, in order
unfoldable pub each : (ℕ → Answer) → ℕ → Answer
each f zero = Ok tt
each f (suc i) = and_then (each f i) (λ _. f i)

-- a store refuses a torn block itself, at its own layer
abbrev pub read_at : Layer → ℕ → Content → Result (List ℕ) Fault
read_at own b (whole bs) = Ok bs
read_at own b torn = Err (fault Torn own b)

-- and also a block past its last, so block 0 where it has none
abbrev pub read_head : Layer → ℕ → Card → Result (List ℕ) Fault
read_head own store card = cond (nat_lt 0 store) (read_at own 0 (card 0)) (Err (fault NoSuchBlock own 0))

-- THE HEAD: one of another kind is refused
abbrev pub of_kind : ℕ → Fields → Result Fields Fault
of_kind code h = cond (h.kind == code) (Ok h) (Err (refusal OtherKind h.kind))

-- the head of the card: block 0 can be read, and has a lawful head of this kind
abbrev pub head_of : Layer → ℕ → ℕ → Card → Result Fields Fault
head_of own store code card = and_then (and_then (read_head own store card) (head_read store)) (of_kind code)

-- THE LOG: the number of the entry before, or 0
abbrev pub previous : Fields → Card → ℕ → ℕ
previous h card zero = 0
previous h card (suc i) = (card_entry h card i).number

-- the slot of an entry's record, if the entry is right after one with this number: its own number is above that, is at most
-- the count and is a candidate's, and its bytes are a record's
abbrev pub right_slot : (List ℕ → Option ℕ) → Fields → ℕ → Entry → Option ℕ
right_slot wrong h before e =
    cond (nat_lt before e.number && nat_le e.number h.count && is_none (wrong e.bytes)) (slot_of h.seed h.size e.number) None

-- the entry at position i: its block can be read, and it is right after the entry before
abbrev pub entry_check : Layer → (List ℕ → Option ℕ) → Fields → Card → ℕ → Answer
entry_check own wrong h card i =
    and_then (read_at own (entry_block h i) (card (entry_block h i)))
    (λ _. check (is_some (right_slot wrong h (previous h card i) (card_entry h card i))) (refusal BadEntry i))

-- THE SAMPLE BLOCKS: a filled slot without an entry has a record
abbrev pub slot_check : Layer → (List ℕ → Option ℕ) → Fields → Card → ℕ → Answer
slot_check own wrong h card s =
    and_then (read_at own (slot_block s) (card (slot_block s)))
    (λ _. check (is_some (newest_logged h card s h.entries) || is_none (wrong (card_slot card s))) (refusal BadSlot s))

-- THE BODY: all entries of the log, and then all filled slots
abbrev pub body_check : Layer → (List ℕ → Option ℕ) → Fields → Card → Answer
body_check own wrong h card = and_then (each (entry_check own wrong h card) h.entries) (λ _. each (slot_check own wrong h card) (filled h))

-- THE MOUNT of a card, in a store of so many blocks whose own layer is `own`, as a kind's: its head, or the first refusal
abbrev pub mount_of : Layer → ℕ → ℕ → (List ℕ → Option ℕ) → Card → Result Fields Fault
mount_of own store code wrong card = and_then (head_of own store code card) (λ h. and_then (body_check own wrong h card) (λ _. Ok h))
