-- What reading a card in memory answers. Assumes nothing.
use Rattle.std.specs.Prelude.{ℕ, zero, suc, List, [], ◌∷◌, ◌++◌, length, Some, None, Ok, Err, Option, Result, slice_index_or}
use Rattle.faults.specs.declared.faults.Fault.{Fault}
use Rattle.faults.specs.declared.faults.Layer.TheVariants.{Device}
use Rattle.faults.specs.declared.faults.Reason.TheVariants.{Off}
use Rattle.sampling.specs.Answers.{refusal}
use Rattle.stores.specs.Meanings.{whole}
use Rattle.images.specs.Images.{block, blocks_in}
use Rattle.layouts.specs.Heads.{Fields}
use Rattle.cards.specs.Cards.{Card, slot_record, filled}
use Rattle.cards.specs.Verdicts.{and_then, mount_of}
use Rattle.cards.specs.Memories.{Memory}

-- a card's head, and the bytes of the record of each filled slot
abbrev pub CardContents : Type 0
CardContents = Fields × List (List ℕ)

-- what each of the first n slots has
unfoldable pub firsts : (ℕ → List ℕ) → ℕ → List (List ℕ)
firsts f zero = []
firsts f (suc n) = firsts f n ++ (f n ∷ [])

-- the record of each filled slot of a sample in memory
abbrev pub rows_of : Memory → List (List ℕ)
rows_of t = firsts (λ s. slice_index_or t.rows s []) (filled t.head)

-- what is in a sampler's memory; a dark one refuses
abbrev pub memory_read : Option Memory → Result CardContents Fault
memory_read None = Err (refusal Off 0)
memory_read (Some t) = Ok (t.head, rows_of t)

-- the card that an image of these bytes is
abbrev pub image_card : List ℕ → Card
image_card bytes b = whole (block bytes b)

-- what a lawful card has
abbrev pub card_contents : Card → Fields → CardContents
card_contents card h = (h, firsts (slot_record h card) (filled h))

-- THE READING of these bytes as the card of a kind: the refusal of its mount, or its head and each filled slot's record
abbrev pub read_of : ℕ → (List ℕ → Option ℕ) → List ℕ → Result CardContents Fault
read_of code wrong bytes =
    and_then (mount_of Device (blocks_in (length bytes)) code wrong (image_card bytes)) (λ h. Ok (card_contents (image_card bytes) h))
