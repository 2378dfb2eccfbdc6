-- A head's fields and bytes, and which head a block has. Assumes nothing.
use Rattle.std.specs.Prelude.{◌≡◌, ℕ, ◌*◌, ◌≤◌, Bool, cond, ◌&&◌, List, [], ◌∷◌, ◌++◌, replicate, Some, None, Ok, Err, Option, Result, nat_le, slice_index, ◌≢◌}
use Rattle.std.specs.Str.{bytes_eq}
use Rattle.faults.specs.declared.faults.Fault.{Fault}
use Rattle.faults.specs.declared.faults.Reason.TheVariants.{BadHead}
use Rattle.records.specs.Bytes.{four, four_at}
use Rattle.sampling.specs.Answers.{is_size, refusal}
use Rattle.layouts.specs.Bytes.{two, eight, two_at, eight_at}
use Rattle.layouts.specs.Shapes.{is_log, blocks}
use Rattle.layouts.specs.declared.heads.Head.{Head}

-- what a head says: the kind's code, the log blocks, the slots, the seed, the records counted and the log's entries
pub record Fields : Type 0 where
  pub kind : ℕ
  pub log_blocks : ℕ
  pub size : ℕ
  pub seed : ℕ
  pub count : ℕ
  pub entries : ℕ

-- the fields of the head in memory
abbrev pub head_fields : Head → Fields
head_fields h = record {
  kind = h.kind;
  log_blocks = h.shape.log_blocks;
  size = h.shape.size;
  seed = h.seed;
  count = h.count;
  entries = h.entries;
}

-- version 1 in one byte, and length 18, that of the fields, in two; kind, log blocks, slots, seed, count and entries
abbrev pub front : Fields → List ℕ
front x = 1 ∷ two 18 (x.kind ∷ x.log_blocks ∷ two x.size (eight x.seed (four x.count (two x.entries []))))

-- these 21 bytes, and zeros to the end of the block
unfoldable pub fields_bytes : Fields → List ℕ
fields_bytes x = front x ++ replicate 483 0

-- the bytes of the head in memory
abbrev pub head_bytes : Head → List ℕ
head_bytes h = fields_bytes (head_fields h)

-- the fields at their places in a block
abbrev pub fields_at : List ℕ → Fields
fields_at bs = record {
  kind = slice_index bs 3;
  log_blocks = slice_index bs 4;
  size = two_at bs 5;
  seed = eight_at bs 7;
  count = four_at bs 15;
  entries = two_at bs 19;
}

-- the limits that a head's fields keep
abbrev pub keeps_limits : Fields → Bool
keeps_limits x =
    nat_le 1 x.kind && is_size x.size && is_log x.log_blocks && nat_le x.count 4000000000 && nat_le x.entries (31 * x.log_blocks)
    && nat_le x.entries x.count

-- the head with these fields, shown as them, if they keep the limits
abbrev pub made_head : Fields → Option Fields
made_head x = cond (keeps_limits x) (Some x) None

-- how many blocks the sample takes
abbrev pub card_blocks : Fields → ℕ
card_blocks x = blocks x.size x.log_blocks

-- whether a block is just the bytes of these fields, in a store of so many blocks with room for the sample
abbrev pub fills : ℕ → List ℕ → Fields → Bool
fills store bs x = bytes_eq (fields_bytes x) bs && nat_le (card_blocks x) store

-- whether a block is a lawful head in such a store: the fields at their places keep the limits and fill it
unfoldable pub lawful_head : ℕ → List ℕ → Bool
lawful_head store bs = keeps_limits (fields_at bs) && fills store bs (fields_at bs)

-- a block that is no lawful head is refused at place 0
abbrev pub bad_head : Fault
bad_head = refusal BadHead 0

-- the head that a block has, shown as its fields, or the refusal
abbrev pub head_read : ℕ → List ℕ → Result Fields Fault
head_read store bs = cond (lawful_head store bs) (Ok (fields_at bs)) (Err bad_head)

-- THE HEAD OF A BLOCK, both ways: what is read has the block's bytes, and room in the store; what is refused is no head's
abbrev pub IsHeadOf : ℕ → List ℕ → Result Head Fault → Type 0
IsHeadOf store bs (Ok h) = (head_bytes h ≡ bs) × (card_blocks (head_fields h) ≤ store)
IsHeadOf store bs (Err e) = (h : Head) → card_blocks (head_fields h) ≤ store → head_bytes h ≢ bs

-- the answer of reading a head's own bytes: that head, unless the store is too small for it
abbrev pub own_read : ℕ → Head → Result Head Fault
own_read store h = cond (nat_le (card_blocks (head_fields h)) store) (Ok h) (Err bad_head)
