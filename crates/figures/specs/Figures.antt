-- The figures that the definitions must give. Assumes nothing.
use Rattle.std.specs.Prelude.{◌≡◌, ℕ, List, [], ◌∷◌, ◌++◌, replicate, negsuc, Some, None, Ok, Err, Result}
use Rattle.faults.specs.Numbers.{reason_number, layer_number}
use Rattle.faults.specs.declared.faults.Fault.{Fault}
use Rattle.records.specs.Offsets.{Fields, fields_bytes, offset_of, offset_wrong}
use Rattle.records.specs.Reading.{read_as}
use Rattle.benches.specs.Held.{settled, tore}
use Rattle.benches.specs.Passes.{decided}
use Rattle.layouts.specs.Shapes.{sample_blocks, blocks, shape_of}
use Rattle.layouts.specs.Heads as heads
use Rattle.sampling.specs.Draws.{draw_of, slot_of}
use Rattle.sampling.specs.Samples.{sample_at}

-- an answer, with a refusal shown as its number, its layer's and its place
pub data Shown (A : Type 0) : Type 0 where
  accepted : A → Shown A
  refused : ℕ → ℕ → ℕ → Shown A

abbrev pub shown : {A : Type 0} → Result A Fault → Shown A
shown (Ok a) = accepted a
shown (Err f) = refused (reason_number f.reason) (layer_number f.layer) f.place

-- second 604,799, satellite 31, offset -1
abbrev pub last : Fields
last = (604799, 31, negsuc 0)

abbrev pub last_bytes : List ℕ
last_bytes = 0x00 ∷ 0x09 ∷ 0x3A ∷ 0x7F ∷ 0x1F ∷ 0x00 ∷ 0x00 ∷ 0x00 ∷ 0xFF ∷ 0xFF ∷ 0xFF ∷ 0xFF ∷ []

-- five records, each standing for its number
abbrev pub five : List ℕ
five = 1 ∷ 2 ∷ 3 ∷ 4 ∷ 5 ∷ []

-- the head of five offset records after a refresh: two slots, the seed 0, one log block
abbrev pub refreshed : heads.Fields
refreshed = record { kind = 1; log_blocks = 1; size = 2; seed = 0; count = 5; entries = 0 }

abbrev pub refreshed_front : List ℕ
refreshed_front =
    0x01 ∷ 0x00 ∷ 0x12 ∷ 0x01 ∷ 0x01 ∷ 0x00 ∷ 0x02 ∷ 0x00 ∷ 0x00 ∷ 0x00 ∷ 0x00 ∷ 0x00 ∷ 0x00 ∷ 0x00 ∷ 0x00 ∷ 0x00 ∷ 0x00 ∷ 0x00 ∷ 0x05 ∷ 0x00 ∷ 0x00 ∷ []

abbrev pub refreshed_bytes : List ℕ
refreshed_bytes = refreshed_front ++ replicate 483 0x00

pub record Figures : Type 0 where
  -- draws of the seed 0
  pub draw_one : draw_of 0 1 ≡ 0xE220A8397B1DCDAF
  pub draw_two : draw_of 0 2 ≡ 0x6E789E6AA1B965F4
  pub draw_three : draw_of 0 3 ≡ 0x06C45D188009454F
  pub draw_four : draw_of 0 4 ≡ 0xF88BB8A8724C81EC
  pub draw_five : draw_of 0 5 ≡ 0x1B39896A51A8749B
  -- slots of the first five records in a sample of two
  pub slot_one : slot_of 0 2 1 ≡ Some 0
  pub slot_two : slot_of 0 2 2 ≡ Some 1
  pub slot_three : slot_of 0 2 3 ≡ Some 1
  pub slot_four : slot_of 0 2 4 ≡ Some 0
  pub slot_five : slot_of 0 2 5 ≡ None
  -- their sample: record 4, record 3
  pub sample_zero : sample_at 0 2 five 0 ≡ Some 4
  pub sample_one : sample_at 0 2 five 1 ≡ Some 3
  pub sample_two : sample_at 0 2 five 2 ≡ None
  -- bytes and ranges of offset records
  pub last_made : shown (offset_of last) ≡ accepted last
  pub last_written : fields_bytes last ≡ last_bytes
  pub last_read : shown (read_as offset_wrong last_bytes) ≡ accepted last_bytes
  pub late_second : shown (offset_of (604800, 31, negsuc 0)) ≡ refused 5 4 0
  pub least_offset : shown (offset_of (0, 0, negsuc 499999999)) ≡ accepted (0, 0, negsuc 499999999)
  pub below_least : shown (offset_of (0, 0, negsuc 500000000)) ≡ refused 5 4 8
  -- a bench's choices at a block with one held write: the settled block, the write, torn, the settled block
  pub choice_zero : (b : ℕ) (memory write left : List ℕ) → decided b (write ∷ []) (record { mem = memory; left = 0 ∷ left }) ≡ record { mem = memory; left = left }
  pub choice_one : (b : ℕ) (memory write left : List ℕ) → decided b (write ∷ []) (record { mem = memory; left = 1 ∷ left }) ≡ record { mem = settled memory b write; left = left }
  pub choice_two : (b : ℕ) (memory write left : List ℕ) → decided b (write ∷ []) (record { mem = memory; left = 2 ∷ left }) ≡ record { mem = tore memory b; left = left }
  pub choice_three : (b : ℕ) (memory write left : List ℕ) → decided b (write ∷ []) (record { mem = memory; left = 3 ∷ left }) ≡ record { mem = memory; left = left }
  pub choice_past : (b : ℕ) (memory write : List ℕ) → decided b (write ∷ []) (record { mem = memory; left = [] }) ≡ record { mem = memory; left = [] }
  -- how many blocks a sample takes, and which sizes it has
  pub blocks_of_42 : sample_blocks 42 ≡ 1
  pub blocks_of_43 : sample_blocks 43 ≡ 2
  pub blocks_of_672 : sample_blocks 672 ≡ 16
  pub size_zero : shown (shape_of 0 1) ≡ refused 3 3 0
  pub size_673 : shown (shape_of 673 1) ≡ refused 3 3 673
  pub all_blocks : blocks 43 1 ≡ 4
  -- a head, in a store that has just the blocks of its sample, and in one with a block less
  pub head_written : heads.fields_bytes refreshed ≡ refreshed_bytes
  pub head_read : shown (heads.head_read 3 refreshed_bytes) ≡ accepted refreshed
  pub head_refused : shown (heads.head_read 2 refreshed_bytes) ≡ refused 25 3 0
