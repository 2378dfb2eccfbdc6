-- What of a sample's head stays the same from one refresh to the next. Assumes nothing.
use Rattle.std.specs.Prelude.{ℕ, ◌+◌, ◌/◌, ◌^◌, ◌<◌, ◌≤◌}
use Rattle.layouts.specs.Shapes.{sample_blocks}
use Rattle.layouts.specs.Heads.{Fields}
use Rattle.cards.specs.Memories.{Memory}

-- the kind's code, the seed, the slots, the log blocks, and how many records were counted when the log was last emptied:
-- its entries are newer
pub record Frame : Type 0 where
  pub kind : ℕ
  pub seed : ℕ
  pub size : ℕ
  pub log_blocks : ℕ
  pub base : ℕ

-- a frame within the limits of a head
pub record InLimits (f : Frame) : Type 0 where
  pub coded : 0 < f.kind
  pub seeded : f.seed < 2 ^ 64
  pub some : 0 < f.size
  pub most : f.size ≤ 672
  pub logged : 0 < f.log_blocks
  pub limited : f.log_blocks ≤ 64

-- the head of this frame with n records counted and c entries in its log
abbrev pub fields_of : Frame → ℕ → ℕ → Fields
fields_of f n c = record { kind = f.kind; log_blocks = f.log_blocks; size = f.size; seed = f.seed; count = n; entries = c }

-- the frame of the head in memory
abbrev pub frame : ℕ → Memory → Frame
frame base t = record { kind = t.head.kind; seed = t.head.seed; size = t.head.size; log_blocks = t.head.log_blocks; base = base }

-- the block of entry j of the log
abbrev pub log_block : Frame → ℕ → ℕ
log_block f j = 1 + sample_blocks f.size + j / 31

-- how many blocks a sample of this frame takes
abbrev pub frame_blocks : Frame → ℕ
frame_blocks f = 1 + sample_blocks f.size + f.log_blocks
