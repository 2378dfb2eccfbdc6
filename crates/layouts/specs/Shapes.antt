-- How many slots and log blocks a sample may have, and how many blocks it takes. Assumes nothing.
use Rattle.std.specs.Prelude.{ℕ, ◌+◌, ◌/◌, Bool, cond, ◌&&◌, Ok, Err, Result, nat_le}
use Rattle.faults.specs.declared.faults.Fault.{Fault}
use Rattle.faults.specs.declared.faults.Reason.TheVariants.{OutOfLimits}
use Rattle.sampling.specs.Answers.{is_size, refusal}
use Rattle.layouts.specs.declared.shapes.Shape.{Shape}

-- a log has 1 to 64 blocks
abbrev pub is_log : ℕ → Bool
is_log log_blocks = nat_le 1 log_blocks && nat_le log_blocks 64

-- as many sample blocks as the slots need, 42 to a block
abbrev pub sample_blocks : ℕ → ℕ
sample_blocks size = (size + 41) / 42

-- the head's block, the sample blocks and the log blocks
abbrev pub blocks : ℕ → ℕ → ℕ
blocks size log_blocks = 1 + sample_blocks size + log_blocks

-- a shape's slots and log blocks
abbrev pub shape_fields : Shape → ℕ × ℕ
shape_fields s = (s.size, s.log_blocks)

-- the shape with these, shown as them, or the refusal of the first out of its limits
abbrev pub shape_of : ℕ → ℕ → Result (ℕ × ℕ) Fault
shape_of size log_blocks =
    cond (is_size size) (cond (is_log log_blocks) (Ok (size, log_blocks)) (Err (refusal OutOfLimits log_blocks))) (Err (refusal OutOfLimits size))
