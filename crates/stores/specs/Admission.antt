-- What a store's own layer asks before it serves a call, and how it refuses. Assumes nothing.
use Rattle.std.specs.Prelude.{ℕ, Bool, cond, Ok, Err, ◌==◌, nat_le}
use Rattle.faults.specs.Refusals.{fault}
use Rattle.faults.specs.declared.faults.Layer.{Layer}
use Rattle.faults.specs.declared.faults.Reason.TheVariants.{NoSuchBlock, WrongLength, Off}
use Rattle.stores.specs.Outcomes.{Answer}

-- a store that is off refuses
abbrev pub powered : Layer → Bool → Answer
powered own on = cond on (Ok tt) (Err (fault Off own 0))

-- first a block past the last is refused, then a buffer of another length, then a store that is off
abbrev pub admission : Layer → ℕ → Bool → ℕ → ℕ → Answer
admission own size on block length =
    cond (nat_le size block) (Err (fault NoSuchBlock own block)) (cond (length == 504) (powered own on) (Err (fault WrongLength own length)))
