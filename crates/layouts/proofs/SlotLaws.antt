-- What the slots of a sample block are, once a record's bytes are put in one. Assumes nothing.
use Rattle.std.proofs.Common.{◌≡◌, ◌≢◌, ℕ, ◌+◌, ◌*◌, ◌≤◌, List, length}
use Rattle.layouts.specs.Slots.{slot_at, with_slot}
use Rattle.layouts.proofs.Spans.{span_here, span_other}

-- these bytes are read in their slot, and every other slot as before
pub slot_here : (bs new : List ℕ) (place : ℕ) → 12 * place + 12 ≤ length bs → length new ≡ 12 → slot_at (with_slot bs place new) place ≡ new
slot_here bs new place fit long = span_here 12 bs new place fit long

pub slot_other : (bs new : List ℕ) (place other : ℕ) → 12 * place + 12 ≤ length bs → length new ≡ 12 → (other ≢ place) → slot_at (with_slot bs place new) other ≡ slot_at bs other
slot_other bs new place other fit long ne = span_other 12 bs new place other fit long ne
