-- An event record's fields and bytes. Assumes nothing.
use Rattle.std.specs.Prelude.{ℕ, ◌+◌, Bool, cond, List, [], ◌∷◌, Option, Result, ◌==◌, slice_index}
use Rattle.faults.specs.declared.faults.Fault.{Fault}
use Rattle.records.specs.Bytes.{four, four_at}
use Rattle.records.specs.Fields.{second_of, satellite_of, is_second, is_satellite}
use Rattle.records.specs.Happenings.{is_code}
use Rattle.records.specs.Reading.{first_wrong, judged}
use Rattle.records.specs.declared.events.Event.{Event}
use Rattle.records.specs.declared.events.Event.TheVariants.{LockLost, LockGained, Holdover}

-- an event's second, what happened (1 lock lost, 2 lock gained, 3 holdover) and its satellite, 0 for a holdover
abbrev pub Fields : Type 0
Fields = ℕ × ℕ × ℕ

abbrev pub event_fields : Event → Fields
event_fields (LockLost s t) = (second_of s, 1, satellite_of t)
event_fields (LockGained s t) = (second_of s, 2, satellite_of t)
event_fields (Holdover s) = (second_of s, 3, 0)

-- a satellite, for what happened: a holdover has none
abbrev pub is_party : ℕ → ℕ → Bool
is_party what satellite = cond (what == 3) (satellite == 0) (is_satellite satellite)

-- of what happened and the satellite, the first byte of the first that is out of its range
abbrev pub wrong_party : ℕ → ℕ → Option ℕ
wrong_party what satellite = first_wrong ((is_code what, 4) ∷ (is_party what satellite, 5) ∷ [])

-- the same of all fields
abbrev pub wrong_fields : Fields → Option ℕ
wrong_fields x = first_wrong ((is_second x.0, 0) ∷ (is_code x.1, 4) ∷ (is_party x.1 x.2, 5) ∷ [])

-- the event with these fields, shown as them, or the refusal
abbrev pub event_of : Fields → Result Fields Fault
event_of x = judged (wrong_fields x) x

-- bytes 0–3 the second, 4 what happened, 5 the satellite, 6–11 zero
abbrev pub fields_bytes : Fields → List ℕ
fields_bytes x = four x.0 (x.1 ∷ x.2 ∷ 0 ∷ 0 ∷ 0 ∷ 0 ∷ 0 ∷ 0 ∷ [])

abbrev pub event_bytes : Event → List ℕ
event_bytes e = fields_bytes (event_fields e)

-- of twelve bytes, the first of the first wrong field
abbrev pub event_wrong : List ℕ → Option ℕ
event_wrong bs =
    first_wrong
    ((is_second (four_at bs 0), 0) ∷ (is_code (slice_index bs 4), 4) ∷ (is_party (slice_index bs 4) (slice_index bs 5), 5)
    ∷ ((slice_index bs 6 + slice_index bs 7 + slice_index bs 8 + slice_index bs 9 + slice_index bs 10 + slice_index bs 11 == 0), 6) ∷ [])
