-- An offset record's fields and bytes. Assumes nothing.
use Rattle.std.specs.Prelude.{ℕ, ◌+◌, List, [], ◌∷◌, ℤ, Option, Result, ◌==◌, slice_index}
use Rattle.std.specs.Int.{w32}
use Rattle.std.proofs.Common.{to_z, of_z}
use Rattle.faults.specs.declared.faults.Fault.{Fault}
use Rattle.records.specs.Bytes.{four, four_at}
use Rattle.records.specs.Fields.{second_of, satellite_of, nanoseconds_of, is_second, is_satellite, is_nanoseconds}
use Rattle.records.specs.Reading.{first_wrong, judged}
use Rattle.records.specs.declared.offsets.Offset.{Offset}

-- a record's second, satellite and nanoseconds
abbrev pub Fields : Type 0
Fields = ℕ × ℕ × ℤ

abbrev pub offset_fields : Offset → Fields
offset_fields r = (second_of r.second, satellite_of r.satellite, nanoseconds_of r.nanoseconds)

-- of fields, the first byte of the first that is out of its range
abbrev pub wrong_fields : Fields → Option ℕ
wrong_fields x = first_wrong ((is_second x.0, 0) ∷ (is_satellite x.1, 4) ∷ (is_nanoseconds x.2, 8) ∷ [])

-- the record with these fields, shown as them, or the refusal
abbrev pub offset_of : Fields → Result Fields Fault
offset_of x = judged (wrong_fields x) x

-- bytes 0–3 the second, 4 the satellite, 5–7 zero, 8–11 the nanoseconds in two's complement
abbrev pub fields_bytes : Fields → List ℕ
fields_bytes x = four x.0 (x.1 ∷ 0 ∷ 0 ∷ 0 ∷ four (of_z w32 x.2) [])

abbrev pub offset_bytes : Offset → List ℕ
offset_bytes r = fields_bytes (offset_fields r)

-- of twelve bytes, the first of the first wrong field
abbrev pub offset_wrong : List ℕ → Option ℕ
offset_wrong bs =
    first_wrong
    ((is_second (four_at bs 0), 0) ∷ (is_satellite (slice_index bs 4), 4) ∷ ((slice_index bs 5 + slice_index bs 6 + slice_index bs 7 == 0), 5)
    ∷ (is_nanoseconds (to_z w32 (four_at bs 8)), 8) ∷ [])
