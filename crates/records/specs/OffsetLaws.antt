-- An offset record's bytes are its own. Assumes nothing.
use Rattle.std.specs.Prelude.{◌≡◌, ℕ, ◌+◌, ◌^◌, ◌<◌, List, [], None, slice_index, slice_index_or, refl}
use Rattle.std.proofs.Common.{arith, sym, ◌∙◌, ap, lit<, to_z, of_z}
use Rattle.std.specs.Int.{w32}
use Rattle.std.proofs.lemmas.Bool.{eqb-true}
use Rattle.std.proofs.lemmas.Int.{ints, to_z-of_z, of_z-to_z}
use Rattle.records.specs.Bytes.{four_at, Twelve}
use Rattle.records.specs.Fields.{second_of, satellite_of, nanoseconds_of}
use Rattle.records.specs.Offsets.{offset_fields, fields_bytes, offset_bytes, offset_wrong}
use Rattle.records.specs.declared.offsets.Offset.{Offset}
use Rattle.records.specs.FieldLaws.{same_number, number_right, second_right, satellite_right, a_field, a_second, a_satellite, nanoseconds_fit}
use Rattle.records.specs.Twelves.{four_first, four_back, twelve_of, four_of, four_lt, each_right}

-- the numbers that stand in a record's bytes
second_back : (r : Offset) → four_at (offset_bytes r) 0 ≡ second_of r.second
second_back r = let h = r.second.high in four_back (second_of r.second) (omega (arith, ints))

nanoseconds_back : (r : Offset) → to_z w32 (four_at (offset_bytes r) 8) ≡ nanoseconds_of r.nanoseconds
nanoseconds_back r =
    let l = r.nanoseconds.low in let h = r.nanoseconds.high in
    let bits = four_back (of_z w32 (nanoseconds_of r.nanoseconds)) (omega (arith, ints)) in
    ap (to_z w32) bits ∙ to_z-of_z w32 (nanoseconds_of r.nanoseconds) (nanoseconds_fit r.nanoseconds)

pub own : (r s : Offset) → offset_bytes r ≡ offset_bytes s → r ≡ s
own r s e =
    let a = same_number r.second s.second (sym (second_back r) ∙ ap (λ bs. four_at bs 0) e ∙ second_back s) in
    let b = same_number r.satellite s.satellite (ap (λ bs. slice_index bs 4) e) in
    let c = same_number r.nanoseconds s.nanoseconds (sym (nanoseconds_back r) ∙ ap (λ bs. to_z w32 (four_at bs 8)) e ∙ nanoseconds_back s) in
    λ i. record { second = a i; satellite = b i; nanoseconds = c i }

pub right : (r : Offset) → offset_wrong (offset_bytes r) ≡ None
right r =
    rw (second_back r, nanoseconds_back r, second_right r.second, satellite_right r.satellite, number_right r.nanoseconds) refl

pub twelve : (r : Offset) → Twelve (offset_bytes r)
twelve r =
    let h : satellite_of r.satellite < 256 = let l = r.satellite.high in omega (arith, ints) in
    twelve_of (offset_bytes r) refl (grind arith)

-- a record whose fields were read from twelve bytes has those bytes
pub read_back : (bs : List ℕ) → Twelve bs → slice_index bs 5 + slice_index bs 6 + slice_index bs 7 ≡ 0 → (r : Offset)
    → offset_fields r ≡ (four_at bs 0, slice_index bs 4, to_z w32 (four_at bs 8)) → offset_bytes r ≡ bs
read_back bs t gap r e =
    let a = t.small 8 (lit< tt) in
    let b = t.small 9 (lit< tt) in
    let c = t.small 10 (lit< tt) in
    let d = t.small 11 (lit< tt) in
    let small : four_at bs 8 < 2 ^ 32 = four_lt _ _ _ _ a b c d in
    let last = four_of _ _ _ _ a b c d [] in
    let row = four_first bs t in
    ap fields_bytes e ∙ rw (of_z-to_z w32 (four_at bs 8) small, last) (grind arith)

pub met : (bs : List ℕ) → Twelve bs → offset_wrong bs ≡ None → (r : Offset) × (offset_bytes r ≡ bs)
met bs t none =
    let h = each_right _ _ _ _ _ _ _ _ none in
    let a = a_second (four_at bs 0) h.0 in
    let b = a_satellite (slice_index_or bs 4 0) h.1 in
    let c = a_field (to_z w32 (four_at bs 8)) h.3 in
    let r : Offset = record { second = a.0; satellite = b.0; nanoseconds = c.0 } in
    (r, read_back bs t (eqb-true _ 0 h.2) r (λ i. (a.1 i, b.1 i, c.1 i)))
