use Rattle.std.proofs.Common.{w32, SFits, rules}
use Rattle.std.proofs.lemmas.Int.{to_z-of_z}
use Rattle.records.specs.Bytes.{Twelve}
use Rattle.records.specs.Fields.{number_of}
use Rattle.records.specs.Offsets.{offset_bytes, offset_wrong}
use Rattle.records.specs.declared.offsets.Offset.{Offset}
use Rattle.records.specs.FieldLaws.{made_of}
use Rattle.records.specs.OffsetLaws.{right, read_back}
use Rattle.records.specs.Twelves.{reads_own}
use Rattle.records.proofs.offsets.OffsetRecordKind.decode.Goals as goal

-- An event's answer says why `t` and `second` stand in both.
pub returns : goal.returns
returns c =
    let bs = c.args.from.now in
    let r : Offset = record { second = c.in_ok-second.second; satellite = c.in_ok-satellite.satellite; nanoseconds = c.in_ok-nanoseconds.nanoseconds } in
    let t : Twelve bs = record { long = search rules; small = λ i h. search rules } in
    let fit : SFits w32 c.from_be_bytes-2.result = search rules in
    let second = made_of number_of _ _ _ _ c.in_ok-second.ensures.ok_part c.new.ensures in
    let satellite = made_of number_of _ _ _ _ c.in_ok-satellite.ensures.ok_part c.new-2.ensures in
    let nanoseconds = made_of number_of _ _ _ _ c.in_ok-nanoseconds.ensures.ok_part (simp to_z-of_z at c.new-3.ensures) in
    reads_own offset_bytes offset_wrong r bs t.long (read_back bs t (search rules) r cc) (right r)
