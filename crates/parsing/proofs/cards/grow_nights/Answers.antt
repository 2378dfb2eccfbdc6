use Rattle.std.proofs.Common.{rules, vec_items}
use Rattle.parsing.proofs.Growing.{map_twice}
use Rattle.records.specs.Events.{event_fields}
use Rattle.records.specs.Offsets.{offset_fields}
use Rattle.script.specs.Plans.{night_plan}
use Rattle.script.specs.Shown.{night_shown}
use Rattle.parsing.proofs.cards.grow_nights.Goals as goal

pub returns-in_err-add-in-Offsets : goal.returns-in_err-add-in-Offsets
returns-in_err-add-in-Offsets c =
    let before = map_twice (night_shown offset_fields) night_plan (vec_items c.in-Offsets.nights) in
    let after = map_twice (night_shown offset_fields) night_plan (vec_items c.add.new.nights) in
    search rules

pub returns-in_ok-add-in-Offsets : goal.returns-in_ok-add-in-Offsets
returns-in_ok-add-in-Offsets c =
    let before = map_twice (night_shown offset_fields) night_plan (vec_items c.in-Offsets.nights) in
    let after = map_twice (night_shown offset_fields) night_plan (vec_items c.add.new.nights) in
    search rules

pub returns-in_err-add-in-Events : goal.returns-in_err-add-in-Events
returns-in_err-add-in-Events c =
    let before = map_twice (night_shown event_fields) night_plan (vec_items c.in-Events.nights) in
    let after = map_twice (night_shown event_fields) night_plan (vec_items c.add-in-Events.new.nights) in
    search rules

pub returns-in_ok-add-in-Events : goal.returns-in_ok-add-in-Events
returns-in_ok-add-in-Events c =
    let before = map_twice (night_shown event_fields) night_plan (vec_items c.in-Events.nights) in
    let after = map_twice (night_shown event_fields) night_plan (vec_items c.add-in-Events.new.nights) in
    search rules
