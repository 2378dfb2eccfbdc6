-- Which kind a card is read as. Assumes nothing.
use Rattle.std.specs.Prelude.{ℕ, List, map, Bool, true, false, cond, ◌&&◌, Ok, Err, Result, ◌==◌}
use Rattle.failures.specs.declared.Failure.{Failure}
use Rattle.failures.specs.declared.Failure.TheVariants.{Because, Memory}
use Rattle.faults.specs.declared.faults.Fault.{Fault}
use Rattle.faults.specs.declared.faults.Reason.{Reason}
use Rattle.faults.specs.declared.faults.Reason.TheVariants.{OtherKind}
use Rattle.records.specs.contracts.events.EventRecordKind.TheImpl as event
use Rattle.records.specs.contracts.offsets.OffsetRecordKind.TheImpl as offset
use Rattle.records.specs.declared.events.Event.{Event}
use Rattle.records.specs.declared.offsets.Offset.{Offset}
use Rattle.records.specs.Events.{event_bytes, event_wrong}
use Rattle.records.specs.Offsets.{offset_bytes, offset_wrong}
use Rattle.layouts.specs.Heads.{head_fields}
use Rattle.cardreads.specs.Readings.{CardContents, read_of}
use Rattle.cardreads.specs.declared.readings.Reading.{Reading}
use Rattle.cardtexts.specs.declared.readings.AnyReading.{AnyReading}
use Rattle.cardtexts.specs.declared.readings.AnyReading.TheVariants.{Offsets, Events}

-- whether it is the refusal of a card of another kind
abbrev pub is_other_kind : Reason → Bool
is_other_kind OtherKind = true
is_other_kind other = false

-- whether a card was refused since it is of another kind, namely of events
abbrev pub is_of_events : Failure Fault → Bool
is_of_events (Because f) = is_other_kind f.reason && (f.place == 2)
is_of_events Memory = false

-- a card read as one of events
abbrev pub as_events : Result (Reading Event event.ghosts) (Failure Fault) → Result AnyReading (Failure Fault)
as_events (Ok r) = Ok (Events r)
as_events (Err why) = Err why

-- THE CARD AS OF THE KIND THAT ITS HEAD NAMES, by what reading it as of each kind answered: as of offsets, unless it is of events
abbrev pub named_kind : Result (Reading Offset offset.ghosts) (Failure Fault) → Result (Reading Event event.ghosts) (Failure Fault) → Result AnyReading (Failure Fault)
named_kind (Ok r) events = Ok (Offsets r)
named_kind (Err why) events = cond (is_of_events why) (as_events events) (Err why)

-- what a card of either kind has, with the kind's code
abbrev pub seen : AnyReading → ℕ × CardContents
seen (Offsets r) = (1, (head_fields r.head, map offset_bytes r.records.items))
seen (Events r) = (2, (head_fields r.head, map event_bytes r.records.items))

-- the same with a kind's code
abbrev pub of_code : ℕ → Result CardContents Fault → Result (ℕ × CardContents) Fault
of_code code (Ok c) = Ok (code, c)
of_code code (Err e) = Err e

-- a card that was refused as one of offsets is one of events, or is refused so
abbrev pub else_events : List ℕ → Result CardContents Fault → Result (ℕ × CardContents) Fault
else_events bytes (Ok c) = Ok (1, c)
else_events bytes (Err e) = cond (is_of_events (Because e)) (of_code 2 (read_of 2 event_wrong bytes)) (Err e)

-- THE CARD IN THESE BYTES as of the kind that its head names
abbrev pub any_read_of : List ℕ → Result (ℕ × CardContents) Fault
any_read_of bytes = else_events bytes (read_of 1 offset_wrong bytes)
