-- A card as of the kind that its head names, by what reading it as of each kind answered. Assumes nothing.
use Rattle.std.proofs.Common.{List, ℕ, map, Bool, true, false, cond, Ok, Err, Result, refl, ap}
use Rattle.failures.specs.Answers.{UnlessMemoryForOk}
use Rattle.failures.specs.declared.Failure.{Failure}
use Rattle.failures.specs.declared.Failure.TheVariants.{Because, Memory}
use Rattle.faults.specs.declared.faults.Fault.{Fault}
use Rattle.records.specs.contracts.events.EventRecordKind.TheImpl as event
use Rattle.records.specs.contracts.offsets.OffsetRecordKind.TheImpl as offset
use Rattle.records.specs.declared.events.Event.{Event}
use Rattle.records.specs.declared.offsets.Offset.{Offset}
use Rattle.records.specs.Events.{event_bytes, event_wrong}
use Rattle.records.specs.Offsets.{offset_bytes}
use Rattle.layouts.specs.Heads.{head_fields}
use Rattle.cardreads.specs.Readings.{CardContents, read_of}
use Rattle.cardreads.specs.declared.readings.Reading.{Reading}
use Rattle.cardtexts.specs.Kinds.{is_of_events, as_events, named_kind, seen, of_code, else_events}

-- what is in a card that was read as one of offsets, and as one of events
abbrev pub in_offsets : Reading Offset offset.ghosts → CardContents
in_offsets r = (head_fields r.head, map offset_bytes r.records.items)

abbrev pub in_events : Reading Event event.ghosts → CardContents
in_events r = (head_fields r.head, map event_bytes r.records.items)

-- as one of events
of_events : (a : Result CardContents Fault) (r : Result (Reading Event event.ghosts) (Failure Fault)) → UnlessMemoryForOk in_events a r → UnlessMemoryForOk seen (of_code 2 a) (as_events r)
of_events a (Ok x) h = ap (of_code 2) h
of_events a (Err (Because e)) h = ap (of_code 2) h
of_events (Ok c) (Err Memory) h = refl
of_events (Err f) (Err Memory) h = h

-- where it was refused as one of offsets, and is of events or not
refused_first : (t : Bool) (e : Fault) (a : Result CardContents Fault) (r : Result (Reading Event event.ghosts) (Failure Fault)) → UnlessMemoryForOk in_events a r
    → UnlessMemoryForOk seen (cond t (of_code 2 a) (Err e)) (cond t (as_events r) (Err (Because e)))
refused_first true e a r h = of_events a r h
refused_first false e a r h = refl

pub named_known : (bytes : List ℕ) (a : Result CardContents Fault) (offsets : Result (Reading Offset offset.ghosts) (Failure Fault)) (events : Result (Reading Event event.ghosts) (Failure Fault))
    → UnlessMemoryForOk in_offsets a offsets → UnlessMemoryForOk in_events (read_of 2 event_wrong bytes) events → UnlessMemoryForOk seen (else_events bytes a) (named_kind offsets events)
named_known bytes a (Ok x) events h k = ap (else_events bytes) h
named_known bytes a (Err (Because e)) events h k = rw h (refused_first (is_of_events (Because e)) e (read_of 2 event_wrong bytes) events k)
named_known bytes (Ok c) (Err Memory) events h k = refl
named_known bytes (Err f) (Err Memory) events h k = cc
