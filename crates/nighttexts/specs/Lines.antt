-- What is printed of a call and its answer. Assumes nothing.
use Rattle.std.specs.Prelude.{ℕ, List, ◌++◌, map, length, Some, None, codes, decimal}
use Rattle.faults.specs.Texts.{refusal_text}
use Rattle.records.specs.Events.{event_fields}
use Rattle.records.specs.Offsets.{offset_fields}
use Rattle.records.specs.declared.events.Event.{Event}
use Rattle.records.specs.declared.offsets.Offset.{Offset}
use Rattle.sampletexts.specs.Lines.{offset_text, event_text, mean_line}
use Rattle.sampletexts.specs.Sums.{sum_of}
use Rattle.ledgers.specs.declared.calls.Call.{Call}
use Rattle.ledgers.specs.declared.calls.Call.TheVariants.{Mount, Wake, Insert, Commit, Refresh, Slot, Close}
use Rattle.ledgers.specs.declared.calls.Answer.{Answer}
use Rattle.ledgers.specs.declared.calls.Answer.TheVariants.{Mounted, Woken, Inserted, Committed, Refreshed, Found, Closed, Refused, OutOfTurn}

-- an offset's words, as an insert takes them
abbrev pub offset_words : Offset → List ℕ
offset_words x = offset_text (offset_fields x)

-- an event's words, as an insert takes them
abbrev pub event_words : Event → List ℕ
event_words x = event_text (event_fields x)

-- what is said of all offsets of a sample: their mean
abbrev pub offset_summary : List Offset → List ℕ
offset_summary xs = mean_line (sum_of (map offset_fields xs)) (length xs) ++ codes "\n"

-- of all events of a sample nothing is said
abbrev pub event_summary : List Event → List ℕ
event_summary xs = codes ""

module _ {K : Type 0} where
  -- a call's first word
  abbrev pub call_name : Call K → List ℕ
  call_name Mount = codes "mount"
  call_name Wake = codes "wake"
  call_name (Insert x) = codes "insert"
  call_name Commit = codes "commit"
  call_name Refresh = codes "refresh"
  call_name (Slot i) = codes "slot"
  call_name Close = codes "close"

  -- what stands behind it, by the answer
  abbrev pub answer_text : (K → List ℕ) → Answer K → List ℕ
  answer_text words (Mounted n) = codes " ok " ++ decimal n
  answer_text words Woken = codes " ok"
  answer_text words (Inserted (Some i)) = codes " ok " ++ decimal i
  answer_text words (Inserted None) = codes " ok none"
  answer_text words (Committed n) = codes " ok " ++ decimal n
  answer_text words (Refreshed n) = codes " ok " ++ decimal n
  answer_text words (Found x) = codes " ok " ++ words x
  answer_text words Closed = codes " ok"
  answer_text words (Refused f) = codes " refused " ++ refusal_text f
  answer_text words OutOfTurn = codes " out of turn"

  -- a call's line
  abbrev pub call_line : (K → List ℕ) → Call K → Answer K → List ℕ
  call_line words c a = call_name c ++ (answer_text words a ++ codes "\n")
