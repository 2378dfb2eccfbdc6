-- What the words after `insert` say. Assumes nothing.
use Rattle.std.specs.Prelude.{ℕ, cond, List, [], ◌∷◌, Some, None, Ok, Err, codes, Option, Result}
use Rattle.std.specs.Str.{bytes_eq}
use Rattle.faults.specs.declared.faults.Fault.{Fault}
use Rattle.languages.specs.Expecting.{or_else, shown}
use Rattle.parsing.specs.Numerals.{read_offset}
use Rattle.records.specs.Events as events
use Rattle.records.specs.Events.{event_of}
use Rattle.records.specs.Happenings.{happening_code}
use Rattle.records.specs.Offsets as offsets
use Rattle.records.specs.Offsets.{offset_of}
use Rattle.records.specs.declared.happenings.Happening.TheVariants.{LockLost, LockGained, Holdover}
use Rattle.script.specs.declared.expectations.Expected.{Expected}
use Rattle.script.specs.declared.expectations.Expected.TheVariants as expected
use Rattle.words.specs.Numerals.{read_number}

-- SECOND SATELLITE OFFSET
abbrev pub offset_numbers : List ℕ → List ℕ → List ℕ → Result offsets.Fields Expected
offset_numbers second satellite offset =
    or_else (read_number 10 0xFFFF_FFFF second) expected.Second
    (λ t. or_else (read_number 10 0xFFFF_FFFF satellite) expected.Satellite
    (λ n. or_else (read_offset offset) expected.Offset
    (λ d. Ok (t, n, d))))

-- an offset: three words
abbrev pub read_offset_words : List (List ℕ) → Result offsets.Fields Expected
read_offset_words [] = Err expected.InsertWords
read_offset_words (second ∷ []) = Err expected.InsertWords
read_offset_words (second ∷ satellite ∷ []) = Err expected.InsertWords
read_offset_words (second ∷ satellite ∷ offset ∷ []) = offset_numbers second satellite offset
read_offset_words (second ∷ satellite ∷ offset ∷ more ∷ words) = Err expected.InsertWords

-- what happened to a lock, by its code
abbrev pub lock_code : List ℕ → Option ℕ
lock_code word =
    cond (bytes_eq word (codes "lost")) (Some (happening_code LockLost))
    (cond (bytes_eq word (codes "gained")) (Some (happening_code LockGained)) None)

-- SECOND lost SATELLITE, or SECOND gained SATELLITE
abbrev pub lock_numbers : List ℕ → List ℕ → List ℕ → Result events.Fields Expected
lock_numbers second what satellite =
    or_else (read_number 10 0xFFFF_FFFF second) expected.Second
    (λ t. or_else (lock_code what) expected.EventWords
    (λ w. or_else (read_number 10 0xFFFF_FFFF satellite) expected.Satellite
    (λ n. Ok (t, w, n))))

-- SECOND holdover, in which no satellite has a part
abbrev pub holdover_numbers : List ℕ → List ℕ → Result events.Fields Expected
holdover_numbers second what =
    or_else (read_number 10 0xFFFF_FFFF second) expected.Second
    (λ t. cond (bytes_eq what (codes "holdover")) (Ok (t, happening_code Holdover, 0)) (Err expected.EventWords))

-- an event: two words or three
abbrev pub read_event_words : List (List ℕ) → Result events.Fields Expected
read_event_words [] = Err expected.EventWords
read_event_words (second ∷ []) = Err expected.EventWords
read_event_words (second ∷ what ∷ []) = holdover_numbers second what
read_event_words (second ∷ what ∷ satellite ∷ []) = lock_numbers second what satellite
read_event_words (second ∷ what ∷ satellite ∷ more ∷ words) = Err expected.EventWords

-- the words after `insert` of a card of offsets: a record, or why there is none such, or what was expected
abbrev pub read_offset_record : List (List ℕ) → Result (Result offsets.Fields Fault) Expected
read_offset_record words = shown offset_of (read_offset_words words)

-- the same of a card of events
abbrev pub read_event_record : List (List ℕ) → Result (Result events.Fields Fault) Expected
read_event_record words = shown event_of (read_event_words words)
