-- What is printed of a sample: a record, a slot with its record, and the mean. Assumes nothing.
use Rattle.std.specs.Prelude.{ℕ, cond, List, ◌++◌, ℤ, codes, decimal, ◌==◌}
use Rattle.std.specs.Fmt.{signed_decimal}
use Rattle.records.specs.Events as events
use Rattle.records.specs.Offsets as offsets
use Rattle.means.specs.Means.{mean_text}

-- an offset: second, satellite and nanoseconds
abbrev pub offset_text : offsets.Fields → List ℕ
offset_text x = decimal x.0 ++ (codes " " ++ (decimal x.1 ++ (codes " " ++ signed_decimal x.2)))

-- what happened, by its code, and the satellite, if one has a part in it
abbrev pub happening_text : ℕ → ℕ → List ℕ
happening_text what satellite =
    cond (what == 1) (codes " lost " ++ decimal satellite) (cond (what == 2) (codes " gained " ++ decimal satellite) (codes " holdover"))

-- an event: second, and what happened
abbrev pub event_text : events.Fields → List ℕ
event_text x = decimal x.0 ++ happening_text x.1 x.2

-- a slot, and the text of the record in it
abbrev pub slot_text : ℕ → List ℕ → List ℕ
slot_text slot record_text = codes "slot " ++ (decimal slot ++ (codes ": " ++ record_text))

-- the mean and how many records it is over, or none
abbrev pub mean_line : ℤ → ℕ → List ℕ
mean_line sum n = cond (n == 0) (codes "mean none") (codes "mean " ++ (mean_text sum n ++ (codes " ns over " ++ decimal n)))
