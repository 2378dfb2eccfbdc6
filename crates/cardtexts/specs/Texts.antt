-- What is printed of a card that was read. Assumes nothing.
use Rattle.std.specs.Prelude.{ℕ, zero, suc, ◌+◌, ◌/◌, ◌%◌, false, List, [], ◌∷◌, ◌++◌, map, length, codes, decimal}
use Rattle.std.specs.Fmt.{digit_glyph}
use Rattle.records.specs.Events as events
use Rattle.records.specs.Offsets as offsets
use Rattle.layouts.specs.Heads.{Fields, head_fields}
use Rattle.sampletexts.specs.Lines.{offset_text, event_text, slot_text, mean_line}
use Rattle.sampletexts.specs.Sums.{sum_of}
use Rattle.cardtexts.specs.declared.readings.AnyReading.{AnyReading}
use Rattle.cardtexts.specs.declared.readings.AnyReading.TheVariants.{Offsets, Events}

-- the last so many hexadecimal digits of a number, before others
unfoldable pub hexadecimals : ℕ → ℕ → List ℕ → List ℕ
hexadecimals zero n rest = rest
hexadecimals (suc k) n rest = hexadecimals k (n / 16) (digit_glyph false (n % 16) ∷ rest)

-- a head, without its kind: the slots, the seed in sixteen digits, the records counted and the log's entries
abbrev pub head_text : Fields → List ℕ
head_text h =
    codes "slots " ++ (decimal h.size ++ (codes "\nseed 0x" ++ (hexadecimals 16 h.seed [] ++ (codes "\ncounted " ++ (decimal h.count
    ++ (codes "\nlogged " ++ (decimal h.entries ++ codes "\n")))))))

-- a line for each record, in slots from this one on
abbrev pub slots_text : {R : Type 0} → (R → List ℕ) → ℕ → List R → List ℕ
slots_text text slot [] = []
slots_text text slot (r ∷ rs) = slot_text slot (text r) ++ (codes "\n" ++ slots_text text (slot + 1) rs)

-- a card of offsets, with their mean
abbrev pub offsets_text : Fields → List offsets.Fields → List ℕ
offsets_text h xs = codes "kind offset\n" ++ (head_text h ++ (slots_text offset_text 0 xs ++ (mean_line (sum_of xs) (length xs) ++ codes "\n")))

-- a card of events
abbrev pub events_text : Fields → List events.Fields → List ℕ
events_text h xs = codes "kind event\n" ++ (head_text h ++ slots_text event_text 0 xs)

-- a card of either kind
abbrev pub card_text : AnyReading → List ℕ
card_text (Offsets r) = offsets_text (head_fields r.head) (map offsets.offset_fields r.records.items)
card_text (Events r) = events_text (head_fields r.head) (map events.event_fields r.records.items)
