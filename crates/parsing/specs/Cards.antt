-- What a line makes of a card scenario. Assumes nothing.
use Rattle.std.specs.Prelude.{ℕ, Bool, true, false, cond, not, List, [], ◌∷◌, ◌++◌, Ok, Err, codes, Result}
use Rattle.std.specs.Str.{bytes_eq}
use Rattle.faults.specs.declared.faults.Fault.{Fault}
use Rattle.languages.specs.Expecting.{or_else, shown}
use Rattle.languages.specs.Scripts as any
use Rattle.parsing.specs.Asks.{read_ask, awake_at_end}
use Rattle.parsing.specs.Numerals.{read_seed}
use Rattle.parsing.specs.Records.{read_offset_record, read_event_record}
use Rattle.parsing.specs.Words.{and_then, read_none}
use Rattle.script.specs.Plans.{NightPlan, of_offsets, of_events}
use Rattle.script.specs.Shown.{ScriptNights, ScriptCard}
use Rattle.script.specs.declared.cards.Ask.{Ask}
use Rattle.script.specs.declared.cards.Steady.{Steady}
use Rattle.script.specs.declared.cards.Steady.TheVariants.{Image, MirroredImage, MirroredBench}
use Rattle.script.specs.declared.expectations.Expected.{Expected}
use Rattle.script.specs.declared.expectations.Expected.TheVariants as expected
use Rattle.words.specs.Lists.{read_all}
use Rattle.words.specs.Numerals.{read_number}

-- M LOG SEED
abbrev pub format_numbers : List ℕ → List ℕ → List ℕ → Result (ℕ × ℕ × ℕ) Expected
format_numbers size log_blocks seed =
    or_else (read_number 10 0xFFFF size) expected.Size
    (λ m. or_else (read_number 10 0xFF log_blocks) expected.LogBlocks
    (λ l. or_else (read_seed seed) expected.Seed
    (λ s. Ok (m, l, s))))

-- the words after `format`: three
abbrev pub read_format : List (List ℕ) → Result (ℕ × ℕ × ℕ) Expected
read_format [] = Err expected.FormatWords
read_format (size ∷ []) = Err expected.FormatWords
read_format (size ∷ log_blocks ∷ []) = Err expected.FormatWords
read_format (size ∷ log_blocks ∷ seed ∷ []) = format_numbers size log_blocks seed
read_format (size ∷ log_blocks ∷ seed ∷ more ∷ words) = Err expected.FormatWords

module _ {F : Type 0} where
  -- the sampler of the last night, if there is one, sleeps at its end
  abbrev pub sleeps : List (NightPlan F) → Bool
  sleeps [] = true
  sleeps (p ∷ []) = not (awake_at_end false p.asks)
  sleeps (p ∷ q ∷ ps) = sleeps (q ∷ ps)

  -- a further night: only a sleeping sampler is formatted
  abbrev pub begin_night : List (NightPlan F) → ℕ × ℕ × ℕ → Result (List (NightPlan F)) Expected
  begin_night nights x =
      cond (sleeps nights) (Ok (nights ++ (record { size = x.0; log_blocks = x.1; seed = x.2; asks = [] } ∷ []))) (Err expected.CloseFirst)

  -- a night with one ask more
  abbrev pub with_ask : Ask F → NightPlan F → NightPlan F
  with_ask ask p = record { size = p.size; log_blocks = p.log_blocks; seed = p.seed; asks = p.asks ++ (ask ∷ []) }

  -- the last night, of which there has to be one, with one ask more
  abbrev pub ask_in_last : List (NightPlan F) → Ask F → Result (List (NightPlan F)) Expected
  ask_in_last nights ask = any.change_last expected.FormatFirst (λ p. Ok (with_ask ask p)) nights

  -- a line of the nights, by its name and the words after it; a record's words are read by its kind
  abbrev pub add_night : (List (List ℕ) → Result (Result F Fault) Expected) → List (NightPlan F) → List ℕ → List (List ℕ) → Result (List (NightPlan F)) Expected
  add_night read nights name words =
      cond (bytes_eq name (codes "format")) (and_then (read_format words) (begin_night nights))
      (and_then (read_ask read name words) (ask_in_last nights))

-- a line of the nights, by their kind
abbrev pub grow_nights : ScriptNights → List ℕ → List (List ℕ) → Result ScriptNights Expected
grow_nights (of_offsets nights) name words = shown of_offsets (add_night read_offset_record nights name words)
grow_nights (of_events nights) name words = shown of_events (add_night read_event_record nights name words)

-- the word after `kind`: no nights yet, of records of this kind
abbrev pub kind_of : List ℕ → Result ScriptNights Expected
kind_of word =
    cond (bytes_eq word (codes "offset")) (Ok (of_offsets []))
    (cond (bytes_eq word (codes "event")) (Ok (of_events [])) (Err expected.KindWords))

-- the words after `kind`: one
abbrev pub read_kind : List (List ℕ) → Result ScriptNights Expected
read_kind [] = Err expected.KindWords
read_kind (word ∷ []) = kind_of word
read_kind (word ∷ more ∷ words) = Err expected.KindWords

-- no night has begun
abbrev pub none_yet : ScriptNights → Bool
none_yet (of_offsets []) = true
none_yet (of_offsets (p ∷ ps)) = false
none_yet (of_events []) = true
none_yet (of_events (p ∷ ps)) = false

-- only a bench fails as it is told
abbrev pub has_bench : Steady → Bool
has_bench Image = false
has_bench MirroredImage = false
has_bench MirroredBench = true

-- a kind, fuses and choices are told before the first format
abbrev pub before_format : ScriptCard → Result Unit Expected
before_format p = cond (none_yet p.nights) (Ok tt) (Err expected.BeforeFormat)

-- fuses and choices are told to a bench
abbrev pub to_bench : ScriptCard → Result Unit Expected
to_bench p = cond (has_bench p.stack.steady) (before_format p) (Err expected.BenchOnly)

-- a card scenario with these fuses after those that it has
abbrev pub with_fuses : ScriptCard → List ℕ → ScriptCard
with_fuses p ns = record { stack = p.stack; fuses = p.fuses ++ ns; choices = p.choices; nights = p.nights; ends_with_memory = p.ends_with_memory }

-- with these choices after those that it has
abbrev pub with_choices : ScriptCard → List ℕ → ScriptCard
with_choices p ns = record { stack = p.stack; fuses = p.fuses; choices = p.choices ++ ns; nights = p.nights; ends_with_memory = p.ends_with_memory }

-- with these nights in place of its own
abbrev pub with_nights : ScriptCard → ScriptNights → ScriptCard
with_nights p nights = record { stack = p.stack; fuses = p.fuses; choices = p.choices; nights = nights; ends_with_memory = p.ends_with_memory }

-- and with the device's memory at its end
abbrev pub with_memory_printed : ScriptCard → ScriptCard
with_memory_printed p = record { stack = p.stack; fuses = p.fuses; choices = p.choices; nights = p.nights; ends_with_memory = true }

-- the words after `fuses`: more fuses
abbrev pub add_fuses : ScriptCard → List (List ℕ) → Result ScriptCard Expected
add_fuses p words = and_then (read_all (read_number 10 0xFFFF_FFFF) expected.Fuse [] words) (λ ns. shown (λ done. with_fuses p ns) (to_bench p))

-- the words after `choices`: more choices
abbrev pub add_choices : ScriptCard → List (List ℕ) → Result ScriptCard Expected
add_choices p words = and_then (read_all (read_number 10 0xFF) expected.Choice [] words) (λ ns. shown (λ done. with_choices p ns) (to_bench p))

-- the words after `kind`, and nights of that kind
abbrev pub set_kind : ScriptCard → List (List ℕ) → Result ScriptCard Expected
set_kind p words = and_then (read_kind words) (λ nights. shown (λ done. with_nights p nights) (before_format p))

-- WHAT A LINE MAKES OF A CARD SCENARIO, by its name and the words after it: nothing comes after `card`
abbrev pub grow : ScriptCard → List ℕ → List (List ℕ) → Result ScriptCard Expected
grow p name words =
    cond p.ends_with_memory (Err expected.CardLast)
    (cond (bytes_eq name (codes "fuses")) (add_fuses p words)
    (cond (bytes_eq name (codes "choices")) (add_choices p words)
    (cond (bytes_eq name (codes "kind")) (set_kind p words)
    (cond (bytes_eq name (codes "card")) (shown (λ done. with_memory_printed p) (read_none expected.Alone words))
    (shown (with_nights p) (grow_nights p.nights name words))))))
