-- What a card scenario is answered. Assumes nothing.
use Rattle.std.specs.Prelude.{◌≡◌, ℕ, cond, List, [], ◌++◌, Result}
use Rattle.faults.specs.declared.faults.Fault.{Fault}
use Rattle.ledgers.specs.declared.calls.Answer.{Answer}
use Rattle.nights.specs.Stacks.{NightsOn}
use Rattle.nighttexts.specs.Lines.{offset_words, offset_summary, event_words, event_summary}
use Rattle.nighttexts.specs.Memories.{memory_text}
use Rattle.nighttexts.specs.Nights.{nights_text}
use Rattle.records.specs.Events.{event_bytes, event_wrong}
use Rattle.records.specs.Offsets.{offset_bytes, offset_wrong}
use Rattle.records.specs.declared.events.Event.{Event}
use Rattle.records.specs.declared.offsets.Offset.{Offset}
use Rattle.script.specs.Plans.{NightPlans, of_offsets, of_events, CardPlan}
use Rattle.script.specs.declared.cards.Stack.{Stack}
use Rattle.script.specs.declared.cards.Steady.{Steady}
use Rattle.script.specs.declared.cards.Steady.TheVariants.{Image, MirroredImage, MirroredBench}

-- how many bytes a device has for a block: a bench has one more, which says whether the block is torn
abbrev pub span : Steady → ℕ
span Image = 504
span MirroredImage = 504
span MirroredBench = 505

-- the code by which a card says that it has offsets
abbrev pub offset_code : ℕ
offset_code = 1

-- and that it has events
abbrev pub event_code : ℕ
event_code = 2

-- the lines of nights that are played on this stack, and the device's memory after them
abbrev pub NightLines : Stack → List ℕ → List ℕ → NightPlans Offset Event → List ℕ → List ℕ → Type 0
NightLines stack fuses choices (of_offsets plans) text memory =
    (outcomes : List (Result (List (Answer Offset)) Fault))
    × NightsOn offset_code offset_bytes offset_wrong stack.steady stack.blocks fuses choices plans outcomes memory
    × (text ≡ nights_text offset_words offset_summary plans outcomes)
NightLines stack fuses choices (of_events plans) text memory =
    (outcomes : List (Result (List (Answer Event)) Fault))
    × NightsOn event_code event_bytes event_wrong stack.steady stack.blocks fuses choices plans outcomes memory
    × (text ≡ nights_text event_words event_summary plans outcomes)

-- A CARD SCENARIO'S LINES: those of its nights, and the device's memory where the script asks for it
abbrev pub CardLines : CardPlan Offset Event → List ℕ → Type 0
CardLines p text =
    (lines memory : List ℕ) × NightLines p.stack p.fuses p.choices p.nights lines memory
    × (text ≡ lines ++ cond p.ends_with_memory (memory_text (span p.stack.steady) memory) [])
