-- Plans with each record shown as its fields, as a script has it. Assumes nothing.
use Rattle.std.specs.Prelude.{map}
use Rattle.ledgers.specs.declared.calls.Call as declared_call
use Rattle.ledgers.specs.declared.calls.Call.TheVariants.{Mount, Wake, Insert, Commit, Refresh, Slot, Close}
use Rattle.records.specs.Events as events
use Rattle.records.specs.Offsets as offsets
use Rattle.script.specs.declared.cards.Ask.{Ask}
use Rattle.script.specs.declared.cards.Ask.TheVariants.{Calls, NoSuchRecord, Report}
use Rattle.script.specs.declared.cards.CardScenario.{CardScenario}
use Rattle.script.specs.declared.cards.Nights as declared_nights
use Rattle.script.specs.declared.scenarios.Scenario.{Scenario}
use Rattle.script.specs.Plans.{NightPlan, NightPlans, of_offsets, of_events, CardPlan, Plan, of_reservoir, of_card, night_plans, card_plan, plan_of}

module _ {K F : Type 0} (fields : K → F) where
  -- a call, with the record that it has, if any, shown by `fields`
  abbrev pub call_shown : declared_call.Call K → declared_call.Call F
  call_shown Mount = Mount
  call_shown Wake = Wake
  call_shown (Insert x) = Insert (fields x)
  call_shown Commit = Commit
  call_shown Refresh = Refresh
  call_shown (Slot i) = Slot i
  call_shown Close = Close

  -- the same of an ask
  abbrev pub ask_shown : Ask K → Ask F
  ask_shown (Calls c) = Calls (call_shown c)
  ask_shown (NoSuchRecord e) = NoSuchRecord e
  ask_shown Report = Report

  -- and of each ask of a night
  abbrev pub night_shown : NightPlan K → NightPlan F
  night_shown p = record { size = p.size; log_blocks = p.log_blocks; seed = p.seed; asks = map ask_shown p.asks }

module _ {O E P F : Type 0} (offset : O → P) (event : E → F) where
  -- each of the nights, by their kind: offsets shown by `offset`, events by `event`
  abbrev pub nights_shown : NightPlans O E → NightPlans P F
  nights_shown (of_offsets nights) = of_offsets (map (night_shown offset) nights)
  nights_shown (of_events nights) = of_events (map (night_shown event) nights)

  -- the nights of a card scenario shown so, all else as it is
  abbrev pub card_shown : CardPlan O E → CardPlan P F
  card_shown p = record { stack = p.stack; fuses = p.fuses; choices = p.choices; nights = nights_shown p.nights; ends_with_memory = p.ends_with_memory }

  -- a scenario shown so: one of a reservoir has its records' numbers already
  abbrev pub plan_shown : Plan O E → Plan P F
  plan_shown (of_reservoir p) = of_reservoir p
  plan_shown (of_card p) = of_card (card_shown p)

-- nights as the script has them
abbrev pub ScriptNights : Type 0
ScriptNights = NightPlans offsets.Fields events.Fields

-- a card scenario as the script has it
abbrev pub ScriptCard : Type 0
ScriptCard = CardPlan offsets.Fields events.Fields

-- any scenario as the script has it
abbrev pub ScriptPlan : Type 0
ScriptPlan = Plan offsets.Fields events.Fields

-- what a script says of nights
abbrev pub script_nights : declared_nights.Nights → ScriptNights
script_nights nights = nights_shown offsets.offset_fields events.event_fields (night_plans nights)

-- what it says of a card scenario
abbrev pub script_card : CardScenario → ScriptCard
script_card s = card_shown offsets.offset_fields events.event_fields (card_plan s)

-- what it says of any scenario
abbrev pub script_plan : Scenario → ScriptPlan
script_plan s = plan_shown offsets.offset_fields events.event_fields (plan_of s)
