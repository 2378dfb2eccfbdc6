-- What a script's scenarios hold, without the memory that they lie in. Assumes nothing.
use Rattle.std.specs.Prelude.{ℕ, Bool, List, map, vec_items}
use Rattle.records.specs.declared.events.Event.{Event}
use Rattle.records.specs.declared.offsets.Offset.{Offset}
use Rattle.script.specs.declared.cards.Ask.{Ask}
use Rattle.script.specs.declared.cards.CardScenario.{CardScenario}
use Rattle.script.specs.declared.cards.Night.{Night}
use Rattle.script.specs.declared.cards.Nights as declared_nights
use Rattle.script.specs.declared.cards.Nights.TheVariants.{Offsets, Events}
use Rattle.script.specs.declared.cards.Stack.{Stack}
use Rattle.script.specs.declared.commands.Command.{Command}
use Rattle.script.specs.declared.commands.ReservoirScenario.{ReservoirScenario}
use Rattle.script.specs.declared.scenarios.Scenario.{Scenario}
use Rattle.script.specs.declared.scenarios.Scenario.TheVariants.{Reservoir, Card}

-- a reservoir, and the commands of it
pub record ReservoirPlan : Type 0 where
  pub size : ℕ
  pub seed : ℕ
  pub commands : List Command

-- a format, and what is asked up to the next
pub record NightPlan (K : Type 0) : Type 0 where
  pub size : ℕ
  pub log_blocks : ℕ
  pub seed : ℕ
  pub asks : List (Ask K)

-- nights, all of one kind of record; offsets are seen as O, and events as E
pub data NightPlans (O E : Type 0) : Type 0 where
  of_offsets : List (NightPlan O) → NightPlans O E
  of_events : List (NightPlan E) → NightPlans O E

-- a stack, what its bench is given, the nights, and whether the device's memory comes last
pub record CardPlan (O E : Type 0) : Type 0 where
  pub stack : Stack
  pub fuses : List ℕ
  pub choices : List ℕ
  pub nights : NightPlans O E
  pub ends_with_memory : Bool

-- a scenario as the script has it
pub data Plan (O E : Type 0) : Type 0 where
  of_reservoir : ReservoirPlan → Plan O E
  of_card : CardPlan O E → Plan O E

-- what a night holds
abbrev pub night_plan : {K : Type 0} → Night K → NightPlan K
night_plan n = record { size = n.size; log_blocks = n.log_blocks; seed = n.seed; asks = vec_items n.asks }

-- what nights hold, by their kind
abbrev pub night_plans : declared_nights.Nights → NightPlans Offset Event
night_plans (Offsets nights) = of_offsets (map night_plan (vec_items nights))
night_plans (Events nights) = of_events (map night_plan (vec_items nights))

-- what a card scenario holds
abbrev pub card_plan : CardScenario → CardPlan Offset Event
card_plan s = record { stack = s.stack; fuses = vec_items s.fuses; choices = vec_items s.choices; nights = night_plans s.nights; ends_with_memory = s.ends_with_memory }

-- what a scenario of a reservoir holds
abbrev pub reservoir_plan : ReservoirScenario → ReservoirPlan
reservoir_plan s = record { size = s.size; seed = s.seed; commands = vec_items s.commands }

-- what any scenario holds
abbrev pub plan_of : Scenario → Plan Offset Event
plan_of (Reservoir s) = of_reservoir (reservoir_plan s)
plan_of (Card s) = of_card (card_plan s)
