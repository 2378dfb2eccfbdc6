-- What a script says of scenarios. Assumes nothing.
use Rattle.std.proofs.Common.{◌≡◌, List, [], ◌∷◌, map, refl, ap}
use Rattle.records.specs.Events.{event_fields}
use Rattle.records.specs.Offsets.{offset_fields}
use Rattle.script.specs.Plans.{plan_of}
use Rattle.script.specs.Shown.{plan_shown, script_plan}
use Rattle.script.specs.declared.scenarios.Scenario.{Scenario}

-- what a script says of scenarios is what it says of their plans
pub said_of_plans : (scenarios : List Scenario) → map script_plan scenarios ≡ map (plan_shown offset_fields event_fields) (map plan_of scenarios)
said_of_plans [] = refl
said_of_plans (s ∷ scenarios) = ap (λ (more : List _). script_plan s ∷ more) (said_of_plans scenarios)
