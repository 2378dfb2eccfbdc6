use Rattle.std.proofs.Common.{◌≡◌, [], ◌∷◌, map, vec_items, string_bytes, Ok, sym, ap, ◌∙◌, rules}
use Rattle.std.proofs.lemmas.List.{map-append, map-id}
use Rattle.std.proofs.lemmas.Iterator.Adapters.{YieldsList-from_vec}
use Rattle.std.proofs.lemmas.Iterator.Consumers.{YieldsList-end}
use Rattle.languages.specs.Transcripts.{Printed}
use Rattle.languages.proofs.Printings.{one_more}
use Rattle.script.specs.Plans.{plan_of}
use Rattle.transcripts.specs.Transcripts.{Lines}
use Rattle.transcripts.proofs.Determinacy.{transcript_one}
use Rattle.transcripts.proofs.Scenarios.{said_of_plans}
use Rattle.transcripts.proofs.transcript.Goals as goal

pub loop-scenario-init : goal.loop-scenario-init
unfolding Printed
loop-scenario-init c = c.new-out.ensures.bytes

pub loop-scenario-preserved : goal.loop-scenario-preserved
loop-scenario-preserved c =
    let said = c.in_ok-write_scenario.ensures in
    rw (map-append plan_of c.loop-scenario.yielded (c.in-Some.scenario ∷ []), said.2)
    (one_more Lines (map plan_of c.loop-scenario.yielded) (plan_of c.in-Some.scenario) (string_bytes c.loop-scenario.out) said.0 c.loop-scenario.invariant said.1)

pub returns-in_err-scenarios-clause-determined : goal.returns-in_err-scenarios-clause-determined
returns-in_err-scenarios-clause-determined c = transcript_one c.args.script.now

pub returns-in_err-write_scenario-clause-determined : goal.returns-in_err-write_scenario-clause-determined
returns-in_err-write_scenario-clause-determined c = transcript_one c.args.script.now

pub returns-clause-determined : goal.returns-clause-determined
returns-clause-determined c = transcript_one c.args.script.now

pub returns-clause-text : goal.returns-clause-text
returns-clause-text c =
    let scenarios = vec_items c.in_ok-scenarios.scenarios in
    let all = YieldsList-from_vec {s = c.into_iter-scenario-iterator.result} scenarios (search rules) (search rules) in
    let end = YieldsList-end all c.loop-scenario.yielded _ c.loop-scenario.yielded_by c.next.result c.next.new.self c.in-None.is c.next.ensures.steps in
    let same : c.loop-scenario.yielded ≡ scenarios = sym (map-id c.loop-scenario.yielded) ∙ end.0 in
    (map plan_of scenarios, c.in_ok-scenarios.ensures ∙ ap Ok (said_of_plans scenarios), rw same at c.loop-scenario.invariant)
