use Rattle.std.proofs.Common.{◌≡◌, ◌<◌, ◌-◌, Some, get_or, length, vec_items, vec_len, arith, rules}
use Rattle.std.proofs.lemmas.Grind.{common_steps}
use Rattle.languages.proofs.Last.{last_changed}
use Rattle.script.specs.declared.expectations.Expected.TheVariants.{ScenarioFirst}
use Rattle.parsing.specs.Scripts.{go_on}
use Rattle.script.specs.Shown.{script_plan}
use Rattle.words.specs.Words.{texts}
use Rattle.parsing.proofs.parser.go_on_last.Goals as goal

pub returns : goal.returns
returns c =
    let o : c.last_mut.result ≡ Some c.in_ok-last.last = grind arith in
    let some : 0 < vec_len c.args.scenarios.now = grind (arith, common_steps) in
    let long : vec_len c.args.scenarios.now ≡ length (vec_items c.args.scenarios.now) = search rules in
    let last : c.in_ok-last.last.now ≡ get_or (vec_items c.args.scenarios.now) (vec_len c.args.scenarios.now - 1) c.in_ok-last.last.now = grind (arith, common_steps) in
    last_changed script_plan ScenarioFirst (λ p. go_on p c.args.name.now (texts c.args.words.now)) c.in_ok-last.last.now c.go_on.new.scenario (vec_items c.args.scenarios.now) (vec_len c.args.scenarios.now) c.go_on.result long some (rw last at c.go_on.ensures)
