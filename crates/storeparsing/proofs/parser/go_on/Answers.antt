use Rattle.std.proofs.Common.{◌≡◌, ◌<◌, ◌-◌, Some, get_or, length, vec_items, vec_len, arith, rules}
use Rattle.std.proofs.lemmas.Grind.{common_steps}
use Rattle.languages.proofs.Last.{last_changed}
use Rattle.storescript.specs.declared.expectations.Expected.TheVariants.{StackFirst}
use Rattle.storeparsing.specs.Lines.{more_by}
use Rattle.storeparsing.specs.Scripts.{plan_of, grown}
use Rattle.storeparsing.proofs.parser.go_on.Goals as goal

pub returns : goal.returns
returns c =
    let o : c.last_mut.result ≡ Some c.in_ok-last.last = grind arith in
    let some : 0 < vec_len c.args.scenarios.now = grind (arith, common_steps) in
    let long : vec_len c.args.scenarios.now ≡ length (vec_items c.args.scenarios.now) = search rules in
    let last : c.in_ok-last.last.now ≡ get_or (vec_items c.args.scenarios.now) (vec_len c.args.scenarios.now - 1) c.in_ok-last.last.now = grind (arith, common_steps) in
    last_changed plan_of StackFirst (λ p. grown p (more_by c.args.more)) c.in_ok-last.last.now c.grow.new.scenario (vec_items c.args.scenarios.now) (vec_len c.args.scenarios.now) c.grow.result long some (rw last at c.grow.ensures)
