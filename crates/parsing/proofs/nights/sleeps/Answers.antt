use Rattle.std.proofs.Common.{◌≡◌, ◌<◌, ◌-◌, get_or, length, arith, rules}
use Rattle.std.proofs.lemmas.Grind.{common_steps}
use Rattle.parsing.proofs.Sleeping.{sleeps_last}
use Rattle.parsing.proofs.nights.sleeps.Goals as goal

pub returns-in-Some : goal.returns-in-Some
returns-in-Some g c =
    let some : 0 < length c.args.nights.now = grind (arith, common_steps) in
    let last : get_or c.args.nights.now (length c.args.nights.now - 1) c.in-Some.night.now ≡ c.in-Some.night.now = grind (arith, common_steps) in
    let all = sleeps_last c.args.nights.now c.in-Some.night.now some in
    rw (all, last, c.awake_at_end.ensures) (search rules)
