use Rattle.std.proofs.Common.{◌≡◌, true, map, Ok, rules}
use Rattle.parsing.specs.Cards.{read_format, sleeps}
use Rattle.parsing.proofs.Growing.{one_begun}
use Rattle.parsing.proofs.Sleeping.{sleeps_shown}
use Rattle.script.specs.Plans.{night_plan}
use Rattle.words.specs.Words.{texts}
use Rattle.parsing.proofs.nights.begin.Goals as goal

pub returns-then-not-sleeps : goal.returns-then-not-sleeps
returns-then-not-sleeps g c =
    let same = sleeps_shown g.K.FromWords.fields c.args.nights.now.items in
    search rules

pub returns : goal.returns
returns g c =
    let read : read_format (texts c.args.words.now) ≡ Ok (c.in_ok-size.size, c.in_ok-size.log_blocks, c.in_ok-size.seed) = search rules in
    let asleep : sleeps (map night_plan c.args.nights.now.items) ≡ true = search rules in
    rw (read, c.in_ok-push.ensures.items) (one_begun g.K.FromWords.fields c.args.nights.now.items _ asleep c.new.ensures.items)
