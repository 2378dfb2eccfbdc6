use Rattle.std.proofs.Common.{ap, ◌∙◌}
use Rattle.workings.specs.Refreshes.{touched}
use Rattle.commits.proofs.SampleBlocks.{flags_any}
use Rattle.commits.proofs.rows.is_touched.Goals as goal

pub returns : goal.returns
returns g c =
    c.contains.ensures.value
    ∙ flags_any c.sample.inside.logged c.args.block c.first_slot-first.result c.from.result c.first_slot-first.ensures c.from.ensures
    ∙ ap (λ t. touched t c.args.block) c.sample.view_is
