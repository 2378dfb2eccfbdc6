use Rattle.std.proofs.Common.{rules, tests}
use Rattle.std.proofs.lemmas.Iterator.{YieldsList-from_slice}
use Rattle.std.proofs.lemmas.Iterator.Consumers.{nth_from_yields_List, YieldsList-from_filter}
use Rattle.benches.specs.Lawful.{Of}
use Rattle.benches.proofs.Looks.{nth_is}
use Rattle.benches.proofs.finds.nth.Goals as goal

pub returns : goal.returns
returns c =
    nth_is c.args.held.now c.args.block c.args.number c.nth.result
    (nth_from_yields_List _ _ _ c.nth.ensures.ran (YieldsList-from_filter _ (Of c.args.block) (YieldsList-from_slice c.args.held.now cc) c.filter.ensures.closure (λ x r q k. search (rules, tests))))
