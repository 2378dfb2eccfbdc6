use Rattle.std.proofs.Common.{◌++◌, string_bytes, ap, ◌∙◌}
use Rattle.std.proofs.lemmas.Iterator.{YieldsList-from_slice, YieldsList-from_zip}
use Rattle.std.proofs.lemmas.Iterator.Consumers.{YieldsList-at, YieldsList-end}
use Rattle.nighttexts.proofs.Pairs.{all_printed}
use Rattle.nighttexts.proofs.nights.write_nights.Goals as goal

pub returns : goal.returns
returns g c =
    let nights = c.args.nights.now in
    let outcomes = c.args.outcomes.now in
    let pairs = YieldsList-from_zip (YieldsList-at c.zip-night-items.ensures.first (YieldsList-from_slice nights c.iter.ensures.rest)) (YieldsList-from_slice {s = c.zip-night-items.result.b} outcomes c.zip-night-items.ensures.second.0) in
    let end = YieldsList-end (YieldsList-at c.into_iter-night-iterator.ensures.into_iter_gives pairs) c.loop-night.yielded _ c.loop-night.yielded_by c.next.result c.next.new.self c.in-None.is c.next.ensures.steps in
    c.loop-night.invariant ∙ ap (λ t. string_bytes c.args.out.now ++ t) (all_printed g.K.Worded.words g.K.Worded.summary c.loop-night.yielded nights outcomes end.0)
