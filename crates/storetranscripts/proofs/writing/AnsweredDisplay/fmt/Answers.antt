use Rattle.std.proofs.Output.{has_written_of_eq}
use Rattle.std.proofs.lemmas.Iterator.{YieldsList-from_slice, YieldsList-from_zip}
use Rattle.std.proofs.lemmas.Iterator.Consumers.{YieldsList-at, YieldsList-end}
use Rattle.storetranscripts.proofs.Texts.{all_answered}
use Rattle.storetranscripts.proofs.writing.AnsweredDisplay.fmt.Goals as goal

pub returns-clause-writes : goal.returns-clause-writes
returns-clause-writes g c = λ plain ok.
    let calls = c.args.self.now.calls.now in
    let answers = c.args.self.now.answers.now in
    let pairs = YieldsList-from_zip (YieldsList-at c.zip-call-items.ensures.first (YieldsList-from_slice calls c.iter.ensures.rest)) (YieldsList-from_slice {s = c.zip-call-items.result.b} answers c.zip-call-items.ensures.second.0) in
    let end = YieldsList-end (YieldsList-at c.into_iter-call-iterator.ensures.into_iter_gives pairs) c.loop-call.yielded _ c.loop-call.yielded_by c.next.result c.next.new.self c.in-None.is c.next.ensures.steps in
    has_written_of_eq g.W.Write.write_str_gives c.args.f.now _ _ c.loop-call.f (all_answered c.loop-call.yielded calls answers end.0) (c.loop-call.invariant plain)
