use Rattle.std.proofs.Output.{has_written_of_eq}
use Rattle.std.proofs.lemmas.Iterator.{YieldsList-from_slice, YieldsList-from_zip}
use Rattle.std.proofs.lemmas.Iterator.Consumers.{YieldsList-at, YieldsList-end}
use Rattle.transcripts.proofs.Pairs.{all_answered}
use Rattle.transcripts.proofs.writing.AnsweredDisplay.fmt.Goals as goal

pub returns-clause-writes : goal.returns-clause-writes
returns-clause-writes g c = λ plain ok.
    let commands = c.args.self.now.commands.now in
    let answers = c.args.self.now.answers.now in
    let pairs = YieldsList-from_zip (YieldsList-at c.zip-command-items.ensures.first (YieldsList-from_slice commands c.iter.ensures.rest)) (YieldsList-from_slice {s = c.zip-command-items.result.b} answers c.zip-command-items.ensures.second.0) in
    let end = YieldsList-end (YieldsList-at c.into_iter-command-iterator.ensures.into_iter_gives pairs) c.loop-command.yielded _ c.loop-command.yielded_by c.next.result c.next.new.self c.in-None.is c.next.ensures.steps in
    has_written_of_eq g.W.Write.write_str_gives c.args.f.now _ _ c.loop-command.f (all_answered c.loop-command.yielded commands answers end.0) (c.loop-command.invariant plain)
