use Rattle.std.proofs.Common.{◌≡◌, Some, vec_items, arith}
use Rattle.words.proofs.Taken.{taken_all, taken_more, taken_bad}
use Rattle.words.proofs.lists.numbers.Goals as goal

pub loop-word-preserved : goal.loop-word-preserved
loop-word-preserved g c = λ read reads.
    let is : c.number.result ≡ Some c.in_ok-next.next = grind arith in
    rw c.in_ok-push.ensures.items
    (taken_more read c.args.expected c.args.words.now c.loop-word.word-index (vec_items c.loop-word.numbers) (c.loop-word.invariant read reads) _ c.loop-word-test.true
    c.in_ok-next.next c.number.result (reads _ c.number.result c.number.ensures) is)

pub returns-in_err-next : goal.returns-in_err-next
returns-in_err-next g c = λ read reads.
    taken_bad read c.args.expected c.args.words.now c.loop-word.word-index (vec_items c.loop-word.numbers) (c.loop-word.invariant read reads) _ c.loop-word-test.true
    c.from_residual.result c.number.result (reads _ c.number.result c.number.ensures) c.ok_or.ensures.value c.in_err-next.was c.from_residual.ensures.1

pub returns : goal.returns
returns g c = λ read reads.
    taken_all read c.args.expected c.args.words.now c.loop-word.word-index (vec_items c.loop-word.numbers) (c.loop-word.invariant read reads) c.loop-word-test.false
