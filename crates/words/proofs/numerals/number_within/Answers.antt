use Rattle.words.proofs.Limits.{number_within}
use Rattle.words.proofs.numerals.number_within.Goals as goal

pub returns-in-Some : goal.returns-in-Some
returns-in-Some c = number_within c.args.word.now c.args.most c.in-Some.n c.in-Some.ensures c.if-n-most.true
