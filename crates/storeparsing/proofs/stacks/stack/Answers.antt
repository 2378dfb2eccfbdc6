use Rattle.std.proofs.Common.{arith, ltb-false, ltb-true}
use Rattle.storeparsing.proofs.Shapes.{too_few}
use Rattle.storeparsing.proofs.stacks.stack.Goals as goal

pub returns-in_default : goal.returns-in_default
returns-in_default c = too_few c.args.words.now (omega (arith, ltb-true, ltb-false))
