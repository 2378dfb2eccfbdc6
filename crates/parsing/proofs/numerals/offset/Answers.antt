use Rattle.parsing.proofs.Numbers.{plain_offset}
use Rattle.parsing.proofs.numerals.offset.Goals as goal

pub returns : goal.returns
returns c = plain_offset c.number.ensures
