use Rattle.std.proofs.Common.{refl}
use Rattle.words.proofs.PlainNumbers.{plain_number}
use Rattle.parsing.proofs.numerals.half.Goals as goal

pub returns : goal.returns
returns c = plain_number 16 0xFFFF refl c.number.ensures
