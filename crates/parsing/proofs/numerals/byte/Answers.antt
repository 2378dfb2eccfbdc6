use Rattle.std.proofs.Common.{refl}
use Rattle.words.proofs.PlainNumbers.{plain_number}
use Rattle.parsing.proofs.numerals.byte.Goals as goal

pub returns : goal.returns
returns c = plain_number 8 0xFF refl c.number.ensures
