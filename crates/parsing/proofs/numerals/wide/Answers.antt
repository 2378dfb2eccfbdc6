use Rattle.std.proofs.Common.{refl}
use Rattle.words.proofs.PlainNumbers.{plain_number}
use Rattle.parsing.proofs.numerals.wide.Goals as goal

pub returns : goal.returns
returns c = plain_number 32 0xFFFF_FFFF refl c.number.ensures
