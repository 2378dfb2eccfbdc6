use Rattle.std.proofs.Common.{refl}
use Rattle.words.specs.Numerals.{read_number}
use Rattle.words.proofs.PlainNumbers.{plain_number}
use Rattle.parsing.proofs.numerals.wides.Goals as goal

pub returns : goal.returns
returns c = c.numbers.ensures (read_number 10 0xFFFF_FFFF) (λ w r p. plain_number 32 0xFFFF_FFFF refl p)
