use Rattle.std.proofs.Common.{refl}
use Rattle.words.specs.Numerals.{read_number}
use Rattle.words.proofs.PlainNumbers.{plain_number}
use Rattle.parsing.proofs.numerals.bytes.Goals as goal

pub returns : goal.returns
returns c = c.numbers.ensures (read_number 10 0xFF) (λ w r p. plain_number 8 0xFF refl p)
