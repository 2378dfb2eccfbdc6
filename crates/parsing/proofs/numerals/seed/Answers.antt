use Rattle.std.proofs.Common.{refl, ◌∙◌}
use Rattle.words.proofs.PlainNumbers.{plain_number}
use Rattle.parsing.proofs.Numbers.{no_hex}
use Rattle.parsing.proofs.numerals.seed.Goals as goal

pub returns-in-None : goal.returns-in-None
returns-in-None c = plain_number 64 0xFFFF_FFFF_FFFF_FFFF refl c.number.ensures ∙ no_hex c.args.word.now c.in-None.ensures.cases
