use Rattle.std.proofs.Common.{◌∙◌}
use Rattle.words.proofs.PlainNumbers.{read_radix}
use Rattle.words.proofs.numerals.hexadecimal.Goals as goal

pub returns : goal.returns
returns c = c.ok.ensures.value ∙ read_radix 16 c.args.word.now c.plain.result c.in_ok-plain.field-0 c.from_str_radix.result c.plain.ensures c.in_ok-plain.was c.from_str_radix.ensures.value
