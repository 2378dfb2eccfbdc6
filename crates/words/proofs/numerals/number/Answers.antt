use Rattle.words.proofs.PlainNumbers.{plain_made}
use Rattle.words.proofs.numerals.number.Goals as goal

pub returns : goal.returns
returns g c = plain_made g.N.FromStr.from_str_gives c.args.word.now c.plain.result c.in_ok-plain.field-0 c.parse.result c.ok.result c.plain.ensures c.in_ok-plain.was c.parse.ensures.value c.ok.ensures.value
