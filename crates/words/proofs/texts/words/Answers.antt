use Rattle.std.proofs.Common.{◌∙◌, lit<, rules, not, length, ◌==◌}
use Rattle.std.proofs.lemmas.Iterator.Consumers.{map_from_collect, YieldsList-from_filter, YieldsList-at}
use Rattle.std.proofs.lemmas.Iterator.Splits.{YieldsList-from_str_split}
use Rattle.words.specs.Words.{uncommented}
use Rattle.words.proofs.texts.words.Goals as goal

pub returns : goal.returns
returns c =
    map_from_collect _ c.collect.ensures.ran
    (YieldsList-from_filter _ (λ w. not (length w == 0))
    (YieldsList-at c.filter.ensures.source
    (YieldsList-from_str_split 32 (uncommented c.args.line.now) (lit< tt) (c.split.ensures.text ∙ c.code.ensures) c.split.ensures.has_more c.split.ensures.pattern))
    c.filter.ensures.closure (λ x r q k. search rules))
