use Rattle.std.proofs.Common.{map, ap, ◌∙◌, arith, rules, tests}
use Rattle.std.proofs.lemmas.Iterator.{items_from_collect, YieldsList-from_range}
use Rattle.std.proofs.lemmas.Iterator.Consumers.{YieldsList-from_filter_map}
use Rattle.std.proofs.lemmas.Result.{IfOk-weaker}
use Rattle.sampling.specs.Answers.{slot_answer}
use Rattle.scenarios.specs.Answering.{row_of}
use Rattle.scenarios.proofs.Rows.{row_answered, rows_answered}
use Rattle.scenarios.proofs.sessions.Session.rows.Goals as goal

pub returns-clause-value : goal.returns-clause-value
returns-clause-value c = λ seed size xs k.
    IfOk-weaker c.collect.result _ _ (λ v e. ap (map row_of) e ∙ rows_answered seed size xs c.args.self.now.sample k size (omega arith))
    (items_from_collect c.collect.result c.collect.ensures.ran
    (YieldsList-from_filter_map _ (λ i. row_answered i (slot_answer seed size k.records i)) (YieldsList-from_range 0 size size (cc (c.filter_map.ensures.source, c.size.ensures.value seed size k.records k.keeps)) (omega arith)) c.filter_map.ensures.closure (λ x r q p. search (rules, tests))))
