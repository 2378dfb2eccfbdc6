use Rattle.std.proofs.Common.{map, length, vec_items, refl, arith, rules}
use Rattle.languages.proofs.Readings.{numbered_lines, line_turn, lines_end, reading_more, reading_ends, stopped}
use Rattle.languages.proofs.reading.parse.Goals as goal

pub loop-i-preserved : goal.loop-i-preserved
loop-i-preserved g c =
    let all = numbered_lines c.args.text.now c.into_iter-i-iterator.ensures.into_iter_gives c.enumerate-i-items.ensures.source c.split.ensures.text c.split.ensures.has_more c.split.ensures.pattern c.enumerate-i-items.ensures.count in
    let at = line_turn _ c.next.new.self c.args.text.now all c.loop-i.yielded c.loop-i.yielded_by c.next.result c.next.ensures.steps c.in-Some.i c.in-Some.line c.in-Some.is in
    reading_more g.L.Language.add c.args.text.now (length c.loop-i.yielded) (map g.L.Language.plan (vec_items c.loop-i.scenarios)) c.loop-i.invariant c.in-Some.i c.in-Some.line.now at
    c.loop-i.yielded (c.in-Some.i, c.in-Some.line) (map g.L.Language.plan (vec_items c.add.new.scenarios)) c.add.result c.map_err.result _ c.in_ok-map_err.field-0 refl c.map_err.ensures.cases c.in_ok-map_err.was c.add.ensures

pub returns-in_err-map_err : goal.returns-in_err-map_err
returns-in_err-map_err g c =
    let all = numbered_lines c.args.text.now c.into_iter-i-iterator.ensures.into_iter_gives c.enumerate-i-items.ensures.source c.split.ensures.text c.split.ensures.has_more c.split.ensures.pattern c.enumerate-i-items.ensures.count in
    let at = line_turn _ c.next.new.self c.args.text.now all c.loop-i.yielded c.loop-i.yielded_by c.next.result c.next.ensures.steps c.in-Some.i c.in-Some.line c.in-Some.is in
    stopped g.L.Language.add c.args.text.now (length c.loop-i.yielded) (map g.L.Language.plan (vec_items c.loop-i.scenarios)) c.loop-i.invariant c.in-Some.i c.in-Some.line.now at
    g.L.Language.plan (map g.L.Language.plan (vec_items c.add.new.scenarios)) c.add.result c.map_err.result _ c.in_err-map_err.field-0.0 c.from_residual.result c.map_err.ensures.cases c.in_err-map_err.was (λ failed f t. search rules) c.add.ensures c.from_residual.ensures.1

pub returns : goal.returns
returns g c =
    let all = numbered_lines c.args.text.now c.into_iter-i-iterator.ensures.into_iter_gives c.enumerate-i-items.ensures.source c.split.ensures.text c.split.ensures.has_more c.split.ensures.pattern c.enumerate-i-items.ensures.count in
    let n = lines_end _ c.next.new.self c.args.text.now all c.loop-i.yielded c.loop-i.yielded_by c.next.result c.next.ensures.steps c.in-None.is in
    reading_ends g.L.Language.add c.args.text.now (length c.loop-i.yielded) (map g.L.Language.plan (vec_items c.loop-i.scenarios)) c.loop-i.invariant (omega arith)
