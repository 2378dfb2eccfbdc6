use Rattle.std.proofs.Common.{◌^◌, ◌+ℤ◌, pos, unsigned_abs, fold, sym, ap, ◌∙◌, arith, rules, tests, w64, SFits}
use Rattle.std.proofs.lemmas.Int.{to_z-of_z}
use Rattle.std.proofs.lemmas.Iterator.{YieldsList-from_slice, YieldsList-from_map, YieldsList-from_map_by, items_from_drains}
use Rattle.std.proofs.lemmas.Iterator.Consumers.{fits_from_yields_list}
use Rattle.std.proofs.lemmas.List.{map-id}
use Rattle.scenarios.proofs.Sums.{nanoseconds_in, sum_fits, sizes_small, sum_is}
use Rattle.scenarios.proofs.reports.sum.Goals as goal

pub sum-requires-clause-fits : goal.sum-requires-clause-fits
sum-requires-clause-fits c = λ p t at.
    sum_fits p.items (fits_from_yields_list c.map.result (2 ^ 63)
    (YieldsList-from_map_by _ unsigned_abs (λ r. unsigned_abs (nanoseconds_in r)) (YieldsList-from_slice c.args.rows.now (cc)) c.map.ensures.closure (λ x r q e. search (rules, tests)))
    (omega (arith, sizes_small c.args.rows.now)) p t at)

pub returns : goal.returns
returns c =
    let rows = c.args.rows.now in
    let fit : SFits w64 c.sum.result = search rules in
    let d = c.sum.ensures.ran.1 tt in
    let terms = items_from_drains c.sum.ensures.ran.0 (d.1.0, d.1.1, λ _. (d.0, d.1.2))
    (YieldsList-from_map _ nanoseconds_in (YieldsList-from_slice rows (cc)) c.map.ensures.closure (λ x r q e. search rules)) in
    to_z-of_z w64 c.sum.result fit ∙ c.sum.ensures.ran.2 ∙ ap (fold ◌+ℤ◌ (pos 0)) (sym (map-id c.sum.ensures.ran.0) ∙ terms) ∙ sum_is rows
