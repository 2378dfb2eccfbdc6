use lib.ListN.{get_or-replicate}
use Rattle.std.proofs.Common.{◌≡◌, true, leb, None, refl, ◌∙◌, arith}
use Rattle.std.proofs.lemmas.Bool.{le-leb}
use Rattle.sampling.proofs.SampleLaws.{newest_none}
use Rattle.reservoir.proofs.reservoirs.Reservoir.new.Goals as goal

pub returns : goal.returns
returns g c =
    let low : leb 1 c.args.size ≡ true = le-leb _ _ (omega (arith, c.if-size-eq0.false)) in
    let high : leb c.args.size 672 ≡ true = le-leb _ _ c.if-size-gt-SLOT_LIMIT.false in
    rw (low, high) (record {
      seed_is = refl;
      size_is = refl;
      count_is = refl;
      rows_are = λ i h. get_or-replicate 672 i None None (omega (arith, h, c.if-size-gt-SLOT_LIMIT.false)) ∙ rw (newest_none c.args.seed c.args.size i) refl;
    })
