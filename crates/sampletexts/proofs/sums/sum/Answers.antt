use Rattle.std.proofs.Common.{◌≡◌, ◌+◌, ◌+ℤ◌, map, take, sym, ap, ◌∙◌, arith, rules, w32, to_z, of_z}
use Rattle.std.specs.Int.{w128}
use Rattle.std.proofs.lemmas.Int.{to_z-of_z, fits_signed_from_abs}
use Rattle.std.proofs.lemmas.List.{length-take}
use Rattle.records.specs.Fields.{nanoseconds_of}
use Rattle.records.specs.Offsets.{offset_fields}
use Rattle.sampletexts.specs.Sums.{sum_of}
use Rattle.sampletexts.proofs.SumLaws.{sum_more, sum_small}
use Rattle.sampletexts.proofs.sums.sum.Goals as goal

-- what is added to the sum so far
next : (c : goal.After-from-sum)
    → (to_z w128 c.loop-offset.sum-bits +ℤ to_z w128 (of_z w128 c.from-sum.result)) ≡ sum_of (map offset_fields (take (c.loop-offset.offset-index + 1) c.args.offsets.now))
next c =
    let wide : to_z w128 (of_z w128 c.from-sum.result) ≡ c.from-sum.result = to_z-of_z w128 c.from-sum.result (search rules) in
    let narrow : to_z w32 (of_z w32 c.value.result) ≡ c.value.result = to_z-of_z w32 c.value.result (search rules) in
    ap (λ z. to_z w128 c.loop-offset.sum-bits +ℤ z) (wide ∙ c.from-sum.ensures ∙ narrow ∙ c.value.ensures)
    ∙ ap (λ z. z +ℤ nanoseconds_of c.offset-item.result.nanoseconds) c.loop-offset.invariant
    ∙ sym (sum_more c.args.offsets.now c.loop-offset.offset-index c.offset-item.result c.loop-offset-test.true c.offset-item.is)

pub overflow_add-sum : goal.overflow_add-sum
overflow_add-sum c =
    let front = take (c.loop-offset.offset-index + 1) c.args.offsets.now in
    rw (next c) (fits_signed_from_abs w128 _ (omega (arith, sum_small front, length-take (c.loop-offset.offset-index + 1) c.args.offsets.now)))

pub loop-offset-preserved : goal.loop-offset-preserved
loop-offset-preserved c = to_z-of_z w128 _ (overflow_add-sum c) ∙ next c
