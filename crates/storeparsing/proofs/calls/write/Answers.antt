use Rattle.std.proofs.Common.{◌≡◌, Some, arith, ltb-false, ltb-true}
use Rattle.languages.proofs.Expecting.{missed}
use Rattle.storeparsing.proofs.Asked.{write_block, write_value}
use Rattle.storeparsing.proofs.calls.write.Goals as goal

pub returns-in_err-block : goal.returns-in_err-block
returns-in_err-block c =
    let all = write_block c.args.words.now _ c.number.result c.number.ensures (omega (arith, ltb-true, ltb-false)) in
    missed c.number.result _ _ c.ok_or.ensures.value c.in_err-block.was c.from_residual.ensures.1 all

pub returns-in_err-value : goal.returns-in_err-value
returns-in_err-value c =
    let block : c.number.result ≡ Some c.in_ok-block.block = grind arith in
    let all = write_value c.args.words.now _ c.number.result c.number.ensures (omega (arith, ltb-true, ltb-false)) _ c.number-2.result c.number-2.ensures in
    missed c.number-2.result _ _ c.ok_or-2.ensures.value c.in_err-value.was c.from_residual-in_err-value.ensures.1 (rw block at all)

pub returns : goal.returns
returns c =
    let block : c.number.result ≡ Some c.in_ok-block.block = grind arith in
    let value : c.number-2.result ≡ Some c.in_ok-value.value = grind arith in
    let all = write_value c.args.words.now _ c.number.result c.number.ensures (omega (arith, ltb-true, ltb-false)) _ c.number-2.result c.number-2.ensures in
    rw (block, value) at all
