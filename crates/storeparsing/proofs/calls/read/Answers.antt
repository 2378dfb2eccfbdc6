use Rattle.std.proofs.Common.{◌≡◌, Some, arith, ltb-false, ltb-true}
use Rattle.languages.proofs.Expecting.{missed}
use Rattle.storeparsing.proofs.Asked.{read_block}
use Rattle.storeparsing.proofs.calls.read.Goals as goal

pub returns-in_err-block : goal.returns-in_err-block
returns-in_err-block c =
    let all = read_block c.args.words.now _ c.number.result c.number.ensures (omega (arith, ltb-true, ltb-false)) in
    missed c.number.result _ _ c.ok_or.ensures.value c.in_err-block.was c.from_residual.ensures.1 all

pub returns : goal.returns
returns c =
    let block : c.number.result ≡ Some c.in_ok-block.block = grind arith in
    let all = read_block c.args.words.now _ c.number.result c.number.ensures (omega (arith, ltb-true, ltb-false)) in
    rw block at all
