use Rattle.std.proofs.Common.{refl, ap, Ok, Err}
use Rattle.std.proofs.lemmas.Result.{err_from_is_err_and}
use Rattle.replays.specs.Answers.{Answered}
use Rattle.replays.specs.declared.answers.Answer.{Answer}
use Rattle.replays.proofs.replaying.read.Goals as goal

pub returns-in_err-read : goal.returns-in_err-read
unfolding Answered
returns-in_err-read g c =
    let p = err_from_is_err_and c.from_residual.result c.from_residual.ensures.1 in
    rw (p.1, p.2)
    (record { answer = Err c.in_err-read.field-0.0; buffer = c.read.new.buf; next = g.S.Store.state c.read.new.self }, c.in_err-read.ensures.exact, refl, refl)

pub returns : goal.returns
unfolding Answered
returns g c =
    (record { answer = Ok tt; buffer = c.read.new.buf; next = g.S.Store.state c.read.new.self }, c.in_ok-read.ensures.exact, ap (λ (x : Answer). Ok x) c.of_block.ensures, refl)
