use Rattle.std.proofs.Common.{rules}
use Rattle.std.proofs.lemmas.Result.{err_from_is_err_and}
use Rattle.cards.proofs.LawfulCards.{card_law}
use Rattle.samplers.proofs.asleep.Asleep.mount.Goals as goal

pub returns-in_err-sample-clause-law : goal.returns-in_err-sample-clause-law
returns-in_err-sample-clause-law g c = card_law _ _ _

pub returns-clause-law : goal.returns-clause-law
returns-clause-law g c = card_law _ _ _

pub returns-clause-sound : goal.returns-clause-sound
returns-clause-sound g c = rw (← c.self.view_is) c.in_ok-sample.ensures.sound

pub returns-in_err-sample-clause-sound : goal.returns-in_err-sample-clause-sound
returns-in_err-sample-clause-sound g c = rw (← c.self.view_is) c.in_err-sample.ensures.sound

pub returns-in_err-sample-clause-calls : goal.returns-in_err-sample-clause-calls
returns-in_err-sample-clause-calls g c =
    let p = err_from_is_err_and c.from_residual.result c.from_residual.ensures.1 in
    rw (p.1, p.2) (rw (← c.self.view_is) c.in_err-sample.ensures.calls)

pub returns-clause-calls : goal.returns-clause-calls
returns-clause-calls g c = (rw (← c.self.view_is) c.in_ok-sample.ensures.calls, search rules)
