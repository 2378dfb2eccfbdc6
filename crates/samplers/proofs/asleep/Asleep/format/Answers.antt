use Rattle.std.proofs.Common.{Ok, Err, refl, ap}
use Rattle.std.proofs.lemmas.Result.{err_from_is_err_and}
use Rattle.cards.specs.Memories.{Memory}
use Rattle.samplers.proofs.Formats.{format_done}
use Rattle.samplers.proofs.asleep.Asleep.format.Goals as goal

pub returns-in_err-format-clause-outcome : goal.returns-in_err-format-clause-outcome
returns-in_err-format-clause-outcome g c =
    let p = err_from_is_err_and c.from_residual-in_err-format.result c.from_residual-in_err-format.ensures.1 in
    rw (p.1, p.2, ← c.self.view_is)
    (format_done g.S.Store.state g.S.Store.meaning g.S.Store.does g.S.Store.source (c.in_ok-shape.shape.size, c.in_ok-shape.shape.log_blocks) _ c.blank-sample.result g.K.RecordKind.CODE c.args.size c.args.log_blocks c.args.seed _ _ (Err c.in_err-format.field-0.0) c.in_ok-shape.ensures
    (ap (λ (t : Memory). t.head) c.sample.view_is) c.blank-sample.ensures c.in_err-format.ensures.outcome c.in_err-format.ensures.calls refl)

pub returns-in_err-format-clause-sound : goal.returns-in_err-format-clause-sound
returns-in_err-format-clause-sound g c = rw (← c.self.view_is) c.in_err-format.ensures.sound

pub returns-clause-outcome : goal.returns-clause-outcome
returns-clause-outcome g c =
    rw (← c.self.view_is)
    (format_done g.S.Store.state g.S.Store.meaning g.S.Store.does g.S.Store.source (c.in_ok-shape.shape.size, c.in_ok-shape.shape.log_blocks) _ c.blank-sample.result g.K.RecordKind.CODE c.args.size c.args.log_blocks c.args.seed _ _ (Ok tt) c.in_ok-shape.ensures
    (ap (λ (t : Memory). t.head) c.sample.view_is) c.blank-sample.ensures c.in_ok-format.ensures.outcome c.in_ok-format.ensures.calls refl)

pub returns-clause-sound : goal.returns-clause-sound
returns-clause-sound g c = rw (← c.self.view_is) c.in_ok-format.ensures.sound
