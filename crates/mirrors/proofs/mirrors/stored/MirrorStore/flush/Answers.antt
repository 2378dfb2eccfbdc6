use Rattle.std.proofs.Common.{true, false, rules, ◌≡◌, Ok, Err}
use Rattle.faults.specs.declared.faults.Layer.TheVariants.{Mirror as MirrorLayer}
use Rattle.stores.specs.Outcomes.{FlushOutcome, Answer}
use Rattle.stores.proofs.Soundness.{sound_flush}
use Rattle.mirrors.specs.Mirrors.{mirror_meaning, half}
use Rattle.mirrors.proofs.Steady.{paired_settled}
use Rattle.std.proofs.lemmas.Result.{err_from_is_err_and}
use Rattle.stores.specs.Admission.{powered}
use Rattle.stores.specs.Calls.{flushes}
use Rattle.stores.proofs.Sequences.{one_call}
use Rattle.mirrors.specs.Views.{View}
use Rattle.mirrors.proofs.Calls.{flush_served}
use Rattle.mirrors.proofs.mirrors.stored.MirrorStore.flush.Goals as goal

pub returns-in_err-flush-clause-sound : goal.returns-in_err-flush-clause-sound
returns-in_err-flush-clause-sound g c =
    let below = g.S.Store.meaning (g.S.Store.state c.args.self.now.below) in
    let m = mirror_meaning c.args.self.now.on below in
    let n = mirror_meaning false (g.S.Store.meaning (g.S.Store.state c.flush.new.self)) in
    let o : FlushOutcome MirrorLayer g.S.Store.source m n c.from_residual-in_err-flush.result = search rules in
    λ _ sound. sound_flush m n sound _ _ _ o (λ on. paired_settled c.args.self.now.on below (search rules))

pub returns-clause-sound : goal.returns-clause-sound
returns-clause-sound g c =
    let below = g.S.Store.meaning (g.S.Store.state c.args.self.now.below) in
    let m = mirror_meaning c.args.self.now.on below in
    let n = mirror_meaning true (g.S.Store.meaning (g.S.Store.state c.flush.new.self)) in
    let o : FlushOutcome MirrorLayer g.S.Store.source m n c.flush.result = search rules in
    λ _ sound. sound_flush m n sound _ _ _ o (λ on. paired_settled c.args.self.now.on below (search rules))

pub returns-in_err-flush-clause-exact : goal.returns-in_err-flush-clause-exact
returns-in_err-flush-clause-exact g c =
    let p = err_from_is_err_and c.from_residual-in_err-flush.result c.from_residual-in_err-flush.ensures.1 in
    let state = g.S.Store.state in
    let s = state c.self.inside.below in
    let t = state c.flush.new.self in
    let on : ◌≡◌ {A = Answer} (Ok tt) (powered MirrorLayer c.self.inside.on) = search rules in
    let v : View g.S.Store.State = record { below = s; on = c.self.inside.on } in
    rw (p.1, p.2, ← c.self.view_is)
    (flush_served g.S.Store.does (half (g.S.Store.meaning s)) v t (Err c.in_err-flush.field-0.0) on (one_call g.S.Store.does s t flushes (Err c.in_err-flush.field-0.0) c.in_err-flush.ensures.exact))

pub returns-clause-exact : goal.returns-clause-exact
returns-clause-exact g c =
    let state = g.S.Store.state in
    let s = state c.self.inside.below in
    let t = state c.flush.new.self in
    let on : ◌≡◌ {A = Answer} (Ok tt) (powered MirrorLayer c.self.inside.on) = search rules in
    let v : View g.S.Store.State = record { below = s; on = c.self.inside.on } in
    rw (← c.self.view_is)
    (flush_served g.S.Store.does (half (g.S.Store.meaning s)) v t (Ok tt) on (one_call g.S.Store.does s t flushes (Ok tt) c.in_ok-flush.ensures.exact))
