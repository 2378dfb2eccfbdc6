use Rattle.std.proofs.Common.{true, false, Ok, rules, ◌≡◌, Err}
use Rattle.std.proofs.lemmas.Result.{err_from_is_err_and}
use Rattle.stores.specs.Outcomes.{RestartOutcome}
use Rattle.stores.proofs.Soundness.{sound_cut, sound_restart}
use Rattle.mirrors.specs.Mirrors.{mirror_meaning, half}
use Rattle.mirrors.proofs.Mends.{mend_cut, half_same}
use Rattle.mirrors.specs.Views.{View}
use Rattle.mirrors.proofs.Calls.{restart_served, restart_ended, restart_mended}
use Rattle.mirrors.proofs.mirrors.stored.MirrorStore.restart.Goals as goal

pub returns-in_err-restart-clause-sound : goal.returns-in_err-restart-clause-sound
returns-in_err-restart-clause-sound g c =
    let m = mirror_meaning c.args.self.now.on (g.S.Store.meaning (g.S.Store.state c.args.self.now.below)) in
    let n = mirror_meaning false (g.S.Store.meaning (g.S.Store.state c.restart.new.self)) in
    let o : RestartOutcome g.S.Store.source m n c.from_residual.result = search rules in
    λ _ sound. sound_restart m n sound _ _ o

pub returns-in_err-mend-clause-outcome : goal.returns-in_err-mend-clause-outcome
returns-in_err-mend-clause-outcome g c =
    let p = err_from_is_err_and c.from_residual-in_err-mend.result c.from_residual-in_err-mend.ensures.1 in
    let r = c.in_ok-restart.ensures.outcome in
    rw (← c.self.view_is, p.1, p.2) (mend_cut _ _ _ _ _ _ r (c.in_err-mend.ensures.outcome r.on r.settled))

pub returns-in_err-mend-clause-sound : goal.returns-in_err-mend-clause-sound
returns-in_err-mend-clause-sound g c =
    let r = c.in_ok-restart.ensures.outcome in
    rw (← c.self.view_is) (λ _ sound. sound_cut _ _ sound (mend_cut _ c.self.inside.on _ _ _ _ r (c.in_err-mend.ensures.outcome r.on r.settled)).left)

pub returns-clause-sound : goal.returns-clause-sound
returns-clause-sound g c =
    let m = mirror_meaning c.args.self.now.on (g.S.Store.meaning (g.S.Store.state c.args.self.now.below)) in
    let n = mirror_meaning true (g.S.Store.meaning (g.S.Store.state c.mend.new.below)) in
    λ _ sound. sound_restart m n sound g.S.Store.source (Ok tt) (search rules)

pub returns-in_err-restart-clause-exact : goal.returns-in_err-restart-clause-exact
returns-in_err-restart-clause-exact g c =
    let p = err_from_is_err_and c.from_residual.result c.from_residual.ensures.1 in
    let s = g.S.Store.state c.self.inside.below in
    let t = g.S.Store.state c.restart.new.self in
    let h = half (g.S.Store.meaning s) in
    let e = c.in_err-restart.field-0.0 in
    let v : View g.S.Store.State = record { below = s; on = c.self.inside.on } in
    rw (p.1, p.2, ← c.self.view_is) (restart_served g.S.Store.does h v t (Err e) (restart_ended g.S.Store.does h s t t e c.in_err-restart.ensures.exact))

pub returns-in_err-mend-clause-exact : goal.returns-in_err-mend-clause-exact
returns-in_err-mend-clause-exact g c =
    let p = err_from_is_err_and c.from_residual-in_err-mend.result c.from_residual-in_err-mend.ensures.1 in
    let s = g.S.Store.state c.self.inside.below in
    let u = g.S.Store.state c.restart.new.self in
    let t = g.S.Store.state c.mend.new.below in
    let m = g.S.Store.meaning s in
    let e = c.in_err-mend.field-0.0 in
    let same : half (g.S.Store.meaning u) ≡ half m = half_same m (g.S.Store.meaning u) c.in_ok-restart.ensures.outcome.size in
    rw (p.1, p.2, ← c.self.view_is)
    (restart_served g.S.Store.does (half m) (record { below = s; on = c.self.inside.on }) t (Err e)
    (restart_mended g.S.Store.does (half m) s u t (Err e) c.in_ok-restart.ensures.exact (rw same at c.in_err-mend.ensures.exact)))

pub returns-clause-exact : goal.returns-clause-exact
returns-clause-exact g c =
    let s = g.S.Store.state c.self.inside.below in
    let u = g.S.Store.state c.restart.new.self in
    let t = g.S.Store.state c.mend.new.below in
    let m = g.S.Store.meaning s in
    let same : half (g.S.Store.meaning u) ≡ half m = half_same m (g.S.Store.meaning u) c.in_ok-restart.ensures.outcome.size in
    rw (← c.self.view_is)
    (restart_served g.S.Store.does (half m) (record { below = s; on = c.self.inside.on }) t (Ok tt)
    (restart_mended g.S.Store.does (half m) s u t (Ok tt) c.in_ok-restart.ensures.exact (rw same at c.in_ok-mend.ensures.exact)))
