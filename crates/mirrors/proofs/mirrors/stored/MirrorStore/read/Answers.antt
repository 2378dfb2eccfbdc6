use Rattle.std.proofs.Common.{true, false, Ok, rules, ◌≡◌, length, None, Some, Err}
use Rattle.faults.specs.declared.faults.Layer.TheVariants.{Mirror as MirrorLayer}
use Rattle.stores.specs.Outcomes.{ReadOutcome, Answer}
use Rattle.stores.proofs.Soundness.{sound_read}
use Rattle.mirrors.specs.Mirrors.{mirror_meaning, half}
use Rattle.mirrors.proofs.Steady.{same_paired}
use Rattle.faults.specs.Refusals.{fault}
use Rattle.faults.specs.declared.faults.Reason.TheVariants.{Torn}
use Rattle.std.proofs.lemmas.Result.{err_from_is_err_and}
use Rattle.stores.specs.Admission.{admission}
use Rattle.mirrors.specs.Views.{View}
use Rattle.mirrors.proofs.Calls.{read_served}
use Rattle.mirrors.proofs.mirrors.stored.MirrorStore.read.Goals as goal

pub returns-in_err-found-clause-sound : goal.returns-in_err-found-clause-sound
returns-in_err-found-clause-sound g c =
    let m = mirror_meaning c.args.self.now.on (g.S.Store.meaning (g.S.Store.state c.args.self.now.below)) in
    let n = mirror_meaning false (g.S.Store.meaning (g.S.Store.state c.probe_both.new.below)) in
    let o : ReadOutcome 504 MirrorLayer g.S.Store.source m n c.args.block c.args.buf.now c.args.buf.now c.from_residual-in_err-found.result = search rules in
    λ _ sound. sound_read m n sound _ _ _ _ _ _ _ o

pub returns-in_err-ok_or-clause-sound : goal.returns-in_err-ok_or-clause-sound
returns-in_err-ok_or-clause-sound g c =
    let m = mirror_meaning c.args.self.now.on (g.S.Store.meaning (g.S.Store.state c.args.self.now.below)) in
    let n = mirror_meaning true (g.S.Store.meaning (g.S.Store.state c.probe_both.new.below)) in
    let o : ReadOutcome 504 MirrorLayer g.S.Store.source m n c.args.block c.args.buf.now c.args.buf.now c.from_residual-in_err-ok_or.result = search rules in
    λ _ sound. sound_read m n sound _ _ _ _ _ _ _ o

pub returns-clause-sound : goal.returns-clause-sound
returns-clause-sound g c =
    let m = mirror_meaning c.args.self.now.on (g.S.Store.meaning (g.S.Store.state c.args.self.now.below)) in
    let n = mirror_meaning true (g.S.Store.meaning (g.S.Store.state c.probe_both.new.below)) in
    let both = c.in_ok-found.ensures.outcome (search rules) in
    let some : c.in_ok-found.found ≡ Some c.copy_from_slice.new.self = search rules in
    let o : ReadOutcome 504 MirrorLayer g.S.Store.source m n c.args.block c.args.buf.now c.copy_from_slice.new.self (Ok tt) = search rules in
    λ _ sound. sound_read m n sound _ _ _ _ _ _ _ o

-- the search finds this too, but not at half of its limits
pub invariant_of-self-2 : goal.invariant_of-self-2
invariant_of-self-2 g c = λ _. same_paired _ _ (c.in_ok-found.ensures.outcome (search rules)).1 (search rules)

pub returns-in_err-found-clause-exact : goal.returns-in_err-found-clause-exact
returns-in_err-found-clause-exact g c =
    let p = err_from_is_err_and c.from_residual-in_err-found.result c.from_residual-in_err-found.ensures.1 in
    let s = g.S.Store.state c.self.inside.below in
    let t = g.S.Store.state c.probe_both.new.below in
    let h = half (g.S.Store.meaning s) in
    let admitted : ◌≡◌ {A = Answer} (Ok tt) (admission MirrorLayer h c.self.inside.on c.args.block (length c.args.buf.now)) = search rules in
    let v : View g.S.Store.State = record { below = s; on = c.self.inside.on } in
    rw (p.1, p.2, ← c.self.view_is)
    (read_served g.S.Store.does h v t c.args.block c.args.buf.now (Err c.in_err-found.field-0.0) admitted (rw c.half-half.ensures at c.in_err-found.ensures.exact))

pub returns-in_err-ok_or-clause-exact : goal.returns-in_err-ok_or-clause-exact
returns-in_err-ok_or-clause-exact g c =
    let p = err_from_is_err_and c.from_residual-in_err-ok_or.result c.from_residual-in_err-ok_or.ensures.1 in
    let s = g.S.Store.state c.self.inside.below in
    let t = g.S.Store.state c.probe_both.new.below in
    let h = half (g.S.Store.meaning s) in
    let admitted : ◌≡◌ {A = Answer} (Ok tt) (admission MirrorLayer h c.self.inside.on c.args.block (length c.args.buf.now)) = search rules in
    let v : View g.S.Store.State = record { below = s; on = c.self.inside.on } in
    let none : c.in_ok-found.found ≡ None = search rules in
    let torn : c.in_err-ok_or.field-0.0 ≡ fault Torn MirrorLayer c.args.block = search rules in
    rw (p.1, p.2, torn, ← c.self.view_is)
    (read_served g.S.Store.does h v t c.args.block c.args.buf.now (Ok None) admitted (rw (c.half-half.ensures, none) at c.in_ok-found.ensures.exact))

pub returns-clause-exact : goal.returns-clause-exact
returns-clause-exact g c =
    let s = g.S.Store.state c.self.inside.below in
    let t = g.S.Store.state c.probe_both.new.below in
    let h = half (g.S.Store.meaning s) in
    let admitted : ◌≡◌ {A = Answer} (Ok tt) (admission MirrorLayer h c.self.inside.on c.args.block (length c.args.buf.now)) = search rules in
    let v : View g.S.Store.State = record { below = s; on = c.self.inside.on } in
    let some : c.in_ok-found.found ≡ Some c.copy_from_slice.new.self = search rules in
    rw (← c.self.view_is)
    (read_served g.S.Store.does h v t c.args.block c.args.buf.now (Ok (Some c.copy_from_slice.new.self)) admitted (rw (c.half-half.ensures, some) at c.in_ok-found.ensures.exact))
