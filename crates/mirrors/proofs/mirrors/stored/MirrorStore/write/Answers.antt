use Rattle.std.proofs.Common.{rules, ◌+◌, ◌≡◌, length, Ok, Err}
use Rattle.mirrors.proofs.Steady.{first_cut_sound, second_cut_sound, stored_sound}
use Rattle.mirrors.specs.Mirrors.{half}
use Rattle.std.proofs.lemmas.Result.{err_from_is_err_and}
use Rattle.faults.specs.declared.faults.Layer.TheVariants.{Mirror as MirrorLayer}
use Rattle.stores.specs.Admission.{admission}
use Rattle.stores.specs.Outcomes.{Answer}
use Rattle.stores.proofs.Sequences.{list_ended, lists_joined}
use Rattle.mirrors.specs.Below.{storing}
use Rattle.mirrors.proofs.Calls.{write_served}
use Rattle.mirrors.proofs.mirrors.stored.MirrorStore.write.Goals as goal

pub returns-in_err-put-clause-sound : goal.returns-in_err-put-clause-sound
returns-in_err-put-clause-sound g c =
    rw (← c.self.view_is) (λ _ sound. first_cut_sound (search rules) sound (search rules) (c.in_err-put.ensures.outcome (search rules)).left)

pub returns-in_err-put-2-clause-sound : goal.returns-in_err-put-2-clause-sound
returns-in_err-put-2-clause-sound g c =
    rw (← c.self.view_is) (λ _ sound. second_cut_sound (search rules) sound (c.in_ok-put.ensures.outcome (search rules)) (rw c.half-half.ensures at (c.in_err-put-2.ensures.outcome (search rules))).left)

pub returns-clause-sound : goal.returns-clause-sound
returns-clause-sound g c =
    rw (← c.self.view_is) (λ _ sound. stored_sound (search rules) sound (c.in_ok-put.ensures.outcome (search rules)) (rw c.half-half.ensures at (c.in_ok-put-2.ensures.outcome (search rules))))

pub returns-in_err-put-clause-exact : goal.returns-in_err-put-clause-exact
returns-in_err-put-clause-exact g c =
    let p = err_from_is_err_and c.from_residual-in_err-put.result c.from_residual-in_err-put.ensures.1 in
    let state = g.S.Store.state in
    let m = g.S.Store.meaning (state c.self.inside.below) in
    let b = c.args.block in
    let bytes = c.args.bytes.now in
    let admitted : ◌≡◌ {A = Answer} (Ok tt) (admission MirrorLayer (half m) c.self.inside.on b (length bytes)) = search rules in
    rw (p.1, p.2, ← c.self.view_is)
    (write_served g.S.Store.does (half m) (record { below = state c.self.inside.below; on = c.self.inside.on }) (state c.put.new.below) b bytes (Err c.in_err-put.field-0.0) admitted
    (list_ended g.S.Store.does (state c.self.inside.below) (state c.put.new.below) (storing b bytes) (storing (half m + b) bytes) c.in_err-put.field-0.0 c.in_err-put.ensures.exact))

pub returns-in_err-put-2-clause-exact : goal.returns-in_err-put-2-clause-exact
returns-in_err-put-2-clause-exact g c =
    let p = err_from_is_err_and c.from_residual-in_err-put-2.result c.from_residual-in_err-put-2.ensures.1 in
    let state = g.S.Store.state in
    let m = g.S.Store.meaning (state c.self.inside.below) in
    let b = c.args.block in
    let bytes = c.args.bytes.now in
    let admitted : ◌≡◌ {A = Answer} (Ok tt) (admission MirrorLayer (half m) c.self.inside.on b (length bytes)) = search rules in
    rw (p.1, p.2, ← c.self.view_is)
    (write_served g.S.Store.does (half m) (record { below = state c.self.inside.below; on = c.self.inside.on }) (state c.put-2.new.below) b bytes (Err c.in_err-put-2.field-0.0) admitted
    (lists_joined g.S.Store.does (state c.self.inside.below) (state c.put.new.below) (state c.put-2.new.below) (storing b bytes) (storing (half m + b) bytes) (Err c.in_err-put-2.field-0.0)
    c.in_ok-put.ensures.exact (rw c.half-half.ensures at c.in_err-put-2.ensures.exact)))

pub returns-clause-exact : goal.returns-clause-exact
returns-clause-exact g c =
    let state = g.S.Store.state in
    let m = g.S.Store.meaning (state c.self.inside.below) in
    let b = c.args.block in
    let bytes = c.args.bytes.now in
    let admitted : ◌≡◌ {A = Answer} (Ok tt) (admission MirrorLayer (half m) c.self.inside.on b (length bytes)) = search rules in
    rw (← c.self.view_is)
    (write_served g.S.Store.does (half m) (record { below = state c.self.inside.below; on = c.self.inside.on }) (state c.put-2.new.below) b bytes (Ok tt) admitted
    (lists_joined g.S.Store.does (state c.self.inside.below) (state c.put.new.below) (state c.put-2.new.below) (storing b bytes) (storing (half m + b) bytes) (Ok tt)
    c.in_ok-put.ensures.exact (rw c.half-half.ensures at c.in_ok-put-2.ensures.exact)))
